-- A call is counted for each turn, and for each slot.
use Rattle.std.specs.Prelude.{◌≡◌, ◌+◌}
use Rattle.testing.proofs.traffic.play.Given as goal

abbrev pub invariant-loop : goal.invariant-loop
invariant-loop g l = l.round.tally.calls ≡ l.counter

abbrev pub invariant-loop-slot : goal.invariant-loop-slot
invariant-loop-slot g l = l.round.tally.calls ≡ l.fn.start.count + l.slot
