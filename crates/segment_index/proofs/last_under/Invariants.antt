-- `segment_index::last_under` meets its contract: the last leaf that is not 0 lies below j. Assumes nothing.
use Prim.Native.Nat.{ℕ, ◌+◌, ◌-◌, ◌*◌, ◌^◌}
use Rattle.segment_index.specs.Climb.{Under}
use Rattle.segment_index.proofs.ClimbLaws.{Down}
use Rattle.segment_index.proofs.last_under.Given as goal

abbrev pub invariant-loop : goal.invariant-loop
invariant-loop l = (s : ℕ) → Under s l.t l.end l.initial.j → Down s l.t (l.initial.j * 2 ^ l.end) (l.initial.j * 2 ^ l.end + 2 ^ l.end) (l.end - l.counter) l.j
