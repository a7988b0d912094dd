-- No slot before the fours that are left has the ticket.
use Rattle.std.proofs.Common.{◌*◌}
use Rattle.record_table.specs.Slots.{Without}
use Rattle.record_table.proofs.passed.Given as goal

abbrev pub invariant-loop-k : goal.invariant-loop-k
invariant-loop-k l = Without l.table l.x 0 (4 * l.k)
