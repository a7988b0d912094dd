-- The invariants of the loops of `tree_check::record_map::map_rows`.
use Rattle.std.specs.Prelude.{length}
use Rattle.tree_check.proofs.MapLaws.{Mapping}
use Rattle.tree_check.proofs.record_map.map_rows.Given as goal

abbrev pub invariant-loop-i : goal.invariant-loop-i
invariant-loop-i l = Mapping l.rule l.per l.words l.next l.table (length l.initial.seen) l.map l.seen l.held l.i
