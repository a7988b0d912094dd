-- The invariants of the loops of `tree_check::record_map::entry_for`.
use Rattle.tree_check.specs.Maps.{Reaches}
use Rattle.tree_check.proofs.record_map.entry_for.Given as goal

abbrev pub invariant-loop-place : goal.invariant-loop-place
invariant-loop-place l = Reaches l.map l.k l.place
