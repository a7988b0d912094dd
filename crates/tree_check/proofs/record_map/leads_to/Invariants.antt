-- The invariants and measures of the loops of `tree_check::record_map::leads_to`.
use Prim.Native.Nat.{◌-◌}
use Rattle.tree_check.specs.Maps.{Leads}
use Rattle.tree_check.proofs.record_map.leads_to.Given as goal

abbrev pub invariant-loop-k : goal.invariant-loop-k
invariant-loop-k l = (Leads l.map l.k l.hi → Leads l.map l.lo l.hi) × (Leads l.map l.lo l.hi → Leads l.map l.k l.hi)

abbrev pub decreases-loop-k : goal.decreases-loop-k
decreases-loop-k l = l.hi - l.k
