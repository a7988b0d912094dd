-- `segment_index::raise_most` meets its contract: only the word above i may be out of date, and the word at i is v.
-- Assumes nothing.
use mathlib.Core.Path.{◌≡◌}
use lib.ListN.{get_or}
use Rattle.segment_index.proofs.BranchLaws.{Bent, Most}
use Rattle.segment_index.proofs.raise_most.Given as goal

abbrev pub invariant-loop-i : goal.invariant-loop-i
invariant-loop-i l = Bent l.s l.initial.t l.t l.i × Most l.s l.t l.v × (l.v ≡ get_or l.t l.i 0)

abbrev pub decreases-loop-i : goal.decreases-loop-i
decreases-loop-i l = l.i
