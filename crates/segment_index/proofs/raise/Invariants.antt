-- `segment_index::raise` meets its contract: only the word above i may be out of date, and `most` is the word at i.
-- Assumes nothing.
use mathlib.Core.Path.{◌≡◌}
use lib.ListN.{get_or}
use Rattle.segment_index.proofs.BranchLaws.{Bent}
use Rattle.segment_index.proofs.raise.Given as goal

abbrev pub invariant-loop-i : goal.invariant-loop-i
invariant-loop-i l = Bent l.s l.initial.t l.t l.i × (l.most ≡ get_or l.t l.i 0)

abbrev pub decreases-loop-i : goal.decreases-loop-i
decreases-loop-i l = l.i
