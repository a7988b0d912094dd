-- The invariants and measures of the loops of `tree_check::record_map::note_span`.
use Prim.Native.Nat.{◌+◌, ◌≤◌, ◌<◌}
use mathlib.Core.Path.{◌≡◌}
use lib.ListN.{length}
use Rattle.tree_check.proofs.SpanLaws.{Spanning}
use Rattle.tree_check.proofs.record_map.note_span.Given as goal

abbrev pub invariant-loop-left : goal.invariant-loop-left
invariant-loop-left l =
    (l.lo ≤ l.at) × (0 < l.left) × (l.at + l.left ≡ l.lo + l.n) × (length l.map ≡ length l.initial.map)
    × Spanning l.initial.map l.map l.lo l.n l.at l.left

abbrev pub decreases-loop-left : goal.decreases-loop-left
decreases-loop-left l = l.left
