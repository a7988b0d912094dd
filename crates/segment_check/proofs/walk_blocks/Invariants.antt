-- `segment_check::walk_blocks` meets its contract: the blocks up to `at` lie side by side; and if they are those with control
-- words c, the largest weight so far, with that of the blocks from here on, is that of all. Assumes nothing.
use Prim.Native.Nat.{ℕ, ◌-◌, ◌≤◌, max}
use mathlib.Core.Path.{◌≡◌}
use lib.IntN.{ℤ}
use lib.ListN.{length}
use Rattle.stored_forms.specs.Segments.{largest}
use Rattle.segment_blocks.specs.Blocks.{Scan}
use Rattle.segment_blocks.proofs.ScanLaws.{Coming}
use Rattle.segment_check.specs.Adjoining.{Adjoining, Kept, Led}
use Rattle.segment_check.proofs.walk_blocks.Given as goal

abbrev pub invariant-loop-at : goal.invariant-loop-at
invariant-loop-at l =
    (l.at ≤ length l.v) × (l.sum ≤ l.at) × Adjoining l.v l.map l.at l.sum l.last
    × ((c : ℕ → ℤ) → Scan l.v c l.from
    → Coming l.v c l.from l.hi l.at × (max l.most (largest c l.at (l.hi - l.at)) ≡ largest c l.from (l.hi - l.from)))
    × ((c : ℕ → ℤ) → (free-before : ℕ → ℕ) → Kept l.v l.map c free-before → Scan l.v c l.from
    → Led c free-before l.from l.free l.after → Led c free-before l.at l.sum l.last)

abbrev pub decreases-loop-at : goal.decreases-loop-at
decreases-loop-at l = l.hi - l.at
