-- `segment_blocks::sweep` meets its contract: the largest weight so far, with that of the blocks from here on, is that
-- of all; and past hi no block was met. Assumes nothing.
use Prim.Native.Nat.{ℕ, ◌-◌, max}
use mathlib.Core.Path.{◌≡◌}
use lib.IntN.{ℤ}
use Rattle.stored_forms.specs.Segments.{largest}
use Rattle.segment_blocks.specs.Blocks.{Scan}
use Rattle.segment_blocks.proofs.ScanLaws.{Coming}
use Rattle.segment_blocks.proofs.sweep.Given as goal

abbrev pub invariant-loop-at : goal.invariant-loop-at
invariant-loop-at l =
    (c : ℕ → ℤ) → Scan l.v c l.from
    → Coming l.v c l.from l.hi l.at × (max l.most (largest c l.at (l.hi - l.at)) ≡ largest c l.from (l.hi - l.from))

abbrev pub decreases-loop-at : goal.decreases-loop-at
decreases-loop-at l = l.hi - l.at
