-- `segment_blocks::first_fit` meets its contract: the scan has passed blocks that are too small, and one that fits
-- is still ahead. Assumes nothing.
use Prim.Native.Nat.{ℕ, ◌-◌}
use lib.IntN.{ℤ}
use lib.ListN.{length}
use Rattle.segment_blocks.specs.Blocks.{Seeking}
use Rattle.segment_blocks.proofs.ScanLaws.{Sought}
use Rattle.segment_blocks.proofs.first_fit.Given as goal

abbrev pub invariant-loop-at : goal.invariant-loop-at
invariant-loop-at l = (c : ℕ → ℤ) → Seeking l.v c l.from l.n → Sought l.v c l.from l.n l.at l.passed

abbrev pub decreases-loop-at : goal.decreases-loop-at
decreases-loop-at l = length l.v - l.at
