-- `segment_blocks::block_before` meets its contract: the block at hand ends at the next one's begin, at most at p.
-- Assumes nothing.
use Prim.Native.Nat.{ℕ, ◌-◌}
use lib.IntN.{ℤ}
use Rattle.segment_blocks.specs.Blocks.{Chain}
use Rattle.segment_blocks.proofs.ScanLaws.{Nearing}
use Rattle.segment_blocks.proofs.block_before.Given as goal

abbrev pub invariant-loop-next : goal.invariant-loop-next
invariant-loop-next l = (c : ℕ → ℤ) → Chain l.v c l.from l.p → Nearing l.v c l.p l.at l.next

abbrev pub decreases-loop-next : goal.decreases-loop-next
decreases-loop-next l = l.p - l.at
