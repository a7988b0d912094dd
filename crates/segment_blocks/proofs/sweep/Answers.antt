-- `segment_blocks::sweep` meets its contract: the largest weight so far, with that of the blocks from here on, is that
-- of all; and past hi no block was met. Assumes nothing.
use Rattle.segment_blocks.proofs.ScanLaws.{leaf_on}
use Rattle.segment_blocks.proofs.ScanLaws.{come_on}
use Rattle.segment_blocks.proofs.sweep.Goals as goal

pub loop-at-preserved : goal.loop-at-preserved
loop-at-preserved c =
    let m = c.size_at-at.ensures in
    λ f s.
    let (come, inv) = c.loop-at.invariant f s in (
      come_on _ f _ _ _ _ come c.requires.2 c.loop-at-test.true m,
      rw c.max-most.ensures
          (leaf_on _ f _ _ _ come.scan c.requires.2 c.loop-at-test.true m _ _ _ inv
          c.weight_at.ensures),
    )
