-- `segment_blocks::first_fit` meets its contract: the scan has passed blocks that are too small, and one that fits
-- is still ahead. Assumes nothing.
use native.Mathlib.Omega.{arith}
use Rattle.segment_blocks.proofs.ScanLaws.{seek_few, seek_on, seek_end}
use Rattle.segment_blocks.proofs.first_fit.Goals as goal

pub overflow_add-passed : goal.overflow_add-passed
overflow_add-passed c =
    let (f, k) = c.requires in
    omega (arith, seek_few _ f _ _ k _ _ (c.loop-at.invariant f k), c.well_formed)

pub loop-at-preserved : goal.loop-at-preserved
loop-at-preserved c =
    let e = c.weight_at.ensures in
    λ f k. seek_on _ f _ _ k _ _ (c.loop-at.invariant f k) _ c.size_at-at.ensures (rw e at c.loop-at-test.true)

pub overflow_add-places : goal.overflow_add-places
overflow_add-places c =
    let (f, k) = c.requires in
    omega (arith, seek_few _ f _ _ k _ _ (c.loop-at.invariant f k), c.well_formed)

pub returns : goal.returns
returns c =
    let e = c.weight_at.ensures in
    λ f k. seek_end _ f _ _ k _ _ (c.loop-at.invariant f k) (rw e at c.loop-at-test.false)
