-- `segment_blocks::refresh_segment` meets its contract. Assumes nothing.
use native.Mathlib.Omega.{arith}
use Rattle.segment_blocks.proofs.UpkeepLaws.{sizes_top, refreshed}
use Rattle.segment_blocks.proofs.refresh_segment.Goals as goal

pub overflow_mul-k : goal.overflow_mul-k
overflow_mul-k c =
    let (f, r) = c.requires in
    omega (arith, sizes_top _ _ _ r.facing.sizes c.args.k r.facing.is)

pub returns : goal.returns
returns c =
    λ f k.
    refreshed _ f _ _ _ _ _ k _ c.min-hi.ensures _ _ _ (c.leaf_from-leaf.ensures f k.facing.scan)
    c.first_from-first.ensures c.raise.ensures
