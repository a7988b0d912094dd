-- `segment_cores::free_below` meets its contract. Assumes nothing.
use native.Mathlib.Omega.{arith}
use Rattle.segment_cores.proofs.ChangeLaws.{controls}
use Rattle.segment_cores.proofs.NearLaws.{later_block, chain, before_inside, beneath}
use Rattle.segment_cores.proofs.free_below.Goals as goal

pub begun_before-from-requires : goal.begun_before-from-requires
begun_before-from-requires c =
    let (L, k) = c.requires in
    (controls L _, _, later_block L _ _ _ _ _ _ k (omega arith))

pub block_before-q-requires : goal.block_before-q-requires
block_before-q-requires c =
    let (L, k) = c.requires in
    let begun = c.begun_before-from.ensures (controls L _) _ (later_block L _ _ _ _ _ _ k (omega arith)) in
    (controls L _, chain L _ _ _ _ _ _ k _ begun)

pub free_at-requires : goal.free_at-requires
free_at-requires c =
    let (L, k) = c.requires in
    let begun = c.begun_before-from.ensures (controls L _) _ (later_block L _ _ _ _ _ _ k (omega arith)) in
    before_inside L _ _ _ _ _ _ k _ (c.block_before-q.ensures (controls L _) (chain L _ _ _ _ _ _ k _ begun))

pub returns : goal.returns
returns c =
    λ L k.
    let begun = c.begun_before-from.ensures (controls L _) _ (later_block L _ _ _ _ _ _ k (omega arith)) in
    let ends = c.block_before-q.ensures (controls L _) (chain L _ _ _ _ _ _ k _ begun) in
    rw c.free_at.ensures (beneath L _ _ _ _ _ _ k _ ends)
