-- `segment_blocks::reindex_grant` meets its contract, by the laws of `reindex`: p stands for a too, and e for the end.
-- Assumes nothing.
use native.Mathlib.Omega.{arith}
use Rattle.segment_blocks.proofs.TouchLaws.{was_long, a_segment, ready_a, ready_rest, reindexed_grant}
use Rattle.segment_blocks.proofs.UpkeepLaws.{sizes_narrow}
use Rattle.segment_blocks.proofs.reindex_grant.Goals as goal

pub segment_of-kp-requires : goal.segment_of-kp-requires
segment_of-kp-requires c = let (b, f, x) = c.requires in sizes_narrow _ _ _ x.sizes _ (omega arith)

pub index_word-requires : goal.index_word-requires
index_word-requires c =
    let (b, f, x) = c.requires in
    omega (arith, a_segment x c.segment_of-kp.ensures, was_long x)

pub refresh_segment-requires : goal.refresh_segment-requires
refresh_segment-requires c =
    let (b, f, x) = c.requires in
    (f, rw (c.min-from.ensures, c.index_word.ensures) (ready_a x c.segment_of-kp.ensures))

pub segment_of-ke-requires : goal.segment_of-ke-requires
segment_of-ke-requires c =
    let (b, f, x) = c.requires in
    sizes_narrow _ _ _ x.sizes _ (omega arith)

pub refresh_if-requires : goal.refresh_if-requires
refresh_if-requires c =
    let (b, f, x) = c.requires in
    let ip = c.segment_of-kp.ensures in
    let ie = c.segment_of-ke.ensures in
    let first = c.refresh_segment.ensures f (rw (c.min-from.ensures, c.index_word.ensures) (ready_a x ip)) in
    λ on. (f, ready_rest x ip ie first on)

pub returns : goal.returns
returns c =
    let ip = c.segment_of-kp.ensures in
    let ie = c.segment_of-ke.ensures in
    λ b f x.
    let first = c.refresh_segment.ensures f (rw (c.min-from.ensures, c.index_word.ensures) (ready_a x ip)) in
    let second = c.refresh_if.ensures f (ready_rest x ip ie first) in
    reindexed_grant x ip ie first second
