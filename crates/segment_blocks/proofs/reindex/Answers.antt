-- `segment_blocks::reindex` meets its contract: the index is right but for the segments that are still to be
-- scanned. Assumes nothing.
use native.Mathlib.Omega.{arith}
use Rattle.segment_blocks.proofs.TouchLaws.{was_long, a_segment, ready_a, ready_p, ready_e, reindexed}
use Rattle.segment_blocks.proofs.UpkeepLaws.{sizes_narrow}
use Rattle.segment_blocks.proofs.reindex.Goals as goal

pub segment_of-ka-requires : goal.segment_of-ka-requires
segment_of-ka-requires c = let (b, f, x) = c.requires in sizes_narrow _ _ _ x.sizes _ (omega arith)

pub segment_of-kp-requires : goal.segment_of-kp-requires
segment_of-kp-requires c =
    let (b, f, x) = c.requires in
    sizes_narrow _ _ _ x.sizes _ (omega arith)

pub segment_of-ke-requires : goal.segment_of-ke-requires
segment_of-ke-requires c =
    let (b, f, x) = c.requires in
    sizes_narrow _ _ _ x.sizes _ (omega arith)

pub index_word-requires : goal.index_word-requires
index_word-requires c =
    let (b, f, x) = c.requires in
    omega (arith, a_segment x c.segment_of-ka.ensures, was_long x)

pub refresh_segment-requires : goal.refresh_segment-requires
refresh_segment-requires c =
    let (b, f, x) = c.requires in
    (f, rw (c.min-from.ensures, c.index_word.ensures) (ready_a x c.segment_of-ka.ensures))

pub refresh_if-requires : goal.refresh_if-requires
refresh_if-requires c =
    let (b, f, x) = c.requires in
    let ia = c.segment_of-ka.ensures in
    let ip = c.segment_of-kp.ensures in
    let ie = c.segment_of-ke.ensures in
    let first = c.refresh_segment.ensures f (rw (c.min-from.ensures, c.index_word.ensures) (ready_a x ia)) in
    λ on. (f, ready_p x ia ip ie first on)

pub refresh_if-requires-2 : goal.refresh_if-requires-2
refresh_if-requires-2 c =
    let (b, f, x) = c.requires in
    let ia = c.segment_of-ka.ensures in
    let ip = c.segment_of-kp.ensures in
    let ie = c.segment_of-ke.ensures in
    let first = c.refresh_segment.ensures f (rw (c.min-from.ensures, c.index_word.ensures) (ready_a x ia)) in
    let second = c.refresh_if.ensures f (ready_p x ia ip ie first) in
    λ on. (f, ready_e x ia ip ie first second on)

pub returns : goal.returns
returns c =
    let ia = c.segment_of-ka.ensures in
    let ip = c.segment_of-kp.ensures in
    let ie = c.segment_of-ke.ensures in
    λ b f x.
    let first = c.refresh_segment.ensures f (rw (c.min-from.ensures, c.index_word.ensures) (ready_a x ia)) in
    let second = c.refresh_if.ensures f (ready_p x ia ip ie first) in
    let third = c.refresh_if-2.ensures f (ready_e x ia ip ie first second) in
    reindexed x ia ip ie first second third
