-- `segment_cores::begun_before` meets its contract. Assumes nothing.
use native.Mathlib.Omega.{arith}
use Rattle.segment_cores.proofs.NearLaws.{later_narrow, later_long, later_segment, begun_own, later_index}
use Rattle.segment_cores.proofs.NearLaws.{begun_last}
use Rattle.segment_cores.proofs.begun_before.Goals as goal

pub segment_of-k-requires : goal.segment_of-k-requires
segment_of-k-requires c = let (f, w, k) = c.requires in later_narrow k

pub index_word-from-requires : goal.index_word-from-requires
index_word-from-requires c =
    let (f, w, k) = c.requires in
    omega (arith, later_long k, later_segment k c.segment_of-k.ensures)

pub returns-then-from-p : goal.returns-then-from-p
returns-then-from-p c =
    let e = c.index_word-from.ensures in
    λ f w k. rw e (begun_own k c.segment_of-k.ensures (rw e at c.if-from-p.true))

pub last_before-requires : goal.last_before-requires
last_before-requires c =
    let (f, w, k) = c.requires in
    let e = c.index_word-from.ensures in
    later_index k c.segment_of-k.ensures (rw e at c.if-from-p.false)

pub returns : goal.returns
returns c =
    let e = c.index_word-from.ensures in
    let is = c.segment_of-k.ensures in
    λ f w k. rw c.index_word.ensures (begun_last k is (rw e at c.if-from-p.false) c.last_before.ensures)
