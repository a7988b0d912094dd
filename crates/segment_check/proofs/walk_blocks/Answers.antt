-- `segment_check::walk_blocks` meets its contract: the blocks up to `at` lie side by side; and if they are those with control
-- words c, the largest weight so far, with that of the blocks from here on, is that of all. Assumes nothing.
use Prim.Native.Nat.{◌<◌}
use native.Mathlib.Omega.{arith}
use mathlib.Core.Bool.{true≢false, false≢true}
use mathlib.Core.Path.{◌≡◌, ◌∙◌, sym}
use mathlib.Core.Logic.{◌≢◌}
use lib.IntN.{pos, nat_abs}
use lib.ListN.{length, get_or}
use Rattle.segment_index.specs.Control.{free_size}
use Rattle.segment_blocks.proofs.ScanLaws.{come_on, leaf_on}
use Rattle.segment_check.proofs.AdjoiningLaws.{adjoining_held, adjoining_free, held_weight, free_weight, free_whole}
use Rattle.segment_check.proofs.KeptLaws.{kept_held, led_held, kept_free, led_free}
use Rattle.segment_check.proofs.walk_blocks.Goals as goal

-- ---- a held block

pub returns-in_err-n-clause-walks : goal.returns-in_err-n-clause-walks
returns-in_err-n-clause-walks c =
    let a = c.args in
    let below : c.loop-at.at < length a.v.now = omega (arith, c.loop-at-test.true, c.requires.2) in
    λ k n K scan d.
    let (block, some) = kept_held a.v.now a.map.now k n K c.loop-at.at (c.loop-at.invariant.3 k scan).0.scan
    below (sym c.free_at-f.ensures ∙ c.if-f-eq0.true) in
    absurd (false≢true (c.in_err-n.ensures.none _ some block))

pub loop-at-preserved-then-f-eq0 : goal.loop-at-preserved-then-f-eq0
loop-at-preserved-then-f-eq0 c =
    let a = c.args in
    let n = c.in_ok-n.n in
    let z = get_or a.v.now c.loop-at.at (pos 0) in
    let (some, here) = c.in_ok-n.ensures.held in
    let below = c.loop-at-test.true in
    let (inside, few, adjoining, scans, leads) = c.loop-at.invariant in
    let none : free_size z ≡ 0 = sym c.free_at-f.ensures ∙ c.if-f-eq0.true in (
      here.inside,
      omega arith,
      adjoining_held a.v.now a.map.now c.loop-at.at c.loop-at.sum n some c.loop-at.last adjoining here.set
          here.size,
      λ k scan.
          let (come, inv) = scans k scan in (
            come_on _ k _ _ _ _ come c.requires.2 below here.size,
            rw c.max-most.ensures
                (leaf_on _ k _ _ _ come.scan c.requires.2 below here.size _ _ _ inv
                (held_weight z none (omega (arith, here.size)))),
          ),
      λ k u K scan d.
          led_held a.v.now a.map.now k u K c.loop-at.at (scans k scan).0.scan
          (omega (arith, c.requires.2)) c.loop-at.sum n c.loop-at.last (leads k u K scan d) none here.size,
    )

-- ---- a free one

pub returns-then-not-is_free_block-clause-walks : goal.returns-then-not-is_free_block-clause-walks
returns-then-not-is_free_block-clause-walks c =
    let a = c.args in
    let below : c.loop-at.at < length a.v.now = omega (arith, c.loop-at-test.true, c.requires.2) in
    λ k n K scan d.
    let block = kept_free a.v.now a.map.now k n K c.loop-at.at (c.loop-at.invariant.3 k scan).0.scan
    below c.loop-at.sum c.free_at-f.result c.loop-at.last (c.loop-at.invariant.4 k n K scan d)
    (omega (arith, c.if-f-eq0.false)) c.free_at-f.ensures in
    absurd (true≢false (sym (c.is_free_block.ensures.1 block) ∙ c.if-not-is_free_block.true))

pub loop-at-preserved : goal.loop-at-preserved
loop-at-preserved c =
    let a = c.args in
    let n = c.free_at-f.result in
    let z = get_or a.v.now c.loop-at.at (pos 0) in
    let here = c.is_free_block.ensures.0 c.if-not-is_free_block.false in
    let below = c.loop-at-test.true in
    let (inside, few, adjoining, scans, leads) = c.loop-at.invariant in
    let is : n ≡ free_size z = c.free_at-f.ensures in
    let free : free_size z ≢ 0 = λ e. c.if-f-eq0.false (is ∙ e) in
    let size : n ≡ nat_abs z = is ∙ free_whole z free in (
      here.inside,
      omega arith,
      adjoining_free a.v.now a.map.now c.loop-at.at c.loop-at.sum n (omega (arith, c.if-f-eq0.false))
          c.loop-at.last here.apart adjoining here.right,
      λ k scan.
          let (come, inv) = scans k scan in (
            come_on _ k _ _ _ _ come c.requires.2 below size,
            rw c.max-most-else-f-eq0.ensures
                (leaf_on _ k _ _ _ come.scan c.requires.2 below size _ _ _ inv (is ∙ free_weight z free)),
          ),
      λ k u K scan d.
          led_free a.v.now a.map.now k u K c.loop-at.at (scans k scan).0.scan
          (omega (arith, c.requires.2)) c.loop-at.sum n c.loop-at.last (leads k u K scan d)
          (omega (arith, c.if-f-eq0.false)) is,
    )
