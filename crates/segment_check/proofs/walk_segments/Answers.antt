-- `segment_check::walk_segments` meets its contract: the segments before k are walked over, and the index has their two words.
-- Assumes nothing.
use native.Mathlib.Omega.{arith}
use mathlib.Core.Bool.{true≢false}
use mathlib.Core.Path.{◌≡◌, sym, ap, ◌∙◌}
use lib.ListN.{length}
use Rattle.std.specs.Prelude.{Some}
use Rattle.segment_blocks.proofs.UpkeepLaws.{sizes_top}
use Rattle.segment_check.proofs.MatchLaws.{match_two, match_on, match_whole, match_end}
use Rattle.segment_check.proofs.MatchLaws.{walked_none, two_walked, two_none, walked_two, none_two}
use Rattle.segment_check.proofs.walk_segments.Goals as goal
use Rattle.segment_check.proofs.walk_segments.Goals.{then-at-hi+in_ok-walk+else-first-at, else-at-hi+else-first-w}

pub overflow_mul-k : goal.overflow_mul-k
overflow_mul-k c =
    omega (arith, sizes_top _ _ _ c.requires.0 c.loop-k.k c.loop-k-test.true)

pub returns-then-first-at-clause-walks : goal.returns-then-first-at-clause-walks
returns-then-first-at-clause-walks c =
    let a = c.args in
    let (is, m, leads) = c.loop-k.invariant in
    let walk = c.in_ok-walk.walk in
    λ f n K z G right.
    let two = match_two a.v.now a.map.now a.t.now _ _ c.loop-k.k c.loop-k.at c.loop-k.free c.min-hi.result walk.next
    walk.free walk.most c.loop-k.after walk.after m c.loop-k-test.true c.min-hi.ensures c.in_ok-walk.ensures.walked.1 f
    G right in
    let no = walked_two a.t.now a.segments.count c.loop-k.k c.loop-k.at c.min-hi.result (length a.v.now) walk.most
    c.if-at-hi.true two in
    absurd (true≢false (sym c.if-first-at.true ∙ no))

pub returns-then-first-w-clause-walks : goal.returns-then-first-w-clause-walks
returns-then-first-w-clause-walks c =
    let a = c.args in
    let (is, m, leads) = c.loop-k.invariant in
    let past = c.if-at-hi.false in
    let walked = walked_none a.v.now a.map.now c.loop-k.at c.min-hi.result c.loop-k.free
    c.loop-k.after m.adjoining m.few past in
    λ f n K z G right.
    let two = match_two a.v.now a.map.now a.t.now _ _ c.loop-k.k c.loop-k.at c.loop-k.free c.min-hi.result c.loop-k.at
    c.loop-k.free 0 c.loop-k.after c.loop-k.after m c.loop-k-test.true c.min-hi.ensures walked f G right in
    let no = none_two a.t.now a.segments.count c.loop-k.k c.loop-k.at c.min-hi.result (length a.v.now) past two in
    absurd (true≢false (sym c.if-first-w.true ∙ no))

pub loop-k-preserved : goal.loop-k-preserved
loop-k-preserved c =
    let a = c.args in
    let (is, m, leads) = c.loop-k.invariant in
    let here = c.loop-k-test.true in
    let w = length a.v.now in
    elim c.if-at-hi.branch [
      | then-at-hi+in_ok-walk+else-first-at x ↦
          let walk = x.in_ok-walk.walk in
          let (inside, walked) = x.in_ok-walk.ensures.walked in
          let right = two_walked a.t.now a.segments.count c.loop-k.k c.loop-k.at c.min-hi.result w walk.most
          x.if-at-hi.true x.if-first-at.false in
          rw (x.at-is, x.free-is, x.after-is) (
            is,
            match_on a.v.now a.map.now a.t.now _ _ c.loop-k.k c.loop-k.at c.loop-k.free
                c.min-hi.result walk.next walk.free walk.most
                c.loop-k.after walk.after m here c.min-hi.ensures inside walked right,
            λ f n K z G. x.in_ok-walk.ensures.walks f n K (m.right f G).0.scan (leads f n K z G),
          )
      | else-at-hi+else-first-w x ↦
          let past = x.if-at-hi.false in
          let right = two_none a.t.now a.segments.count c.loop-k.k c.loop-k.at c.min-hi.result w past x.if-first-w.false in
          let walked = walked_none a.v.now a.map.now c.loop-k.at c.min-hi.result c.loop-k.free
          c.loop-k.after m.adjoining m.few past in
          rw (x.at-is, x.free-is, x.after-is) (
            is,
            match_on a.v.now a.map.now a.t.now _ _ c.loop-k.k c.loop-k.at c.loop-k.free
                c.min-hi.result c.loop-k.at c.loop-k.free 0
                c.loop-k.after c.loop-k.after m here c.min-hi.ensures m.inside walked right,
            leads,
          )
    ]

pub returns-clause-matched : goal.returns-clause-matched
returns-clause-matched c =
    let a = c.args in
    let (is, m, leads) = c.loop-k.invariant in
    let all : c.loop-k.k ≡ a.segments.count = omega arith in
    (omega (arith, m.few, m.inside), match_end a.v.now a.map.now a.t.now _ _ c.requires.0 c.loop-k.k c.loop-k.at c.loop-k.free c.loop-k.after m all)

pub returns-clause-walks : goal.returns-clause-walks
returns-clause-walks c =
    let a = c.args in
    let (is, m, leads) = c.loop-k.invariant in
    let all : c.loop-k.k ≡ a.segments.count = omega arith in
    λ f n K z G right.
    ap Some ((leads f n K z G).count
    ∙ ap n (match_whole a.v.now a.map.now a.t.now _ _ c.requires.0 c.loop-k.k c.loop-k.at c.loop-k.free c.loop-k.after m all))
