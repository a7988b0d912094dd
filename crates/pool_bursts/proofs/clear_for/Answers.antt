-- `pool_bursts::clear_for` meets its contract: zeros, or the front alone. Assumes nothing.
use native.Mathlib.Omega.{arith}
use Prim.Native.Nat.{ℕ}
use mathlib.Core.Path.{◌∙◌, ap}
use lib.Dec.{ltb}
use lib.ListN.{length, replicate}
use lib.Seq.{length-take-le}
use Rattle.words.proofs.Tests.{or_l, or_r, not_lt}
use Rattle.pool_bursts.specs.Layout.{is_blank}
use Rattle.pool_bursts.proofs.ClearLaws.{blank_zeros, blank_front}
use Rattle.pool_bursts.proofs.clear_for.Goals as goal

pub returns-then-f-old : goal.returns-then-f-old
returns-then-f-old c =
    ap (is_blank c.args.f) c.fill.ensures ∙ blank_zeros c.args.f (length c.args.state.now)

pub slice_bounds-fill-end-2 : goal.slice_bounds-fill-end-2
slice_bounds-fill-end-2 c =
    omega (arith, c.requires.0, length-take-le 92 c.args.state.now (omega (arith, c.requires.0)))

pub returns : goal.returns
returns c =
    let f = c.args.f in
    let b = c.args.state.now in
    let r = c.read_fields-old in
    let w = c.fill-2 in
    let old = r.result in
    let few = c.if-f-old.false in
    let wiped = w.ensures ∙ ap (λ (n : ℕ). replicate n 0) (length-take-le 92 b (omega (arith, c.requires.0))) in
    blank_front f old b w.new.s wiped r.ensures.0 c.requires.1
    (not_lt f.words old.words (or_l (ltb f.words old.words) _ few))
    (not_lt f.slots old.slots (or_r (ltb f.words old.words) _ few))
