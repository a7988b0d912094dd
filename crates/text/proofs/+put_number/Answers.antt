-- `text::put_number` meets its contract: one digit, or two, or the digits of a hundredth and then the last two. The
-- measure is the number. Assumes nothing.
use Prim.Native.Nat.{◌/◌}
use native.Mathlib.Omega.{arith}
use mathlib.Core.Path.{◌∙◌, refl}
use lib.ListN.{length-set}
use Rattle.text.specs.Numbers.{decimal_of, last_two}
use Rattle.text.proofs.NumberLaws.{decimal_small, decimal_two, decimal_more, length_small, length_two, length_more}
use Rattle.text.proofs.WriteLaws.{wrote_then}
use Rattle.text.proofs.+put_number.Goals as goal

pub overflow_cast-out : goal.overflow_cast-out
overflow_cast-out t c = omega arith

pub overflow_add-out : goal.overflow_add-out
overflow_add-out t c = omega arith

pub bounds-out-at : goal.bounds-out-at
bounds-out-at t c =
    omega (arith, c.requires, length_small c.args.n c.if-n-lt10.true)

pub overflow_add-result : goal.overflow_add-result
overflow_add-result t c =
    omega (arith, c.requires, length_small c.args.n c.if-n-lt10.true)

pub shape_of-out-then-n-lt10 : goal.shape_of-out-then-n-lt10
shape_of-out-then-n-lt10 t c = simp length-set

pub returns-then-n-lt10 : goal.returns-then-n-lt10
returns-then-n-lt10 t c =
    rw (decimal_small c.args.n c.if-n-lt10.true) (omega arith, refl)

pub put_two-requires : goal.put_two-requires
put_two-requires t c =
    omega (arith, c.requires, length_two c.args.n c.if-n-lt10.false c.if-n-lt100.true)

pub shape_of-out-then-n-lt100 : goal.shape_of-out-then-n-lt100
shape_of-out-then-n-lt100 t c = c.put_two.auto.out

pub returns-then-n-lt100 : goal.returns-then-n-lt100
returns-then-n-lt100 t c =
    let n = c.args.n in
    rw (decimal_two n c.if-n-lt10.false c.if-n-lt100.true) c.put_two.ensures

pub put_number-end-requires : goal.put_number-end-requires
put_number-end-requires t c =
    let more = length_more c.args.n c.if-n-lt100.false (omega (arith, c.ranges.n.fits)) in
    (omega arith, omega (arith, more))

pub put_two-requires-2 : goal.put_two-requires-2
put_two-requires-2 t c =
    let more = length_more c.args.n c.if-n-lt100.false (omega (arith, c.ranges.n.fits)) in
    omega (arith, c.requires, c.put_number-end.auto.out, c.put_number-end.ensures.0, more)

pub shape_of-out : goal.shape_of-out
shape_of-out t c =
    c.put_two-2.auto.out ∙ c.put_number-end.auto.out

pub returns : goal.returns
returns t c =
    let n = c.args.n in
    let high = c.put_number-end in
    rw (decimal_more n c.if-n-lt100.false (omega (arith, c.ranges.n.fits)))
    (wrote_then (decimal_of (n / 100)) (last_two n) c.args.out.now high.new.out _ c.args.at high.result _
    high.ensures c.put_two-2.ensures)
