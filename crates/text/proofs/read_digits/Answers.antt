-- `text::read_digits` meets its contract: at each byte the value so far, read on, is the value of all. Assumes nothing.
use Rattle.std.proofs.Common.{sym, ◌∙◌, ◌≡◌, ◌+◌, ◌*◌, ◌-◌, arith, get_or}
use Rattle.text.proofs.NumberLaws.{value_out, value_large, value_on, value_end}
use Rattle.text.proofs.read_digits.Goals as goal

pub returns-then-not-is_ascii_digit : goal.returns-then-not-is_ascii_digit
returns-then-not-is_ascii_digit c =
    sym (value_out _ _ _ c.loop-b-test.true c.if-not-is_ascii_digit.ensures.cases) ∙ c.loop-b.invariant

pub returns-in_err-checked_mul : goal.returns-in_err-checked_mul
returns-in_err-checked_mul c =
    let d = c.if-not-is_ascii_digit.ensures.cases in
    let e = c.in_err-checked_mul.ensures in
    rw c.from_residual.ensures
    (sym (value_large _ _ _ c.loop-b-test.true d.0 d.1 (omega (arith, e, d.0))) ∙ c.loop-b.invariant)

pub returns-in_err-value : goal.returns-in_err-value
returns-in_err-value c =
    let d = c.if-not-is_ascii_digit.ensures.cases in
    let m = c.in_ok-checked_mul.ensures in
    let e = c.in_err-value.ensures in
    rw c.from_residual-in_err-value.ensures
    (sym (value_large _ _ _ c.loop-b-test.true d.0 d.1 (omega (arith, m, e, d.0))) ∙ c.loop-b.invariant)

pub loop-b-preserved : goal.loop-b-preserved
loop-b-preserved c =
    let d = c.if-not-is_ascii_digit.ensures.cases in
    let v : c.in_ok-value.value ≡ c.loop-b.value * 10 + get_or c.args.s.now c.loop-b.b-index 0 - 48
    = omega (arith, c.in_ok-checked_mul.ensures, c.in_ok-value.ensures, d.0) in
    rw v (sym (value_on _ _ _ c.loop-b-test.true d.0 d.1 (omega (arith, c.in_ok-value.ensures, v))) ∙ c.loop-b.invariant)

pub returns : goal.returns
returns c = sym (value_end c.loop-b.value c.loop-b.b-index _ c.loop-b-test.false) ∙ c.loop-b.invariant
