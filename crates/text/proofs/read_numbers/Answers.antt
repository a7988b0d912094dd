-- `text::read_numbers` meets its contract: the numbers so far, and those of the fields left, are all. Assumes nothing.
use Rattle.std.proofs.Common.{ℕ, suc, ◌+◌, ◌-◌, ◌≡◌, sym, ap, ◌∙◌, List, [], ◌++◌, take, take_all, length-set, arith, add-one}
use Rattle.std.specs.Prelude.{Option, Some}
use Rattle.std.proofs.Math.Seq.{take-suc-set}
use mathlib.Core.List.{append-nil}
use Rattle.text.specs.Fields.{with_more, numbers_of}
use Rattle.text.proofs.FieldLaws.{joined, joined_more, last_is, numbers_stop, numbers_step, none_more}
use Rattle.text.proofs.read_numbers.Goals as goal

pub returns-in_err-field : goal.returns-in_err-field
returns-in_err-field g c =
    let i = c.loop-i.i in
    let k = g.row.N - (i + 1) in
    let e : k + (i + 1) ≡ g.row.N = omega arith in
    let stop = numbers_stop k _ (rw (last_is i k g.row.N e) at c.in_err-field.ensures) in
    rw c.from_residual.ensures
    (sym (ap (λ (x : Option (List ℕ)). joined (take i c.loop-i.numbers) x) stop) ∙ c.loop-i.invariant.1 (suc k) (omega arith))

pub returns-in_err-numbers : goal.returns-in_err-numbers
returns-in_err-numbers g c =
    let i = c.loop-i.i in
    let k = g.row.N - (i + 1) in
    let e : k + (i + 1) ≡ g.row.N = omega arith in
    let step = numbers_step k _ _ _ (rw (last_is i k g.row.N e) at c.in_ok-field.ensures) in
    let stop = step ∙ none_more _ _ c.in_err-numbers.ensures in
    rw c.from_residual-in_err-numbers.ensures
    (sym (ap (λ (x : Option (List ℕ)). joined (take i c.loop-i.numbers) x) stop) ∙ c.loop-i.invariant.1 (suc k) (omega arith))

pub loop-i-preserved : goal.loop-i-preserved
loop-i-preserved g c =
    let i = c.loop-i.i in
    let ns = c.loop-i.numbers in
    let n = c.in_ok-numbers.field-0 in
    let more = c.in_ok-field.after.now in (
      simp length-set c.loop-i.invariant.0,
      λ k e.
          let step = numbers_step k _ _ _ (rw (last_is i k g.row.N e) at c.in_ok-field.ensures) in
          rw (add-one, take-suc-set ns i n (omega arith))
          (sym (joined_more (take i ns) n (numbers_of k more))
          ∙ ap (λ (x : Option (List ℕ)). joined (take i ns) x) (ap (λ (x : Option ℕ). with_more x (numbers_of k more)) c.in_ok-numbers.ensures ∙ sym step)
          ∙ c.loop-i.invariant.1 (suc k) (omega arith)),
    )

pub returns : goal.returns
unfolding numbers_of
returns g c =
    let ns = c.loop-i.numbers in
    let all = c.loop-i.invariant.1 0 (omega arith) in
    ap Some (sym (append-nil ns) ∙ ap (λ (x : List ℕ). x ++ []) (sym (take_all c.loop-i.i ns (omega arith)))) ∙ all
