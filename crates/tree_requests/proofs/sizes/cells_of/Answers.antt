-- `tree_requests::sizes::cells_of` meets its contract: by the form. Assumes nothing.
use Prim.Native.Nat.{ℕ, ◌+◌, ◌*◌, ◌/◌}
use native.Mathlib.Omega.{arith}
use mathlib.Core.Path.{◌≡◌, sym, ap, ◌∙◌}
use Rattle.ledger.specs.Units.{span}
use Rattle.stored_forms.specs.Tree.{Form, form_one, form_two, form_three}
use Rattle.tree_nodes.proofs.FormLaws.{form_one_lem, form_two_lem, form_three_lem}
use Rattle.tree_requests.specs.Sizes.{cell_span}
use Rattle.tree_requests.proofs.sizes.cells_of.Goals as goal

two : (n : ℕ) → (n + 3) / 4 ≡ cell_span form_two n
unfolding span form_two
two n = omega arith

three : (n : ℕ) → (n + 7) / 8 * 4 ≡ cell_span form_three n
unfolding span form_three
three n = omega arith

one : (n : ℕ) → (n + 1) / 2 ≡ cell_span form_one n
unfolding span form_one
one n = omega arith

pub returns-then-form-eq2 : goal.returns-then-form-eq2
returns-then-form-eq2 c =
    let a = c.args in
    two a.words ∙ sym (ap (λ (F : Form). cell_span F a.words) (form_two_lem a.form c.if-form-eq2.true))

pub returns-then-form-eq3 : goal.returns-then-form-eq3
returns-then-form-eq3 c =
    let a = c.args in
    three a.words ∙ sym (ap (λ (F : Form). cell_span F a.words) (form_three_lem a.form c.if-form-eq3.true))

pub returns : goal.returns
returns c =
    let a = c.args in
    one a.words
    ∙ sym (ap (λ (F : Form). cell_span F a.words) (form_one_lem a.form c.if-form-eq2.false c.if-form-eq3.false))
