-- `tree_requests::sizes::first_word` meets its contract: by the form. Assumes nothing.
use Prim.Native.Nat.{◌*◌}
use mathlib.Core.Path.{sym, ap}
use Rattle.stored_forms.specs.Tree.{Form, form_two}
use Rattle.tree_nodes.proofs.FormLaws.{form_two_lem, form_narrow}
use Rattle.tree_requests.proofs.sizes.first_word.Goals as goal

pub returns-then-form-eq2 : goal.returns-then-form-eq2
unfolding form_two
returns-then-form-eq2 c = sym (ap (λ (F : Form). F.cell * c.args.c) (form_two_lem c.args.form c.if-form-eq2.true))

pub returns : goal.returns
returns c = sym (ap (λ (F : Form). F.cell * c.args.c) (form_narrow c.args.form c.if-form-eq2.false))
