-- `pool_text::named_row` meets its contract. Assumes nothing.
use Rattle.std.proofs.Common.{◌≡◌, ◌∙◌, ap, rules}
use Rattle.std.specs.Prelude.{Err}
use Rattle.pool_text.specs.Answers.{answer_in}
use Rattle.pool_text.proofs.RowLaws.{give_done, give_refused}
use Rattle.pool_text.proofs.named_row.Goals as goal

pub returns-in_err-named_slot : goal.returns-in_err-named_slot
returns-in_err-named_slot c =
    λ h a.
    let e : c.from_residual.result ≡ Err c.in_err-named_slot.field-0.0 = search rules in
    ap answer_in e ∙ give_refused c.args.table.now c.args.named h a c.in_err-named_slot.field-0.0 c.in_err-named_slot.ensures

pub returns : goal.returns
returns c =
    λ h a. give_done c.args.table.now c.args.named h a c.in_ok-named_slot.field-0 c.in_ok-named_slot.ensures
