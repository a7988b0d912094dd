-- `pool_text::cut_row` meets its contract. Assumes nothing.
use Rattle.std.proofs.Common.{◌≡◌, ◌∙◌, sym, ap, rules}
use Rattle.std.specs.Prelude.{Err}
use Rattle.calls.specs.Step.{success}
use Rattle.pool_text.specs.Answers.{answer_in}
use Rattle.pool_text.proofs.RowLaws.{cut_done, cut_small, cut_refused}
use Rattle.pool_text.proofs.cut_row.Goals as goal

pub returns-in_err-named_slot : goal.returns-in_err-named_slot
returns-in_err-named_slot c =
    λ h a.
    let e : c.from_residual.result ≡ Err c.in_err-named_slot.field-0.0 = search rules in
    ap answer_in e
    ∙ cut_refused c.args.table.now c.args.named h a c.args.keep c.in_err-named_slot.field-0.0 c.in_err-named_slot.ensures

pub returns-then-not-can_keep : goal.returns-then-not-can_keep
returns-then-not-can_keep c =
    λ h a. cut_small c.args.table.now c.args.named h a c.args.keep c.in_ok-named_slot.field-0 c.in_ok-named_slot.ensures
    (sym c.can_keep.ensures ∙ c.if-not-can_keep.true)

pub returns : goal.returns
returns c =
    λ h a.
    ap success c.shortened.ensures
    ∙ cut_done c.args.table.now c.args.named h a c.args.keep c.in_ok-named_slot.field-0 c.in_ok-named_slot.ensures
    (sym c.can_keep.ensures ∙ c.if-not-can_keep.false)
