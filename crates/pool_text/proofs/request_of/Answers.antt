-- `pool_text::request_of` meets its contract: an A line, an R line, a T line, or a bad one. Assumes nothing.
use Rattle.std.proofs.Common.{get_or, sym, ap, ◌∙◌}
use Rattle.std.specs.Prelude.{Some}
use Rattle.ledger.specs.declared.Row.{Row}
use Rattle.session.specs.declared.LineRequest.TheVariants as request
use Rattle.session.specs.Meaning.{ask_of}
use Rattle.pool_text.proofs.RequestLaws.{ask_line, give_line, give_none, cut_line, cut_none, bad_line}
use Rattle.pool_text.proofs.request_of.Goals as goal

pub returns-in_err-words : goal.returns-in_err-words
returns-in_err-words c =
    let f = c.in-Some.ensures in
    rw c.from_residual.ensures (sym (ask_line c.args.s.now c.in-Some.fields.now f.1 f.0 ∙ ap ask_of (sym c.in_err-words.ensures)))

pub returns-in-Some : goal.returns-in-Some
returns-in-Some c =
    let f = c.in-Some.ensures in
    sym (ask_line c.args.s.now c.in-Some.fields.now f.1 f.0 ∙ ap ask_of (sym c.in_ok-words.ensures))

pub returns-in_err-ticket : goal.returns-in_err-ticket
returns-in_err-ticket c =
    let f = c.in-Some-fields_after.ensures in
    rw c.from_residual-in_err-ticket.ensures
    (sym (give_none c.args.s.now c.in-Some-fields_after.fields.now f.1 c.in_default.ensures f.0 c.in_err-ticket.ensures))

pub returns-in-Some-fields_after : goal.returns-in-Some-fields_after
returns-in-Some-fields_after c =
    let f = c.in-Some-fields_after.ensures in
    ap (λ (r : Row). Some (request.Give r)) c.ours.ensures
    ∙ sym (give_line c.args.s.now c.in-Some-fields_after.fields.now f.1 c.in_default.ensures f.0 c.in_ok-ticket.field-0 c.in_ok-ticket.ensures)

pub returns-in_err-ticket-2 : goal.returns-in_err-ticket-2
returns-in_err-ticket-2 c =
    let f = c.in-Some-fields_after-2.ensures in
    rw c.from_residual-in_err-ticket-2.ensures
    (sym (cut_none c.args.s.now c.in-Some-fields_after-2.fields.now f.1 c.in_default.ensures c.in_default-fields_after.ensures f.0 c.in_err-ticket-2.ensures))

pub returns-in-Some-fields_after-2 : goal.returns-in-Some-fields_after-2
returns-in-Some-fields_after-2 c =
    let f = c.in-Some-fields_after-2.ensures in
    let ns = c.in_ok-ticket-2.field-0 in
    ap (λ (r : Row). Some (request.Cut r (get_or ns 3 0))) c.ours-in-Some-fields_after-2.ensures
    ∙ sym (cut_line c.args.s.now c.in-Some-fields_after-2.fields.now f.1 c.in_default.ensures c.in_default-fields_after.ensures f.0 ns c.in_ok-ticket-2.ensures)

pub returns : goal.returns
returns c =
    sym (bad_line c.args.s.now c.in_default.ensures c.in_default-fields_after.ensures c.in_default-fields_after-2.ensures)
