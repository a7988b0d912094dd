-- `tree_pool::find` meets its contract: the gate, then the slot of the record that is named. Assumes nothing.
use mathlib.Core.Path.{◌∙◌, sym, ap, refl}
use Rattle.calls.specs.Step.{find, pool_number, refusal}
use Rattle.calls.specs.Engines.{tree_engine}
use Rattle.calls.specs.Refusals.{refusal_number}
use Rattle.calls.proofs.RefusalLaws.{number_nonzero}
use Rattle.call_parts.specs.Results.{Result}
use Rattle.call_parts.proofs.FindLaws.{find_slot, find_refused}
use Rattle.call_parts.proofs.ResultLaws.{gate_result}
use Rattle.tree_check.specs.Gate.{tree_pool}
use Rattle.tree_pool.proofs.StopLaws.{passes}
use Rattle.tree_pool.proofs.find.Goals as goal

pub returns-in-Err : goal.returns-in-Err
returns-in-Err c =
    let p = tree_pool c.args.head c.args.arena.now c.args.table.now in
    c.refused.ensures ∙ ap refusal c.number-number.ensures
    ∙ ap (λ (l : Result). l.answer)
    (gate_result tree_engine p (pool_number tree_engine p) c.args.named.party (refusal_number c.in-Err.why) refl
    c.in-Err.ensures (number_nonzero c.in-Err.why) (find c.args.named) refl refl refl)

pub returns-in-Ok : goal.returns-in-Ok
returns-in-Ok c =
    let p = tree_pool c.args.head c.args.arena.now c.args.table.now in
    let (ok, partied) = passes c.args.head c.args.arena.now c.args.table.now c.args.named.party c.in_default.ensures in
    c.succeeded.ensures
    ∙ sym (find_slot tree_engine p c.args.named ok partied c.in-Ok.field-0 (sym c.named_slot.ensures ∙ c.in-Ok.is))

pub returns-in-Err-named_slot : goal.returns-in-Err-named_slot
returns-in-Err-named_slot c =
    let p = tree_pool c.args.head c.args.arena.now c.args.table.now in
    let (ok, partied) = passes c.args.head c.args.arena.now c.args.table.now c.args.named.party c.in_default.ensures in
    let why = c.in-Err-named_slot.why in
    c.into.ensures
    ∙ sym (find_refused tree_engine p c.args.named ok partied why (sym c.named_slot.ensures ∙ c.in-Err-named_slot.is))
