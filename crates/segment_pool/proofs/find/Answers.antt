-- `segment_pool::find` meets its contract: the gate, then the slot of the record that is named. Assumes nothing.
use mathlib.Core.Path.{◌∙◌, sym, ap, refl}
use Rattle.calls.specs.Step.{Outcome, find, refusal}
use Rattle.calls.specs.Engines.{segment_engine}
use Rattle.call_parts.proofs.FindLaws.{find_slot, find_refused}
use Rattle.segment_check.specs.Gate.{segment_pool}
use Rattle.segment_pool.proofs.GateLaws.{stopped, passed}
use Rattle.segment_pool.proofs.find.Goals as goal

pub returns-in-Err : goal.returns-in-Err
returns-in-Err c =
    let a = c.args in
    c.refused.ensures ∙ ap refusal c.number-number.ensures
    ∙ sym (ap (λ (o : Outcome). o.answer)
    (stopped a.s a.head a.arena.now a.table.now a.index.now a.named.party c.gate_for.result c.gate_for.ensures
    c.in-Err.refusal c.in-Err.is (find a.named) refl refl refl))

pub returns-in-Ok : goal.returns-in-Ok
returns-in-Ok c =
    let a = c.args in
    let p = segment_pool a.s a.head a.arena.now a.table.now a.index.now in
    let (ok, party) = passed a.s a.head a.arena.now a.table.now a.index.now a.named.party c.gate_for.result
    c.gate_for.ensures _ c.in_default.is in
    c.succeeded.ensures
    ∙ sym (find_slot segment_engine p a.named ok party c.in-Ok.field-0 (sym c.named_slot.ensures ∙ c.in-Ok.is))

pub returns-in-Err-named_slot : goal.returns-in-Err-named_slot
returns-in-Err-named_slot c =
    let a = c.args in
    let p = segment_pool a.s a.head a.arena.now a.table.now a.index.now in
    let (ok, party) = passed a.s a.head a.arena.now a.table.now a.index.now a.named.party c.gate_for.result
    c.gate_for.ensures _ c.in_default.is in
    c.from.ensures
    ∙ sym (find_refused segment_engine p a.named ok party c.in-Err-named_slot.refusal
    (sym c.named_slot.ensures ∙ c.in-Err-named_slot.is))
