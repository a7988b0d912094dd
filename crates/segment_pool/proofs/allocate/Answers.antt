-- `segment_pool::allocate` meets its contract: the gate, then one act, and the outcome of its effect. Assumes nothing.
use mathlib.Core.Path.{refl, ap, ◌∙◌}
use mathlib.Core.List.{[]}
use Rattle.calls.proofs.RefusalLaws.{number_nonzero}
use Rattle.calls.specs.Refusals.{refusal_number}
use Rattle.calls.specs.Engines.{segment_engine}
use Rattle.calls.specs.Step.{allocate, ask, pool_number}
use Rattle.call_parts.proofs.ResultLaws.{single_result}
use Rattle.segment_check.specs.Gate.{segment_pool}
use Rattle.call_parts.specs.declared.Outcome.{Outcome}
use Rattle.segment_check.specs.declared.Head.{Head}
use Rattle.segment_requests.specs.Outcomes.{handed}
use Rattle.segment_requests.proofs.PlacesCounted.{act_places, gate_places}
use Rattle.segment_pool.proofs.GateLaws.{number_is, stopped_result, passed}
use Rattle.segment_pool.proofs.allocate.Goals as goal

pub returns-in-Err : goal.returns-in-Err
returns-in-Err c =
    let a = c.args in
    let p = segment_pool a.s a.head a.arena.now a.table.now a.index.now in
    let result = stopped_result a.s a.head a.arena.now a.table.now a.index.now a.party c.gate_for.result c.gate_for.ensures
    c.in-Err.refusal c.in-Err.is _ _ (c.with_places.ensures.0 ∙ c.refused_with-refused.ensures) c.number.ensures
    (allocate a.party a.words) refl refl refl in
    let number = number_is a.s a.head a.arena.now a.table.now a.index.now a.party c.gate_for.result c.gate_for.ensures
    c.in-Err.refusal c.in-Err.is in
    let places = c.with_places.ensures.1
    ∙ gate_places p a.party a.words (pool_number segment_engine p) (refusal_number c.in-Err.refusal) refl number
    (number_nonzero c.in-Err.refusal) in
    λ i. (result i, places i)

pub grant-done-requires : goal.grant-done-requires
grant-done-requires c =
    let a = c.args in
    passed a.s a.head a.arena.now a.table.now a.index.now a.party c.gate_for.result c.gate_for.ensures _ c.in_default.is

pub returns : goal.returns
returns c =
    let a = c.args in
    let new = c.grant-done.new in
    let p = segment_pool a.s a.head a.arena.now a.table.now a.index.now in
    let (ok, party) = passed a.s a.head a.arena.now a.table.now a.index.now a.party c.gate_for.result c.gate_for.ensures
    _ c.in_default.is in
    let result = ap (λ (y : Outcome Head). handed a.s y new.arena new.table new.index [])
    (c.with_places-2.ensures.0 ∙ c.outcome_of_grant-outcome.ensures) ∙ c.grant-done.ensures.index_after
    ∙ single_result segment_engine (ask a.party a.words) p ok party in
    let places = c.with_places-2.ensures.1 ∙ c.grant-done.ensures.result_value ∙ act_places p a.party a.words ok in
    λ i. (result i, places i)
