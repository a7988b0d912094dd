-- `segment_pool::list` meets its contract: row 8 of the list, the gate, then all requests. Assumes nothing.
use mathlib.Core.Path.{◌∙◌, sym, ap, refl}
use mathlib.Core.List.{[], ◌∷◌}
use Rattle.calls.specs.Engines.{segment_engine}
use Rattle.calls.specs.Step.{list}
use Rattle.call_parts.proofs.ResultLaws.{unsuited_result, list_result}
use Rattle.segment_check.specs.Gate.{segment_pool}
use Rattle.call_parts.specs.declared.Outcome.{Outcome}
use Rattle.segment_check.specs.declared.Head.{Head}
use Rattle.segment_requests.specs.Outcomes.{handed, refused_with}
use Rattle.segment_pool.proofs.GateLaws.{stopped_result, passed}
use Rattle.segment_pool.proofs.list.Goals as goal

pub returns-then-not-list_suits : goal.returns-then-not-list_suits
unfolding segment_engine
returns-then-not-list_suits c =
    let a = c.args in
    let p = segment_pool a.s a.head a.arena.now a.table.now a.index.now in
    ap (λ (o : Outcome Head). handed a.s o a.arena.now a.table.now a.index.now (a.answers.now ∷ []))
    (c.refused_with.ensures ∙ ap (refused_with a.head) c.number.ensures)
    ∙ unsuited_result segment_engine p a.party a.asked.now a.answers.now refl
    (sym c.list_suits.ensures ∙ c.if-not-list_suits.true)

pub returns-in-Err : goal.returns-in-Err
returns-in-Err c =
    let a = c.args in
    let suits = sym c.list_suits.ensures ∙ c.if-not-list_suits.false in
    stopped_result a.s a.head a.arena.now a.table.now a.index.now a.party c.gate_for.result c.gate_for.ensures
    c.in-Err.refusal c.in-Err.is _ _ c.refused_with-in-Err.ensures c.number-in-Err.ensures
    (list a.party a.asked.now a.answers.now) refl suits refl

pub serve_all-after-requires-clause-index_value : goal.serve_all-after-requires-clause-index_value
serve_all-after-requires-clause-index_value c =
    let a = c.args in
    passed a.s a.head a.arena.now a.table.now a.index.now a.party c.gate_for.result c.gate_for.ensures _ c.in_default.is

pub returns : goal.returns
returns c =
    let a = c.args in
    let new = c.serve_all-after.new in
    let p = segment_pool a.s a.head a.arena.now a.table.now a.index.now in
    let suits = sym c.list_suits.ensures ∙ c.if-not-list_suits.false in
    let (ok, party) = passed a.s a.head a.arena.now a.table.now a.index.now a.party c.gate_for.result c.gate_for.ensures
    _ c.in_default.is in
    list_result segment_engine p a.party a.asked.now a.answers.now suits ok party c.succeeded.result
    (segment_pool a.s c.serve_all-after.result new.arena new.table new.index)
    new.answers c.succeeded.ensures c.serve_all-after.ensures
