-- `segment_pool::release` meets its contract: the gate, then one act, and the outcome of its effect. Assumes nothing.
use mathlib.Core.Path.{refl, ap, ◌∙◌}
use mathlib.Core.List.{[]}
use Rattle.calls.specs.Engines.{segment_engine}
use Rattle.calls.specs.Step.{release, give}
use Rattle.call_parts.proofs.ResultLaws.{single_result}
use Rattle.segment_check.specs.Gate.{segment_pool}
use Rattle.call_parts.specs.declared.Outcome.{Outcome}
use Rattle.segment_check.specs.declared.Head.{Head}
use Rattle.segment_requests.specs.Outcomes.{handed, release_outcome}
use Rattle.segment_pool.proofs.GateLaws.{stopped_result, passed}
use Rattle.segment_pool.proofs.release.Goals as goal

pub returns-in-Err : goal.returns-in-Err
returns-in-Err c =
    let a = c.args in
    stopped_result a.s a.head a.arena.now a.table.now a.index.now a.named.party c.gate_for.result c.gate_for.ensures
    c.in-Err.refusal c.in-Err.is _ _ c.refused_with.ensures c.number.ensures (release a.named) refl refl refl

pub vacate-done-requires : goal.vacate-done-requires
vacate-done-requires c =
    let a = c.args in
    (passed a.s a.head a.arena.now a.table.now a.index.now a.named.party c.gate_for.result c.gate_for.ensures _
    c.in_default.is).0

pub returns : goal.returns
returns c =
    let a = c.args in
    let new = c.vacate-done.new in
    let p = segment_pool a.s a.head a.arena.now a.table.now a.index.now in
    let (ok, party) = passed a.s a.head a.arena.now a.table.now a.index.now a.named.party c.gate_for.result
    c.gate_for.ensures _ c.in_default.is in
    ap (λ (y : Outcome Head). handed a.s y new.arena new.table new.index [])
    (c.outcome_of_release.ensures ∙ ap (release_outcome a.head a.named) c.number_in.ensures)
    ∙ c.vacate-done.ensures
    ∙ single_result segment_engine (give a.named) p ok party
