-- `segment_requests::trim` meets its contract: the rows 6 and 7, then 2, then the cut. Assumes nothing.
use mathlib.Core.Path.{◌∙◌, sym, refl}
use Rattle.ledger.specs.Records.{shortened}
use Rattle.calls.specs.Step.{cut}
use Rattle.calls.specs.Engines.{segment_engine}
use Rattle.calls.proofs.RefusalLaws.{number_no_zero}
use Rattle.segment_check.specs.Gate.{segment_pool}
use Rattle.call_parts.proofs.FindLaws.{cut_refused, cut_two}
use Rattle.segment_requests.proofs.RefusedLaws.{named_refusal}
use Rattle.segment_requests.proofs.trim.Goals as goal

pub returns-in-Err : goal.returns-in-Err
returns-in-Err c =
    let a = c.args in
    let r = a.named in
    let x = c.in-Err.refusal in
    named_refusal a.head a.s a.arena.now a.table.now a.index.now (cut r a.keep) (shortened a.keep r) _ (number_no_zero x)
    (cut_refused segment_engine (segment_pool a.s a.head a.arena.now a.table.now a.index.now) r a.keep x
    (sym c.named_slot.ensures ∙ c.in-Err.is))

pub returns-then-not-can_keep : goal.returns-then-not-can_keep
returns-then-not-can_keep c =
    let a = c.args in
    let r = a.named in
    let e = sym c.named_slot.ensures ∙ c.in-Ok.is in
    named_refusal a.head a.s a.arena.now a.table.now a.index.now (cut r a.keep) (shortened a.keep r) 2 refl
    (cut_two segment_engine (segment_pool a.s a.head a.arena.now a.table.now a.index.now) r a.keep _ e
    (sym c.can_keep.ensures ∙ c.if-not-can_keep.true))
