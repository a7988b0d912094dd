-- `segment_requests::vacate` meets its contract: the rows 6 and 7, then the release. Assumes nothing.
use mathlib.Core.Path.{◌∙◌, sym}
use Rattle.calls.specs.Step.{give}
use Rattle.calls.specs.Engines.{segment_engine}
use Rattle.calls.proofs.RefusalLaws.{number_no_zero}
use Rattle.segment_check.specs.Gate.{segment_pool}
use Rattle.call_parts.proofs.FindLaws.{give_refused}
use Rattle.segment_requests.proofs.RefusedLaws.{named_refusal}
use Rattle.segment_requests.proofs.vacate.Goals as goal

pub returns-in-Err : goal.returns-in-Err
returns-in-Err c =
    let a = c.args in
    let x = c.in-Err.refusal in
    named_refusal a.head a.s a.arena.now a.table.now a.index.now (give a.named) a.named _ (number_no_zero x)
    (give_refused segment_engine (segment_pool a.s a.head a.arena.now a.table.now a.index.now) a.named x
    (sym c.named_slot.ensures ∙ c.in-Err.is))
