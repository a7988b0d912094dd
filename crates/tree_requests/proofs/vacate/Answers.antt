-- `tree_requests::vacate` meets its contract: the rows 6 and 7, then the release. Assumes nothing.
use mathlib.Core.Path.{◌∙◌, sym}
use Rattle.calls.specs.Step.{give}
use Rattle.calls.specs.Engines.{tree_engine}
use Rattle.calls.proofs.RefusalLaws.{number_no_zero}
use Rattle.call_parts.proofs.FindLaws.{give_refused}
use Rattle.tree_check.specs.Gate.{tree_pool}
use Rattle.tree_requests.proofs.RefusedLaws.{named_refusal}
use Rattle.tree_requests.proofs.vacate.Goals as goal

pub returns-in-Err : goal.returns-in-Err
returns-in-Err c =
    let t = c.args.table.now in
    let p = tree_pool c.args.head c.args.arena.now t in
    named_refusal c.args.head c.args.arena.now t c.no_effect.result _ c.no_effect.ensures
    (number_no_zero c.in-Err.why) (give c.args.named) c.args.named
    (give_refused tree_engine p c.args.named c.in-Err.why (sym c.named_slot.ensures ∙ c.in-Err.is))
