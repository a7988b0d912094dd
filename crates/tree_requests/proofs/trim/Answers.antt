-- `tree_requests::trim` meets its contract: the rows 6 and 7, then 2, then the cut. Assumes nothing.
use mathlib.Core.Path.{◌∙◌, sym, refl}
use Rattle.ledger.specs.Records.{shortened}
use Rattle.calls.specs.Step.{cut}
use Rattle.calls.specs.Engines.{tree_engine}
use Rattle.calls.proofs.RefusalLaws.{number_no_zero}
use Rattle.call_parts.proofs.FindLaws.{cut_refused, cut_two}
use Rattle.tree_check.specs.Gate.{tree_pool}
use Rattle.tree_requests.proofs.RefusedLaws.{named_refusal}
use Rattle.tree_requests.proofs.trim.Goals as goal

pub returns-then-not-can_keep : goal.returns-then-not-can_keep
returns-then-not-can_keep c =
    let r = c.args.named in
    let e = sym c.named_slot.ensures ∙ c.in-Ok.is in
    named_refusal c.args.head c.args.arena.now c.args.table.now c.no_effect.result 2
    c.no_effect.ensures refl (cut r c.args.keep) (shortened c.args.keep r)
    (cut_two tree_engine (tree_pool c.args.head c.args.arena.now c.args.table.now) r c.args.keep _ e
    (sym c.can_keep.ensures ∙ c.if-not-can_keep.true))

pub returns-in-Err : goal.returns-in-Err
returns-in-Err c =
    let r = c.args.named in
    let t = c.args.table.now in
    let e = sym c.named_slot.ensures ∙ c.in-Err.is in
    named_refusal c.args.head c.args.arena.now t c.no_effect-in-Err.result _ c.no_effect-in-Err.ensures
    (number_no_zero c.in-Err.why) (cut r c.args.keep) (shortened c.args.keep r)
    (cut_refused tree_engine (tree_pool c.args.head c.args.arena.now c.args.table.now) r c.args.keep c.in-Err.why e)
