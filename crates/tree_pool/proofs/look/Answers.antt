-- `tree_pool::look` meets its contract: the part that the answer of find names, or the placeholder. Assumes nothing.
use mathlib.Core.Path.{◌∙◌, sym, ap}
use native.Mathlib.Nat.{add-sub_cancel_left}
use Rattle.calls.specs.declared.Answer.{Answer}
use Rattle.calls.specs.Engines.{tree_engine}
use Rattle.calls.proofs.Engines.{tree_laws}
use Rattle.call_parts.proofs.FindLaws.{found_inside}
use Rattle.call_parts.proofs.LookLaws.{look_holds, look_found}
use Rattle.tree_check.specs.Gate.{tree_pool}
use Rattle.tree_pool.proofs.look.Goals as goal

pub returns-then-answer-ne0 : goal.returns-then-answer-ne0
returns-then-answer-ne0 c =
    let p = tree_pool c.args.head c.args.arena.now c.args.table.now in
    look_holds tree_engine p c.args.named c.args.arena c.args.placeholder c.args.placeholder.now
    c.find-answer.result c.find-answer.ensures c.if-answer-ne0.true

pub slice_bounds-result-end : goal.slice_bounds-result-end
slice_bounds-result-end c =
    let p = tree_pool c.args.head c.args.arena.now c.args.table.now in
    found_inside tree_engine tree_laws p c.args.named
    (ap (λ (x : Answer). x.number) (sym c.find-answer.ensures) ∙ c.if-answer-ne0.false)

pub returns : goal.returns
returns c =
    let p = tree_pool c.args.head c.args.arena.now c.args.table.now in
    rw (add-sub_cancel_left c.args.named.address c.args.named.words)
    (look_found tree_engine p c.args.named c.args.arena c.args.placeholder c.args.placeholder.now
    c.find-answer.result c.find-answer.ensures c.if-answer-ne0.false)
