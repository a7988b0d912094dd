-- `segment_pool::look` meets its contract: the part that the answer of find names, or the placeholder. Assumes nothing.
use Prim.Native.Nat.{ℕ, ◌+◌, ◌≤◌}
use mathlib.Core.Path.{◌∙◌, sym, ap, subst}
use lib.ListN.{length-map}
use mir.Syntax.{w32}
use mir.Val.{of_z}
use native.Mathlib.Nat.{add-sub_cancel_left}
use Rattle.calls.specs.declared.Answer.{Answer}
use Rattle.calls.specs.Engines.{segment_engine}
use Rattle.calls.proofs.Engines.{segment_laws}
use Rattle.call_parts.proofs.FindLaws.{found_inside}
use Rattle.segment_check.specs.Gate.{as_words, segment_pool}
use Rattle.call_parts.proofs.LookLaws.{look_holds, look_found}
use Rattle.segment_pool.proofs.look.Goals as goal

pub returns-then-number-ne0 : goal.returns-then-number-ne0
returns-then-number-ne0 c =
    let p = segment_pool c.args.s c.args.head c.args.arena.now c.args.table.now
    c.args.index.now in
    look_holds segment_engine p c.args.named c.args.arena c.args.placeholder
    (as_words c.args.placeholder.now) c.find-answer.result c.find-answer.ensures c.if-number-ne0.true

pub slice_bounds-result-end : goal.slice_bounds-result-end
slice_bounds-result-end c =
    let p = segment_pool c.args.s c.args.head c.args.arena.now c.args.table.now
    c.args.index.now in
    subst (λ (m : ℕ). c.args.named.address + c.args.named.words ≤ m) (length-map c.args.arena.now (of_z w32))
    (found_inside segment_engine segment_laws p c.args.named
    (ap (λ (x : Answer). x.number) (sym c.find-answer.ensures) ∙ c.if-number-ne0.false))

pub returns : goal.returns
returns c =
    let p = segment_pool c.args.s c.args.head c.args.arena.now c.args.table.now
    c.args.index.now in
    rw (add-sub_cancel_left c.args.named.address c.args.named.words)
    (look_found segment_engine p c.args.named c.args.arena c.args.placeholder
    (as_words c.args.placeholder.now) c.find-answer.result c.find-answer.ensures c.if-number-ne0.false)
