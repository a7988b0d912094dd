-- `pool_text::row_of` meets its contract: a line that is no request is answered 9. Assumes nothing.
use Rattle.std.proofs.Common.{sym, ap, ◌∙◌}
use Rattle.std.specs.Prelude.{Option}
use Rattle.calls.specs.Step.{answer_to}
use Rattle.calls.specs.Engines.{tree_engine}
use Rattle.call_parts.proofs.WholeLists.{bad_refused}
use Rattle.tree_check.specs.Gate.{tree_pool}
use Rattle.session.specs.declared.LineRequest.{LineRequest}
use Rattle.session.specs.Meaning.{act_of}
use Rattle.pool_text.proofs.row_of.Goals as goal

pub returns-in_default : goal.returns-in_default
returns-in_default c =
    let h = c.args.head in
    let a = c.args.arena.now in
    let t = c.args.table.now in
    sym (bad_refused tree_engine (tree_pool h a t)).0
    ∙ ap (λ (q : Option LineRequest). answer_to tree_engine (tree_pool h a t) (act_of q)) (sym c.in_default.is)
