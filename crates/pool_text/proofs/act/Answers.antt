-- `pool_text::act` meets its contract: each kind of request is its act. Assumes nothing.
use mathlib.Core.Path.{refl, sym, ap, ◌∙◌}
use Rattle.std.specs.Prelude.{Option}
use Rattle.ledger.specs.Records.{is_party}
use Rattle.calls.specs.Step.{bad}
use Rattle.calls.specs.Engines.{tree_engine}
use Rattle.call_parts.specs.Results.{acted}
use Rattle.session.specs.declared.LineRequest.{LineRequest}
use Rattle.session.specs.Meaning.{act_of}
use Rattle.call_parts.proofs.WholeLists.{bad_refused}
use Rattle.tree_check.specs.Gate.{tree_pool}
use Rattle.tree_requests.proofs.RefusedLaws.{refused_acted}
use Rattle.pool_text.proofs.act.Goals as goal

pub grant-done-requires : goal.grant-done-requires
unfolding is_party
grant-done-requires c = (c.requires, refl)

pub returns-in-None : goal.returns-in-None
returns-in-None c =
    let a = c.args.arena.now in
    let t = c.args.table.now in
    refused_acted c.args.head a t bad c.refused_with.result 9 c.refused_with.ensures
    (bad_refused tree_engine (tree_pool c.args.head a t))
    ∙ ap (λ (x : Option LineRequest). acted tree_engine (act_of x) (tree_pool c.args.head a t)) (sym c.in-None.is)
