-- `tree_pool::allocate` meets its contract: the gate, then one act, and the outcome of its effect. Assumes nothing.
use mathlib.Core.Path.{refl, ap, ◌∙◌}
use mathlib.Core.List.{[]}
use Rattle.calls.specs.Step.{allocate, ask}
use Rattle.calls.specs.Engines.{tree_engine}
use Rattle.tree_check.specs.Gate.{tree_pool}
use Rattle.tree_requests.specs.Outcomes.{handed}
use Rattle.call_parts.proofs.ResultLaws.{single_result}
use Rattle.call_parts.specs.declared.Outcome.{Outcome}
use Rattle.tree_check.specs.declared.Head.{Head}
use Rattle.tree_pool.proofs.StopLaws.{stops, passes}
use Rattle.tree_pool.proofs.allocate.Goals as goal

pub returns-in-Err : goal.returns-in-Err
returns-in-Err c =
    stops c.args.head c.args.arena.now c.args.table.now c.args.party c.in-Err.why c.refused_with.ensures
    c.number.ensures c.in-Err.ensures (allocate c.args.party c.args.words) refl refl refl

pub grant-done-requires : goal.grant-done-requires
grant-done-requires c =
    passes c.args.head c.args.arena.now c.args.table.now c.args.party c.in_default.ensures

pub returns : goal.returns
returns c =
    let p = tree_pool c.args.head c.args.arena.now c.args.table.now in
    let (ok, partied) = passes c.args.head c.args.arena.now c.args.table.now c.args.party c.in_default.ensures in
    ap (λ (o : Outcome Head). handed o c.grant-done.new.arena c.grant-done.new.table [])
    c.outcome_of_grant.ensures
    ∙ c.grant-done.ensures ∙ single_result tree_engine (ask c.args.party c.args.words) p ok partied
