-- `tree_pool::trim` meets its contract: the gate, then one act, and the outcome of its effect. Assumes nothing.
use mathlib.Core.Path.{refl, ap, ◌∙◌}
use mathlib.Core.List.{[]}
use Rattle.ledger.specs.declared.Row.{Row}
use Rattle.calls.specs.Step.{trim, cut}
use Rattle.calls.specs.Engines.{tree_engine}
use Rattle.tree_check.specs.Gate.{tree_pool}
use Rattle.tree_requests.specs.Outcomes.{handed, release_outcome}
use Rattle.call_parts.proofs.ResultLaws.{single_result}
use Rattle.call_parts.specs.declared.Outcome.{Outcome}
use Rattle.tree_check.specs.declared.Head.{Head}
use Rattle.tree_pool.proofs.StopLaws.{stops, passes}
use Rattle.tree_pool.proofs.trim.Goals as goal

pub returns-in-Err : goal.returns-in-Err
returns-in-Err c =
    stops c.args.head c.args.arena.now c.args.table.now c.args.named.party c.in-Err.why c.refused_with.ensures
    c.number.ensures c.in-Err.ensures (trim c.args.named c.args.keep) refl refl refl

pub trim-done-requires : goal.trim-done-requires
trim-done-requires c =
    (passes c.args.head c.args.arena.now c.args.table.now c.args.named.party c.in_default.ensures).0

pub returns : goal.returns
returns c =
    let p = tree_pool c.args.head c.args.arena.now c.args.table.now in
    let (ok, partied) = passes c.args.head c.args.arena.now c.args.table.now c.args.named.party c.in_default.ensures in
    ap (λ (o : Outcome Head). handed o c.trim-done.new.arena c.trim-done.new.table [])
    (c.outcome_of_release.ensures
    ∙ ap (λ (r : Row). release_outcome c.args.head r c.trim-done.result) c.shortened-kept.ensures)
    ∙ c.trim-done.ensures ∙ single_result tree_engine (cut c.args.named c.args.keep) p ok partied
