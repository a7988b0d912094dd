-- `tree_pool::list` meets its contract: the form, row 8 of the list, the gate, then all requests. Assumes nothing.
use mathlib.Core.Path.{◌≡◌, ◌∙◌, sym, ap, refl}
use mathlib.Core.Bool.{true}
use mathlib.Core.List.{[], ◌∷◌}
use Rattle.calls.specs.Pool.{Pool}
use Rattle.calls.specs.Step.{list, list_suits}
use Rattle.calls.specs.Engines.{tree_engine}
use Rattle.call_parts.proofs.ResultLaws.{unknown_result, unsuited_result}
use Rattle.call_parts.proofs.ResultLaws.{list_result}
use Rattle.call_parts.specs.Results.{Result}
use Rattle.call_parts.proofs.WholeLists.{suited_lengths}
use Rattle.call_parts.specs.declared.Outcome.{Outcome}
use Rattle.tree_check.specs.declared.Head.{Head}
use Rattle.tree_check.specs.Gate.{tree_pool}
use Rattle.tree_requests.specs.Outcomes.{handed, refused_with}
use Rattle.tree_pool.proofs.StopLaws.{stops, passes}
use Rattle.tree_pool.proofs.list.Goals as goal
use Rattle.tree_pool.proofs.list.Goals.{Start, Else-not-list_suits}

-- the pool that the call is lent
abbrev lent : Start → Pool
lent s = tree_pool s.args.head s.args.arena.now s.args.table.now

-- a call that changes nothing
abbrev same : Start → Outcome Head → Result
same s o = handed o s.args.arena.now s.args.table.now (s.args.answers.now ∷ [])

-- past the second test the list suits
suits : (c : Else-not-list_suits) → list_suits c.args.asked.now c.args.answers.now ≡ true
suits c =
    sym c.list_suits.ensures ∙ c.if-not-list_suits.false

pub returns-then-not-is_form : goal.returns-then-not-is_form
unfolding tree_engine
returns-then-not-is_form c =
    let s = (goal.at.returns-then-not-is_form c).Start in
    let p = lent s in
    ap (same s) (c.refused_with.ensures ∙ ap (refused_with c.args.head) c.number.ensures)
    ∙ unknown_result tree_engine p c.args.party c.args.asked.now c.args.answers.now
    (sym c.is_form.ensures ∙ c.if-not-is_form.true)

pub returns-then-not-list_suits : goal.returns-then-not-list_suits
unfolding tree_engine
returns-then-not-list_suits c =
    let s = (goal.at.returns-then-not-list_suits c).Start in
    let p = lent s in
    ap (same s)
    (c.refused_with-then-not-list_suits.ensures ∙ ap (refused_with c.args.head) c.number-then-not-list_suits.ensures)
    ∙ unsuited_result tree_engine p c.args.party c.args.asked.now c.args.answers.now
    (sym c.is_form.ensures ∙ c.if-not-is_form.false)
    (sym c.list_suits.ensures ∙ c.if-not-list_suits.true)

pub returns-in-Err : goal.returns-in-Err
returns-in-Err c =
    stops c.args.head c.args.arena.now c.args.table.now c.args.party c.in-Err.why c.refused_with-in-Err.ensures
    c.number-in-Err.ensures c.in-Err.ensures (list c.args.party c.args.asked.now c.args.answers.now) refl
    (suits (goal.at.returns-in-Err c).Else-not-list_suits) refl

pub serve_all-after-requires : goal.serve_all-after-requires
serve_all-after-requires c =
    record {
      table_value = passes c.args.head c.args.arena.now c.args.table.now c.args.party c.in_default.ensures;
      asked_len = suited_lengths c.args.asked.now c.args.answers.now (suits (goal.at.serve_all-after-requires c).Else-not-list_suits);
    }

pub returns : goal.returns
returns c =
    let p = lent (goal.at.returns c).Start in
    let (ok, partied) = passes c.args.head c.args.arena.now c.args.table.now c.args.party c.in_default.ensures in
    list_result tree_engine p c.args.party c.args.asked.now c.args.answers.now (suits (goal.at.returns c).Else-not-list_suits) ok partied
    c.succeeded.result
    (tree_pool c.serve_all-after.result c.serve_all-after.new.arena c.serve_all-after.new.table)
    c.serve_all-after.new.answers c.succeeded.ensures c.serve_all-after.ensures
