-- `tree_check::gate` meets its contract, by the test that led to each refusal. Assumes nothing.
use mathlib.Core.Path.{◌∙◌, refl, sym}
use Rattle.calls.specs.Engines.{tree_engine}
use Rattle.calls.proofs.GateLaws.{is_eleven, is_eight, is_one, is_zero}
use Rattle.tree_check.specs.Gate.{tree_pool}
use Rattle.tree_check.proofs.gate.Goals as goal

pub returns-then-not-is_form : goal.returns-then-not-is_form
unfolding tree_engine
returns-then-not-is_form c =
    is_eleven tree_engine (tree_pool c.args.head c.args.arena.now c.args.table.now)
    (sym c.is_form.ensures ∙ c.if-not-is_form.true)

pub returns-then-not-right_lengths : goal.returns-then-not-right_lengths
unfolding tree_engine
returns-then-not-right_lengths c =
    -- the form is known
    let known = sym c.is_form.ensures ∙ c.if-not-is_form.false in
    let bad = sym (c.right_lengths.ensures c.args.head refl) ∙ c.if-not-right_lengths.true in
    is_eight tree_engine (tree_pool c.args.head c.args.arena.now c.args.table.now) known bad

-- the lengths are right
pub returns-then-not-is_stored : goal.returns-then-not-is_stored
returns-then-not-is_stored c =
    let right = sym (c.right_lengths.ensures c.args.head refl) ∙ c.if-not-right_lengths.false in
    let bad = sym c.is_stored.ensures ∙ c.if-not-is_stored.true in
    is_one tree_engine (tree_pool c.args.head c.args.arena.now c.args.table.now) right bad

pub returns : goal.returns
returns c =
    let right = sym (c.right_lengths.ensures c.args.head refl) ∙ c.if-not-right_lengths.false in
    let good = sym c.is_stored.ensures ∙ c.if-not-is_stored.false in
    is_zero tree_engine (tree_pool c.args.head c.args.arena.now c.args.table.now) right good
