-- `tree_pool::format` meets its contract: a wiped arena with one node, and a wiped table, are the stored form of the
-- ledger with no record. Assumes nothing.
use native.Mathlib.Omega.{arith}
use native.Mathlib.Nat.{div-le_self}
use mathlib.Core.Path.{◌≡◌, refl, ap, subst₂, ◌∙◌}
use Prim.Native.Nat.{ℕ, ◌/◌}
use lib.ListN.{length, length-replicate}
use Rattle.words.specs.Lists.{Words}
use mathlib.Core.Bool.{Bool}
use Rattle.stored_forms.specs.Tree.{form_of, is_form}
use Rattle.tree_nodes.specs.Nodes.{NodePut}
use Rattle.tree_nodes.proofs.FormLaws.{link_zero}
use Rattle.calls.specs.Engines.{tree_engine}
use Rattle.calls.specs.Refusals.{refusal_number}
use Rattle.calls.proofs.RefusalLaws.{number_nonzero}
use Rattle.tree_check.specs.Gate.{tree_pool, no_head}
use Rattle.tree_requests.specs.Outcomes.{refused_with}
use Rattle.tree_check.proofs.GateLaws.{InRange, all_linked}
use Rattle.call_parts.proofs.FormatLaws.{format_result}
use Rattle.tree_pool.proofs.FormatLaws.{head_refused, blank_pool_lem, fit, blank_inside}
use Rattle.tree_pool.proofs.format.Goals as goal
use Rattle.tree_pool.proofs.format.Goals.{In_default}

-- the first test is the machine's
known : (form : ℕ) {b : Bool} → b ≡ is_form form → b ≡ tree_engine.known form
unfolding tree_engine
known form e = e

-- past the tests the lengths are right
fits : (c : In_default) → InRange (form_of c.args.form) c.args.arena.now c.args.table.now
fits c =
    let right = c.right_lengths-right in
    let a = c.args in
    fit a.form a.arena.now a.table.now a.first c.is_form.result (known a.form c.is_form.ensures) right.result
    (right.ensures (no_head a.form) refl) 0 c.in_default.ensures refl

pub returns-in-Err : goal.returns-in-Err
returns-in-Err c =
    let right = c.right_lengths-right in
    let why = c.in-Err.why in
    head_refused c.args.form c.args.arena.now c.args.table.now c.args.first c.is_form.result
    (known c.args.form c.is_form.ensures) right.result (right.ensures (no_head c.args.form) refl) (refusal_number why)
    c.in-Err.ensures c.refused_with.result (number_nonzero why)
    (c.refused_with.ensures ∙ ap (refused_with (no_head 0)) c.number.ensures)

pub overflow_cast-cells : goal.overflow_cast-cells
overflow_cast-cells c =
    let right = fits (goal.at.overflow_cast-cells c).In_default in
    let W = length c.args.arena.now in
    omega (
      arith,
      c.cell_count-cells.ensures,
      div-le_self W (form_of c.args.form).cell,
      (all_linked c.args.form c.args.arena.now right.most right.whole).1,
    )

pub put_node-requires : goal.put_node-requires
put_node-requires c =
    let f = c.args.form in
    let long : length c.fill.new.s ≡ length c.args.arena.now =
    ap length c.fill.ensures ∙ length-replicate (length c.args.arena.now) 0 in
    let some = blank_inside f (length c.args.arena.now) (fits (goal.at.put_node-requires c).In_default).some in
    record {
      c_bound = omega (arith, some, ap (λ (x : ℕ). x / (form_of f).cell) long);
      l_bound = (link_zero f, link_zero f);
    }

pub returns : goal.returns
returns c =
    let right = c.right_lengths-right in
    let form = c.args.form in
    let first = c.args.first in
    let a = c.args.arena.now in
    let t = c.args.table.now in
    format_result tree_engine (tree_pool (no_head form) a t) first c.is_form.result (known c.args.form c.is_form.ensures) right.result
    (right.ensures (no_head form) refl) 0 c.in_default.ensures refl c.succeeded.result
    (tree_pool (record { root = 1; next = first; form = form }) c.put_node.new.arena c.fill-2.new.s)
    c.succeeded.ensures
    (blank_pool_lem form a t first c.is_form.result (known c.args.form c.is_form.ensures) right.result (right.ensures (no_head form) refl)
    0 c.in_default.ensures refl c.put_node.new.arena c.fill-2.new.s
    (subst₂ (λ (m : Words) (x : ℕ). NodePut (form_of form) m c.put_node.new.arena 0 x 0 0)
    c.fill.ensures c.cell_count-cells.ensures c.put_node.ensures)
    c.fill-2.ensures)
