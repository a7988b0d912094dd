-- `tree_check::is_shown_over` meets its contract, from what the map, the walk and the last two tests say. Assumes
-- nothing.
use native.Mathlib.Omega.{arith}
use mathlib.Core.Path.{◌∙◌, sym}
use mathlib.Core.Bool.{false≢true}
use Rattle.stored_forms.specs.Tree.{form_of}
use Rattle.std.proofs.lemmas.Option.{none-some}
use Rattle.tree_check.proofs.StoredLaws.{cells_low, cells_few, tree_met, both_say, limit_is}
use Rattle.tree_check.proofs.is_shown_over.Goals as goal

pub returns-in_default-walk_all : goal.returns-in_default-walk_all
returns-in_default-walk_all c = (
  λ e. absurd (false≢true e),
  λ shown.
      let a = c.args in
      let w = c.walk_all in
      let meets = limit_is (form_of a.head.form) a.arena.now _ _ a.head.root c.cell_count-count.ensures
      c.slot_count-allowed.ensures _ w.ensures.meets in
      absurd (none-some _ (sym c.in_default-walk_all.is
      ∙ tree_met a.head a.arena.now c.requires.linked.2 _ _ _ c.in-Some.ensures.mapped.1 shown _ meets)),
)

pub overflow_mul-known : goal.overflow_mul-known
overflow_mul-known c =
    let few = c.in-Some.ensures.mapped.0 in
    let words = c.requires.linked.1 in
    omega (arith, cells_few c.args.head.form c.in-Some.held _ (omega arith) c.cells_per_unit.ensures)

pub overflow_add-known : goal.overflow_add-known
overflow_add-known c =
    let found = c.in-Some-walk_all.ensures.walked in
    let free = found.few in
    let inside = found.inside in
    let few = c.in-Some.ensures.mapped.0 in
    let words = c.requires.linked.1 in
    omega (
      arith,
      cells_low (form_of c.args.head.form) c.args.arena.now c.requires.linked,
      cells_few c.args.head.form c.in-Some.held _ (omega arith) c.cells_per_unit.ensures,
    )

pub returns : goal.returns
returns c =
    let a = c.args in
    let is = c.cell_count-count.ensures in
    let w = c.in-Some-walk_all in
    both_say a.head a.arena.now c.requires.linked.2 a.table.now c.leads_to.result is
    c.cells_per_unit.ensures c.in-Some.ensures.mapped.1 w.ensures.walked
    (limit_is (form_of a.head.form) a.arena.now _ _ a.head.root is c.slot_count-allowed.ensures _ w.ensures.meets)
    c.leads_to.ensures
