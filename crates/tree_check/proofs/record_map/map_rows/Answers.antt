-- `tree_check::record_map::map_rows` meets its contract: before slot i the earlier ones are entered and in the map.
-- Assumes nothing.
use Prim.Native.Nat.{ℕ, ◌+◌, ◌*◌, ◌/◌, ◌%◌, ◌<◌}
use native.Mathlib.Nat.{div-le_self}
use native.Mathlib.Omega.{arith}
use mathlib.Core.Path.{◌≡◌, ◌∙◌, sym, ap, subst}
use mathlib.Core.Bool.{true, false≢true}
use Rattle.ledger.specs.Records.{slots, record_at, records_of, is_empty}
use Rattle.ledger.specs.declared.Row.{Row}
use Rattle.ledger.specs.declared.Rule.{Rule}
use Rattle.ledger.specs.Units.{first, valid}
use Rattle.stored_forms.specs.Tree.{form_of, form_rule}
use Rattle.stored_forms.proofs.NodeLaws.{form_unit}
use Rattle.record_table.specs.Partition.{Joins, Noted}
use Rattle.record_table.proofs.PartitionLaws.{valid_row, valid_new}
use Rattle.record_table.proofs.EnterLaws.{enter_next}
use Rattle.tree_check.specs.Maps.{Grows}
use Rattle.tree_check.proofs.MapLaws.{map_start, map_next, map_skip, map_pass, map_end, units_inside, rows_few}
use Rattle.tree_check.proofs.MapLaws.{some_units, some_cells, units_cells}
use Rattle.tree_check.proofs.record_map.map_rows.Goals as goal

-- the rule's unit has words
some_unit : (f : ℕ) (ρ : Rule) → ρ ≡ form_rule (form_of f) → 0 < ρ.unit
some_unit f ρ is = subst (λ (ρ : Rule). 0 < ρ.unit) (sym is) (form_unit f)

pub loop-i-init : goal.loop-i-init
loop-i-init c =
    let unit = some_unit c.args.form _ c.rule_of-rule.ensures in
    let per = some_cells c.args.form _ c.cells_per_unit-per.ensures in
    let reached = c.first_live-first.ensures in
    map_pass unit per (map_start c.args.map.now c.args.seen.now c.requires.map_value.0 c.requires.table_bound_2.0)
    c.first_live-first.result reached.below reached.passed

pub loop-i-preserved-then-is_empty : goal.loop-i-preserved-then-is_empty
loop-i-preserved-then-is_empty c =
    let l = c.loop-i in
    let unit = some_unit c.args.form _ c.rule_of-rule.ensures in
    let per = some_cells c.args.form _ c.cells_per_unit-per.ensures in
    let none = ap is_empty (sym c.read_row-r.ensures) ∙ sym c.is_empty.ensures ∙ c.if-is_empty.true in
    map_skip unit per l.invariant (omega (arith, c.loop-i-test.true, c.slot_count-count.ensures)) none

pub may_enter-requires-clause-unit_nonzero : goal.may_enter-requires-clause-unit_nonzero
may_enter-requires-clause-unit_nonzero c =
    let is = c.rule_of-rule.ensures in
    let whole = subst (λ (ρ : Rule). c.args.words % ρ.unit ≡ 0) (sym is) c.requires.table_bound_2.1 in (
      some_unit c.args.form _ is,
      whole,
      omega (arith, c.loop-i-test.true, c.slot_count-count.ensures),
      c.read_row-r.ensures,
    )

pub may_enter-requires-clause-seen_nonempty : goal.may_enter-requires-clause-seen_nonempty
may_enter-requires-clause-seen_nonempty c =
    let l = c.loop-i in (
      omega (arith, l.auto.seen, c.requires.map_value.1),
      subst (λ m. Noted m l.seen c.args.table.now l.i) (sym l.auto.seen) l.invariant.residues,
    )

pub returns-then-not-may_enter-clause-found : goal.returns-then-not-may_enter-clause-found
returns-then-not-may_enter-clause-found c right =
    let l = c.loop-i in
    let ρ = c.rule_of-rule.result in
    let is = c.rule_of-rule.ensures in
    let unit = some_unit c.args.form _ is in
    let a = c.args in
    let good = subst (λ (ρ : Rule). valid ρ a.words a.next (records_of a.table.now) ≡ true) (sym is) right in
    let in_table : l.i < slots a.table.now = omega (arith, c.loop-i-test.true, c.slot_count-count.ensures) in
    absurd (false≢true (sym c.if-not-may_enter.true ∙ c.may_enter.ensures.value
    (valid_row ρ unit a.words a.next a.table.now good l.i in_table)
    (valid_new ρ unit a.words a.next a.table.now good l.i in_table)))

pub span_of-n-requires : goal.span_of-n-requires
span_of-n-requires c =
    some_unit c.args.form _ c.rule_of-rule.ensures

pub returns-then-words-held-clause-found : goal.returns-then-words-held-clause-found
returns-then-words-held-clause-found c right =
    let l = c.loop-i in
    let ρ = c.rule_of-rule.result in
    let is = c.rule_of-rule.ensures in
    let unit = some_unit c.args.form _ is in
    let a = c.args in
    let good = subst (λ (ρ : Rule). valid ρ a.words a.next (records_of a.table.now) ≡ true) (sym is) right in
    let in_table : l.i < slots a.table.now = omega (arith, c.loop-i-test.true, c.slot_count-count.ensures) in
    let few = l.invariant.few in
    let units = c.span_of-n.ensures in
    let joins = (c.may_enter.ensures.joins c.if-not-may_enter.false).0 in
    let both = rows_few ρ unit a.words a.next a.table.now good (omega arith)
    (enter_next ρ a.words a.next a.table.now l.i l.held _ l.invariant.entered joins) in
    absurd (omega arith)

-- the record's units
pub note_row-requires : goal.note_row-requires
note_row-requires c =
    let l = c.loop-i in
    let each = c.cells_per_unit-per.ensures in
    let ρ = c.rule_of-rule.result in
    let is = c.rule_of-rule.ensures in
    let form = c.args.form in
    let words = c.args.words in
    let next = c.args.next in
    let table = c.args.table.now in
    let units = c.span_of-n.result in
    let unit = some_unit form _ is in
    let r = record_at table l.i in
    let same_row = ap is_empty (sym c.read_row-r.ensures) in
    let live = same_row ∙ sym c.is_empty.ensures ∙ c.if-is_empty.false in
    let joins = subst (Joins ρ words next table l.i) (sym c.span_of-n.ensures)
    (c.may_enter.ensures.joins c.if-not-may_enter.false).0 in
    let some = some_units ρ unit words next table l.i units live joins in
    let same = ap (λ (σ : Rule). words / σ.unit) is in
    let inside = units_inside ρ unit words next r units (λ z. omega arith) joins.0 joins.2 in
    let most = c.requires.table_bound in
    let low = div-le_self words (form_of form).cell in
    let room = units_cells form words (first ρ r) units c.cells_per_unit-per.result each (omega arith) in record {
      unit_nonzero = (unit, some_cells form _ each, some);
      per_bound = rw c.read_row-r.ensures (omega arith, λ bytes. omega (arith, most.2 (rw l.auto.map at bytes)));
    }

pub loop-i-preserved : goal.loop-i-preserved
loop-i-preserved c =
    let few = c.if-words-held.false in
    let l = c.loop-i in
    let ρ = c.rule_of-rule.result in
    let unit = some_unit c.args.form _ c.rule_of-rule.ensures in
    let per = some_cells c.args.form _ c.cells_per_unit-per.ensures in
    let low = l.invariant.few in
    let units = c.span_of-n.result in
    let each = c.cells_per_unit-per.result in
    let map = c.note_row.new.map in
    let (owns, residues) = c.may_enter.ensures.joins c.if-not-may_enter.false in
    let joins = subst (Joins ρ c.args.words c.args.next c.args.table.now l.i)
    (sym c.span_of-n.ensures) owns in
    let grown = subst (λ (x : Row). Grows l.map map (first ρ x * each) (units * each)) c.read_row-r.ensures
    c.note_row.ensures in
    map_next unit per units map c.may_enter.new.seen l.invariant
    (omega (arith, c.loop-i-test.true, c.slot_count-count.ensures)) (omega arith) joins
    (subst (λ m. Noted m c.may_enter.new.seen c.args.table.now (l.i + 1)) l.auto.seen residues) c.note_row.auto.map grown

pub returns-clause-mapped : goal.returns-clause-mapped
returns-clause-mapped c =
    let l = c.loop-i in
    let a = c.args in
    let mapped = map_end l.invariant (omega (arith, c.loop-i-test.false, c.slot_count-count.ensures)) in (
      l.invariant.few,
      rw (sym c.rule_of-rule.ensures, sym c.cells_per_unit-per.ensures) mapped,
    )
