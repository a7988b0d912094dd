-- An empty record joins with no units, and one that fits the whole units fits the arena.
use native.Mathlib.Nat.{mul-mod_right}
use native.Mathlib.Omega.{arith}
use mathlib.Core.Path.{◌≡◌, sym, ap, ◌∙◌}
use mathlib.Core.Bool.{true, false≢true}
use lib.ListN.{length}
use Rattle.ledger.specs.Records.{record_at, is_empty}
use Rattle.record_table.specs.Checks.{row_ok}
use Rattle.record_table.proofs.CheckLaws.{row_whole}
use Rattle.record_table.proofs.EnterLaws.{empty_joins, note_none, fit_row}
use Rattle.record_table.proofs.enter_row.Goals as goal

pub returns-then-is_empty-clause-joins : goal.returns-then-is_empty-clause-joins
returns-then-is_empty-clause-joins c =
    let a = c.args in
    let t = a.table.now in
    let (some, noted) = c.requires.seen_nonempty in
    let none : is_empty (record_at t a.i) ≡ true =
    ap is_empty (sym c.requires.unit_nonzero.3) ∙ sym c.is_empty.ensures ∙ c.if-is_empty.true in (
      omega arith,
      empty_joins a.rule a.words a.next t a.i none,
      note_none (length a.seen.now) a.seen.now t a.i noted none,
    )

pub may_enter-requires-clause-unit_nonzero : goal.may_enter-requires-clause-unit_nonzero
may_enter-requires-clause-unit_nonzero c =
    let (unit, words, i, is) = c.requires.unit_nonzero in
    (unit, mul-mod_right c.args.rule.unit c.whole_units.result, i, is)

pub returns-then-may_enter-clause-joins : goal.returns-then-may_enter-clause-joins
returns-then-may_enter-clause-joins c =
    let a = c.args in
    let whole = row_whole a.rule c.requires.unit_nonzero.0 a.words a.next (record_at a.table.now a.i) c.whole_units.result
    c.whole_units.ensures in
    let (joins, noted) = c.may_enter.ensures.joins c.if-may_enter.true in
    let live = sym c.is_empty.ensures ∙ c.if-is_empty.false in
    let ok = sym whole ∙ joins.0 in
    let (ticket, room) = fit_row a.rule c.requires.unit_nonzero.0 a.words a.next a.r live
    (ap (row_ok a.rule a.words a.next) c.requires.unit_nonzero.3 ∙ ok) in
    let units = c.span_of.ensures in
    (omega arith, (ok, joins.1, units ∙ joins.2), noted)

pub returns-else-may_enter-clause-accepts : goal.returns-else-may_enter-clause-accepts
returns-else-may_enter-clause-accepts c =
    let a = c.args in
    λ ok new. absurd (false≢true (sym c.if-may_enter.false ∙ c.may_enter.ensures.value
    (row_whole a.rule c.requires.unit_nonzero.0 a.words a.next (record_at a.table.now a.i) c.whole_units.result
    c.whole_units.ensures ∙ ok) new))
