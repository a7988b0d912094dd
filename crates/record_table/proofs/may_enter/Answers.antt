-- A record that fits has a ticket.
use mathlib.Core.Path.{sym, ap, ◌∙◌}
use Rattle.ledger.specs.declared.Row.{Row}
use Rattle.record_table.proofs.EnterLaws.{fit_row}
use Rattle.record_table.proofs.may_enter.Goals as goal

pub is_new-requires-clause-i_bound : goal.is_new-requires-clause-i_bound
is_new-requires-clause-i_bound c =
    let a = c.args in
    let good = sym c.live_fits.ensures ∙ c.if-not-live_fits.false in
    let (live, room) = fit_row a.rule c.requires.unit_nonzero.0 a.words a.next a.r c.requires.r_value
    (rw c.requires.r_value good) in
    (c.requires.unit_nonzero.2, ap (λ (r : Row). r.ticket) c.requires.unit_nonzero.3, live)
