-- The search of the table, then the comparison of party, address and words.
use Rattle.std.proofs.Common.{◌≡◌, ◌∙◌, sym, ap, eq-eqb, rules, Err}
use Rattle.calls.specs.declared.Refusal.TheVariants.{UnknownTicket}
use borrow.Author.Tests.{ne_eqb}
use Rattle.ledger.specs.declared.Row.{Row}
use Rattle.call_parts.proofs.NamedLaws.{named_missing, named_below, named_foreign, named_same, named_other}
use Rattle.call_parts.proofs.named_slot.Goals as goal

pub returns-in_err-i : goal.returns-in_err-i
returns-in_err-i c =
    let e : c.from_residual.result ≡ Err UnknownTicket = search rules in
    e ∙ named_missing c.args.table.now c.args.named (sym c.in_err-i.ensures.ok_part ∙ c.find_slot.ensures)

pub read_row-r-requires : goal.read_row-r-requires
read_row-r-requires c =
    named_below c.args.table.now c.args.named c.in_ok-i.i (sym c.in_ok-i.ensures.ok_part ∙ c.find_slot.ensures)

pub returns-then-r-named : goal.returns-then-r-named
returns-then-r-named c =
    let party = ap (λ (x : Row). x.party) c.read_row-r.ensures in
    named_foreign c.args.table.now c.args.named c.in_ok-i.i (sym c.in_ok-i.ensures.ok_part ∙ c.find_slot.ensures)
    (ne_eqb _ _ (λ q. c.if-r-named.true (party ∙ q)))

pub returns-then-r-named-2 : goal.returns-then-r-named-2
returns-then-r-named-2 c =
    let party = ap (λ (x : Row). x.party) c.read_row-r.ensures in
    named_same c.args.table.now c.args.named c.in_ok-i.i (sym c.in_ok-i.ensures.ok_part ∙ c.find_slot.ensures)
    (eq-eqb _ _ (sym party ∙ c.if-r-named.false)) (rw c.read_row-r.ensures at c.if-r-named-2.true)

pub returns-else-r-named-2 : goal.returns-else-r-named-2
returns-else-r-named-2 c =
    let party = ap (λ (x : Row). x.party) c.read_row-r.ensures in
    named_other c.args.table.now c.args.named c.in_ok-i.i (sym c.in_ok-i.ensures.ok_part ∙ c.find_slot.ensures)
    (eq-eqb _ _ (sym party ∙ c.if-r-named.false)) (rw c.read_row-r.ensures at c.if-r-named-2.false)
