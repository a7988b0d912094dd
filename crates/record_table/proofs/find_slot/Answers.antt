-- The slots that were passed don't have the ticket, and the first that has it from there on is the lowest.
use Rattle.std.proofs.Common.{◌≡◌, true, false, rules, arith, tests}
use Rattle.std.proofs.lemmas.Iterator.{first_from_Range}
use Rattle.ledger.specs.Records.{record_at, records_of, has_ticket}
use Rattle.record_table.specs.Slots.{ticket_slot}
use Rattle.record_table.proofs.SlotLaws.{slot_found, ticket_zero, has_same, has_other}
use Rattle.record_table.proofs.find_slot.Goals as goal

pub returns-then-ticket-eq0 : goal.returns-then-ticket-eq0
returns-then-ticket-eq0 c = ticket_zero c.args.ticket (records_of c.args.table.now) c.if-ticket-eq0.true

pub returns : goal.returns
unfolding ticket_slot
returns c =
    let t = c.args.table.now in
    let x = c.args.ticket in
    slot_found (has_ticket x) t c.passed-i.result c.slot_count.result c.slot_count.ensures
    (λ j h. has_other x (record_at t j) (c.passed-i.ensures.1 j (omega arith) h)) c.find.result
    (first_from_Range _ _ _ _ (λ k. has_ticket x (record_at t k) ≡ true) (λ k. has_ticket x (record_at t k) ≡ false)
    c.find.ensures.ran (λ k q e. has_same x (record_at t k) (search rules) (grind (arith, tests)))
    (λ k q e. (search rules, has_other x (record_at t k) (grind (arith, tests)))))
