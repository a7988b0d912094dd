-- The slots that were passed have a ticket, and the first empty one from there on is the lowest.
use Rattle.std.proofs.Common.{◌≡◌, true, false, rules, arith}
use Rattle.std.proofs.lemmas.Iterator.{first_from_Range}
use Rattle.ledger.specs.Records.{record_at, is_empty}
use Rattle.record_table.specs.Slots.{empty_slot}
use Rattle.record_table.proofs.SlotLaws.{slot_found, without_empty}
use Rattle.record_table.proofs.empty_slot.Goals as goal

pub returns : goal.returns
unfolding empty_slot
returns c =
    let t = c.args.table.now in
    slot_found is_empty t c.passed-i.result c.slot_count.result c.slot_count.ensures
    (λ j h. without_empty t 0 c.passed-i.result c.passed-i.ensures.1 j (omega arith) h) c.find.result
    (first_from_Range _ _ _ _ (λ k. is_empty (record_at t k) ≡ true) (λ k. is_empty (record_at t k) ≡ false)
    c.find.ensures.ran (λ k q e. search rules) (λ k q e. (search rules, search rules)))
