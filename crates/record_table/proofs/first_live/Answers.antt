-- Slot 0 is not live, and the first live slot from 1 on is the lowest.
use Rattle.std.proofs.Common.{◌≡◌, true, false, not, rules, arith, sym, ap, ◌∙◌}
use Rattle.std.proofs.lemmas.Iterator.{first_from_Range}
use Rattle.ledger.specs.Records.{record_at, is_live}
use Rattle.record_table.proofs.SlotLaws.{slot_reached}
use Rattle.record_table.proofs.first_live.Goals as goal

pub returns : goal.returns
returns c =
    let t = c.args.table.now in
    let off : is_live (record_at t 0) ≡ false =
    ap is_live (sym c.read_row.ensures) ∙ ap not (sym c.is_empty.ensures ∙ c.if-not-is_empty.false) in
    rw c.unwrap_or.ensures
    (slot_reached is_live t 1 c.slot_count-n.result c.slot_count-n.ensures
    (λ j h. let z : j ≡ 0 = omega arith in ap (λ n. is_live (record_at t n)) z ∙ off) c.find.result
    (first_from_Range _ _ _ _ (λ k. is_live (record_at t k) ≡ true) (λ k. is_live (record_at t k) ≡ false)
    c.find.ensures.ran (λ k q e. search rules) (λ k q e. (search rules, search rules))))
