-- What the code's tests and searches answer, by 01's numbers and acts, and the words of requests and answers by place.
-- Assumes nothing.
use Rattle.std.specs.Prelude.{ℕ, ◌+◌, ◌*◌, Bool, cond, eqb, get_or, set, Option, None, Some, Result, Ok, Err}
use Rattle.words.specs.Lists.{Words}
use Rattle.ledger.specs.declared.Row.{Row}
use Rattle.ledger.specs.Records.{is_party, record_at, records_of, same_block}
use Rattle.calls.specs.declared.Answer.{Answer}
use Rattle.calls.specs.Step.{Act, ask, give, bad, request}
use Rattle.calls.specs.declared.Refusal.{Refusal}
use Rattle.calls.specs.declared.Refusal.TheVariants.{UnknownTicket, Mismatch}
use Rattle.record_table.specs.Slots.{ticket_slot}
use Rattle.call_parts.specs.declared.Request.{Request}
use Rattle.call_parts.specs.declared.Request.TheVariants.{Ask, Give}

-- the number that stops a format, by its form, by whether its lent lengths are right, and by its first ticket (02,
-- tickets 3 and 2)
abbrev pub format_number : Bool → Bool → ℕ → ℕ
format_number known right first = cond known (cond right (cond (eqb first 0) 6 0) 8) 11

-- the number that stops a call of party c on a pool whose own number is n: 12 "directly after 1" (02, ticket 6)
abbrev pub with_party : ℕ → ℕ → ℕ
with_party n c = cond (eqb n 0) (cond (is_party c) 0 12) n

-- the slot of the record that is named, or 6, for another party's too, or 7
abbrev pub named_at : Words → Row → Option ℕ → Result ℕ Refusal
named_at t r None = Err UnknownTicket
named_at t r (Some i) =
    cond (eqb (record_at t i).party r.party) (cond (same_block (record_at t i) r) (Ok i) (Err Mismatch)) (Err UnknownTicket)

unfoldable pub named_in : Words → Row → Result ℕ Refusal
named_in t r = named_at t r (ticket_slot r.ticket (records_of t))

-- the act of a request, which may be none
abbrev pub act_of : Option Request → Act
act_of (Some (Ask c n)) = ask c n
act_of (Some (Give r)) = give r
act_of None = bad

-- request i of party c's list, and the answer buffer with answer i
abbrev pub request_at : ℕ → Words → ℕ → Act
request_at c rs i =
    request c (get_or rs (4 * i) 0) (get_or rs (4 * i + 1) 0) (get_or rs (4 * i + 2) 0) (get_or rs (4 * i + 3) 0)

abbrev pub with_answer : Words → ℕ → Answer → Words
with_answer b i x =
    set (set (set (set b (4 * i) x.number) (4 * i + 1) x.ticket) (4 * i + 2) x.address) (4 * i + 3) x.words
