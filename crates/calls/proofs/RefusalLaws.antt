-- A refusal's number is not 0, so a call whose number is 0 is not refused.
use Rattle.std.proofs.Common.{ap}
use Rattle.std.specs.Prelude.{◌≡◌, ◌≢◌, refl, false, eqb, Result, Ok, Err, IsOk, is_ok}
use Rattle.calls.specs.declared.Refusal.{Refusal}
use Rattle.calls.specs.declared.Refusal.TheVariants.{Damaged, BadSize, NoRecord, NoTicket, NoRoom, UnknownTicket}
use Rattle.calls.specs.declared.Refusal.TheVariants.{Mismatch, BadLengths, BadRequest, UnknownForm, NoParty}
use Rattle.calls.specs.Refusals.{refusal_number, number_in}

pub number_no_zero : (r : Refusal) → eqb (refusal_number r) 0 ≡ false
number_no_zero Damaged = refl
number_no_zero BadSize = refl
number_no_zero NoRecord = refl
number_no_zero NoTicket = refl
number_no_zero NoRoom = refl
number_no_zero UnknownTicket = refl
number_no_zero Mismatch = refl
number_no_zero BadLengths = refl
number_no_zero BadRequest = refl
number_no_zero UnknownForm = refl
number_no_zero NoParty = refl

pub number_nonzero : (r : Refusal) → refusal_number r ≢ 0
number_nonzero r e = absurd (cc (number_no_zero r, ap (λ n. eqb n 0) e))

-- the test by which the machine goes on is whether the code's answer is Ok
pub zero_ok : {A : Type 0} (x : Result A Refusal) → eqb (number_in x) 0 ≡ is_ok x
zero_ok (Ok x) = refl
zero_ok (Err r) = number_no_zero r

pub ok_from_zero : {A : Type 0} (x : Result A Refusal) → number_in x ≡ 0 → IsOk x
ok_from_zero (Ok x) e = refl
ok_from_zero (Err r) e = absurd (number_nonzero r e)
