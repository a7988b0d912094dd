-- The refusals of the code by their numbers: 01, "Calls and numbers", and for a party that is none 02, ticket 6. Assumes
-- nothing.
use Rattle.std.specs.Prelude.{ℕ, Result, Ok, Err}
use Rattle.calls.specs.declared.Refusal.{Refusal}
use Rattle.calls.specs.declared.Refusal.TheVariants.{Damaged, BadSize, NoRecord, NoTicket, NoRoom, UnknownTicket}
use Rattle.calls.specs.declared.Refusal.TheVariants.{Mismatch, BadLengths, BadRequest, UnknownForm, NoParty}

abbrev pub refusal_number : Refusal → ℕ
refusal_number Damaged = 1
refusal_number BadSize = 2
refusal_number NoRecord = 3
refusal_number NoTicket = 4
refusal_number NoRoom = 5
refusal_number UnknownTicket = 6
refusal_number Mismatch = 7
refusal_number BadLengths = 8
refusal_number BadRequest = 9
refusal_number UnknownForm = 11
refusal_number NoParty = 12

-- the number of what may be refused: 0 where it is not
abbrev pub number_in : {A : Type 0} → Result A Refusal → ℕ
number_in (Ok x) = 0
number_in (Err r) = refusal_number r
