-- The slots that a search of the table finds. Assumes nothing.
use Rattle.std.specs.Prelude.{ℕ, ◌≤◌, ◌<◌, Bool, true, false, ◌≡◌, ◌≢◌, length, get_or, Option, None, Some}
use Rattle.std.proofs.Math.Option as maybe
use Rattle.std.proofs.Math.Option.{none, some}
use Rattle.words.specs.Counted.{lowest}
use Rattle.words.specs.Lists.{Words}
use Rattle.ledger.specs.declared.Row.{Row}
use Rattle.ledger.specs.Records.{Ledger, empty_row, record_at, slots, is_empty, has_ticket}

-- a slot that may be missing, as the code's Option
abbrev pub found : maybe.Option ℕ → Option ℕ
found none = None
found (some i) = Some i

-- slot i holds a record with this ticket; slot i is empty
abbrev pub ticket_at : ℕ → Ledger → ℕ → Bool
ticket_at t L i = has_ticket t (get_or L i empty_row)

abbrev pub empty_at : Ledger → ℕ → Bool
empty_at L i = is_empty (get_or L i empty_row)

-- the lowest slot with this ticket, none for ticket 0
unfoldable pub ticket_slot : ℕ → Ledger → Option ℕ
ticket_slot t L = found (lowest (ticket_at t L) 0 (length L))

-- the lowest empty slot
unfoldable pub empty_slot : Ledger → Option ℕ
empty_slot L = found (lowest (empty_at L) 0 (length L))

-- no ticket from slot i up to slot e is x
abbrev pub Without : Words → ℕ → ℕ → ℕ → Type 0
Without t x i e = (j : ℕ) → i ≤ j → j < e → (record_at t j).ticket ≢ x

-- k is the lowest slot that passes from slot i on, or the number of slots
pub record Reached (f : Row → Bool) (t : Words) (i k : ℕ) : Type 0 where
  pub above : i ≤ k
  pub below : k ≤ slots t
  pub passed : (j : ℕ) → i ≤ j → j < k → f (record_at t j) ≡ false
  pub here : k < slots t → f (record_at t k) ≡ true
