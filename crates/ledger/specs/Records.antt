-- Records in the slots of the table, and the changes of a ledger. 01, "The ledger" and "Stored form of the tree pool";
-- their party: 02, ticket 6; a trim: ticket 13. Assumes nothing.
use Rattle.std.specs.Prelude.{ℕ, ◌+◌, ◌*◌, ◌/◌, Bool, true, cond, not, ◌&&◌, List, [], ◌∷◌, ◌++◌, map, eqb, leb, length, get_or}
use Rattle.std.proofs.Math.Option.{Option, none, some}
use Rattle.words.specs.Lists.{Words, all, first_that, list_from}
use Rattle.ledger.specs.declared.Row.{Row}

-- A record is ticket, address in words, words asked, party: the code's struct `Row`.
abbrev pub row : ℕ → ℕ → ℕ → ℕ → Row
row t a w c = record { ticket = t; address = a; words = w; party = c }

-- "the party, 1 to 255"
unfoldable pub is_party : ℕ → Bool
is_party c = leb 1 c && leb c 255

-- The ledger's records, slot by slot.
abbrev pub Ledger : Type 0
Ledger = List Row

-- Words to a record, and how a record lies in them; every other definition goes by these.
abbrev pub record_words : ℕ
record_words = 4

abbrev pub record_at : Words → ℕ → Row
record_at t i =
    row (get_or t (record_words * i) 0) (get_or t (record_words * i + 1) 0) (get_or t (record_words * i + 2) 0)
    (get_or t (record_words * i + 3) 0)

abbrev pub row_words : Row → Words
row_words r = r.ticket ∷ r.address ∷ r.words ∷ r.party ∷ []

-- the slots of a table, its records, and the table of some records
abbrev pub slots : Words → ℕ
slots t = length t / record_words

unfoldable pub records_of : Words → Ledger
records_of t = list_from (record_at t) 0 (slots t)

abbrev pub table_of : Ledger → Words
table_of [] = []
table_of (r ∷ L) = row_words r ++ table_of L

-- An empty record is all zeros; every other record is live.
abbrev pub empty_row : Row
empty_row = row 0 0 0 0

abbrev pub is_empty : Row → Bool
is_empty r = eqb r.ticket 0 && eqb r.address 0 && eqb r.words 0 && eqb r.party 0

abbrev pub is_live : Row → Bool
is_live r = not (is_empty r)

-- a record with this ticket; never for ticket 0 (01, number 6)
abbrev pub has_ticket : ℕ → Row → Bool
has_ticket t r = not (eqb t 0) && eqb r.ticket t

abbrev pub record_of : ℕ → Ledger → Option Row
record_of t L = first_that (has_ticket t) L

abbrev pub same_block : Row → Row → Bool
same_block r s = eqb r.address s.address && eqb r.words s.words

-- no slot is empty; a new record in the lowest empty slot
abbrev pub full : Ledger → Bool
full L = all is_live L

abbrev pub enter : Row → Ledger → Ledger
enter new [] = []
enter new (r ∷ L) = cond (is_empty r) (new ∷ L) (r ∷ enter new L)

-- What is done to the record that a call names: a release empties it; a trim (02, ticket 13) keeps n of its words.
pub data Plan : Type 0 where
  vacate : Plan
  keep : ℕ → Plan

-- "words to keep, from 1 to the words asked"
abbrev pub keepable : ℕ → Row → Bool
keepable n r = leb 1 n && leb n r.words

-- the record with n words
abbrev pub shortened : ℕ → Row → Row
shortened n r = row r.ticket r.address n r.party

abbrev pub carry_out : Plan → Row → Row
carry_out vacate r = empty_row
carry_out (keep n) r = cond (keepable n r) (shortened n r) r

-- a plan that can be carried out on a record: any release, a trim to words that can be kept
abbrev pub feasible : Plan → Row → Bool
feasible vacate r = true
feasible (keep n) r = keepable n r

-- A ticket, with what is to be done to its record.
pub record Member : Type 0 where
  pub ticket : ℕ
  pub plan : Plan

abbrev pub member : ℕ → Plan → Member
member t q = record { ticket = t; plan = q }

abbrev pub plan_for : ℕ → List Member → Option Plan
plan_for t [] = none
plan_for t (m ∷ ms) = cond (eqb m.ticket t) (some m.plan) (plan_for t ms)

abbrev pub carry_if : Option Plan → Row → Row
carry_if none r = r
carry_if (some q) r = carry_out q r

-- the ledger with the plans of some tickets carried out, every record in its slot
abbrev pub settle : List Member → Ledger → Ledger
settle ms L = map (λ r. carry_if (plan_for r.ticket ms) r) L
