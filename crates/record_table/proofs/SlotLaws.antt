-- Laws of the slots that a search finds. Assumes nothing.
use Prim.Native.Nat.{ℕ, zero, suc, ◌≤◌, ◌<◌}
use native.Mathlib.Nat.{not-suc-le-zero, le_of_suc-le-suc}
use native.Mathlib.Decide.{dec_lt}
use native.Mathlib.Omega.{arith}
use mathlib.Core.Path.{◌≡◌, refl, sym, ap, ◌∙◌}
use mathlib.Core.Logic.{◌≢◌}
use mathlib.Core.Bool.{Bool, true, false, not, and-false}
use mathlib.Core.Option.{Option, none, some}
use mathlib.Core.List.{[], ◌∷◌}
use lib.Dec.{eqb}
use lib.ListN.{length, get_or, set}
use Rattle.words.specs.Lists.{Words, first_that}
use Rattle.words.specs.Counted.{lowest}
use Rattle.words.proofs.Tests.{false_of, eqb_ne, absurd_some}
use Rattle.words.proofs.CountedLaws.{lowest_some, lowest_none, lowest_nothing, lowest_is}
use Rattle.ledger.specs.declared.Row.{Row}
use Rattle.ledger.specs.declared.Rule.{Rule}
use Rattle.ledger.specs.Records.{Ledger, empty_row, record_at, records_of, slots, has_ticket, record_of, full, enter, is_empty}
use Rattle.ledger.specs.Records.{Plan, carry_out, member, settle}
use Rattle.ledger.specs.Units.{valid}
use Rattle.ledger.proofs.RecordLaws.{length_records, record_at_lem, has_ticket_lem, record_ticket}
use Rattle.ledger.proofs.RecordLaws.{settle_slot, enter_slot, full_none}
use Rattle.ledger.proofs.UnitLaws.{valid_apart}
use Rattle.std.specs.Prelude.{Some, None, MatchOption, unwrap_or}
use Rattle.std.specs.Prelude as maybe
use Rattle.record_table.specs.Slots.{found, ticket_at, empty_at, ticket_slot, empty_slot, Without, Reached}

-- ---- a search by a test f of records

abbrev pub test_at : (Row → Bool) → Words → ℕ → Bool
test_at f t i = f (get_or (records_of t) i empty_row)

abbrev pub slot_that : (Row → Bool) → Words → Option ℕ
slot_that f t = lowest (test_at f t) 0 (length (records_of t))

-- what is found from slot i on up to slot n: no slot there passes, or the first that does
abbrev pub FirstSlot : (Row → Bool) → Words → ℕ → ℕ → maybe.Option ℕ → Type 0
FirstSlot f t i n r =
    MatchOption r ((k : ℕ) → i ≤ k → k < n → f (record_at t k) ≡ false)
    (λ k. (i ≤ k) × (k < n) × (f (record_at t k) ≡ true) × ((j : ℕ) → i ≤ j → j < k → f (record_at t j) ≡ false))

-- where no slot below i passes either, and n is the number of slots
module _ (f : Row → Bool) (t : Words) (i n : ℕ) (all_slots : n ≡ slots t)
    (low : (j : ℕ) → j < i → f (record_at t j) ≡ false) where
  below : (k : ℕ) → ((j : ℕ) → i ≤ j → j < k → f (record_at t j) ≡ false) → (j : ℕ) → j < k → f (record_at t j) ≡ false
  below k off j h = go (dec_lt j i)
    where
      go : Dec (j < i) → f (record_at t j) ≡ false
      go (yes l) = low j l
      go (no l) = off j (omega arith) h

  pub slot_found : (r : maybe.Option ℕ) → FirstSlot f t i n r → r ≡ found (slot_that f t)
  slot_found None off =
      sym (ap found (lowest_nothing (test_at f t) 0 (length (records_of t))
      (λ k a b. ap f (record_at_lem t k (omega (arith, length_records t)))
      ∙ below n off k (omega (arith, length_records t)))))
  slot_found (Some k) (a, h, e, off) =
      sym (ap found (lowest_is (test_at f t) 0 (length (records_of t)) k record {
        passes = ap f (record_at_lem t k (omega arith)) ∙ e;
        above = omega arith;
        below = omega (arith, length_records t);
        least = λ j a b. ap f (record_at_lem t j (omega arith)) ∙ below k off j b;
      }))

  pub slot_reached : (r : maybe.Option ℕ) → FirstSlot f t i n r → Reached f t 0 (unwrap_or r n)
  slot_reached None off = record {
    above = omega arith;
    below = omega arith;
    passed = λ j a b. below n off j b;
    here = λ h. absurd (omega arith);
  }
  slot_reached (Some k) (a, h, e, off) = record {
    above = omega arith;
    below = omega arith;
    passed = λ j a b. below k off j b;
    here = λ h. e;
  }

-- what is reached from slot k on is reached from slot i on, if no slot between them passes
pub scan_on : (f : Row → Bool) (t : Words) (i k r : ℕ) → i ≤ k
    → ((j : ℕ) → i ≤ j → j < k → f (record_at t j) ≡ false) → Reached f t k r → Reached f t i r
scan_on f t i k r low off q = record {
  above = omega (arith, q.above);
  below = q.below;
  passed = λ j a b. go j a b (dec_lt j k);
  here = q.here;
}
  where
    go : (j : ℕ) → i ≤ j → j < r → Dec (j < k) → f (record_at t j) ≡ false
    go j a b (yes h) = off j a h
    go j a b (no h) = q.passed j (omega arith) b

-- ---- slots without a ticket

pub without_empty : (t : Words) (i e : ℕ) → Without t 0 i e → (j : ℕ) → i ≤ j → j < e → is_empty (record_at t j) ≡ false
without_empty t i e h j a b = rw (eqb_ne (record_at t j).ticket 0 (h j a b))

-- ---- the slot that was found

found_at : (o : Option ℕ) (i : ℕ) → found o ≡ Some i → o ≡ some i
found_at none i e = let z : ◌≡◌ {A = ℕ} 0 1 = cc in absurd (omega arith)
found_at (some j) i e = let z : j ≡ i = cc in ap some z

found_nothing : (o : Option ℕ) → found o ≡ None → o ≡ none
found_nothing none e = refl
found_nothing (some j) e = let z : ◌≡◌ {A = ℕ} 0 1 = cc in absurd (omega arith)

-- ---- the slot of a ticket

pub ticket_zero : (k : ℕ) (L : Ledger) → k ≡ 0 → None ≡ ticket_slot k L
unfolding ticket_slot
ticket_zero k L e = rw e (sym (ap found (lowest_nothing (ticket_at 0 L) 0 (length L) (λ i a b. refl))))

pub has_same : (k : ℕ) (r : Row) → k ≢ 0 → r.ticket ≡ k → has_ticket k r ≡ true
has_same k r z e = (has_ticket_lem k r).1 (z, e)

pub has_other : (k : ℕ) (r : Row) → r.ticket ≢ k → has_ticket k r ≡ false
has_other k r h = rw (eqb_ne r.ticket k h) (and-false (not (eqb k 0)))

-- the first record that passes stands in the lowest slot that does
first_here : (p : Row → Bool) (L : Ledger) (i : ℕ) → i < length L → p (get_or L i empty_row) ≡ true
    → ((j : ℕ) → j < i → p (get_or L j empty_row) ≡ false) → first_that p L ≡ some (get_or L i empty_row)
first_here p [] i h e least = absurd (not-suc-le-zero h)
first_here p (r ∷ L) zero h e least = rw e
first_here p (r ∷ L) (suc i) h e least =
    rw (least 0 (omega arith)) (first_here p L i (le_of_suc-le-suc h) e (λ j l. least (suc j) (omega arith)))

first_nowhere : (p : Row → Bool) (L : Ledger) → ((i : ℕ) → i < length L → p (get_or L i empty_row) ≡ false)
    → first_that p L ≡ none
first_nowhere p [] h = refl
first_nowhere p (r ∷ L) h = rw (h 0 (omega arith)) (first_nowhere p L (λ i l. h (suc i) (omega arith)))

module _ (k : ℕ) (t : Words) where
  pub ticket_found : (i : ℕ) → ticket_slot k (records_of t) ≡ Some i
      → (i < slots t) × (record_of k (records_of t) ≡ some (record_at t i))
  unfolding ticket_slot
  ticket_found i e =
      let L = records_of t in
      let l = lowest_some (ticket_at k L) 0 (length L) i (found_at (lowest (ticket_at k L) 0 (length L)) i e) in
      let h : i < slots t = omega (arith, length_records t) in
      let here = first_here (has_ticket k) L i (omega arith) l.passes (λ j b. l.least j (omega arith) b) in
      (h, here ∙ ap some (record_at_lem t i h))

  pub ticket_missing : ticket_slot k (records_of t) ≡ None → record_of k (records_of t) ≡ none
  unfolding ticket_slot
  ticket_missing e =
      let L = records_of t in
      let n = lowest_none (ticket_at k L) 0 (length L) (found_nothing (lowest (ticket_at k L) 0 (length L)) e) in
      first_nowhere (has_ticket k) L (λ i h. n i (omega arith) (omega arith))

  -- to carry out a ticket's plan in a valid ledger is to do it in the slot that the search finds
  pub ticket_settle : (q : Plan) (ρ : Rule) (W next : ℕ) → valid ρ W next (records_of t) ≡ true
      → (i : ℕ) → ticket_slot k (records_of t) ≡ Some i
      → settle (member k q ∷ []) (records_of t) ≡ set (records_of t) i (carry_out q (record_at t i))
  ticket_settle q ρ W next good i e =
      let (h, held) = ticket_found i e in
      let (live, same) = record_ticket k (records_of t) (record_at t i) held in
      settle_slot ρ (records_of t) i k q (valid_apart ρ W next (records_of t) good) (omega (arith, length_records t)) live
      (ap (λ (r : Row). r.ticket) (record_at_lem t i h) ∙ same)
      ∙ ap (λ (r : Row). set (records_of t) i (carry_out q r)) (record_at_lem t i h)

-- ---- the lowest empty slot

module _ (t : Words) where
  pub empty_found : (i : ℕ) → empty_slot (records_of t) ≡ Some i
      → (i < slots t) × (full (records_of t) ≡ false) × ((r : Row) → enter r (records_of t) ≡ set (records_of t) i r)
  unfolding empty_slot
  empty_found i e =
      let L = records_of t in
      let o = found_at (lowest (empty_at L) 0 (length L)) i e in
      let l = lowest_some (empty_at L) 0 (length L) i o in (
        omega (arith, length_records t),
        false_of (full L) (λ all_live. absurd_some (sym ((full_none L).0 all_live) ∙ o)),
        λ r. enter_slot r L i o,
      )

  pub empty_missing : empty_slot (records_of t) ≡ None → full (records_of t) ≡ true
  unfolding empty_slot
  empty_missing e =
      let L = records_of t in (full_none L).1 (found_nothing (lowest (empty_at L) 0 (length L)) e)
