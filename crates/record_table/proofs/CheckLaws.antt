-- Laws of the check of a table. Assumes nothing.
use Prim.Native.Nat.{ℕ, ◌+◌, ◌-◌, ◌*◌, ◌/◌, ◌%◌, ◌≤◌, ◌<◌}
use native.Mathlib.Decide.{dec_le}
use native.Mathlib.Nat.{mul-add, mul_comm, mul-le-mul_left, le_trans, le-div_iff_mul-le}
use native.Mathlib.Nat.{mul-div-le, div-add-mod, mod-lt}
use native.Mathlib.Omega.{arith}
use mathlib.Core.Path.{◌≡◌, refl, sym, ap, ◌∙◌}
use mathlib.Core.Logic.{◌≢◌}
use mathlib.Core.Bool.{Bool, true, false, not, ◌&&◌, ◌||◌, or-true, true≢false}
use lib.Dec.{eqb, leb, ltb}
use Rattle.words.specs.Lists.{Words, all, pairwise}
use Rattle.words.specs.Counted.{every}
use Rattle.words.proofs.Tests.{and_l, and_r, bool_iff, not_true, eqb_eq, eqb_ne, le_of, of_le, of_gt}
use Rattle.words.proofs.ListLaws.{all_list_from}
use Rattle.words.proofs.CountedLaws.{every_at}
use Rattle.ledger.specs.declared.Row.{Row}
use Rattle.ledger.specs.declared.Rule.{Rule}
use Rattle.ledger.specs.Records.{Ledger, record_at, slots, records_of, is_party, is_empty}
use Rattle.ledger.specs.Units.{span, first, past, fits, apart, valid}
use Rattle.ledger.proofs.UnitLaws.{Fitted, fits_facts}
use Rattle.record_table.specs.Checks.{row_ok, differ, beside, AllInside}
use Rattle.record_table.proofs.PairLaws.{pairs_both}

-- ---- the records by their slots

-- slot i passes a test of records
abbrev pub passes : (Row → Bool) → Words → ℕ → Bool
passes f t i = f (record_at t i)

pub all_slots : (f : Row → Bool) (t : Words) → all f (records_of t) ≡ every (passes f t) 0 (slots t)
unfolding records_of
all_slots f t = all_list_from f (record_at t) 0 (slots t)

-- ---- numbers of a record that fit a machine word

module _ (ρ : Rule) where
  -- a record with an address too low for the words before it does not fit
  pub low_unfit : (W next : ℕ) (r : Row) → r.address < ρ.lead → fits ρ W next r ≡ false
  unfolding fits
  low_unfit W next r h =
      second_false
      (not (eqb r.ticket 0) && (eqb next 0 || ltb r.ticket next) && leb 1 r.words && is_party r.party)
      (leb ρ.lead r.address) (eqb ((r.address - ρ.lead) % ρ.unit) 0) (leb (ρ.unit * past ρ r) W)
      (of_gt ρ.lead r.address h)
    where
      second_false : (a b c d : Bool) → b ≡ false → (a && b && c && d) ≡ false
      second_false false b c d q = refl
      second_false true false c d q = refl
      second_false true true c d q = absurd (true≢false q)

-- ---- where a record ends

module _ (ρ : Rule) (pos : 0 < ρ.unit) (W : ℕ) (whole : W % ρ.unit ≡ 0) where
  -- units end in whole ones where the words do that they are rounded from
  units_end : (b n : ℕ) → b % ρ.unit ≡ 0
      → leb (b + n) W ≡ leb (ρ.unit * (b / ρ.unit + (n + (ρ.unit - 1)) / ρ.unit)) W
  units_end b n even =
      bool_iff (leb (b + n) W) (leb (ρ.unit * (k + u)) W)
      (λ e. of_le (ρ.unit * (k + u)) W (up (le_of (b + n) W e) (dec_le (k + u) (W / ρ.unit))))
      (λ e. of_le (b + n) W (let h = le_of (ρ.unit * (k + u)) W e in omega (arith, start, least, mul-add ρ.unit k u)))
    where
      k : ℕ
      k = b / ρ.unit

      u : ℕ
      u = (n + (ρ.unit - 1)) / ρ.unit

      start : ρ.unit * k ≡ b
      start = let e = div-add-mod b ρ.unit in omega arith

      least : n ≤ ρ.unit * u
      least =
          let e = div-add-mod (n + (ρ.unit - 1)) ρ.unit in
          omega (arith, mod-lt (n + (ρ.unit - 1)) pos)

      up : b + n ≤ W → Dec (k + u ≤ W / ρ.unit) → ρ.unit * (k + u) ≤ W
      up h (yes l) = omega (arith, mul-le-mul_left ρ.unit l, mul-div-le W ρ.unit)
      up h (no l) =
          let more : W / ρ.unit + 1 ≤ k + u = omega arith in
          let e = div-add-mod W ρ.unit in
          absurd (omega (
            arith,
            mul-le-mul_left ρ.unit more,
            mul-add ρ.unit (W / ρ.unit) 1,
            mul-add ρ.unit k u,
            start,
            mul-div-le (n + (ρ.unit - 1)) ρ.unit,
          ))

  end_is : (r : Row) → ρ.lead ≤ r.address → (r.address - ρ.lead) % ρ.unit ≡ 0
      → leb (r.address + r.words) W ≡ leb (ρ.unit * past ρ r) W
  unfolding past first span
  end_is r lead even =
      let sum : r.address + r.words ≡ r.address - ρ.lead + (r.words + ρ.lead) = omega arith in
      ap (λ x. leb x W) sum ∙ units_end (r.address - ρ.lead) (r.words + ρ.lead) even

  -- so a record fits whose words end in the arena, if the rest is right
  pub fits_by_words : (next : ℕ) (r : Row)
      → (not (eqb r.ticket 0)
      && (eqb next 0 || ltb r.ticket next)
      && leb 1 r.words
      && is_party r.party
      && leb ρ.lead r.address
      && eqb ((r.address - ρ.lead) % ρ.unit) 0
      && leb (r.address + r.words) W) ≡ fits ρ W next r
  unfolding fits
  fits_by_words next r =
      last
      (not (eqb r.ticket 0)
      && (eqb next 0 || ltb r.ticket next)
      && leb 1 r.words
      && is_party r.party
      && leb ρ.lead r.address
      && eqb ((r.address - ρ.lead) % ρ.unit) 0)
      (leb (r.address + r.words) W) (leb (ρ.unit * past ρ r) W)
      (λ e. end_is r (le_of ρ.lead r.address (search (and_l, and_r)))
      (eqb_eq ((r.address - ρ.lead) % ρ.unit) 0 (search (and_l, and_r))))
    where
      last : (a b c : Bool) → (a ≡ true → b ≡ c) → (a && b) ≡ (a && c)
      last true b c e = e refl
      last false b c e = refl

-- no record has a word behind the last whole unit
module _ (ρ : Rule) (pos : 0 < ρ.unit) (W next : ℕ) (r : Row) where
  fits_whole : fits ρ (ρ.unit * (W / ρ.unit)) next r ≡ fits ρ W next r
  unfolding fits
  fits_whole =
      ap (λ (b : Bool). not (eqb r.ticket 0) && (eqb next 0 || ltb r.ticket next) && leb 1 r.words
      && is_party r.party && leb ρ.lead r.address && eqb ((r.address - ρ.lead) % ρ.unit) 0 && b)
      (bool_iff (leb (ρ.unit * past ρ r) (ρ.unit * (W / ρ.unit))) (leb (ρ.unit * past ρ r) W)
      (λ e. of_le (ρ.unit * past ρ r) W
      (le_trans (le_of (ρ.unit * past ρ r) (ρ.unit * (W / ρ.unit)) e) (mul-div-le W ρ.unit)))
      (λ e. of_le (ρ.unit * past ρ r) (ρ.unit * (W / ρ.unit)) (mul-le-mul_left ρ.unit
      ((le-div_iff_mul-le pos).1 (rw (mul_comm (past ρ r) ρ.unit) (le_of (ρ.unit * past ρ r) W e))))))

  pub row_whole : (q : ℕ) → q ≡ W / ρ.unit → row_ok ρ (ρ.unit * q) next r ≡ row_ok ρ W next r
  row_whole q e = ap (λ k. row_ok ρ (ρ.unit * k) next r) e ∙ ap (λ (b : Bool). is_empty r || b) fits_whole

-- ---- the parts of the check

zero_ticket : (r : Row) → is_empty r ≡ true → r.ticket ≡ 0
zero_ticket r e = eqb_eq r.ticket 0 (search (and_l))

module _ (ρ : Rule) (pos : 0 < ρ.unit) (W next : ℕ) where
  fitted : (r : Row) → row_ok ρ W next r ≡ true → is_empty r ≡ false → Fitted ρ W next r
  fitted r e live = fits_facts ρ pos W next r (rw live at e)

  apart_parts : (r s : Row) → row_ok ρ W next r ≡ true → row_ok ρ W next s ≡ true
      → apart ρ r s ≡ (differ r s && beside ρ r s)
  unfolding apart beside
  apart_parts r s ok-r ok-s = go (is_empty r) (is_empty s) refl refl
    where
      clear : Bool
      clear = leb (past ρ r) (first ρ s) || leb (past ρ s) (first ρ r)

      go : (a b : Bool) → is_empty r ≡ a → is_empty s ≡ b
          → (a || b || (not (eqb r.ticket s.ticket) && clear)) ≡ (differ r s && (a || b || clear))
      go true b x y = sym (rw (zero_ticket r x))
      go false true x y =
          let other : r.ticket ≢ s.ticket = λ q. (fitted r ok-r x).ticket (q ∙ zero_ticket s y) in
          sym (rw (eqb_ne r.ticket s.ticket other, or-true))
      go false false x y = sym (rw (eqb_ne r.ticket 0 (fitted r ok-r x).ticket))

  pub valid_parts : (L : Ledger) → all (row_ok ρ W next) L ≡ true
      → valid ρ W next L ≡ (pairwise differ L && pairwise (beside ρ) L)
  unfolding valid
  valid_parts L e = rw e (pairs_both (row_ok ρ W next) (apart ρ) differ (beside ρ) apart_parts L e)

  pub rows_inside : (N : ℕ) (t : Words) → W / ρ.unit ≤ N → all (row_ok ρ W next) (records_of t) ≡ true → AllInside ρ N t
  rows_inside N t h e i l live =
      let each = sym (all_slots (row_ok ρ W next) t) ∙ e in
      let here = every_at (passes (row_ok ρ W next) t) 0 (slots t) each i (omega arith) (omega arith) in
      let f = fitted (record_at t i) here (not_true (is_empty (record_at t i)) live) in
      (f.nonempty, omega (arith, f.units))
