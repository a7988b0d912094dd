-- Laws of records that are entered slot after slot, and of the marks that are noted at the residues of their tickets.
-- Assumes nothing.
use Prim.Native.Nat.{ℕ, ◌+◌, ◌≤◌, ◌<◌}
use native.Mathlib.Nat.{div-le_self}
use native.Mathlib.Omega.{arith}
use native.Mathlib.Decide.{ℕ_discrete}
use native.Mathlib.Numerals.{add-one}
use mathlib.Core.Path.{◌≡◌, refl, sym, ap, ap₂, ◌∙◌}
use mathlib.Core.Bool.{Bool, true, false, not, ◌&&◌, ◌||◌, or-true, or-not_self, true≢false}
use lib.Dec.{eqb}
use lib.ListN.{length, get_or, set}
use lib.Seq.{get_or-set_same, get_or-set_other}
use Rattle.words.specs.Lists.{Words, is_zero}
use Rattle.words.specs.Counted.{every, sum_to}
use Rattle.words.proofs.Tests.{and_l, and_r, and_i, not_true, eqb_eq, eqb_ne, eqb_same}
use Rattle.words.proofs.CountedLaws.{every_of}
use Rattle.ledger.specs.declared.Row.{Row}
use Rattle.ledger.specs.declared.Rule.{Rule}
use Rattle.ledger.specs.Records.{record_at, is_empty}
use Rattle.ledger.specs.Units.{span, past}
use Rattle.ledger.proofs.UnitLaws.{fits_facts}
use Rattle.record_table.specs.Checks.{row_ok, differ, residue_of}
use Rattle.record_table.proofs.PairLaws.{every_last}
use Rattle.record_table.specs.Partition.{units_of, new_at, other_than, mark_of, several, notes, Noted, Joins, Entered}

-- ---- one slot after another

pub enter_start : (ρ : Rule) (W next : ℕ) (t : Words) → Entered ρ W next t 0 0
enter_start ρ W next t = record { fit = refl; new = refl; sum = refl }

pub enter_next : (ρ : Rule) (W next : ℕ) (t : Words) (i held u : ℕ) → Entered ρ W next t i held
    → Joins ρ W next t i u → Entered ρ W next t (i + 1) (held + u)
enter_next ρ W next t i held u e (fit, new, units) =
    let ok : ℕ → Bool = λ j. row_ok ρ W next (record_at t j) in
    let size : ℕ → ℕ = λ j. units_of ρ (record_at t j) in
    record {
      fit = every_last ok i ∙ and_i (every ok 0 i) (ok i) e.fit fit;
      new = every_last (new_at t) i ∙ and_i (every (new_at t) 0 i) (new_at t i) e.new new;
      sum = ap₂ (λ (a b : ℕ). a + b) e.sum units ∙ sym (ap (sum_to size) (add-one i));
    }

-- ---- an empty slot

zero_ticket : (r : Row) → is_empty r ≡ true → is_zero r.ticket ≡ true
zero_ticket r e = search (and_l)

pub empty_joins : (ρ : Rule) (W next : ℕ) (t : Words) (i : ℕ) → is_empty (record_at t i) ≡ true → Joins ρ W next t i 0
empty_joins ρ W next t i e =
    let is : (record_at t i).ticket ≡ 0 = eqb_eq (record_at t i).ticket 0 (zero_ticket (record_at t i) e) in (
      rw e,
      every_of (λ j. differ (record_at t j) (record_at t i)) 0 i
          (λ j a b. rw is (or-not_self (is_zero (record_at t j).ticket))),
      sym (rw e),
    )

-- ---- a slot with a record

-- a record that fits has a ticket, and no more units than the arena has words
pub fit_row : (ρ : Rule) → 0 < ρ.unit → (W next : ℕ) (r : Row) → is_empty r ≡ false → row_ok ρ W next r ≡ true
    → (is_zero r.ticket ≡ false) × (span ρ r.words ≤ W)
unfolding past
fit_row ρ pos W next r live ok =
    let f = fits_facts ρ pos W next r (rw live at ok) in
    let units = f.units in
    (eqb_ne r.ticket 0 f.ticket, omega (arith, div-le_self W ρ.unit))

-- ---- what is noted of tickets

-- nothing is noted by 0, and a ticket by its own mark
zero_notes : (x : ℕ) → notes 0 x ≡ false
zero_notes x = ap (λ (b : Bool). b || eqb 0 several) (eqb_ne 0 (mark_of x) (λ e. omega arith))

mark_notes : (x : ℕ) → notes (mark_of x) x ≡ true
mark_notes x = ap (λ (b : Bool). b || eqb (mark_of x) several) (eqb_same (mark_of x))

pub noted_start : (m : ℕ) (seen t : Words) → Noted m seen t 0
noted_start m seen t j h = absurd (omega arith)

module _ (m : ℕ) (seen t : Words) (i : ℕ) (N : Noted m seen t i) where
  -- a ticket that is not noted at its residue is none of the earlier ones
  pub unnoted_new : notes (get_or seen (residue_of m (record_at t i).ticket) 0) (record_at t i).ticket ≡ false
      → new_at t i ≡ true
  unnoted_new none =
      every_of (λ j. differ (record_at t j) (record_at t i)) 0 i
      (λ j a b. go j (omega arith) (is_zero (record_at t j).ticket) refl
      (ℕ_discrete (record_at t j).ticket (record_at t i).ticket))
    where
      go : (j : ℕ) → j < i → (z : Bool) → is_zero (record_at t j).ticket ≡ z
          → Dec ((record_at t j).ticket ≡ (record_at t i).ticket)
          → (z || other_than t (record_at t i).ticket j) ≡ true
      go j b true q d = refl
      go j b false q (yes e) =
          absurd (true≢false (sym (N j b q) ∙ ap (λ x. notes (get_or seen (residue_of m x) 0) x) e ∙ none))
      go j b false q (no e) = rw (eqb_ne (record_at t j).ticket (record_at t i).ticket e)

  -- a ticket that is noted already
  pub note_same : (is_zero (record_at t i).ticket ≡ false
      → notes (get_or seen (residue_of m (record_at t i).ticket) 0) (record_at t i).ticket ≡ true)
      → Noted m seen t (i + 1)
  note_same e j h live = go (ℕ_discrete j i)
    where
      go : Dec (j ≡ i) → notes (get_or seen (residue_of m (record_at t j).ticket) 0) (record_at t j).ticket ≡ true
      go (yes q) =
          ap (λ k. notes (get_or seen (residue_of m (record_at t k).ticket) 0) (record_at t k).ticket) q
          ∙ e (ap (λ k. is_zero (record_at t k).ticket) (sym q) ∙ live)
      go (no q) = N j (omega arith) live

  pub note_none : is_empty (record_at t i) ≡ true → Noted m seen t (i + 1)
  note_none e = note_same (λ live. absurd (true≢false (sym (zero_ticket (record_at t i) e) ∙ live)))

  -- v notes the ticket, and all that was noted at its residue
  pub note_next : (at v : ℕ) → at ≡ residue_of m (record_at t i).ticket → at < length seen
      → notes v (record_at t i).ticket ≡ true → ((y : ℕ) → notes (get_or seen at 0) y ≡ true → notes v y ≡ true)
      → Noted m (set seen at v) t (i + 1)
  note_next at v is h own keeps j l live = go (ℕ_discrete (residue_of m (record_at t j).ticket) at) (ℕ_discrete j i)
    where
      x : ℕ
      x = (record_at t j).ticket

      go : Dec (residue_of m x ≡ at) → Dec (j ≡ i) → notes (get_or (set seen at v) (residue_of m x) 0) x ≡ true
      go (yes e) d =
          ap (λ k. notes (get_or (set seen at v) k 0) x) e ∙ ap (λ k. notes k x) (get_or-set_same seen at v 0 h)
          ∙ at_place d
        where
          at_place : Dec (j ≡ i) → notes v x ≡ true
          at_place (yes d) = ap (λ k. notes v (record_at t k).ticket) d ∙ own
          at_place (no d) = keeps x (ap (λ k. notes (get_or seen k 0) x) (sym e) ∙ N j (omega arith) live)
      go (no e) (yes d) = absurd (e (ap (λ k. residue_of m (record_at t k).ticket) d ∙ sym is))
      go (no e) (no d) =
          ap (λ k. notes k x) (get_or-set_other seen at (residue_of m x) v 0 e) ∙ N j (omega arith) live

  -- what the code holds of slot i: its ticket, the ticket's place and mark, and what is kept there
  module _ (x at mark kept : ℕ) (own : x ≡ (record_at t i).ticket) (is : at ≡ residue_of m x) (h : at < length seen)
      (made : mark ≡ mark_of x) (was : kept ≡ get_or seen at 0) where
    new_if : notes kept x ≡ false → new_at t i ≡ true
    new_if e =
        unnoted_new
        (ap (λ y. notes (get_or seen (residue_of m y) 0) y) (sym own) ∙ ap (λ k. notes (get_or seen k 0) x) (sym is)
        ∙ ap (λ v. notes v x) (sym was) ∙ e)

    put : (v : ℕ) → notes v x ≡ true → ((y : ℕ) → notes kept y ≡ true → notes v y ≡ true)
        → Noted m (set seen at v) t (i + 1)
    put v e keeps =
        note_next at v (is ∙ ap (λ y. residue_of m y) own) h (ap (notes v) (sym own) ∙ e)
        (λ y q. keeps y (ap (λ k. notes k y) was ∙ q))

    pub first_there : kept ≡ 0 → (new_at t i ≡ true) × Noted m (set seen at mark) t (i + 1)
    first_there e = (
      new_if (ap (λ v. notes v x) e ∙ zero_notes x),
      put mark (ap (λ v. notes v x) made ∙ mark_notes x)
          (λ y q. absurd (true≢false (sym q ∙ ap (λ v. notes v y) e ∙ zero_notes y))),
    )

    pub unlike_there : (not (eqb kept mark) && not (eqb kept several)) ≡ true
        → (new_at t i ≡ true) × Noted m (set seen at several) t (i + 1)
    unlike_there e =
        let a = not_true (eqb kept mark) (and_l (not (eqb kept mark)) (not (eqb kept several)) e) in
        let b = not_true (eqb kept several) (and_r (not (eqb kept mark)) (not (eqb kept several)) e) in (
          new_if (ap (λ k. eqb kept k || eqb kept several) (sym made)
              ∙ ap₂ (λ (p q : Bool). p || q) a b),
          put several (or-true (eqb several (mark_of x))) (λ y q. or-true (eqb several (mark_of y))),
        )
