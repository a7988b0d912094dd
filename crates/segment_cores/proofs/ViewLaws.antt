-- The readings of a valid ledger, and of the ledgers that a grant and a release leave. Assumes nothing.
use Prim.Native.Nat.{ℕ, zero, suc, ◌+◌, ◌*◌, ◌<◌, ◌≤◌}
use native.Mathlib.Decide.{ℕ_discrete, dec_lt}
use native.Mathlib.Nat.{one-mul}
use native.Mathlib.Omega.{arith}
use mathlib.Core.Bool.{Bool, true, false, not, ◌&&◌, true≢false}
use mathlib.Core.List.{[], ◌∷◌}
use mathlib.Core.Logic.{◌⊎◌, inl, inr}
use mathlib.Core.Path.{◌≡◌, refl, sym, ap, ◌∙◌}
use lib.Dec.{eqb}
use lib.ListN.{length, get_or}
use Rattle.words.specs.Counted.{within}
use Rattle.words.specs.Lists.{any}
use Rattle.words.proofs.ListLaws.{any_at, any_get_d}
use Rattle.words.proofs.Tests.{and_l, and_r, and_i, not_false, eqb_eq, eqb_same, within_in, within_of, bool_iff}
use Rattle.words.proofs.Tests.{false_of, not_true}
use Rattle.ledger.specs.Records.{Ledger, empty_row, is_live}
use Rattle.ledger.specs.Units.{span, address_at, first, past, valid, covers, owns, free, owned}
use Rattle.ledger.specs.declared.Row.{Row}
use Rattle.ledger.proofs.UnitLaws.{Fitted, valid_at, covers_in, covers_of, disjoint}
use Rattle.stored_forms.specs.Segments.{segment_rule, control_word, starts_at}
use Rattle.segment_cores.specs.Views.{word, owned_by, Whole}

pub control_word_lem : (W : ℕ) (L : Ledger) (u : ℕ) → control_word W L u ≡ word (free segment_rule L) (starts_at L) W u
unfolding control_word word
control_word_lem W L u = refl

-- ---- the record that begins at a unit

record Begins (L : Ledger) (u i : ℕ) : Type 0 where
  slot : i < length L
  live : is_live (get_or L i empty_row) ≡ true
  unit : first segment_rule (get_or L i empty_row) ≡ u

record Begun (L : Ledger) (u : ℕ) : Type 0 where
  place : ℕ
  there : Begins L u place
  size : starts_at L u ≡ span segment_rule (get_or L place empty_row).words

record Unbegun (L : Ledger) (u : ℕ) : Type 0 where
  nothing : starts_at L u ≡ 0
  nowhere : (i : ℕ) → Begins L u i → ⊥

starts_cases : (L : Ledger) (u : ℕ) → Begun L u ⊎ Unbegun L u
starts_cases [] u = inr (record { nothing = refl; nowhere = λ i b. omega (arith, b.slot) })
starts_cases (r ∷ L) u = go (is_live r && eqb (first segment_rule r) u) refl (starts_cases L u)
  where
    go : (b : Bool) → (is_live r && eqb (first segment_rule r) u) ≡ b → Begun L u ⊎ Unbegun L u
        → Begun (r ∷ L) u ⊎ Unbegun (r ∷ L) u
    go true e ih = inl (record {
      place = 0;
      there = record {
        slot = omega arith;
        live = and_l (is_live r) (eqb (first segment_rule r) u) e;
        unit = eqb_eq (first segment_rule r) u (and_r (is_live r) (eqb (first segment_rule r) u) e);
      };
      size = rw e;
    })
    go false e (inl b) = inl (record {
      place = suc b.place;
      there = record { slot = omega (arith, b.there.slot); live = b.there.live; unit = b.there.unit };
      size = rw e b.size;
    })
    go false e (inr n) = inr (record { nothing = rw e n.nothing; nowhere = none_there })
      where
        none_there : (i : ℕ) → Begins (r ∷ L) u i → ⊥
        none_there zero b =
            let here = and_i (is_live r) (eqb (first segment_rule r) u) b.live (rw b.unit (eqb_same u)) in
            true≢false (sym here ∙ e)
        none_there (suc i) b = n.nowhere i (record { slot = omega (arith, b.slot); live = b.live; unit = b.unit })

module _ (W next : ℕ) (L : Ledger) (good : valid segment_rule W next L ≡ true) where
  facts : (i : ℕ) → i < length L → is_live (get_or L i empty_row) ≡ true → Fitted segment_rule W next (get_or L i empty_row)
  facts i l h = valid_at segment_rule (omega arith) W next L good i l h

  -- slots that share a unit are one
  same_slot : (u i j : ℕ) → i < length L → j < length L → covers segment_rule u (get_or L i empty_row) ≡ true
      → covers segment_rule u (get_or L j empty_row) ≡ true → i ≡ j
  same_slot u i j a b x y = go (ℕ_discrete i j)
    where
      go : Dec (i ≡ j) → i ≡ j
      go (yes e) = e
      go (no e) = absurd (true≢false (sym y ∙ disjoint segment_rule W next L good u i j a b e x))

  -- the block of a slot
  module _ (i : ℕ) (l : i < length L) (live : is_live (get_or L i empty_row) ≡ true) where
    abbrev r : Row
    r = get_or L i empty_row

    slot_covers : (u : ℕ) → first segment_rule r ≤ u → u < past segment_rule r → covers segment_rule u r ≡ true
    slot_covers u a b = covers_in segment_rule u r live a b

    pub slot_starts : starts_at L (first segment_rule r) ≡ span segment_rule r.words
    slot_starts = go (starts_cases L (first segment_rule r))
      where
        here : covers segment_rule (first segment_rule r) r ≡ true
        here = slot_covers (first segment_rule r) (omega arith) (facts i l live).nonempty

        go : Begun L (first segment_rule r) ⊎ Unbegun L (first segment_rule r)
            → starts_at L (first segment_rule r) ≡ span segment_rule r.words
        go (inr n) = absurd (n.nowhere i (record { slot = l; live = live; unit = refl }))
        go (inl b) =
            let t = b.there in
            let other = (facts b.place t.slot t.live).nonempty in
            let e = t.unit in
            let there = covers_in segment_rule (first segment_rule r) (get_or L b.place empty_row) t.live
            (omega arith) (omega arith) in
            b.size
            ∙ ap (λ (j : ℕ). span segment_rule (get_or L j empty_row).words)
            (same_slot (first segment_rule r) b.place i t.slot l there here)

  -- a unit at which a block begins, and its slot
  pub begun_slot : (u : ℕ) → 0 < starts_at L u
      → (i : ℕ) × (i < length L) × (is_live (get_or L i empty_row) ≡ true) × (first segment_rule (get_or L i empty_row) ≡ u)
      × (past segment_rule (get_or L i empty_row) ≡ u + starts_at L u)
  unfolding past
  begun_slot u h = go (starts_cases L u)
    where
      go : Begun L u ⊎ Unbegun L u
          → (i : ℕ) × (i < length L) × (is_live (get_or L i empty_row) ≡ true)
          × (first segment_rule (get_or L i empty_row) ≡ u)
          × (past segment_rule (get_or L i empty_row) ≡ u + starts_at L u)
      go (inr n) = absurd (omega (arith, n.nothing))
      go (inl b) =
          (b.place, b.there.slot, b.there.live, b.there.unit, omega (arith, b.there.unit, b.size))

  begun_covers : (u k : ℕ) → u ≤ k → k < u + starts_at L u
      → (i : ℕ) × (i < length L) × (first segment_rule (get_or L i empty_row) ≡ u)
      × (covers segment_rule k (get_or L i empty_row) ≡ true)
  begun_covers u k a b =
      let (i, l, live, e, p) = begun_slot u (omega arith) in
      (i, l, e, slot_covers i l live k (omega arith) (omega arith))

  covered : (i k : ℕ) → i < length L → covers segment_rule k (get_or L i empty_row) ≡ true → free segment_rule L k ≡ false
  unfolding free
  covered i k l h = ap not (any_at (covers segment_rule k) empty_row L i h l)

  -- a unit that is not free lies in the block of a slot
  belonging : (k : ℕ) → free segment_rule L k ≡ false
      → (i : ℕ) × (i < length L) × (covers segment_rule k (get_or L i empty_row) ≡ true)
  unfolding free
  belonging k h = any_get_d (covers segment_rule k) empty_row L (not_false (any (covers segment_rule k) L) h)

  block_of : (i k : ℕ) → i < length L → covers segment_rule k (get_or L i empty_row) ≡ true
      → (first segment_rule (get_or L i empty_row) ≤ k)
      × (k < first segment_rule (get_or L i empty_row) + starts_at L (first segment_rule (get_or L i empty_row)))
  unfolding past
  block_of i k l h =
      let (live, a, b) = covers_of segment_rule k (get_or L i empty_row) h in
      (a, omega (arith, slot_starts i l live))

  pub ledger_whole : Whole (free segment_rule L) (starts_at L) W
  ledger_whole = record {
    fits = λ u h.
        let (i, l, live, e, p) = begun_slot u h in
        let inside = (facts i l live).inside in
        omega (arith, one-mul (past segment_rule (get_or L i empty_row)));
    covers = λ u k a b. let (i, l, e, c) = begun_covers u k a b in covered i k l c;
    alone = alone;
    belongs = λ k h.
        let (i, l, c) = belonging k h in
        let (a, b) = block_of i k l c in
        (first segment_rule (get_or L i empty_row), a, b);
  }
    where
      alone : (u k : ℕ) → u < k → k < u + starts_at L u → starts_at L k ≡ 0
      alone u k a b = go (dec_lt 0 (starts_at L k))
        where
          go : Dec (0 < starts_at L k) → starts_at L k ≡ 0
          go (no h) = omega arith
          go (yes h) =
              let (i, l, e, c) = begun_covers u k (omega arith) b in
              let (j, m, d, x) = begun_covers k k (omega arith) (omega arith) in
              let same = same_slot k i j l m c x in
              absurd (omega (arith, e, d, ap (λ (s : ℕ). first segment_rule (get_or L s empty_row)) same))

  -- no record begins at a free unit
  pub free_nowhere : (u : ℕ) → free segment_rule L u ≡ true
      → (i : ℕ) → i < length L → (is_live (get_or L i empty_row) && eqb (first segment_rule (get_or L i empty_row)) u) ≡ false
  free_nowhere u t i l =
      false_of (is_live s && eqb (first segment_rule s) u) (λ h.
      let live = and_l (is_live s) (eqb (first segment_rule s) u) h in
      let e = eqb_eq (first segment_rule s) u (and_r (is_live s) (eqb (first segment_rule s) u) h) in
      let some_units = (facts i l live).nonempty in
      true≢false (sym t ∙ covered i u l (slot_covers i l live u (omega arith) (omega arith))))
    where
      s : Row
      s = get_or L i empty_row

  -- the words that are a holder's
  pub ledger_owned : (u : ℕ) → owned segment_rule L u ≡ owned_by (free segment_rule L) (starts_at L) u
  unfolding owned owns address_at
  ledger_owned u = bool_iff (owned segment_rule L u) (owned_by (free segment_rule L) (starts_at L) u) from to
    where
      unit_past : (s : Row) → 1 * past segment_rule s ≡ past segment_rule s
      unit_past s = one-mul (past segment_rule s)

      from : owned segment_rule L u ≡ true → owned_by (free segment_rule L) (starts_at L) u ≡ true
      from h =
          let (i, l, own) = any_get_d (owns segment_rule u) empty_row L h in
          let s = get_or L i empty_row in
          let mine = within s.address (1 * past segment_rule s) u in
          let live = and_l (is_live s) mine own in
          let (a, b) = within_of s.address (1 * past segment_rule s) u (and_r (is_live s) mine own) in
          let place = (facts i l live).place in
          let c = slot_covers i l live u (omega arith) (omega (arith, unit_past s)) in
          let (x, y) = block_of i u l c in
          let quiet = ledger_whole.alone (first segment_rule s) u (omega arith) y in
          rw (covered i u l c, quiet)

      to : owned_by (free segment_rule L) (starts_at L) u ≡ true → owned segment_rule L u ≡ true
      to h =
          let taken = not_true (free segment_rule L u) (and_l (not (free segment_rule L u)) (eqb (starts_at L u) 0) h) in
          let none = eqb_eq (starts_at L u) 0 (and_r (not (free segment_rule L u)) (eqb (starts_at L u) 0) h) in
          let (i, l, c) = belonging u taken in
          let s = get_or L i empty_row in
          let (live, a, b) = covers_of segment_rule u s c in
          let (x, y) = block_of i u l c in
          let place = (facts i l live).place in
          let mine =
          within_in s.address (1 * past segment_rule s) u (low i l live c none place) (omega (arith, unit_past s)) in
          any_at (owns segment_rule u) empty_row L i
          (and_i (is_live s) (within s.address (1 * past segment_rule s) u) live mine) l
        where
          low : (i : ℕ) → i < length L → is_live (get_or L i empty_row) ≡ true
              → covers segment_rule u (get_or L i empty_row) ≡ true
              → starts_at L u ≡ 0 → (get_or L i empty_row).address ≡ 1 * first segment_rule (get_or L i empty_row) + 1
              → (get_or L i empty_row).address ≤ u
          low i l live c none place = go (ℕ_discrete (first segment_rule (get_or L i empty_row)) u)
            where
              go : Dec (first segment_rule (get_or L i empty_row) ≡ u) → (get_or L i empty_row).address ≤ u
              go (yes e) =
                  let (x, y) = block_of i u l c in
                  absurd (omega (arith, ap (starts_at L) e))
              go (no e) =
                  let (x, y) = block_of i u l c in
                  omega (arith, one-mul (first segment_rule (get_or L i empty_row)))
