-- Laws of the unit rule: what a valid ledger says, and which units and words a change of the ledger frees or takes.
-- Assumes nothing; where a unit must have words, `0 < ρ.unit` is asked for.
use Prim.Native.Nat.{ℕ, ◌+◌, ◌-◌, ◌*◌, ◌/◌, ◌%◌, ◌≤◌, ◌<◌, max}
use native.Mathlib.Nat.{add-sub_cancel, mul-div_right, mul-mod_right, mul-div-le, div-add-mod, le_trans}
use native.Mathlib.Nat.{mul-le-mul_left, le-div_iff_mul-le, div-lt_iff_lt-mul, one-mul, mul_comm, div-mul-le_self}
use native.Mathlib.Omega.{arith}
use native.Mathlib.Decide.{dec_le}
use mathlib.Core.Path.{◌≡◌, refl, sym, ap, ◌∙◌, subst}
use mathlib.Core.Logic.{◌≢◌, ◌⊎◌, inl, inr}
use mathlib.Core.Bool.{Bool, true, false, cond, not, ◌&&◌, ◌||◌, false≢true, true≢false, or-true, or-false, or_assoc}
use mathlib.Core.Bool.{or_comm, and-false}
use mathlib.Core.List.{List, [], ◌∷◌}
use mathlib.Core.Option.{Option, none, some}
use lib.Dec.{eqb, leb, ltb}
use lib.ListN.{length, get_or, replicate}
use Rattle.words.proofs.ByPlace.{all_of, pairwise_get_d, all_replicate, pairwise_replicate}
use Rattle.words.specs.Lists.{all, any, pairwise}
use Rattle.words.specs.Counted.{every, within}
use Rattle.words.proofs.Tests.{and_l, and_r, and_i, and_map, or_map, not_true, of_not, eqb_eq, eqb_ne, eqb_false}
use Rattle.words.proofs.Tests.{false_of}
use Rattle.words.proofs.Tests.{le_of, of_le, lt_of, of_lt, within_in, within_of, absurd_some}
use Rattle.words.proofs.ListLaws.{all_map, any_map, pairwise_map, all_imp, all_get_d, any_get_d, any_at, any_not}
use Rattle.words.proofs.CountedLaws.{every_at}
use Rattle.ledger.specs.declared.Row.{Row}
use Rattle.ledger.specs.declared.Rule.{Rule}
use Rattle.ledger.specs.Records.{row, Ledger, is_party, empty_row, is_empty, is_live, has_ticket, record_of, full}
use Rattle.ledger.specs.Records.{enter, Plan, Member, member, plan_for, shortened, carry_out, carry_if}
use Rattle.ledger.specs.Records.{settle}
use Rattle.ledger.specs.Units.{span, address_at, first, past, fits, apart, valid, covers, free, freed_by, owns}
use Rattle.ledger.specs.Units.{owned}
use Rattle.ledger.proofs.RecordLaws.{has_ticket_lem, record_ticket, record_slot, settle_slot, carry_by}

-- ---- a record that fits

-- a ticket that is not 0 makes a record live
live_ticket : (r : Row) → r.ticket ≢ 0 → is_live r ≡ true
live_ticket r z = rw (eqb_ne r.ticket 0 z)

pub record Fitted (ρ : Rule) (W next : ℕ) (r : Row) : Type 0 where
  pub ticket : r.ticket ≢ 0
  -- the next ticket is 0 or above the record's
  pub below : (eqb next 0 || ltb r.ticket next) ≡ true
  pub live : is_live r ≡ true
  pub asked : 1 ≤ r.words
  pub party : is_party r.party ≡ true
  pub place : r.address ≡ address_at ρ (first ρ r)
  pub nonempty : first ρ r < past ρ r
  -- in words, and in units
  pub inside : ρ.unit * past ρ r ≤ W
  pub units : past ρ r ≤ W / ρ.unit

pub address_mono : (ρ : Rule) (j k : ℕ) → j ≤ k → address_at ρ j ≤ address_at ρ k
unfolding address_at
address_mono ρ j k h = omega (arith, mul-le-mul_left ρ.unit h)

module _ (ρ : Rule) (pos : 0 < ρ.unit) where
  pub span_pos : (n : ℕ) → 1 ≤ n → 1 ≤ span ρ n
  unfolding span
  span_pos n h = (le-div_iff_mul-le pos).1 (rw (one-mul ρ.unit) (omega arith))

  -- more words have no fewer units
  pub units_mono : (m n : ℕ) → m ≤ n → m / ρ.unit ≤ n / ρ.unit
  units_mono m n h = (le-div_iff_mul-le pos).1 (le_trans (div-mul-le_self m ρ.unit) h)

  pub span_mono : (m n : ℕ) → m ≤ n → span ρ m ≤ span ρ n
  unfolding span
  span_mono m n h = units_mono (m + ρ.lead + (ρ.unit - 1)) (n + ρ.lead + (ρ.unit - 1)) (omega arith)

  pub first_new : (t k n c : ℕ) → first ρ (row t (address_at ρ k) n c) ≡ k
  unfolding first address_at
  first_new t k n c = rw (add-sub_cancel (ρ.unit * k) ρ.lead) (mul-div_right k pos)

  pub past_new : (t k n c : ℕ) → past ρ (row t (address_at ρ k) n c) ≡ k + span ρ n
  unfolding past
  past_new t k n c = rw (first_new t k n c)

  place_is : (r : Row) → ρ.lead ≤ r.address → (r.address - ρ.lead) % ρ.unit ≡ 0
      → r.address ≡ address_at ρ (first ρ r)
  unfolding address_at first
  place_is r lead even = let e = div-add-mod (r.address - ρ.lead) ρ.unit in omega arith

  pub fits_facts : (W next : ℕ) (r : Row) → fits ρ W next r ≡ true → Fitted ρ W next r
  unfolding fits
  fits_facts W next r h =
      let ticket : r.ticket ≢ 0 = eqb_false r.ticket 0 (not_true (eqb r.ticket 0) (search (and_l, and_r))) in
      let asked : 1 ≤ r.words = le_of 1 r.words (search (and_l, and_r)) in
      let lead : ρ.lead ≤ r.address = le_of ρ.lead r.address (search (and_l, and_r)) in
      let off : ℕ = (r.address - ρ.lead) % ρ.unit in
      let even : off ≡ 0 = eqb_eq off 0 (search (and_l, and_r)) in
      let inside : ρ.unit * past ρ r ≤ W = le_of (ρ.unit * past ρ r) W (search (and_l, and_r)) in
      record {
        ticket = ticket;
        below = search (and_l, and_r);
        live = live_ticket r ticket;
        asked = asked;
        party = search (and_l, and_r);
        place = place_is r lead even;
        nonempty = unfold past in let one = span_pos r.words asked in omega arith;
        inside = inside;
        units = (le-div_iff_mul-le pos).1 (rw (mul_comm (past ρ r) ρ.unit) inside);
      }

  -- ---- the records of a valid ledger

  pub valid_at : (W next : ℕ) (L : Ledger) → valid ρ W next L ≡ true
      → (i : ℕ) → i < length L → is_live (get_or L i empty_row) ≡ true → Fitted ρ W next (get_or L i empty_row)
  unfolding valid
  valid_at W next L good i h live =
      let r = get_or L i empty_row in
      let each : Row → Bool = λ r. is_empty r || fits ρ W next r in
      let here : each r ≡ true = all_get_d each empty_row L (and_l (all each L) (pairwise (apart ρ) L) good) i h in
      fits_facts W next r (rw (not_true (is_empty r) live) at here)

  pub valid_record : (W next : ℕ) (L : Ledger) → valid ρ W next L ≡ true
      → (t : ℕ) (r : Row) → record_of t L ≡ some r → Fitted ρ W next r
  valid_record W next L good t r e =
      let (i, h, q) = record_slot t L r e in
      let (z, x) = record_ticket t L r e in
      subst (Fitted ρ W next) q (valid_at W next L good i h (ap is_live q ∙ live_ticket r (λ y. z (sym x ∙ y))))

-- ---- two records

module _ (ρ : Rule) where
  pub valid_apart : (W next : ℕ) (L : Ledger) → valid ρ W next L ≡ true → pairwise (apart ρ) L ≡ true
  unfolding valid
  valid_apart W next L good = and_r (all (λ r. is_empty r || fits ρ W next r) L) (pairwise (apart ρ) L) good

  pub covers_empty : (u : ℕ) (r : Row) → is_empty r ≡ true → covers ρ u r ≡ false
  unfolding covers
  covers_empty u r e = rw e

  pub covers_in : (u : ℕ) (r : Row) → is_live r ≡ true → first ρ r ≤ u → u < past ρ r → covers ρ u r ≡ true
  unfolding covers
  covers_in u r live a b =
      and_i (is_live r) (within (first ρ r) (past ρ r) u) live (within_in (first ρ r) (past ρ r) u a b)

  pub covers_of : (u : ℕ) (r : Row) → covers ρ u r ≡ true → (is_live r ≡ true) × (first ρ r ≤ u) × (u < past ρ r)
  unfolding covers
  covers_of u r h =
      let w = within_of (first ρ r) (past ρ r) u (and_r (is_live r) (within (first ρ r) (past ρ r) u) h) in
      (and_l (is_live r) (within (first ρ r) (past ρ r) u) h, w.0, w.1)

  -- the units of a record in a ledger are not free
  pub free_not : (t : ℕ) (L : Ledger) (r : Row) → record_of t L ≡ some r → (u : ℕ) → covers ρ u r ≡ true
      → free ρ L u ≡ false
  unfolding free
  free_not t L r e u h =
      let (i, l, q) = record_slot t L r e in
      ap not (any_at (covers ρ u) empty_row L i (ap (covers ρ u) q ∙ h) l)

  -- records that are apart share no unit
  apart_clash : (u : ℕ) (r s : Row) → apart ρ r s ≡ true → covers ρ u r ≡ true → covers ρ u s ≡ true → ⊥
  unfolding apart
  apart_clash u r s h x y =
      let (live-r, low-r, high-r) = covers_of u r x in
      let (live-s, low-s, high-s) = covers_of u s y in
      let differ = not (eqb r.ticket s.ticket) in
      let beside = leb (past ρ r) (first ρ s) || leb (past ρ s) (first ρ r) in
      let k : (differ && beside) ≡ true = rw (not_true (is_empty r) live-r, not_true (is_empty s) live-s) at h in
      go low-r high-r low-s high-s (leb (past ρ r) (first ρ s)) refl (and_r differ beside k)
    where
      go : first ρ r ≤ u → u < past ρ r → first ρ s ≤ u → u < past ρ s
          → (b : Bool) → leb (past ρ r) (first ρ s) ≡ b → (b || leb (past ρ s) (first ρ r)) ≡ true → ⊥
      go low-r high-r low-s high-s true e k = omega (arith, le_of (past ρ r) (first ρ s) e)
      go low-r high-r low-s high-s false e k = omega (arith, le_of (past ρ s) (first ρ r) k)

  apart_covers : (u : ℕ) (r s : Row) → apart ρ r s ≡ true → covers ρ u r ≡ true → covers ρ u s ≡ false
  apart_covers u r s h x = false_of (covers ρ u s) (apart_clash u r s h x)

  apart_none : (u : ℕ) (r : Row) (L : Ledger) → all (apart ρ r) L ≡ true → covers ρ u r ≡ true
      → any (covers ρ u) L ≡ false
  apart_none u r [] h x = refl
  apart_none u r (s ∷ L) h x =
      rw (apart_covers u r s (and_l (apart ρ r s) (all (apart ρ r) L) h) x)
      (apart_none u r L (and_r (apart ρ r s) (all (apart ρ r) L) h) x)

  -- no unit of a valid ledger is in two slots
  pub disjoint : (W next : ℕ) (L : Ledger) → valid ρ W next L ≡ true
      → (u i j : ℕ) → i < length L → j < length L → i ≢ j
      → covers ρ u (get_or L i empty_row) ≡ true → covers ρ u (get_or L j empty_row) ≡ false
  disjoint W next L good u i j a b d x = go (dec_le i j)
    where
      both : (m n : ℕ) → m < n → n < length L → apart ρ (get_or L m empty_row) (get_or L n empty_row) ≡ true
      both = pairwise_get_d (apart ρ) empty_row L (valid_apart W next L good)

      go : Dec (i ≤ j) → covers ρ u (get_or L j empty_row) ≡ false
      go (yes h) = apart_covers u (get_or L i empty_row) (get_or L j empty_row) (both i j (omega arith) b) x
      go (no h) =
          false_of (covers ρ u (get_or L j empty_row))
          (λ y. apart_clash u (get_or L j empty_row) (get_or L i empty_row) (both j i (omega arith) a) y x)

  -- ---- plans carried out

  -- a record that is carried is empty, or stands where it stood with no more units
  record Shrunk (r s : Row) : Type 0 where
    ticket : s.ticket ≡ r.ticket
    first : first ρ s ≡ first ρ r
    past : past ρ s ≤ past ρ r
    held : is_empty r ≡ false

  asked_live : (r : Row) → 1 ≤ r.words → is_empty r ≡ false
  asked_live r h = rw (eqb_ne r.words 0 (omega arith), and-false (eqb r.ticket 0 && eqb r.address 0))

  module _ (pos : 0 < ρ.unit) where
    past_cut : (r : Row) (n : ℕ) → n ≤ r.words → past ρ (shortened n r) ≤ past ρ r
    unfolding past first
    past_cut r n h = let s = span_mono ρ pos n r.words h in omega arith

    shrunk_cut : (r : Row) (n : ℕ) → 1 ≤ n → n ≤ r.words → Shrunk r (shortened n r)
    unfolding first
    shrunk_cut r n a b =
        record { ticket = refl; first = refl; past = past_cut r n b; held = asked_live r (omega arith) }

    stays_put : (r : Row) → (is_empty r ≡ true) ⊎ Shrunk r r
    stays_put r = go (is_empty r) refl
      where
        go : (b : Bool) → is_empty r ≡ b → (is_empty r ≡ true) ⊎ Shrunk r r
        go true e = inl e
        go false e = inr (record { ticket = refl; first = refl; past = omega arith; held = e })

    shrinks : (r : Row) (o : Option Plan) → (is_empty (carry_if o r) ≡ true) ⊎ Shrunk r (carry_if o r)
    shrinks r none = stays_put r
    shrinks r (some q) =
        carry_by (λ r q s. (is_empty s ≡ true) ⊎ Shrunk r s) (λ r. inl refl) (λ r n a b. inr (shrunk_cut r n a b))
        (λ r q. stays_put r) r q

    owns_carried : (i : ℕ) (r : Row) (o : Option Plan) → owns ρ i (carry_if o r) ≡ true → owns ρ i r ≡ true
    unfolding owns
    owns_carried i r none = λ h. h
    owns_carried i r (some q) =
        carry_by (λ r q s. owns ρ i s ≡ true → owns ρ i r ≡ true) (λ r h. absurd (false≢true h)) shorter
        (λ r q h. h) r q
      where
        shorter : (r : Row) (n : ℕ) → 1 ≤ n → n ≤ r.words → owns ρ i (shortened n r) ≡ true → owns ρ i r ≡ true
        shorter r n a b h =
            let hi = ρ.unit * past ρ (shortened n r) in
            let (lo, up) = within_of r.address hi i (and_r (is_live (shortened n r)) (within r.address hi i) h) in
            rw (asked_live r (omega arith))
            (within_in r.address (ρ.unit * past ρ r) i lo
            (omega (arith, mul-le-mul_left ρ.unit (past_cut r n b))))

    pub owned_settle : (ms : List Member) (L : Ledger) (i : ℕ) → owned ρ (settle ms L) i ≡ true → owned ρ L i ≡ true
    unfolding owned
    owned_settle ms L i h =
        any_map (λ r. carry_if (plan_for r.ticket ms) r) (owns ρ i)
        (λ r. owns_carried i r (plan_for r.ticket ms)) L h

    apart_shrunk : (r s r' s' : Row) → apart ρ r s ≡ true → (is_empty r' ≡ true) ⊎ Shrunk r r'
        → (is_empty s' ≡ true) ⊎ Shrunk s s' → apart ρ r' s' ≡ true
    unfolding apart
    apart_shrunk r s r' s' h (inl e) y = rw e
    apart_shrunk r s r' s' h (inr x) (inl e) = rw (e, or-true (is_empty r'))
    apart_shrunk r s r' s' h (inr x) (inr y) =
        let differ = not (eqb r.ticket s.ticket) in
        let beside = leb (past ρ r) (first ρ s) || leb (past ρ s) (first ρ r) in
        let k : (differ && beside) ≡ true = rw (x.held, y.held) at h in
        let d : not (eqb r'.ticket s'.ticket) ≡ true = rw (x.ticket, y.ticket) (and_l differ beside k) in
        rw (d, x.first, y.first)
        (or_tail (is_empty r' || is_empty s') (leb (past ρ r') (first ρ s) || leb (past ρ s') (first ρ r))
        (or_map (leb (past ρ r) (first ρ s)) (leb (past ρ s) (first ρ r)) (leb (past ρ r') (first ρ s))
        (leb (past ρ s') (first ρ r))
        (λ e. of_le (past ρ r') (first ρ s) (omega (arith, le_of (past ρ r) (first ρ s) e, x.past)))
        (λ e. of_le (past ρ s') (first ρ r) (omega (arith, le_of (past ρ s) (first ρ r) e, y.past)))
        (and_r differ beside k)))
      where
        or_tail : (a b : Bool) → b ≡ true → (a || b) ≡ true
        or_tail a b e = rw (e, or-true a)

    apart_carried : (r s : Row) (o p : Option Plan) → apart ρ r s ≡ true
        → apart ρ (carry_if o r) (carry_if p s) ≡ true
    apart_carried r s o p h = apart_shrunk r s (carry_if o r) (carry_if p s) h (shrinks r o) (shrinks s p)

    fits_carried : (W next : ℕ) (r : Row) (o : Option Plan) → (is_empty r || fits ρ W next r) ≡ true
        → (is_empty (carry_if o r) || fits ρ W next (carry_if o r)) ≡ true
    unfolding fits
    fits_carried W next r none = λ h. h
    fits_carried W next r (some q) =
        carry_by (λ r q s. (is_empty r || fits ρ W next r) ≡ true → (is_empty s || fits ρ W next s) ≡ true)
        (λ r h. refl) shorter (λ r q h. h) r q
      where
        shorter : (r : Row) (n : ℕ) → 1 ≤ n → n ≤ r.words → (is_empty r || fits ρ W next r) ≡ true
            → (is_empty (shortened n r) || fits ρ W next (shortened n r)) ≡ true
        shorter r n a b h =
            let k : fits ρ W next r ≡ true = rw (asked_live r (omega arith)) at h in
            let inside = le_of (ρ.unit * past ρ r) W (search (and_l, and_r)) in
            let less = of_le (ρ.unit * past ρ (shortened n r)) W
            (omega (arith, mul-le-mul_left ρ.unit (past_cut r n b))) in
            let one = of_le 1 n a in
            rw (asked_live (shortened n r) a) (search (and_i, and_l, and_r))

    pub valid_settle : (W next : ℕ) (ms : List Member) (L : Ledger) → valid ρ W next L ≡ true
        → valid ρ W next (settle ms L) ≡ true
    unfolding valid
    valid_settle W next ms L good =
        let carry : Row → Row = λ r. carry_if (plan_for r.ticket ms) r in
        let each : Row → Bool = λ r. is_empty r || fits ρ W next r in
        and_map (all each L) (pairwise (apart ρ) L) (all each (settle ms L)) (pairwise (apart ρ) (settle ms L))
        (all_map carry each (λ r. fits_carried W next r (plan_for r.ticket ms)) L)
        (pairwise_map carry (apart ρ) (λ r s. apart_carried r s (plan_for r.ticket ms) (plan_for s.ticket ms)) L)
        good

  -- a carried record covers no unit that it did not cover
  covers_shrunk : (u : ℕ) (r s : Row) → (is_empty s ≡ true) ⊎ Shrunk r s → covers ρ u r ≡ false → covers ρ u s ≡ false
  covers_shrunk u r s (inl e) h = covers_empty u s e
  covers_shrunk u r s (inr x) h =
      false_of (covers ρ u s) (λ y.
      let (live, lo, hi) = covers_of u s y in
      true≢false (sym (covers_in u r (of_not (is_empty r) x.held) (omega (arith, x.first)) (omega (arith, x.past)))
      ∙ h))

  -- exactly the units that the record has no more become free
  module _ (pos : 0 < ρ.unit) (t u : ℕ) (q : Plan) (r : Row) where
    freed : (L : Ledger) → pairwise (apart ρ) L ≡ true → record_of t L ≡ some r
        → not (any (covers ρ u) (settle (member t q ∷ []) L)) ≡ (not (any (covers ρ u) L) || freed_by ρ q r u)
    freed [] h e = absurd (absurd_some e)
    freed (s ∷ L) h e =
        go (has_ticket t s) refl e (freed L (and_r (all (apart ρ s) L) (pairwise (apart ρ) L) h))
      where
        rest : Ledger
        rest = settle (member t q ∷ []) L

        -- s is the record, and no other covers its units
        here : (b c : Bool) → covers ρ u s ≡ b → (b ≡ false → c ≡ false)
            → not (c || any (covers ρ u) L) ≡ (not (b || any (covers ρ u) L) || (b && not c))
        here true c x y = rw (apart_none u s L (and_l (all (apart ρ s) L) (pairwise (apart ρ) L) h) x, or-false c)
        here false c x y = rw (y refl) (sym (or-false (not (any (covers ρ u) L))))

        -- the record is a later one, apart from s
        later : (b : Bool) → covers ρ u s ≡ b → record_of t L ≡ some r
            → not (any (covers ρ u) rest) ≡ (not (any (covers ρ u) L) || freed_by ρ q r u)
            → not (b || any (covers ρ u) rest) ≡ (not (b || any (covers ρ u) L) || freed_by ρ q r u)
        later true x e ih =
            let (i, l, y) = record_slot t L r e in
            let z = all_get_d (apart ρ s) empty_row L (and_l (all (apart ρ s) L) (pairwise (apart ρ) L) h) i l in
            rw (apart_covers u s r (ap (apart ρ s) (sym y) ∙ z) x)
        later false x e ih = ih

        go : (b : Bool) → has_ticket t s ≡ b → cond b (some s) (record_of t L) ≡ some r
            → (record_of t L ≡ some r → not (any (covers ρ u) rest) ≡ (not (any (covers ρ u) L) || freed_by ρ q r u))
            → not (any (covers ρ u) (settle (member t q ∷ []) (s ∷ L)))
            ≡ (not (covers ρ u s || any (covers ρ u) L) || freed_by ρ q r u)
        go true x e ih =
            let (z, y) = (has_ticket_lem t s).0 x in
            let p : s ≡ r = cc in
            ap (λ (M : Ledger). not (any (covers ρ u) M)) (settle_slot ρ (s ∷ L) 0 t q h (omega arith) z y)
            ∙ here (covers ρ u s) (covers ρ u (carry_out q s)) refl
            (covers_shrunk u s (carry_out q s) (shrinks pos s (some q)))
            ∙ ap (λ (v : Row). not (covers ρ u s || any (covers ρ u) L) || freed_by ρ q v u) p
        go false x e ih =
            let d : t ≢ s.ticket = λ y. true≢false (sym ((has_ticket_lem t s).1 ((record_ticket t L r e).0, sym y)) ∙ x) in
            rw (eqb_ne t s.ticket d) (later (covers ρ u s) refl e (ih e))

  pub free_settle : 0 < ρ.unit → (W next : ℕ) (L : Ledger) → valid ρ W next L ≡ true → (t : ℕ) (q : Plan) (r : Row)
      → record_of t L ≡ some r → (u : ℕ)
      → free ρ (settle (member t q ∷ []) L) u ≡ (free ρ L u || freed_by ρ q r u)
  unfolding free
  free_settle pos W next L good t q r e u = freed pos t u q r L (valid_apart W next L good) e

-- ---- a new record

all_enter : (p : Row → Bool) (r : Row) (L : Ledger) → p r ≡ true → all p L ≡ true → all p (enter r L) ≡ true
all_enter p r [] h e = refl
all_enter p r (s ∷ L) h e = go (is_empty s) (all_enter p r L h (and_r (p s) (all p L) e))
  where
    go : (b : Bool) → all p (enter r L) ≡ true → all p (cond b (r ∷ L) (s ∷ enter r L)) ≡ true
    go true ih = and_i (p r) (all p L) h (and_r (p s) (all p L) e)
    go false ih = and_i (p s) (all p (enter r L)) (and_l (p s) (all p L) e) ih

pairwise_enter : (p : Row → Row → Bool) (r : Row) (L : Ledger)
    → all (p r) L ≡ true → all (λ s. p s r) L ≡ true → pairwise p L ≡ true → pairwise p (enter r L) ≡ true
pairwise_enter p r [] a b e = refl
pairwise_enter p r (s ∷ L) a b e =
    let after = and_r (p r s) (all (p r) L) a in
    let before = and_r (p s r) (all (λ q. p q r) L) b in
    let later = and_l (all (p s) L) (pairwise p L) e in
    let rest = and_r (all (p s) L) (pairwise p L) e in
    go (is_empty s) after later rest (pairwise_enter p r L after before rest)
  where
    go : (c : Bool) → all (p r) L ≡ true → all (p s) L ≡ true → pairwise p L ≡ true → pairwise p (enter r L) ≡ true
        → pairwise p (cond c (r ∷ L) (s ∷ enter r L)) ≡ true
    go true after later rest ih = and_i (all (p r) L) (pairwise p L) after rest
    go false after later rest ih =
        and_i (all (p s) (enter r L)) (pairwise p (enter r L))
        (all_enter (p s) r L (and_l (p s r) (all (λ q. p q r) L) b) later) ih

-- a test that no empty record passes, after a record is entered
any_enter : (p : Row → Bool) → ((r : Row) → is_empty r ≡ true → p r ≡ false)
    → (new : Row) (L : Ledger) → full L ≡ false → any p (enter new L) ≡ (any p L || p new)
any_enter p h new [] e = absurd (true≢false e)
any_enter p h new (r ∷ L) e = go (is_empty r) refl e (any_enter p h new L)
  where
    go : (b : Bool) → is_empty r ≡ b → (not b && full L) ≡ false
        → (full L ≡ false → any p (enter new L) ≡ (any p L || p new))
        → any p (cond b (new ∷ L) (r ∷ enter new L)) ≡ (p r || any p L || p new)
    go true x e ih = rw (h r x) (or_comm (p new) (any p L))
    go false x e ih = rw (ih e) (sym (or_assoc (p r) (any p L) (p new)))

nor : (a b : Bool) → not (a || b) ≡ (not a && not b)
nor true b = refl
nor false b = refl

module _ (ρ : Rule) where
  pub free_enter : (new : Row) (L : Ledger) → full L ≡ false → (u : ℕ)
      → free ρ (enter new L) u ≡ (free ρ L u && not (covers ρ u new))
  unfolding free
  free_enter new L e u =
      ap not (any_enter (covers ρ u) (covers_empty ρ u) new L e) ∙ nor (any (covers ρ u) L) (covers ρ u new)

  owns_empty : (i : ℕ) (r : Row) → is_empty r ≡ true → owns ρ i r ≡ false
  unfolding owns
  owns_empty i r e = rw e

  pub owned_enter : (new : Row) (L : Ledger) → full L ≡ false → (i : ℕ)
      → owned ρ (enter new L) i ≡ (owned ρ L i || owns ρ i new)
  unfolding owned
  owned_enter new L e i = any_enter (owns ρ i) (owns_empty i) new L e

  pub valid_blank : (W next k : ℕ) → valid ρ W next (replicate k empty_row) ≡ true
  unfolding valid apart
  valid_blank W next k =
      let each : Row → Bool = λ r. is_empty r || fits ρ W next r in
      and_i (all each (replicate k empty_row)) (pairwise (apart ρ) (replicate k empty_row))
      (all_replicate each empty_row refl k) (pairwise_replicate (apart ρ) empty_row refl k)

-- the next ticket, where it is not 0, is above what was below an earlier one
below_later : (t next next' : ℕ) → next ≢ 0 → (eqb next 0 || ltb t next) ≡ true
    → (eqb next' 0 || ltb next next') ≡ true
    → (eqb next' 0 || ltb t next') ≡ true
below_later t next next' z h k =
    let below : t < next = lt_of t next (rw (eqb_ne next 0 z) at h) in
    or_map (eqb next' 0) (ltb next next') (eqb next' 0) (ltb t next') (λ e. e)
    (λ e. of_lt t next' (omega (arith, lt_of next next' e))) k

module _ (ρ : Rule) (pos : 0 < ρ.unit) where
  apart_of : (r s : Row) → r.ticket ≢ s.ticket → (leb (past ρ r) (first ρ s) || leb (past ρ s) (first ρ r)) ≡ true
      → apart ρ r s ≡ true
  unfolding apart
  apart_of r s d h = rw (eqb_ne r.ticket s.ticket d, h) (or-true (is_empty r || is_empty s))

  apart_empty : (r s : Row) → is_empty s ≡ true → (apart ρ r s ≡ true) × (apart ρ s r ≡ true)
  unfolding apart
  apart_empty r s e = (rw (e, or-true (is_empty r)), rw e)

  -- units of which a live record covers none lie beside it
  beside : (r : Row) (k e : ℕ) → k < e → is_live r ≡ true → first ρ r < past ρ r
      → ((u : ℕ) → k ≤ u → u < e → covers ρ u r ≡ false) → (leb e (first ρ r) || leb (past ρ r) k) ≡ true
  beside r k e some_units live some-of-r h = go (dec_le e (first ρ r)) (dec_le (past ρ r) k)
    where
      go : Dec (e ≤ first ρ r) → Dec (past ρ r ≤ k) → (leb e (first ρ r) || leb (past ρ r) k) ≡ true
      go (yes a) b = rw (of_le e (first ρ r) a)
      go (no a) (yes b) = rw (of_le (past ρ r) k b) (or-true (leb e (first ρ r)))
      go (no a) (no b) =
          let u : ℕ = max k (first ρ r) in
          absurd (true≢false (sym (covers_in ρ u r live (omega arith) (omega arith))
          ∙ h u (omega arith) (omega arith)))

  -- a record for ticket `next` at unit k, over free units; the next ticket after it is 0 or above it
  module _ (W next next' k n c : ℕ) (L : Ledger) (good : valid ρ W next L ≡ true) (some_next : next ≢ 0)
      (above : (eqb next' 0 || ltb next next') ≡ true) (asked : 1 ≤ n) (party : is_party c ≡ true)
      (room : k + span ρ n ≤ W / ρ.unit)
      (unused : every (free ρ L) k (span ρ n) ≡ true) where
    new : Row
    new = row next (address_at ρ k) n c

    new_units : (first ρ new ≡ k) × (past ρ new ≡ k + span ρ n)
    unfolding new
    new_units = (first_new ρ pos next k n c, past_new ρ pos next k n c)

    new_fits : fits ρ W next' new ≡ true
    unfolding fits new address_at
    new_fits =
        let place = ρ.unit * k in
        let most = le_trans (mul-le-mul_left ρ.unit room) (mul-div-le W ρ.unit) in
        let inside : ρ.unit * past ρ new ≤ W = rw new_units.1 most in
        rw (
          eqb_ne next 0 some_next,
          above,
          of_le 1 n asked,
          party,
          of_le ρ.lead (place + ρ.lead) (omega arith),
          add-sub_cancel place ρ.lead,
          mul-mod_right ρ.unit k,
          of_le (ρ.unit * past ρ new) W inside,
        )

    uncovered : (i : ℕ) → i < length L → (u : ℕ) → k ≤ u → u < k + span ρ n → covers ρ u (get_or L i empty_row) ≡ false
    unfolding free
    uncovered i h u a b =
        let none-covers = not_true (any (covers ρ u) L) (every_at (free ρ L) k (span ρ n) unused u a b) in
        any_not (covers ρ u) empty_row L none-covers i h

    apart_new : (i : ℕ) → i < length L → (b : Bool) → is_empty (get_or L i empty_row) ≡ b
        → (apart ρ new (get_or L i empty_row) ≡ true) × (apart ρ (get_or L i empty_row) new ≡ true)
    unfolding new
    apart_new i h true e = apart_empty new (get_or L i empty_row) e
    apart_new i h false e =
        let r = get_or L i empty_row in
        let facts = valid_at ρ pos W next L good i h (of_not (is_empty r) e) in
        let below : r.ticket < next = lt_of r.ticket next (rw (eqb_ne next 0 some_next) at facts.below) in
        let some_units : k < k + span ρ n = let one = span_pos ρ pos n asked in omega arith in
        let x = beside r k (k + span ρ n) some_units facts.live facts.nonempty (uncovered i h) in
        let one_side = leb (past ρ new) (first ρ r) in
        let other-side = leb (past ρ r) (first ρ new) in
        let y : (one_side || other-side) ≡ true = rw (new_units.0, new_units.1) x in
        (apart_of new r (λ q. omega arith) y, apart_of r new (λ q. omega arith) (or_comm other-side one_side ∙ y))

    fits_later : (r : Row) → fits ρ W next r ≡ true → fits ρ W next' r ≡ true
    unfolding fits
    fits_later r h =
        let below = below_later r.ticket next next' some_next (fits_facts ρ pos W next r h).below above in
        search (and_i, and_l, and_r)

    pub valid_enter : valid ρ W next' (enter (row next (address_at ρ k) n c) L) ≡ true
    unfolding valid new
    valid_enter =
        let each : Row → Bool = λ r. is_empty r || fits ρ W next r in
        let each' : Row → Bool = λ r. is_empty r || fits ρ W next' r in
        let old = and_l (all each L) (pairwise (apart ρ) L) good in
        let later : (r : Row) → each r ≡ true → each' r ≡ true =
        λ r. or_map (is_empty r) (fits ρ W next r) (is_empty r) (fits ρ W next' r) (λ e. e) (fits_later r) in
        let still = all_imp each each' later L old in
        and_i (all each' (enter new L)) (pairwise (apart ρ) (enter new L))
        (all_enter each' new L (rw new_fits (or-true (is_empty new))) still)
        (pairwise_enter (apart ρ) new L
        (all_of (apart ρ new) empty_row L (λ i h. (apart_new i h (is_empty (get_or L i empty_row)) refl).0))
        (all_of (λ r. apart ρ r new) empty_row L (λ i h. (apart_new i h (is_empty (get_or L i empty_row)) refl).1))
        (valid_apart ρ W next L good))

-- ---- words of the arena

module _ (ρ : Rule) where
  pub owned_in : (L : Ledger) (r : Row) → record_of r.ticket L ≡ some r
      → (i : ℕ) → r.address ≤ i → i < ρ.unit * past ρ r → owned ρ L i ≡ true
  unfolding owned owns
  owned_in L r e i a b =
      let (j, h, q) = record_slot r.ticket L r e in
      let live = live_ticket r (record_ticket r.ticket L r e).0 in
      let hi = ρ.unit * past ρ r in
      let own = and_i (is_live r) (within r.address hi i) live (within_in r.address hi i a b) in
      any_at (owns ρ i) empty_row L j (ap (owns ρ i) q ∙ own) h

  pub owned_covered : 0 < ρ.unit → (W next : ℕ) (L : Ledger) → valid ρ W next L ≡ true
      → (i : ℕ) → owned ρ L i ≡ true → free ρ L (i / ρ.unit) ≡ false
  unfolding owned owns free address_at
  owned_covered pos W next L good i h =
      let (j, l, own) = any_get_d (owns ρ i) empty_row L h in
      let r = get_or L j empty_row in
      let lo = r.address in
      let hi = ρ.unit * past ρ r in
      let live = and_l (is_live r) (within lo hi i) own in
      let facts = valid_at ρ pos W next L good j l live in
      let (a, b) = within_of lo hi i (and_r (is_live r) (within lo hi i) own) in
      let place = facts.place in
      let low : first ρ r ≤ i / ρ.unit =
      (le-div_iff_mul-le pos).1 (rw (mul_comm (first ρ r) ρ.unit) (omega arith)) in
      let high : i / ρ.unit < past ρ r = (div-lt_iff_lt-mul pos).1 (rw (mul_comm (past ρ r) ρ.unit) b) in
      ap not (any_at (covers ρ (i / ρ.unit)) empty_row L j (covers_in ρ (i / ρ.unit) r live low high) l)
