-- A block cut short, and what lay behind it given back: over the readings of a pool, since what is given back was never
-- a record's own block. Assumes nothing.
use Prim.Native.Nat.{ℕ, ◌+◌, ◌-◌, ◌<◌, ◌≤◌}
use native.Mathlib.Decide.{dec_lt, ℕ_discrete}
use native.Mathlib.Nat.{sub-zero}
use native.Mathlib.Omega.{arith}
use mathlib.Core.Bool.{Bool, false, cond, not}
use mathlib.Core.List.{List}
use mathlib.Core.Logic.{◌≢◌}
use mathlib.Core.Path.{◌≡◌, sym, ap, ◌∙◌}
use lib.Dec.{eqb}
use lib.IntN.{ℤ, pos, neg_ℤ}
use lib.ListN.{length, get_or, set, length-set}
use lib.Seq.{get_or-set_same, get_or-set_other}
use Rattle.words.specs.Places.{stamp}
use Rattle.words.proofs.PlaceLaws.{length_stamp, stamp_is, stamp_keeps, stamp_sets}
use Rattle.words.proofs.Tests.{eqb_ne, eqb_same}
use Rattle.segment_cores.specs.Stores.{merged}
use Rattle.segment_cores.specs.Views.{word, owned_by, Whole, RunOf, Rest, AddsBlock, Cut}
use Rattle.segment_cores.proofs.PlaceLaws.{ControlsChange, placed}
use Rattle.segment_cores.proofs.StoreLaws.{released}
use Rattle.segment_cores.proofs.WordLaws.{clash, opens_before, word_held}

-- the sizes with the block at p as one of m units, and one of k behind it
abbrev pub parted : (ℕ → ℕ) → ℕ → ℕ → ℕ → ℕ → ℕ
parted st p m k u = cond (eqb u p) m (cond (eqb u (p + m)) k (st u))

module _ (f : ℕ → Bool) (st : ℕ → ℕ) (W : ℕ) (A : Whole f st W) (p m k : ℕ) (here : st p ≡ m + k) (some : 0 < m)
    (more : 0 < k) where
  abbrev st₂ : ℕ → ℕ
  st₂ = parted st p m k

  pub at_p : parted st p m k p ≡ m
  at_p = rw (eqb_same p)

  pub at_q : parted st p m k (p + m) ≡ k
  at_q = rw (eqb_ne (p + m) p (λ e. omega arith), eqb_same (p + m))

  pub at_other : (u : ℕ) → u ≢ p → u ≢ p + m → parted st p m k u ≡ st u
  at_other u a b = rw (eqb_ne u p a, eqb_ne u (p + m) b)

  -- no block began inside the old one
  inside : (u : ℕ) → p < u → u < p + (m + k) → st u ≡ 0
  inside u a b = A.alone p u a (rw here b)

  pub parted_whole : Whole f (parted st p m k) W
  parted_whole = record { fits = fits; covers = covers; alone = alone; belongs = belongs }
    where
      old_fits : p + (m + k) ≤ W
      old_fits = rw here at (A.fits p (rw here (omega arith)))

      fits : (u : ℕ) → 0 < st₂ u → u + st₂ u ≤ W
      fits u h = go (ℕ_discrete u p) (ℕ_discrete u (p + m))
        where
          go : Dec (u ≡ p) → Dec (u ≡ p + m) → u + st₂ u ≤ W
          go (yes e) y = rw e (rw at_p (omega (arith, old_fits)))
          go (no d) (yes e) = rw e (rw at_q (omega (arith, old_fits)))
          go (no d) (no e) = rw (at_other u d e) (A.fits u (rw (at_other u d e) at h))

      covers : (u j : ℕ) → u ≤ j → j < u + st₂ u → f j ≡ false
      covers u j a b = go (ℕ_discrete u p) (ℕ_discrete u (p + m))
        where
          old : p ≤ j → j < p + (m + k) → f j ≡ false
          old x y = A.covers p j x (rw here y)

          go : Dec (u ≡ p) → Dec (u ≡ p + m) → f j ≡ false
          go (yes e) y = old (omega arith) (omega (arith, ap st₂ e ∙ at_p))
          go (no d) (yes e) = old (omega arith) (omega (arith, ap st₂ e ∙ at_q))
          go (no d) (no e) = A.covers u j a (omega (arith, at_other u d e))

      alone : (u j : ℕ) → u < j → j < u + st₂ u → st₂ j ≡ 0
      alone u j a b = go (ℕ_discrete u p) (ℕ_discrete u (p + m))
        where
          in_old : p < j → j < p + (m + k) → j ≢ p + m → st₂ j ≡ 0
          in_old x y z = at_other j (λ e. omega arith) z ∙ inside j x y

          go : Dec (u ≡ p) → Dec (u ≡ p + m) → st₂ j ≡ 0
          go (yes e) y =
              let s = ap st₂ e ∙ at_p in
              in_old (omega arith) (omega (arith, s)) (λ z. omega (arith, s))
          go (no d) (yes e) =
              let s = ap st₂ e ∙ at_q in
              in_old (omega arith) (omega (arith, s)) (λ z. omega (arith, s))
          go (no d) (no e) =
              let s = at_other u d e in
              let old : st j ≡ 0 = A.alone u j a (omega (arith, s)) in
              at_other j (λ z. omega (arith, ap st z ∙ here, old)) (λ z. cut_off z s (dec_lt u p)) ∙ old
            where
              -- a block that covers p + m would be the one at p
              cut_off : j ≡ p + m → st₂ u ≡ st u → Dec (u < p) → ⊥
              cut_off z s (yes l) = omega (arith, A.alone u p l (omega (arith, s)), here)
              cut_off z s (no l) = omega (arith, inside u (omega arith) (omega arith), s)

      belongs : (j : ℕ) → f j ≡ false → (u : ℕ) × (u ≤ j) × (j < u + st₂ u)
      belongs j h = let (u, a, b) = A.belongs j h in go u a b (ℕ_discrete u p) (dec_lt j (p + m))
        where
          go : (u : ℕ) → u ≤ j → j < u + st u → Dec (u ≡ p) → Dec (j < p + m) → (u : ℕ) × (u ≤ j) × (j < u + st₂ u)
          go u a b (yes e) (yes l) = (p, omega arith, rw at_p l)
          go u a b (yes e) (no l) = (p + m, omega arith, omega (arith, at_q, ap st e ∙ here))
          go u a b (no d) y =
              let other : u ≢ p + m = λ e. omega (arith, ap st e ∙ inside (p + m) (omega arith) (omega arith)) in
              (u, a, omega (arith, at_other u d other))

  pub same_word : (u : ℕ) → u ≢ p → u ≢ p + m → word f (parted st p m k) W u ≡ word f st W u
  unfolding word
  same_word u a b = rw (at_other u a b)

-- ---- the block is cut: what is given back is a block of its own that is released, with none free below it

module _ (f : ℕ → Bool) (st : ℕ → ℕ) (f' : ℕ → Bool) (st' : ℕ → ℕ) (W : ℕ) (A : Whole f st W) (B : Whole f' st' W)
    (p m k : ℕ) (C : Cut f st f' st' W p m k) where
  A₂ : Whole f (parted st p m k) W
  A₂ = parted_whole f st W A p m k C.block C.some C.more

  behind : AddsBlock f' st' f (parted st p m k) W (p + m) k
  behind = record {
    some = C.more;
    inside = C.inside;
    gap = C.freed;
    held = λ u a b. A.covers p u (omega arith) (omega (arith, C.block));
    below = λ u a. sym (C.below u a);
    above = λ u a. sym (C.above u a);
    head = at_q f st W A p m k C.block C.some C.more;
    heads = λ u d. go u d (ℕ_discrete u p);
  }
    where
      go : (u : ℕ) → u ≢ p + m → Dec (u ≡ p) → parted st p m k u ≡ st' u
      go u d (yes e) =
          rw e (at_p f st W A p m k C.block C.some C.more ∙ sym C.head)
      go u d (no e) = at_other f st W A p m k C.block C.some C.more u e d ∙ sym (C.heads u e)

  -- the unit before is kept
  none_below : Rest f' (p + m) 0 (p + m)
  none_below = record {
    upto = omega arith;
    passes = λ u a b. absurd (omega arith);
    opened =
        let last = A.covers p (p + m - 1) (omega (arith, C.some)) (omega (arith, C.some, C.block, C.more)) in
        opens_before f' (p + m) (omega (arith, C.some))
        ∙ ap not (C.below (p + m - 1) (omega (arith, C.some)) ∙ last);
  }

  module _ (y : ℕ) (right : RunOf f' (p + m + k) (W - (p + m + k)) y) where
    pub cut_placed : ControlsChange (word f' st' W) (word f (parted st p m k) W) (p + m) 0 (p + m) k y
    cut_placed = placed f' st' f (parted st p m k) W B A₂ (p + m) k behind (p + m) 0 y none_below right

    -- no word but those of the two control words and behind them has changed
    pub same_control : (u : ℕ) → u ≢ p → u ≢ p + m → (u ≡ p + m + k → y ≡ 0) → word f' st' W u ≡ word f st W u
    same_control u a b c =
        sym (cut_placed.same u b b c) ∙ same_word f st W A p m k C.block C.some C.more u a b

    module _ (v v₁ : List ℤ) (long : length v ≡ W) (cut : v₁ ≡ set v p (neg_ℤ (pos m)))
        (stored : (u : ℕ) → u < W → owned_by f st u ≡ false → get_or v u (pos 0) ≡ word f st W u) where
      long₁ : length v₁ ≡ W
      long₁ = ap length cut ∙ length-set v p (neg_ℤ (pos m)) ∙ long

      at_head : get_or v₁ p (pos 0) ≡ neg_ℤ (pos m)
      at_head =
          ap (λ (x : List ℤ). get_or x p (pos 0)) cut
          ∙ get_or-set_same v p (neg_ℤ (pos m)) (pos 0) (omega (arith, long, C.inside, C.some))

      elsewhere : (u : ℕ) → u ≢ p → get_or v₁ u (pos 0) ≡ get_or v u (pos 0)
      elsewhere u d =
          ap (λ (x : List ℤ). get_or x u (pos 0)) cut ∙ get_or-set_other v p u (neg_ℤ (pos m)) (pos 0) d

      -- but for what is given back
      stored₁ : (u : ℕ) → u < W → (p + m ≤ u → u < p + m + k → ⊥) → owned_by f (parted st p m k) u ≡ false
          → get_or v₁ u (pos 0) ≡ word f (parted st p m k) W u
      stored₁ u l out o = go (ℕ_discrete u p)
        where
          go : Dec (u ≡ p) → get_or v₁ u (pos 0) ≡ word f (parted st p m k) W u
          go (yes e) =
              rw e (at_head
              ∙ sym (word_held f (parted st p m k) W p m (at_p f st W A p m k C.block C.some C.more) C.some))
          go (no d) =
              let q : u ≢ p + m = λ e. out (omega arith) (omega (arith, C.more)) in
              elsewhere u d
              ∙ stored u l (sym (rw (at_other f st W A p m k C.block C.some C.more u d q)) ∙ o)
              ∙ sym (same_word f st W A p m k C.block C.some C.more u d q)

      -- the head is no holder's
      over : stamp (owned_by f' st') (word f' st' W) v₁ ≡ stamp (owned_by f' st') (word f' st' W) v
      over =
          let o = owned_by f' st' in
          let w = word f' st' W in
          stamp_is o w v (stamp o w v₁) (pos 0) (length_stamp o w v₁ ∙ long₁ ∙ sym long)
          (λ u l h. stamp_keeps o w v₁ u (pos 0) h ∙ elsewhere u (λ e. clash (sym (ap o e) ∙ h) not_owned))
          (λ u l h. stamp_sets o w v₁ u (pos 0) (omega (arith, long₁, long)) h)
        where
          not_owned : owned_by f' st' p ≡ false
          not_owned =
              rw (
                C.below p (omega (arith, C.some)),
                A.covers p p (omega arith) (omega (arith, C.block, C.some)),
                C.head,
                eqb_ne m 0 (omega (arith, C.some)),
              )

      pub trims : merged v₁ (p + m) k 0 y ≡ stamp (owned_by f' st') (word f' st' W) v
      trims =
          rw (sub-zero (p + m))
          (released f' st' f (parted st p m k) v₁ (rw long₁ B) (rw long₁ A₂) (p + m) k (rw long₁ behind) (p + m) 0 y
          none_below (rw long₁ right) (λ u l out o. rw long₁ (stored₁ u (rw long₁ at l) out o))
          ∙ rw long₁ over)
