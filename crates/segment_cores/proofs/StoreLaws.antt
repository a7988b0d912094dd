-- What a grant and a release store is the stored form of the new ledger. Assumes nothing.
use Prim.Native.Nat.{ℕ, ◌+◌, ◌-◌, ◌<◌, ◌≤◌}
use native.Mathlib.Decide.{dec_lt, ℕ_discrete}
use native.Mathlib.Omega.{arith}
use mathlib.Core.Bool.{Bool, true, false, cond}
use mathlib.Core.List.{List}
use mathlib.Core.Logic.{◌≢◌}
use mathlib.Core.Path.{◌≡◌, refl, sym, ap, ◌∙◌}
use lib.Dec.{ltb}
use lib.IntN.{ℤ, pos, neg_ℤ}
use lib.ListN.{length, get_or, set, length-set}
use lib.Seq.{get_or-set_same, get_or-set_other}
use Rattle.words.specs.Places.{stamp, wiped}
use Rattle.words.proofs.PlaceLaws.{stamp_is, length_wiped, wiped_in, wiped_out}
use Rattle.words.proofs.Tests.{of_lt, of_ge, eqb_ne, within_low, within_high}
use Rattle.segment_cores.specs.Stores.{put_rest, grant_stores, past_old}
use Rattle.segment_cores.specs.Views.{word, owned_by, Whole, RunOf, Rest, AddsBlock}
use Rattle.segment_cores.proofs.PlaceLaws.{ControlsChange, placed, all_free}
use Rattle.segment_cores.proofs.WordLaws.{clash}

put_length : (v : List ℤ) (e y : ℕ) → length (put_rest v e y) ≡ length v
put_length v e y = go (ltb 0 y)
  where
    go : (b : Bool) → length (cond b (set v e (pos y)) v) ≡ length v
    go true = length-set v e (pos y)
    go false = refl

put_at : (v : List ℤ) (e y : ℕ) → 0 < y → e < length v → get_or (put_rest v e y) e (pos 0) ≡ pos y
put_at v e y h l = rw (of_lt 0 y h) (get_or-set_same v e (pos y) (pos 0) l)

put_other : (v : List ℤ) (e y u : ℕ) → (u ≡ e → y ≡ 0) → get_or (put_rest v e y) u (pos 0) ≡ get_or v u (pos 0)
put_other v e y u h = go (dec_lt 0 y)
  where
    go : Dec (0 < y) → get_or (put_rest v e y) u (pos 0) ≡ get_or v u (pos 0)
    go (yes l) = rw (of_lt 0 y l) (get_or-set_other v e u (pos y) (pos 0) (λ i. omega (arith, h i)))
    go (no l) = rw (of_ge 0 y (omega arith))

pub past_low : (e y : ℕ) → e ≤ past_old e y
past_low e y = go (ltb 0 y)
  where
    go : (b : Bool) → e ≤ cond b (e + 1) e
    go true = omega arith
    go false = omega arith

pub past_high : (e y : ℕ) → past_old e y ≤ e + y
past_high e y = go (dec_lt 0 y)
  where
    go : Dec (0 < y) → past_old e y ≤ e + y
    go (yes h) = rw (of_lt 0 y h) (omega arith)
    go (no h) = rw (of_ge 0 y (omega arith)) (omega arith)

past_some : (e y : ℕ) → 0 < y → e < past_old e y
past_some e y h = rw (of_lt 0 y h) (omega arith)

module _ (f : ℕ → Bool) (st : ℕ → ℕ) (f' : ℕ → Bool) (st' : ℕ → ℕ) (v : List ℤ) (A : Whole f st (length v))
    (B : Whole f' st' (length v)) (p n : ℕ) (P : AddsBlock f st f' st' (length v) p n) where
  abbrev W : ℕ
  W = length v

  -- outside the block a word is a holder's in both or in neither
  owned_same : (u : ℕ) → (p ≤ u → u < p + n → ⊥) → owned_by f' st' u ≡ owned_by f st u
  owned_same u h = go (dec_lt u p) (dec_lt u (p + n))
    where
      go : Dec (u < p) → Dec (u < p + n) → owned_by f' st' u ≡ owned_by f st u
      go (yes a) b = rw (P.below u a, P.heads u (omega arith))
      go (no a) (yes b) = absurd (h (omega arith) b)
      go (no a) (no b) = rw (P.above u (omega arith), P.heads u (omega (arith, P.some)))

  not_owned : (u : ℕ) → f u ≡ true → owned_by f st u ≡ false
  not_owned u t = rw t

  -- ---- a release: v has the blocks, but for this one

  module _ (a x y : ℕ) (L : Rest f a x p) (R : RunOf f (p + n) (W - (p + n)) y)
      (stored : (u : ℕ) → u < W → (p ≤ u → u < p + n → ⊥) → owned_by f' st' u ≡ false
      → get_or v u (pos 0) ≡ word f' st' W u) where
    abbrev end : ℕ
    end = past_old (p + n) y

    D : ControlsChange (word f st W) (word f' st' W) a x p n y
    D = placed f st f' st' W A B p n P a x y L R

    run_free : (u : ℕ) → a ≤ u → u < p + n + y → f u ≡ true
    run_free = all_free f st f' st' W A B p n P a x y L R

    abbrev new : List ℤ
    new = set (wiped (pos 0) p end v) a (pos (x + n + y))

    same_word : (u : ℕ) → u ≢ a → (p ≤ u → u < end → ⊥) → get_or new u (pos 0) ≡ get_or v u (pos 0)
    same_word u i h =
        get_or-set_other (wiped (pos 0) p end v) a u (pos (x + n + y)) (pos 0) i ∙ go (dec_lt u p)
      where
        go : Dec (u < p) → get_or (wiped (pos 0) p end v) u (pos 0) ≡ get_or v u (pos 0)
        go (yes l) = wiped_out (pos 0) p end v u (pos 0) (within_low p end u l)
        go (no l) = wiped_out (pos 0) p end v u (pos 0) (within_high p end u (over (dec_lt u end)))
          where
            over : Dec (u < end) → end ≤ u
            over (yes k) = absurd (h (omega arith) k)
            over (no k) = omega arith

    set_word : (u : ℕ) → u < W → owned_by f st u ≡ false → get_or new u (pos 0) ≡ word f st W u
    set_word u l o = go (ℕ_discrete u a) (dec_lt u p) (dec_lt u end)
      where
        e_low : p + n ≤ end
        e_low = past_low (p + n) y

        e_high : end ≤ p + n + y
        e_high = past_high (p + n) y

        old : u ≢ a → (p ≤ u → u < end → ⊥) → get_or new u (pos 0) ≡ word f st W u
        old i h =
            same_word u i h ∙ stored u l out (owned_same u out ∙ o)
            ∙ D.same u i (λ j. h (omega arith) (omega (arith, e_low, P.some))) (λ j. none j (dec_lt 0 y))
          where
            out : p ≤ u → u < p + n → ⊥
            out c d = h c (omega (arith, e_low))

            none : u ≡ p + n → Dec (0 < y) → y ≡ 0
            none j (yes q) = absurd (h (omega arith) (omega (arith, past_some (p + n) y q)))
            none j (no q) = omega arith

        go : Dec (u ≡ a) → Dec (u < p) → Dec (u < end) → get_or new u (pos 0) ≡ word f st W u
        go (yes i) b c =
            let in-a : a < length (wiped (pos 0) p end v) = rw (length_wiped (pos 0) p end v) (omega arith) in
            rw i (get_or-set_same (wiped (pos 0) p end v) a (pos (x + n + y)) (pos 0) in-a ∙ sym D.run)
        go (no i) (yes b) c = old i (λ j k. omega arith)
        go (no i) (no b) (no c) = old i (λ j k. omega arith)
        go (no i) (no b) (yes c) =
            get_or-set_other (wiped (pos 0) p end v) a u (pos (x + n + y)) (pos 0) i
            ∙ wiped_in (pos 0) p end v u (pos 0) (omega arith) c l
            ∙ sym (D.quiet u (omega (arith, L.upto)) (omega (arith, e_high)))

    pub released : new ≡ stamp (owned_by f st) (word f st W) v
    released =
        stamp_is (owned_by f st) (word f st W) v new (pos 0)
        (length-set (wiped (pos 0) p end v) a (pos (x + n + y)) ∙ length_wiped (pos 0) p end v)
        (λ u l o. same_word u (λ i. clash o (not_owned u (run_free u (omega arith) (omega (arith, L.upto, P.some)))))
        (λ i j. clash o (not_owned u (run_free u (omega (arith, L.upto)) (omega (arith, past_high (p + n) y))))))
        set_word

  -- ---- a grant: v has the run

  module _ (y : ℕ) (L : Rest f p 0 p) (R : RunOf f (p + n) (W - (p + n)) y)
      (stored : (u : ℕ) → u < W → owned_by f st u ≡ false → get_or v u (pos 0) ≡ word f st W u) where
    E : ControlsChange (word f st W) (word f' st' W) p 0 p n y
    E = placed f st f' st' W A B p n P p 0 y L R

    abbrev clean : List ℤ
    clean = wiped (pos 0) (p + 1) (p + n) v

    same_there : (u : ℕ) → u ≢ p → (u ≡ p + n → y ≡ 0) → get_or (grant_stores v p n y) u (pos 0) ≡ get_or v u (pos 0)
    same_there u i j =
        get_or-set_other (put_rest v (p + n) y) p u (neg_ℤ (pos n)) (pos 0) i ∙ put_other v (p + n) y u j

    keep_there : (u : ℕ) → u < W → owned_by f' st' u ≡ true → get_or (grant_stores v p n y) u (pos 0) ≡ get_or clean u (pos 0)
    keep_there u l o = same_there u head rest ∙ go (dec_lt u (p + 1)) (dec_lt u (p + n))
      where
        head : u ≢ p
        head i = clash (ap (λ (k : ℕ). owned_by f' st' k) (sym i) ∙ o)
            (rw (P.held p (omega arith) (omega (arith, P.some)), P.head, eqb_ne n 0 (omega (arith, P.some))))

        rest : u ≡ p + n → y ≡ 0
        rest i = at (dec_lt 0 y)
          where
            at : Dec (0 < y) → y ≡ 0
            at (yes q) =
                clash (ap (λ (k : ℕ). owned_by f' st' k) (sym i) ∙ o)
                (rw (P.above (p + n) (omega arith), R.passes (p + n) (omega arith) (omega arith)))
            at (no q) = omega arith

        go : Dec (u < p + 1) → Dec (u < p + n) → get_or v u (pos 0) ≡ get_or clean u (pos 0)
        go (yes a) b = sym (wiped_out (pos 0) (p + 1) (p + n) v u (pos 0) (within_low (p + 1) (p + n) u a))
        go (no a) (no b) =
            sym (wiped_out (pos 0) (p + 1) (p + n) v u (pos 0) (within_high (p + 1) (p + n) u (omega arith)))
        go (no a) (yes b) =
            stored u l (not_owned u (P.gap u (omega arith) b)) ∙ E.quiet u (omega arith) (omega arith)
            ∙ sym (wiped_in (pos 0) (p + 1) (p + n) v u (pos 0) (omega arith) b l)

    set_there : (u : ℕ) → u < W → owned_by f' st' u ≡ false → get_or (grant_stores v p n y) u (pos 0) ≡ word f' st' W u
    set_there u l o = go (ℕ_discrete u p) (ℕ_discrete u (p + n)) (dec_lt 0 y) (dec_lt u p) (dec_lt u (p + n))
      where
        e_in : p + n + y ≤ W
        e_in = omega (arith, R.fits, P.inside)

        old : u ≢ p → (u ≡ p + n → y ≡ 0) → (p ≤ u → u < p + n → ⊥)
            → get_or (grant_stores v p n y) u (pos 0) ≡ word f' st' W u
        old i j h = same_there u i j ∙ stored u l (sym (owned_same u h) ∙ o) ∙ sym (E.same u i i j)

        go : Dec (u ≡ p) → Dec (u ≡ p + n) → Dec (0 < y) → Dec (u < p) → Dec (u < p + n)
            → get_or (grant_stores v p n y) u (pos 0) ≡ word f' st' W u
        go (yes i) j q a b =
            let inside : p < length (put_rest v (p + n) y) = rw (put_length v (p + n) y) (omega arith) in
            rw i (get_or-set_same (put_rest v (p + n) y) p (neg_ℤ (pos n)) (pos 0) inside ∙ sym E.block)
        go (no i) (yes j) (yes q) a b =
            rw j (get_or-set_other (put_rest v (p + n) y) p (p + n) (neg_ℤ (pos n)) (pos 0) (omega (arith, P.some))
            ∙ put_at v (p + n) y q (omega (arith, e_in)) ∙ sym (E.right q))
        go (no i) (yes j) (no q) a b = old i (λ k. omega arith) (λ c d. omega arith)
        go (no i) (no j) q (yes a) b = old i (λ k. absurd (j k)) (λ c d. omega arith)
        go (no i) (no j) q (no a) (no b) = old i (λ k. absurd (j k)) (λ c d. omega arith)
        go (no i) (no j) q (no a) (yes b) =
            let quiet = B.alone p u (omega arith) (rw P.head b) in
            clash (rw (P.held u (omega arith) b, quiet)) o

    pub grants : grant_stores v p n y ≡ stamp (owned_by f' st') (word f' st' W) (wiped (pos 0) (p + 1) (p + n) v)
    grants =
        stamp_is (owned_by f' st') (word f' st' W) clean (grant_stores v p n y) (pos 0)
        (length-set (put_rest v (p + n) y) p (neg_ℤ (pos n)) ∙ put_length v (p + n) y
        ∙ sym (length_wiped (pos 0) (p + 1) (p + n) v))
        (λ u l o. keep_there u (rw (length_wiped (pos 0) (p + 1) (p + n) v) at l) o)
        (λ u l o. set_there u (rw (length_wiped (pos 0) (p + 1) (p + n) v) at l) o)
