-- The control word by cases, and runs of free units. Assumes nothing.
use Prim.Native.Nat.{ℕ, zero, suc, ◌+◌, ◌-◌, ◌<◌, ◌≤◌}
use native.Mathlib.Decide.{dec_lt}
use native.Mathlib.Nat.{add-zero}
use native.Mathlib.Omega.{arith}
use mathlib.Core.Bool.{Bool, true, false, cond, not, ◌&&◌, true≢false}
use mathlib.Core.Path.{◌≡◌, refl, sym, ap, ◌∙◌}
use lib.IntN.{pos, neg_ℤ}
use Rattle.words.proofs.Tests.{of_lt}
use Rattle.stored_forms.specs.Segments.{free_from, opens}
use Rattle.segment_cores.specs.Views.{word, Whole, RunOf}

pub clash : {X : Type 0} {b : Bool} → b ≡ true → b ≡ false → X
clash t f = absurd (true≢false (sym t ∙ f))

-- ---- runs

pub run_is : (f : ℕ → Bool) (u n z : ℕ) → RunOf f u n z → free_from f u n ≡ z
run_is f u zero z r = omega (arith, r.fits)
run_is f u (suc n) zero r = rw (rw add-zero at (r.stops (omega arith)))
run_is f u (suc n) (suc z) r =
    rw (r.passes u (omega arith) (omega arith))
    (ap suc (run_is f (suc u) n z (record {
      passes = λ k a b. r.passes k (omega arith) (omega arith);
      fits = omega (arith, r.fits);
      stops = λ l. let e : suc u + z ≡ u + suc z = omega arith in ap f e ∙ r.stops (omega arith);
    })))

pub run_of : (f : ℕ → Bool) (u n : ℕ) → RunOf f u n (free_from f u n)
run_of f u zero =
    record { passes = λ k a b. absurd (omega arith); fits = omega arith; stops = λ l. absurd (omega arith) }
run_of f u (suc n) = go (f u) refl (run_of f (suc u) n)
  where
    go : (b : Bool) → f u ≡ b → RunOf f (suc u) n (free_from f (suc u) n)
        → RunOf f u (suc n) (cond b (suc (free_from f (suc u) n)) 0)
    go false e r = record {
      passes = λ k a b. absurd (omega arith);
      fits = omega arith;
      stops = λ l. rw add-zero e;
    }
    go true e r = record {
      passes = λ k a b. at k a b (dec_lt u k);
      fits = omega (arith, r.fits);
      stops = λ l.
          let q : u + suc (free_from f (suc u) n) ≡ suc u + free_from f (suc u) n = omega arith in
          ap f q ∙ r.stops (omega arith);
    }
      where
        at : (k : ℕ) → u ≤ k → k < u + suc (free_from f (suc u) n) → Dec (u < k) → f k ≡ true
        at k a b (yes l) = r.passes k l (omega arith)
        at k a b (no l) = let q : k ≡ u = omega arith in ap f q ∙ e

pub opens_before : (f : ℕ → Bool) (u : ℕ) → 0 < u → opens f u ≡ not (f (u - 1))
opens_before f zero h = absurd (omega arith)
opens_before f (suc u) h = let e : suc u - 1 ≡ u = omega arith in rw e

-- ---- the control word

module _ (f : ℕ → Bool) (st : ℕ → ℕ) (W : ℕ) where
  pub word_held : (u n : ℕ) → st u ≡ n → 0 < n → word f st W u ≡ neg_ℤ (pos n)
  unfolding word
  word_held u n e h = rw (e, of_lt 0 n h)

  pub word_body : (u : ℕ) → f u ≡ false → st u ≡ 0 → word f st W u ≡ pos 0
  unfolding word
  word_body u t e = rw (e, t)

  pub word_open : (u z : ℕ) → f u ≡ true → st u ≡ 0 → opens f u ≡ true → RunOf f u (W - u) z → word f st W u ≡ pos z
  unfolding word
  word_open u z t e o r = rw (e, t, o, run_is f u (W - u) z r)

  pub word_shut : (u : ℕ) → f u ≡ true → st u ≡ 0 → opens f u ≡ false → word f st W u ≡ pos 0
  unfolding word
  word_shut u t e o = rw (e, t, o)

  pub word_past : (u : ℕ) → W ≤ u → st u ≡ 0 → word f st W u ≡ pos 0
  unfolding word
  word_past u h e = let z : W - u ≡ 0 = omega arith in rw (e, z) (go (f u && opens f u))
    where
      go : (b : Bool) → cond b (pos 0) (pos 0) ≡ pos 0
      go true = refl
      go false = refl

  module _ (Q : Whole f st W) where
    pub unstarted : (u : ℕ) → f u ≡ true → st u ≡ 0
    unstarted u t = go (dec_lt 0 (st u))
      where
        go : Dec (0 < st u) → st u ≡ 0
        go (yes h) = clash t (Q.covers u u (omega arith) (omega arith))
        go (no h) = omega arith

    pub past_unstarted : (u : ℕ) → W ≤ u → st u ≡ 0
    past_unstarted u h = go (dec_lt 0 (st u))
      where
        go : Dec (0 < st u) → st u ≡ 0
        go (yes l) = absurd (omega (arith, Q.fits u l))
        go (no l) = omega arith

-- readings that agree on a run, and on the unit after it
pub run_moves : (f g : ℕ → Bool) (u n z : ℕ) → RunOf f u n z → ((k : ℕ) → u ≤ k → k ≤ u + z → k < u + n → g k ≡ f k)
    → RunOf g u n z
run_moves f g u n z r h = record {
  passes = λ k a b. h k a (omega arith) (omega (arith, r.fits)) ∙ r.passes k a b;
  fits = r.fits;
  stops = λ l. h (u + z) (omega arith) (omega arith) (omega arith) ∙ r.stops l;
}
