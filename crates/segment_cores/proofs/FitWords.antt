-- The lowest fit by the control words: enough free units lie in a run, and the run's control word says so.
-- Assumes nothing.
use Prim.Native.Nat.{ℕ, zero, suc, ◌+◌, ◌-◌, ◌<◌, ◌≤◌}
use native.Mathlib.Decide.{dec_lt, ℕ_discrete}
use native.Mathlib.Omega.{arith}
use mathlib.Core.Bool.{Bool, true, false}
use mathlib.Core.Option.{none, some}
use mathlib.Core.Path.{◌≡◌, refl, ap, ◌∙◌}
use lib.IntN.{pos, neg_ℤ}
use Rattle.words.specs.Counted.{every}
use Rattle.words.proofs.CountedLaws.{every_at, every_of}
use Rattle.words.proofs.Tests.{false_of, of_not}
use Rattle.ledger.specs.Units.{lowest_fit}
use Rattle.ledger.proofs.FitLaws.{fit_is, fit_nothing, fit_lowest}
use Rattle.stored_forms.specs.Segments.{weight, free_from, opens}
use Rattle.segment_cores.specs.Views.{word, Whole, RunOf}
use Rattle.segment_cores.proofs.WholeLaws.{Kind, held, free, none, kind}
use Rattle.segment_cores.proofs.WordLaws.{clash, run_of, word_open, word_held, unstarted}

-- where the run of a free unit begins
pub record Opening (f : ℕ → Bool) (j a : ℕ) : Type 0 where
  pub low : a ≤ j
  pub passes : (u : ℕ) → a ≤ u → u ≤ j → f u ≡ true
  pub opened : opens f a ≡ true

opening : (f : ℕ → Bool) (j : ℕ) → f j ≡ true → (a : ℕ) × Opening f j a
opening f zero t =
    (0, record { low = omega arith; passes = λ u a b. let e : u ≡ 0 = omega arith in ap f e ∙ t; opened = refl })
opening f (suc j) t = go (f j) refl (opening f j)
  where
    go : (b : Bool) → f j ≡ b → (f j ≡ true → (a : ℕ) × Opening f j a) → (a : ℕ) × Opening f (suc j) a
    go false e ih = (
      suc j,
      record {
        low = omega arith;
        passes = λ u a b. let q : u ≡ suc j = omega arith in ap f q ∙ t;
        opened = of_not (f j) e;
      },
    )
    go true e ih =
        let (a, r) = ih e in (
          a,
          record {
            low = omega (arith, r.low);
            passes = λ u x y. at u x y r (ℕ_discrete u (suc j));
            opened = r.opened;
          },
        )
      where
        at : {a : ℕ} (u : ℕ) → a ≤ u → u ≤ suc j → Opening f j a → Dec (u ≡ suc j) → f u ≡ true
        at u x y r (yes q) = ap f q ∙ t
        at u x y r (no q) = r.passes u x (omega arith)

weight_held : (n : ℕ) → weight (neg_ℤ (pos n)) ≤ 1
weight_held zero = omega arith
weight_held (suc n) = omega arith

module _ (f : ℕ → Bool) (st : ℕ → ℕ) (W : ℕ) (Q : Whole f st W) (n : ℕ) (two : 2 ≤ n) where
  -- n free units from j on: the control word of their run is at least n
  fit_word : (j : ℕ) → j + n ≤ W → every f j n ≡ true → (a : ℕ) × (a ≤ j) × (n ≤ weight (word f st W a))
  fit_word j h e =
      let at = every_at f j n e in
      let (a, o) = opening f j (at j (omega arith) (omega arith)) in
      let t = o.passes a (omega arith) o.low in
      (a, o.low, rw (word_open f st W a _ t (unstarted f st W Q a t) o.opened (run_of f a (W - a))) (long a o at))
    where
      long : (a : ℕ) → Opening f j a → ((k : ℕ) → j ≤ k → k < j + n → f k ≡ true) → n ≤ free_from f a (W - a)
      long a o at = go (dec_lt (free_from f a (W - a)) (j - a + n))
        where
          r : RunOf f a (W - a) (free_from f a (W - a))
          r = run_of f a (W - a)

          on : (u : ℕ) → a ≤ u → u < j + n → Dec (u < j) → f u ≡ true
          on u x y (yes l) = o.passes u x (omega arith)
          on u x y (no l) = at u (omega arith) y

          go : Dec (free_from f a (W - a) < j - a + n) → n ≤ free_from f a (W - a)
          go (no l) = omega arith
          go (yes l) =
              let u = a + free_from f a (W - a) in
              let low = o.low in
              clash (on u (omega arith) (omega arith) (dec_lt u j)) (r.stops (omega arith))

  -- a control word that is at least n is that of a run
  word_run : (u : ℕ) → u < W → n ≤ weight (word f st W u)
      → (z : ℕ) × (n ≤ z) × RunOf f u (W - u) z × (opens f u ≡ true) × (word f st W u ≡ pos z)
  word_run u h k = go (kind f st W Q u h)
    where
      go : Kind f st W Q u → (z : ℕ) × (n ≤ z) × RunOf f u (W - u) z × (opens f u ≡ true) × (word f st W u ≡ pos z)
      go (held l e) = absurd (omega (arith, ap weight (word_held f st W u (st u) refl l), weight_held (st u)))
      go (free z p r o e) = (z, omega (arith, ap weight e), r, o, e)
      go (none e) = absurd (omega (arith, ap weight e))

  small : (j : ℕ) → j + n ≤ W → ((u : ℕ) → u ≤ j → weight (word f st W u) < n) → every f j n ≡ false
  small j h k = false_of (every f j n) (λ e. let (a, l, w) = fit_word j h e in omega (arith, k a l))

  pub word_fit : (u : ℕ) → u < W → n ≤ weight (word f st W u) → ((k : ℕ) → k < u → weight (word f st W k) < n)
      → lowest_fit f W n ≡ some u
  word_fit u h k before =
      let (z, l, r, o, e) = word_run u h k in
      fit_is f W n u (record {
        room = omega (arith, r.fits);
        passes = every_of f u n (λ i a b. r.passes i a (omega arith));
        least = λ j i. small j (omega (arith, r.fits)) (λ w a. before w (omega arith));
      })

  pub word_none : ((u : ℕ) → u < W → weight (word f st W u) < n) → lowest_fit f W n ≡ none
  word_none h = fit_nothing f W n (λ k i. small k i (λ u a. h u (omega arith)))

  -- a lowest fit opens its run: else one unit lower would fit too
  pub fit_opens : (p : ℕ) → lowest_fit f W n ≡ some p → opens f p ≡ true
  fit_opens p e = go p refl
    where
      all_free : (k : ℕ) → p ≤ k → k < p + n → f k ≡ true
      all_free = every_at f p n (fit_lowest f W n p e).passes

      at : (q k : ℕ) → p ≡ suc q → f q ≡ true → q ≤ k → k < q + n → Dec (k ≡ q) → f k ≡ true
      at q k i t a b (yes j) = ap f j ∙ t
      at q k i t a b (no j) = all_free k (omega arith) (omega arith)

      lower : (q : ℕ) → p ≡ suc q → f q ≡ true → ⊥
      lower q i t =
          clash (every_of f q n (λ k a b. at q k i t a b (ℕ_discrete k q)))
          ((fit_lowest f W n p e).least q (omega arith))

      go : (q : ℕ) → p ≡ q → opens f q ≡ true
      go zero i = refl
      go (suc q) i = of_not (f q) (false_of (f q) (lower q i))
