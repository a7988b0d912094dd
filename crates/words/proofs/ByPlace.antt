-- Tests over lists by place, lists of one element, lists made from a count. Assumes nothing.
use Prim.Native.Nat.{ℕ, zero, suc, ◌<◌}
use native.Mathlib.Nat.{not-suc-le-zero, le_of_suc-le-suc}
use native.Mathlib.Omega.{arith}
use mathlib.Core.Path.{◌≡◌, refl, ap₂, ◌∙◌}
use mathlib.Core.Bool.{Bool, true, false, cond}
use mathlib.Core.List.{List, [], ◌∷◌}
use mathlib.Core.Option.{some}
use lib.ListN.{length, get_or, replicate}
use Rattle.words.specs.Lists.{all, pairwise, first_that, list_from}
use Rattle.words.proofs.Tests.{and_l, and_r, and_i, absurd_some}
use Rattle.words.proofs.ListLaws.{all_places, all_get_d}
use Rattle.words.proofs.CountedLaws.{every_of}

module _ {A : Type 0} where
  -- ---- tests by place

  pub all_of : (p : A → Bool) (d : A) (l : List A) → ((i : ℕ) → i < length l → p (get_or l i d) ≡ true) → all p l ≡ true
  all_of p d l h = all_places p d l ∙ every_of (λ k. p (get_or l k d)) 0 (length l) (λ k a b. h k (omega arith))

  pub pairwise_get_d : (p : A → A → Bool) (d : A) (l : List A) → pairwise p l ≡ true
      → (i j : ℕ) → i < j → j < length l → p (get_or l i d) (get_or l j d) ≡ true
  pairwise_get_d p d [] e i j a b = absurd (not-suc-le-zero b)
  pairwise_get_d p d (x ∷ l) e i zero a b = absurd (not-suc-le-zero a)
  pairwise_get_d p d (x ∷ l) e zero (suc j) a b =
      all_get_d (p x) d l (and_l (all (p x) l) (pairwise p l) e) j (le_of_suc-le-suc b)
  pairwise_get_d p d (x ∷ l) e (suc i) (suc j) a b =
      pairwise_get_d p d l (and_r (all (p x) l) (pairwise p l) e) i j (le_of_suc-le-suc a) (le_of_suc-le-suc b)

  -- the place of the first that passes
  pub first_that_at : (p : A → Bool) (d : A) (l : List A) (x : A) → first_that p l ≡ some x
      → (i : ℕ) × (i < length l) × (get_or l i d ≡ x)
  first_that_at p d [] x e = absurd (absurd_some e)
  first_that_at p d (y ∷ l) x e = go (p y) e (first_that_at p d l x)
    where
      go : (b : Bool) → cond b (some y) (first_that p l) ≡ some x
          → (first_that p l ≡ some x → (i : ℕ) × (i < length l) × (get_or l i d ≡ x))
          → (i : ℕ) × (i < suc (length l)) × (get_or (y ∷ l) i d ≡ x)
      go true e ih = (0, omega arith, (cc))
      go false e ih = let r = ih e in (suc r.0, omega arith, r.2)

  -- ---- one element, many times

  pub all_replicate : (p : A → Bool) (x : A) → p x ≡ true → (n : ℕ) → all p (replicate n x) ≡ true
  all_replicate p x h zero = refl
  all_replicate p x h (suc n) = and_i (p x) (all p (replicate n x)) h (all_replicate p x h n)

  pub pairwise_replicate : (p : A → A → Bool) (x : A) → p x x ≡ true → (n : ℕ) → pairwise p (replicate n x) ≡ true
  pairwise_replicate p x h zero = refl
  pairwise_replicate p x h (suc n) =
      and_i (all (p x) (replicate n x)) (pairwise p (replicate n x))
      (all_replicate (p x) x h n) (pairwise_replicate p x h n)

  -- ---- a list made from a count

  pub list_from_shift : (f g : ℕ → A) → ((k : ℕ) → f (suc k) ≡ g k) → (i n : ℕ) → list_from f (suc i) n ≡ list_from g i n
  list_from_shift f g h i zero = refl
  list_from_shift f g h i (suc n) = ap₂ (λ (x : A) (l : List A). x ∷ l) (h i) (list_from_shift f g h (suc i) n)
