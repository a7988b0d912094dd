-- Lists of words, and tests over lists. Assumes nothing.
use Rattle.std.specs.Prelude.{ℕ, zero, suc, Bool, true, false, cond, ◌&&◌, ◌||◌, List, [], ◌∷◌, eqb, get_or}
use Rattle.std.proofs.Math.Option.{Option, none, some}

-- Memory is words, as natural numbers. Code brings numbers below 2 ^ 32; the definitions take any.
abbrev pub Words : Type 0
Words = List ℕ

module _ {A : Type 0} where
  abbrev pub all : (A → Bool) → List A → Bool
  all p [] = true
  all p (x ∷ xs) = p x && all p xs

  abbrev pub any : (A → Bool) → List A → Bool
  any p [] = false
  any p (x ∷ xs) = p x || any p xs

  -- each element suits all the later ones
  abbrev pub pairwise : (A → A → Bool) → List A → Bool
  pairwise p [] = true
  pairwise p (x ∷ xs) = all (p x) xs && pairwise p xs

  -- the first element that passes
  abbrev pub first_that : (A → Bool) → List A → Option A
  first_that p [] = none
  first_that p (x ∷ xs) = cond (p x) (some x) (first_that p xs)

  -- f i, f (i + 1), and so on: n values
  abbrev pub list_from : (ℕ → A) → ℕ → ℕ → List A
  list_from f i zero = []
  list_from f i (suc n) = f i ∷ list_from f (suc i) n

abbrev pub is_some {ℓ} : {A : Type ℓ} → Option A → Bool
is_some none = false
is_some (some a) = true

abbrev pub is_zero : ℕ → Bool
is_zero n = eqb n 0

-- the word at place i is 0
abbrev pub zero_at : Words → ℕ → Bool
zero_at a i = is_zero (get_or a i 0)

abbrev pub same_words : Words → Words → Bool
same_words [] [] = true
same_words [] (y ∷ ys) = false
same_words (x ∷ xs) [] = false
same_words (x ∷ xs) (y ∷ ys) = eqb x y && same_words xs ys
