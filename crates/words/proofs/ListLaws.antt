-- Laws of tests over lists, and of lists made from a count. Assumes nothing.
use Prim.Native.Nat.{ℕ, zero, suc, ◌+◌, ◌-◌, ◌≤◌, ◌<◌}
use native.Mathlib.Nat.{add-zero, zero-add, add-suc, suc-add, not-suc-le-zero, le_of_suc-le-suc}
use native.Mathlib.Omega.{arith}
use mathlib.Core.Path.{◌≡◌, refl, sym, ap, ap₂, ◌∙◌}
use mathlib.Core.Bool.{Bool, true, false, cond, not, ◌&&◌, ◌||◌, false≢true, or-true, and_assoc}
use mathlib.Core.List.{List, [], ◌∷◌, ◌++◌, map}
use mathlib.Core.Option.{none, some}
use lib.Dec.{eqb}
use lib.ListN.{length, get_or, take, drop}
use lib.Seq.{get_or-take, get_or-drop}
use borrow.Rule.Slice.PartMut.{mid_of, mid_len}
use Rattle.words.specs.Lists.{Words, is_zero, all, any, pairwise, first_that, list_from, same_words}
use Rattle.words.specs.Counted.{every}
use Rattle.words.proofs.Tests.{and_l, and_r, and_i, or_l, or_r, and_map, or_map, eqb_eq, eqb_same, absurd_some}

pub same_words_eq : (x y : Words) → same_words x y ≡ true → x ≡ y
same_words_eq [] [] e = refl
same_words_eq [] (b ∷ y) e = absurd (false≢true e)
same_words_eq (a ∷ x) [] e = absurd (false≢true e)
same_words_eq (a ∷ x) (b ∷ y) e =
    ap₂ (λ (c : ℕ) (z : Words). c ∷ z) (eqb_eq a b (and_l (eqb a b) (same_words x y) e))
    (same_words_eq x y (and_r (eqb a b) (same_words x y) e))

pub same_words_same : (x : Words) → same_words x x ≡ true
same_words_same [] = refl
same_words_same (a ∷ x) = and_i (eqb a a) (same_words x x) (eqb_same a) (same_words_same x)

-- a list that is all zero reads 0 at every place
pub zeros_at : (m : Words) → all is_zero m ≡ true → (u : ℕ) → get_or m u 0 ≡ 0
zeros_at [] e u = refl
zeros_at (x ∷ m) e zero = eqb_eq x 0 (and_l (is_zero x) (all is_zero m) e)
zeros_at (x ∷ m) e (suc u) = zeros_at m (and_r (is_zero x) (all is_zero m) e) u

-- tests of as many numbers, from two places on
every_moved : (p q : ℕ → Bool) (i j n : ℕ) → ((k : ℕ) → k < n → p (i + k) ≡ q (j + k)) → every p i n ≡ every q j n
every_moved p q i j zero h = refl
every_moved p q i j (suc n) h =
    ap₂ (λ a b. a && b) (rw (add-zero i, add-zero j) at (h 0 (omega arith)))
    (every_moved p q (suc i) (suc j) n (λ k l. rw (suc-add i k, suc-add j k, ← add-suc i k, ← add-suc j k) (h (suc k) (omega arith))))

module _ {A : Type 0} where
  -- ---- a map g that keeps a test

  pub all_map : (g : A → A) (f : A → Bool) → ((x : A) → f x ≡ true → f (g x) ≡ true)
      → (l : List A) → all f l ≡ true → all f (map g l) ≡ true
  all_map g f h [] e = refl
  all_map g f h (x ∷ l) e = and_map (f x) (all f l) (f (g x)) (all f (map g l)) (h x) (all_map g f h l) e

  pub any_map : (g : A → A) (f : A → Bool) → ((x : A) → f (g x) ≡ true → f x ≡ true)
      → (l : List A) → any f (map g l) ≡ true → any f l ≡ true
  any_map g f h [] e = e
  any_map g f h (x ∷ l) e = or_map (f (g x)) (any f (map g l)) (f x) (any f l) (h x) (any_map g f h l) e

  all_map₂ : (g : A → A) (f : A → A → Bool) → ((x y : A) → f x y ≡ true → f (g x) (g y) ≡ true)
      → (x : A) (l : List A) → all (f x) l ≡ true → all (f (g x)) (map g l) ≡ true
  all_map₂ g f h x [] e = refl
  all_map₂ g f h x (y ∷ l) e =
      and_map (f x y) (all (f x) l) (f (g x) (g y)) (all (f (g x)) (map g l)) (h x y) (all_map₂ g f h x l) e

  pub pairwise_map : (g : A → A) (f : A → A → Bool) → ((x y : A) → f x y ≡ true → f (g x) (g y) ≡ true)
      → (l : List A) → pairwise f l ≡ true → pairwise f (map g l) ≡ true
  pairwise_map g f h [] e = refl
  pairwise_map g f h (x ∷ l) e =
      and_map (all (f x) l) (pairwise f l) (all (f (g x)) (map g l)) (pairwise f (map g l))
      (all_map₂ g f h x l) (pairwise_map g f h l) e

  -- ---- all

  pub all_imp : (f g : A → Bool) → ((x : A) → f x ≡ true → g x ≡ true) → (l : List A) → all f l ≡ true → all g l ≡ true
  all_imp f g h [] e = refl
  all_imp f g h (x ∷ l) e = and_map (f x) (all f l) (g x) (all g l) (h x) (all_imp f g h l) e

  pub all_append : (p : A → Bool) (xs ys : List A) → all p xs ≡ true → all p ys ≡ true → all p (xs ++ ys) ≡ true
  all_append p [] ys h k = k
  all_append p (x ∷ xs) ys h k =
      and_map (p x) (all p xs) (p x) (all p (xs ++ ys)) (λ e. e) (λ e. all_append p xs ys e k) h

  pub all_append_l : (p : A → Bool) (xs ys : List A) → all p (xs ++ ys) ≡ true → all p xs ≡ true
  all_append_l p [] ys h = refl
  all_append_l p (x ∷ xs) ys h =
      and_map (p x) (all p (xs ++ ys)) (p x) (all p xs) (λ e. e) (all_append_l p xs ys) h

  pub all_append_r : (p : A → Bool) (xs ys : List A) → all p (xs ++ ys) ≡ true → all p ys ≡ true
  all_append_r p [] ys h = h
  all_append_r p (x ∷ xs) ys h = all_append_r p xs ys (and_r (p x) (all p (xs ++ ys)) h)

  pub all_get_d : (p : A → Bool) (d : A) (l : List A) → all p l ≡ true → (i : ℕ) → i < length l → p (get_or l i d) ≡ true
  all_get_d p d [] e i h = absurd (not-suc-le-zero h)
  all_get_d p d (x ∷ l) e zero h = and_l (p x) (all p l) e
  all_get_d p d (x ∷ l) e (suc i) h = all_get_d p d l (and_r (p x) (all p l) e) i (le_of_suc-le-suc h)

  -- a test of all is a test at every place
  pub all_places : (p : A → Bool) (d : A) (l : List A) → all p l ≡ every (λ k. p (get_or l k d)) 0 (length l)
  all_places p d [] = refl
  all_places p d (x ∷ l) =
      ap (λ b. p x && b) (all_places p d l ∙ every_moved (λ k. p (get_or l k d)) (λ k. p (get_or (x ∷ l) k d)) 0 1 (length l) (λ k h. let e : 1 + k ≡ suc k = omega arith in rw (zero-add, e)))

  -- a test of a part
  pub all_part : (p : A → Bool) (d : A) (l : List A) (lo hi : ℕ) → hi ≤ length l
      → all p (mid_of lo (hi - lo) l) ≡ every (λ k. p (get_or l k d)) lo (hi - lo)
  all_part p d l lo hi h =
      all_places p d (mid_of lo (hi - lo) l)
      ∙ ap (every (λ k. p (get_or (mid_of lo (hi - lo) l) k d)) 0) (mid_len lo hi l h)
      ∙ every_moved (λ k. p (get_or (mid_of lo (hi - lo) l) k d)) (λ k. p (get_or l k d)) 0 lo (hi - lo)
      (λ k m. rw zero-add (ap p (get_or-take (hi - lo) (drop lo l) k d m ∙ get_or-drop lo l k d)))

  -- the first n elements apart
  pub all_cut : (p : A → Bool) (n : ℕ) (l : List A) → all p l ≡ (all p (take n l) && all p (drop n l))
  all_cut p zero l = refl
  all_cut p (suc n) [] = refl
  all_cut p (suc n) (x ∷ l) = ap (λ b. p x && b) (all_cut p n l) ∙ sym (and_assoc (p x) (all p (take n l)) (all p (drop n l)))

  -- ---- any

  pub any_get_d : (p : A → Bool) (d : A) (l : List A) → any p l ≡ true
      → (i : ℕ) × (i < length l) × (p (get_or l i d) ≡ true)
  any_get_d p d [] e = absurd (false≢true e)
  any_get_d p d (x ∷ l) e = go (p x) refl e (any_get_d p d l)
    where
      go : (b : Bool) → p x ≡ b → (b || any p l) ≡ true
          → (any p l ≡ true → (i : ℕ) × (i < length l) × (p (get_or l i d) ≡ true))
          → (i : ℕ) × (i < suc (length l)) × (p (get_or (x ∷ l) i d) ≡ true)
      go true q e ih = (0, omega arith, q)
      go false q e ih = let r = ih e in (suc r.0, omega arith, r.2)

  pub any_at : (p : A → Bool) (d : A) (l : List A) (i : ℕ) → p (get_or l i d) ≡ true → i < length l → any p l ≡ true
  any_at p d [] i e h = absurd (not-suc-le-zero h)
  any_at p d (x ∷ l) zero e h = rw e
  any_at p d (x ∷ l) (suc i) e h = rw (any_at p d l i e (le_of_suc-le-suc h)) (or-true (p x))

  pub any_not : (p : A → Bool) (d : A) (l : List A) → any p l ≡ false → (i : ℕ) → i < length l → p (get_or l i d) ≡ false
  any_not p d [] e i h = absurd (not-suc-le-zero h)
  any_not p d (x ∷ l) e zero h = or_l (p x) (any p l) e
  any_not p d (x ∷ l) e (suc i) h = any_not p d l (or_r (p x) (any p l) e) i (le_of_suc-le-suc h)

  -- ---- the first that passes

  pub first_that_some : (p : A → Bool) (l : List A) (x : A) → first_that p l ≡ some x → p x ≡ true
  first_that_some p [] x e = absurd (absurd_some e)
  first_that_some p (y ∷ l) x e = go (p y) refl e (first_that_some p l x)
    where
      go : (b : Bool) → p y ≡ b → cond b (some y) (first_that p l) ≡ some x
          → (first_that p l ≡ some x → p x ≡ true) → p x ≡ true
      go true q e ih = let z : y ≡ x = cc in rw (sym z) q
      go false q e ih = ih e

  pub first_that_none : (p : A → Bool) (l : List A) → first_that p l ≡ none → all (λ x. not (p x)) l ≡ true
  first_that_none p [] e = refl
  first_that_none p (y ∷ l) e = go (p y) e (first_that_none p l)
    where
      go : (b : Bool) → cond b (some y) (first_that p l) ≡ none
          → (first_that p l ≡ none → all (λ x. not (p x)) l ≡ true) → (not b && all (λ x. not (p x)) l) ≡ true
      go true e ih = absurd (absurd_some (sym e))
      go false e ih = ih e

  -- ---- a list made from a count

  pub length_list_from : (f : ℕ → A) (i n : ℕ) → length (list_from f i n) ≡ n
  length_list_from f i zero = refl
  length_list_from f i (suc n) = ap suc (length_list_from f (suc i) n)

  pub get_d_list_from : (f : ℕ → A) (i n k : ℕ) (d : A) → k < n → get_or (list_from f i n) k d ≡ f (i + k)
  get_d_list_from f i zero k d h = absurd (not-suc-le-zero h)
  get_d_list_from f i (suc n) zero d h = rw add-zero
  get_d_list_from f i (suc n) (suc k) d h = rw (add-suc, ← suc-add) (get_d_list_from f (suc i) n k d (le_of_suc-le-suc h))

  pub all_list_from : (p : A → Bool) (f : ℕ → A) (i n : ℕ) → all p (list_from f i n) ≡ every (λ k. p (f k)) i n
  all_list_from p f i zero = refl
  all_list_from p f i (suc n) = ap (λ b. p (f i) && b) (all_list_from p f (suc i) n)
