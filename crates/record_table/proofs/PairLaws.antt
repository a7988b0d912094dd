-- General laws of tests that the check of a table rests on: no record stands in them. Assumes nothing.
use Prim.Native.Nat.{ℕ, zero, suc, ◌+◌, ◌-◌, ◌<◌}
use native.Mathlib.Nat.{zero-add, add-suc, suc-add}
use native.Mathlib.Numerals.{add-one}
use native.Mathlib.Decide.{ℕ_discrete}
use native.Mathlib.Omega.{arith}
use mathlib.Core.Path.{◌≡◌, refl, sym, ap, ap₂, ◌∙◌}
use mathlib.Core.Bool.{Bool, true, false, not, ◌&&◌, ◌||◌, and-false}
use mathlib.Core.List.{List, [], ◌∷◌}
use Rattle.words.specs.Lists.{all, any, pairwise, list_from}
use Rattle.words.specs.Counted.{every}
use Rattle.words.proofs.Tests.{bool_iff, and_l, and_r, and_i}
use Rattle.words.proofs.ListLaws.{all_list_from}
use Rattle.words.proofs.CountedLaws.{every_at, every_of}

-- ---- tests of consecutive numbers

pub every_last : (p : ℕ → Bool) (n : ℕ) → every p 0 (n + 1) ≡ (every p 0 n && p n)
every_last p n =
    bool_iff (every p 0 (n + 1)) (every p 0 n && p n)
    (λ e. and_i (every p 0 n) (p n)
    (every_of p 0 n (λ k a b. every_at p 0 (n + 1) e k (omega arith) (omega arith)))
    (every_at p 0 (n + 1) e n (omega arith) (omega arith)))
    (λ e. every_of p 0 (n + 1) (λ k a b. go e k (omega arith) (ℕ_discrete k n)))
  where
    go : (every p 0 n && p n) ≡ true → (k : ℕ) → k < n + 1 → Dec (k ≡ n) → p k ≡ true
    go e k h (yes q) = ap p q ∙ and_r (every p 0 n) (p n) e
    go e k h (no q) = every_at p 0 n (and_l (every p 0 n) (p n) e) k (omega arith) (omega arith)

pub none_of : {A : Type 0} (p : A → Bool) (f : ℕ → A) (i n : ℕ)
    → not (any p (list_from f i n)) ≡ every (λ k. not (p (f k))) i n
none_of p f i zero = refl
none_of p f i (suc n) =
    nor (p (f i)) (any p (list_from f (suc i) n)) ∙ ap (λ b. not (p (f i)) && b) (none_of p f (suc i) n)
  where
    nor : (a b : Bool) → not (a || b) ≡ (not a && not b)
    nor true b = refl
    nor false b = refl

-- ---- pairs

-- p holds of the k-th value and each later one below the e-th
abbrev pub after : {A : Type 0} → (A → A → Bool) → (ℕ → A) → ℕ → ℕ → Bool
after p f e k = every (λ j. p (f k) (f j)) (k + 1) (e - (k + 1))

pairs_from : {A : Type 0} (p : A → A → Bool) (f : ℕ → A) (i n : ℕ)
    → pairwise p (list_from f i n) ≡ every (after p f (i + n)) i n
pairs_from p f i zero = refl
pairs_from p f i (suc n) =
    let e : i + suc n - (i + 1) ≡ n = omega arith in
    let head : all (p (f i)) (list_from f (suc i) n) ≡ after p f (i + suc n) i =
    all_list_from (p (f i)) f (suc i) n ∙ sym (rw (e, add-one)) in
    let rest : pairwise p (list_from f (suc i) n) ≡ every (after p f (i + suc n)) (suc i) n =
    rw (add-suc, ← suc-add) (pairs_from p f (suc i) n) in
    ap₂ (λ (a b : Bool). a && b) head rest

pub pairs : {A : Type 0} (p : A → A → Bool) (f : ℕ → A) (n : ℕ) → pairwise p (list_from f 0 n) ≡ every (after p f n) 0 n
pairs p f n = pairs_from p f 0 n ∙ rw zero-add

-- p holds of the k-th value and each earlier one
abbrev pub before : {A : Type 0} → (A → A → Bool) → (ℕ → A) → ℕ → Bool
before p f k = every (λ j. p (f j) (f k)) 0 k

pub pairs_back : {A : Type 0} (p : A → A → Bool) (f : ℕ → A) (n : ℕ)
    → pairwise p (list_from f 0 n) ≡ every (before p f) 0 n
pairs_back p f n =
    pairs p f n
    ∙ bool_iff (every (after p f n) 0 n) (every (before p f) 0 n)
    (λ e. every_of (before p f) 0 n
    (λ k a b. every_of (λ j. p (f j) (f k)) 0 k
    (λ j c d. every_at (λ i. p (f j) (f i)) (j + 1) (n - (j + 1))
    (every_at (after p f n) 0 n e j (omega arith) (omega arith)) k (omega arith) (omega arith))))
    (λ e. every_of (after p f n) 0 n
    (λ j a b. every_of (λ k. p (f j) (f k)) (j + 1) (n - (j + 1))
    (λ k c d. every_at (λ i. p (f i) (f k)) 0 k
    (every_at (before p f) 0 n e k (omega arith) (omega arith)) j (omega arith) (omega arith))))

-- ---- tests that split in two

shuffle : (a b c d : Bool) → ((a && b) && (c && d)) ≡ ((a && c) && (b && d))
shuffle true true c d = refl
shuffle true false c d = sym (and-false c)
shuffle false b c d = refl

-- tests of elements, or of pairs, that split where the elements pass another
module _ {A : Type 0} (ok : A → Bool) where
  all_both : (f g h : A → Bool) → ((x : A) → ok x ≡ true → f x ≡ (g x && h x))
      → (l : List A) → all ok l ≡ true → all f l ≡ (all g l && all h l)
  all_both f g h e [] k = refl
  all_both f g h e (x ∷ l) k =
      ap₂ (λ (a b : Bool). a && b) (e x (and_l (ok x) (all ok l) k)) (all_both f g h e l (and_r (ok x) (all ok l) k))
      ∙ shuffle (g x) (h x) (all g l) (all h l)

  pub pairs_both : (f g h : A → A → Bool) → ((x y : A) → ok x ≡ true → ok y ≡ true → f x y ≡ (g x y && h x y))
      → (l : List A) → all ok l ≡ true → pairwise f l ≡ (pairwise g l && pairwise h l)
  pairs_both f g h e [] k = refl
  pairs_both f g h e (x ∷ l) k =
      let here = and_l (ok x) (all ok l) k in
      let rest = and_r (ok x) (all ok l) k in
      ap₂ (λ (a b : Bool). a && b) (all_both (f x) (g x) (h x) (λ y q. e x y here q) l rest) (pairs_both f g h e l rest)
      ∙ shuffle (all (g x) l) (all (h x) l) (pairwise g l) (pairwise h l)
