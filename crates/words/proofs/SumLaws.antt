-- Laws of sums over the first n numbers. Assumes nothing.
use Prim.Native.Nat.{ℕ, zero, suc, ◌+◌, ◌≤◌, ◌<◌, min}
use native.Mathlib.Omega.{arith}
use native.Mathlib.Decide.{ℕ_discrete, dec_le, dec_lt}
use mathlib.Core.Path.{◌≡◌, refl, sym, ap, ap₂, ◌∙◌}
use mathlib.Core.Bool.{Bool, true, false, cond}
use Rattle.words.specs.Counted.{within, sum_to}
use Rattle.words.proofs.Tests.{within_in, within_low, within_high}

pub sum_same : (f g : ℕ → ℕ) (n : ℕ) → ((k : ℕ) → k < n → f k ≡ g k) → sum_to f n ≡ sum_to g n
sum_same f g zero h = refl
sum_same f g (suc n) h =
    ap₂ (λ (a b : ℕ). a + b) (sum_same f g n (λ k l. h k (omega arith))) (h n (omega arith))

pub sum_none : (n : ℕ) → sum_to (λ k. 0) n ≡ 0
sum_none zero = refl
sum_none (suc n) = let e = sum_none n in omega arith

pub sum_ones : (n : ℕ) → sum_to (λ k. 1) n ≡ n
sum_ones zero = refl
sum_ones (suc n) = let e = sum_ones n in omega arith

pub sum_both : (f g : ℕ → ℕ) (n : ℕ) → sum_to (λ k. f k + g k) n ≡ sum_to f n + sum_to g n
sum_both f g zero = refl
sum_both f g (suc n) = let e = sum_both f g n in omega arith

-- rows first or columns first
pub sum_swap : (f : ℕ → ℕ → ℕ) (m n : ℕ) → sum_to (λ i. sum_to (f i) n) m ≡ sum_to (λ j. sum_to (λ i. f i j) m) n
sum_swap f zero n = sym (sum_none n)
sum_swap f (suc m) n =
    ap (λ a. a + sum_to (f m) n) (sum_swap f m n) ∙ sym (sum_both (λ j. sum_to (λ i. f i j) m) (f m) n)

-- ---- orders

pub sum_le : (f g : ℕ → ℕ) (n : ℕ) → ((k : ℕ) → k < n → f k ≤ g k) → sum_to f n ≤ sum_to g n
sum_le f g zero h = omega arith
sum_le f g (suc n) h = omega (arith, sum_le f g n (λ k l. h k (omega arith)), h n (omega arith))

-- sums that are equal, of terms that are in order one by one: the terms are equal
pub sum_tight : (f g : ℕ → ℕ) (n : ℕ) → ((k : ℕ) → k < n → f k ≤ g k) → sum_to g n ≤ sum_to f n
    → (k : ℕ) → k < n → g k ≡ f k
sum_tight f g zero h e k l = absurd (omega arith)
sum_tight f g (suc n) h e k l =
    go (sum_le f g n (λ i a. h i (omega arith))) (h n (omega arith))
    (λ x a. sum_tight f g n (λ i b. h i (omega arith)) x k a) (ℕ_discrete k n)
  where
    go : sum_to f n ≤ sum_to g n → f n ≤ g n → (sum_to g n ≤ sum_to f n → k < n → g k ≡ f k) → Dec (k ≡ n) → g k ≡ f k
    go low last ih (yes q) = let x : g n ≡ f n = omega (arith, e) in ap g q ∙ x ∙ sym (ap f q)
    go low last ih (no q) = ih (omega (arith, e)) (omega arith)

-- one term, and two, are no more than the sum
pub sum_term : (f : ℕ → ℕ) (n k : ℕ) → k < n → f k ≤ sum_to f n
sum_term f zero k l = absurd (omega arith)
sum_term f (suc n) k l = go (sum_term f n k) (ℕ_discrete k n)
  where
    go : (k < n → f k ≤ sum_to f n) → Dec (k ≡ n) → f k ≤ sum_to f n + f n
    go ih (yes q) = rw q (omega arith)
    go ih (no q) = omega (arith, ih (omega arith))

pub sum_terms : (f : ℕ → ℕ) (n j k : ℕ) → j < k → k < n → f j + f k ≤ sum_to f n
sum_terms f zero j k a l = absurd (omega arith)
sum_terms f (suc n) j k a l = go (sum_terms f n j k a) (ℕ_discrete k n)
  where
    go : (k < n → f j + f k ≤ sum_to f n) → Dec (k ≡ n) → f j + f k ≤ sum_to f n + f n
    go ih (yes q) = rw q (omega (arith, sum_term f n j (omega arith)))
    go ih (no q) = omega (arith, ih (omega arith))

-- ---- how many numbers of a range are below n

abbrev ranged : ℕ → ℕ → ℕ → ℕ
ranged lo hi n = sum_to (λ k. cond (within lo hi k) 1 0) n

count_range : (lo hi n : ℕ) → lo ≤ hi → ranged lo hi n + min lo n ≡ min hi n
count_range lo hi zero h = omega arith
count_range lo hi (suc n) h = go (count_range lo hi n h) (dec_le lo n) (dec_lt n hi)
  where
    -- with a last term that is known
    last : (b : Bool) → within lo hi n ≡ b → ranged lo hi n + cond b 1 0 + min lo (suc n) ≡ min hi (suc n)
        → ranged lo hi (suc n) + min lo (suc n) ≡ min hi (suc n)
    last b q e = ap (λ (x : Bool). ranged lo hi n + cond x 1 0 + min lo (suc n)) q ∙ e

    go : ranged lo hi n + min lo n ≡ min hi n → Dec (lo ≤ n) → Dec (n < hi)
        → ranged lo hi (suc n) + min lo (suc n) ≡ min hi (suc n)
    go ih (no a) b = last false (within_low lo hi n (omega arith)) (omega arith)
    go ih (yes a) (yes b) = last true (within_in lo hi n a b) (omega arith)
    go ih (yes a) (no b) = last false (within_high lo hi n (omega arith)) (omega arith)

pub sum_range : (lo hi n : ℕ) → lo ≤ hi → hi ≤ n → sum_to (λ k. cond (within lo hi k) 1 0) n + lo ≡ hi
sum_range lo hi n h l = omega (arith, count_range lo hi n h)
