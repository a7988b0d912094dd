-- Laws of tests of consecutive numbers, and of the loops that decide them by counting up. Assumes nothing.
use Prim.Native.Nat.{ℕ, zero, suc, ◌+◌, ◌-◌, ◌≤◌, ◌<◌}
use native.Mathlib.Numerals.{add-one}
use native.Mathlib.Omega.{arith}
use native.Mathlib.Decide.{ℕ_discrete}
use mathlib.Core.Path.{◌≡◌, refl, sym, ap, ◌∙◌}
use mathlib.Core.Bool.{Bool, true, false, ◌&&◌, true≢false, and-true, and_assoc}
use mathlib.Core.Option.{Option, none, some}
use Rattle.words.specs.Counted.{every, lowest}
use Rattle.words.proofs.Tests.{and_l, and_r, and_i, false_of, absurd_some}

-- ---- every

pub every_at : (p : ℕ → Bool) (i n : ℕ) → every p i n ≡ true → (k : ℕ) → i ≤ k → k < i + n → p k ≡ true
every_at p i zero e k a b = absurd (omega arith)
every_at p i (suc n) e k a b =
    go (λ h. every_at p (suc i) n (and_r (p i) (every p (suc i) n) e) k h (omega arith)) (ℕ_discrete k i)
  where
    go : (suc i ≤ k → p k ≡ true) → Dec (k ≡ i) → p k ≡ true
    go ih (yes h) = ap p h ∙ and_l (p i) (every p (suc i) n) e
    go ih (no h) = ih (omega arith)

pub every_of : (p : ℕ → Bool) (i n : ℕ) → ((k : ℕ) → i ≤ k → k < i + n → p k ≡ true) → every p i n ≡ true
every_of p i zero h = refl
every_of p i (suc n) h =
    and_i (p i) (every p (suc i) n) (h i (omega arith) (omega arith))
    (every_of p (suc i) n (λ k a b. h k (omega arith) (omega arith)))

pub every_fails : (f : ℕ → Bool) (k n : ℕ) → every f k n ≡ false → (u : ℕ) × (k ≤ u) × (u < k + n) × (f u ≡ false)
every_fails f k zero e = absurd (true≢false e)
every_fails f k (suc n) e = go (f k) refl e (every_fails f (suc k) n)
  where
    go : (b : Bool) → f k ≡ b → (b && every f (suc k) n) ≡ false
        → (every f (suc k) n ≡ false → (u : ℕ) × (suc k ≤ u) × (u < suc k + n) × (f u ≡ false))
        → (u : ℕ) × (k ≤ u) × (u < k + suc n) × (f u ≡ false)
    go false q e ih = (k, omega arith, omega arith, q)
    go true q e ih = let (u, a, b, c) = ih e in (u, omega arith, omega arith, c)

pub every_breaks : (f : ℕ → Bool) (k n u : ℕ) → k ≤ u → u < k + n → f u ≡ false → every f k n ≡ false
every_breaks f k n u a b c = false_of (every f k n) (λ e. true≢false (sym (every_at f k n e u a b) ∙ c))

every_none : (p : ℕ → Bool) (n i : ℕ) → n ≤ i → every p i (n - i) ≡ true
every_none p n i h = let z : n - i ≡ 0 = omega arith in rw z

every_more : (p : ℕ → Bool) (n i : ℕ) → i < n → every p i (n - i) ≡ (p i && every p (i + 1) (n - (i + 1)))
every_more p n i h = let z : n - i ≡ suc (n - (i + 1)) = omega arith in rw (z, add-one)

-- ---- a flag that each turn may clear: whole is the answer, and ok what the turns before i found

module _ (whole ok : Bool) (p : ℕ → Bool) (n i : ℕ) (inv : (ok && every p i (n - i)) ≡ whole) where
  pub flag_next : (next : Bool) → i < n → next ≡ (ok && p i) → (next && every p (i + 1) (n - (i + 1))) ≡ whole
  flag_next next h e =
      rw e (and_assoc ok (p i) (every p (i + 1) (n - (i + 1)))) ∙ ap (λ b. ok && b) (sym (every_more p n i h)) ∙ inv

  pub flag_end : n ≤ i → ok ≡ whole
  flag_end h = sym (and-true ok) ∙ ap (λ b. ok && b) (sym (every_none p n i h)) ∙ inv

-- ---- lowest

-- what `lowest` gives at i, by its test there and the answer after it
abbrev choose : ℕ → Option ℕ → Bool → Option ℕ
choose i rest b = elim b [ true ↦ some i | false ↦ rest ]

-- k passes and is one of the n numbers from i on, and none of them below it passes
pub record Lowest (p : ℕ → Bool) (i n k : ℕ) : Type 0 where
  pub passes : p k ≡ true
  pub above : i ≤ k
  pub below : k < i + n
  pub least : (j : ℕ) → i ≤ j → j < k → p j ≡ false

pub lowest_some : (p : ℕ → Bool) (i n k : ℕ) → lowest p i n ≡ some k → Lowest p i n k
lowest_some p i zero k e = absurd (absurd_some e)
lowest_some p i (suc n) k e = go (lowest_some p (suc i) n k) (p i) refl e
  where
    go : (lowest p (suc i) n ≡ some k → Lowest p (suc i) n k) → (b : Bool) → p i ≡ b
        → choose i (lowest p (suc i) n) b ≡ some k → Lowest p i (suc n) k
    go ih true q x =
        let e : i ≡ k = cc in
        record {
          passes = ap p (sym e) ∙ q;
          above = omega arith;
          below = omega arith;
          least = λ j a b. absurd (omega arith);
        }
    go ih false q x =
        let r = ih x in
        record {
          passes = r.passes;
          above = omega arith;
          below = omega arith;
          least = λ j a b. part r j a b (ℕ_discrete j i);
        }
      where
        part : Lowest p (suc i) n k → (j : ℕ) → i ≤ j → j < k → Dec (j ≡ i) → p j ≡ false
        part r j a b (yes e) = ap p e ∙ q
        part r j a b (no e) = r.least j (omega arith) b

pub lowest_none : (p : ℕ → Bool) (i n : ℕ) → lowest p i n ≡ none → (k : ℕ) → i ≤ k → k < i + n → p k ≡ false
lowest_none p i zero e k a b = absurd (omega arith)
lowest_none p i (suc n) e k a b =
    go (λ x c. lowest_none p (suc i) n x k c (omega arith)) (p i) refl e (ℕ_discrete k i)
  where
    go : (lowest p (suc i) n ≡ none → suc i ≤ k → p k ≡ false) → (c : Bool) → p i ≡ c
        → choose i (lowest p (suc i) n) c ≡ none → Dec (k ≡ i) → p k ≡ false
    go ih true q x h = absurd (absurd_some (sym x))
    go ih false q x (yes h) = ap p h ∙ q
    go ih false q x (no h) = ih x (omega arith)

pub lowest_nothing : (p : ℕ → Bool) (i n : ℕ) → ((k : ℕ) → i ≤ k → k < i + n → p k ≡ false) → lowest p i n ≡ none
lowest_nothing p i zero h = refl
lowest_nothing p i (suc n) h =
    ap (choose i (lowest p (suc i) n)) (h i (omega arith) (omega arith))
    ∙ lowest_nothing p (suc i) n (λ k a b. h k (omega arith) (omega arith))

pub lowest_is : (p : ℕ → Bool) (i n k : ℕ) → Lowest p i n k → lowest p i n ≡ some k
lowest_is p i zero k l = absurd (omega arith)
lowest_is p i (suc n) k l = go (lowest_is p (suc i) n k) (ℕ_discrete k i)
  where
    go : (Lowest p (suc i) n k → lowest p (suc i) n ≡ some k) → Dec (k ≡ i)
        → choose i (lowest p (suc i) n) (p i) ≡ some k
    go ih (yes h) = ap (choose i (lowest p (suc i) n)) (ap p (sym h) ∙ l.passes) ∙ ap some (sym h)
    go ih (no h) =
        ap (choose i (lowest p (suc i) n)) (l.least i (omega arith) (omega arith))
        ∙ ih (record {
          passes = l.passes;
          above = omega arith;
          below = omega arith;
          least = λ j a b. l.least j (omega arith) b;
        })
