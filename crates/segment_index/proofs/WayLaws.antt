-- The descent to the lowest leaf that is at least n. Assumes nothing.
use Prim.Native.Nat.{ℕ, zero, suc, ◌+◌, ◌*◌, ◌^◌, ◌≤◌, ◌<◌}
use native.Mathlib.Decide.{dec_lt}
use native.Mathlib.Nat.{pow-suc, mul_assoc, mul_comm, add-mul, one-mul, mul-one, mul-le-mul_left}
use native.Mathlib.Omega.{arith}
use mathlib.Core.Bool.{Bool, true, false, cond}
use mathlib.Core.Path.{◌≡◌, refl, sym, ap, subst, ◌∙◌}
use lib.Dec.{leb}
use lib.ListN.{get_or}
use lib.Pow.{pow_pos}
use Rattle.words.specs.Lists.{Words}
use Rattle.words.proofs.Tests.{le_of, not_le}
use Rattle.stored_forms.specs.Search.{go_down}
use Rattle.segment_index.specs.Tree.{Heap, LowestLeaf}

-- i is on the way, k levels above the leaves: those below i are the words from i * 2 ^ k on, 2 ^ k of them
pub record Way (s : ℕ) (t : Words) (n k i : ℕ) : Type 0 where
  pub root : 0 < i
  pub from : s ≤ i * 2 ^ k
  pub upto : i * 2 ^ k + 2 ^ k ≤ 2 * s
  pub fits : n ≤ get_or t i 0
  pub before : (j : ℕ) → s ≤ j → j < i * 2 ^ k → get_or t j 0 < n

-- the arithmetic of a level: with x = 2 * i * 2 ^ k all else is linear in x and 2 ^ k
pub low : (i k : ℕ) → i * 2 ^ suc k ≡ 2 * i * 2 ^ k
low i k = rw (pow-suc 2 k, mul_comm (2 ^ k) 2) (sym (mul_assoc i 2 (2 ^ k)) ∙ rw (mul_comm i 2))

pub mid : (i k : ℕ) → (2 * i + 1) * 2 ^ k ≡ 2 * i * 2 ^ k + 2 ^ k
mid i k = rw (add-mul (2 * i) 1 (2 ^ k), one-mul (2 ^ k))

-- a word with 2 ^ (k + 1) leaves below it is no leaf
at_least : (a k : ℕ) → a ≤ a * 2 ^ k
at_least a k = subst (λ (x : ℕ). x ≤ a * 2 ^ k) (mul-one a) (mul-le-mul_left a (pow_pos k))

pub inner : (s i k : ℕ) → i * 2 ^ suc k + 2 ^ suc k ≤ 2 * s → i < s
inner s i k h = omega (arith, at_least (2 * i) k, low i k, pow-suc 2 k, pow_pos k)

module _ (s : ℕ) (t : Words) (h : Heap s t) where
  -- a leaf is at most as large as each word above it
  pub under : (k i : ℕ) → 0 < i → i * 2 ^ k + 2 ^ k ≤ 2 * s → (j : ℕ) → i * 2 ^ k ≤ j → j < i * 2 ^ k + 2 ^ k
      → get_or t j 0 ≤ get_or t i 0
  under zero i p u j a b =
      let e : j ≡ i = omega (arith, mul-one i) in
      rw e (omega arith)
  under (suc k) i p u j a b =
      go (dec_lt j (2 * i * 2 ^ k + 2 ^ k)) (under k (2 * i) (omega arith) (omega (arith, low i k, pow-suc 2 k)) j)
      (under k (2 * i + 1) (omega arith) (omega (arith, low i k, mid i k, pow-suc 2 k)) j)
    where
      go : Dec (j < 2 * i * 2 ^ k + 2 ^ k)
          → (2 * i * 2 ^ k ≤ j → j < 2 * i * 2 ^ k + 2 ^ k → get_or t j 0 ≤ get_or t (2 * i) 0)
          → ((2 * i + 1) * 2 ^ k ≤ j → j < (2 * i + 1) * 2 ^ k + 2 ^ k → get_or t j 0 ≤ get_or t (2 * i + 1) 0)
          → get_or t j 0 ≤ get_or t i 0
      go (yes q) l r = omega (arith, h.node i p (inner s i k u), l (omega (arith, low i k)) q)
      go (no q) l r =
          omega (
            arith,
            h.node i p (inner s i k u),
            r (omega (arith, mid i k)) (omega (arith, mid i k, low i k, pow-suc 2 k)),
          )

  module _ (n k i : ℕ) (w : Way s t n (suc k) i) where
    inside : i < s
    inside = inner s i k w.upto

    -- the left son is large enough
    pub way_left : n ≤ get_or t (2 * i) 0 → Way s t n k (2 * i)
    way_left f = record {
      root = omega (arith, w.root);
      from = omega (arith, w.from, low i k);
      upto = omega (arith, w.upto, low i k, pow-suc 2 k);
      fits = f;
      before = λ j a b. w.before j a (omega (arith, low i k));
    }

    -- it is not: the right one is, and no leaf below the left one
    pub way_right : get_or t (2 * i) 0 < n → Way s t n k (2 * i + 1)
    way_right f = record {
      root = omega arith;
      from = omega (arith, w.from, low i k, mid i k);
      upto = omega (arith, w.upto, low i k, mid i k, pow-suc 2 k);
      fits = omega (arith, w.fits, h.node i w.root inside);
      before = λ j a b. go j a (omega (arith, mid i k)) (dec_lt j (i * 2 ^ suc k));
    }
      where
        go : (j : ℕ) → s ≤ j → j < 2 * i * 2 ^ k + 2 ^ k → Dec (j < i * 2 ^ suc k) → get_or t j 0 < n
        go j a b (yes q) = w.before j a q
        go j a b (no q) =
            omega (
              arith,
              under k (2 * i) (omega (arith, w.root)) (omega (arith, w.upto, low i k, pow-suc 2 k)) j
                  (omega (arith, low i k)) b,
            )

pub way_start : (d : ℕ) (t : Words) (n : ℕ) → n ≤ get_or t 1 0 → Way (2 ^ d) t n d 1
way_start d t n f = record {
  root = omega arith;
  from = omega (arith, one-mul (2 ^ d));
  upto = omega (arith, one-mul (2 ^ d));
  fits = f;
  before = λ j a b. absurd (none j a b);
}
  where
    none : (j : ℕ) → 2 ^ d ≤ j → j < 1 * 2 ^ d → ⊥
    none j a b = omega (arith, one-mul (2 ^ d))

pub way_end : (s : ℕ) (t : Words) (n i : ℕ) → Way s t n 0 i → LowestLeaf s t n i
way_end s t n i w = record {
  leaf = omega (arith, w.from, mul-one i);
  inside = omega (arith, w.upto, mul-one i);
  fits = w.fits;
  before = λ j a b. w.before j a (omega (arith, mul-one i));
}

-- ---- 01's descent, level by level

-- it ends at the same leaf
pub down_lowest : (s : ℕ) (t : Words) → Heap s t → (n k i : ℕ) → Way s t n k i → LowestLeaf s t n (go_down t n k i).at
down_lowest s t h n zero i w = way_end s t n i w
down_lowest s t h n (suc k) i w =
    go (leb n (get_or t (2 * i) 0)) refl (down_lowest s t h n k (2 * i)) (down_lowest s t h n k (2 * i + 1))
  where
    go : (b : Bool) → leb n (get_or t (2 * i) 0) ≡ b
        → (Way s t n k (2 * i) → LowestLeaf s t n (go_down t n k (2 * i)).at)
        → (Way s t n k (2 * i + 1) → LowestLeaf s t n (go_down t n k (2 * i + 1)).at)
        → LowestLeaf s t n (go_down t n k (cond b (2 * i) (2 * i + 1))).at
    go true e l r = l (way_left s t h n k i w (le_of n (get_or t (2 * i) 0) e))
    go false e l r = r (way_right s t h n k i w (not_le n (get_or t (2 * i) 0) e))

-- it compares a word at each level
pub down_places : (t : Words) (n k i : ℕ) → (go_down t n k i).places ≡ k
down_places t n zero i = refl
down_places t n (suc k) i = ap suc (down_places t n k (cond (leb n (get_or t (2 * i) 0)) (2 * i) (2 * i + 1)))
