-- The climb to the last leaf before another that is not 0, step by step. Assumes nothing.
use Prim.Native.Nat.{ℕ, zero, suc, ◌+◌, ◌-◌, ◌*◌, ◌/◌, ◌^◌, ◌≤◌, ◌<◌}
use native.Mathlib.Decide.{dec_lt, ℕ_discrete}
use native.Mathlib.Nat.{pow-suc, add-mul, one-mul, mul-one, mul-le-mul_right}
use native.Mathlib.Numerals.{add-one}
use native.Mathlib.Omega.{arith}
use mathlib.Core.Logic.{◌≢◌}
use mathlib.Core.Path.{◌≡◌, sym, ap, ◌∙◌}
use lib.ListN.{length, get_or}
use lib.Pow.{pow_pos, pow-add}
use Rattle.words.specs.Lists.{Words}
use Rattle.segment_index.specs.Climb.{Later, Under, Above}
use Rattle.segment_index.specs.Tree.{LastIn}
use Rattle.segment_index.proofs.WayLaws.{under, low, mid, inner}

-- on the level h above the leaves, with nothing between the leaves below j and i
pub record Up (d : ℕ) (t : Words) (i h j : ℕ) : Type 0 where
  pub level : h ≤ d
  pub from : 2 ^ (d - h) ≤ j
  pub upto : j < 2 * 2 ^ (d - h)
  pub reach : j * 2 ^ h ≤ i
  pub empty : (k : ℕ) → j * 2 ^ h ≤ k → k < i → get_or t k 0 ≡ 0

split : (d h : ℕ) → h ≤ d → 2 ^ (d - h) * 2 ^ h ≡ 2 ^ d
split d h l = let e : d - h + h ≡ d = omega arith in sym (pow-add 2 (d - h) h) ∙ rw e

pred_mul : (j x : ℕ) → 0 < j → (j - 1) * x + x ≡ j * x
pred_mul j x p =
    let e : j ≡ j - 1 + 1 = omega arith in
    sym (ap (λ (n : ℕ). n * x) e ∙ rw (add-mul (j - 1) 1 x, one-mul x))

module _ (d : ℕ) (t : Words) (i : ℕ) (L : Later d t i) where
  module _ (h j : ℕ) (U : Up d t i h j) where
    -- j is not the first of its level: there the leaf would be the first one
    later : 2 ^ (d - h) < j
    later = go (ℕ_discrete j (2 ^ (d - h)))
      where
        go : Dec (j ≡ 2 ^ (d - h)) → 2 ^ (d - h) < j
        go (no n) = omega (arith, U.from)
        go (yes e) =
            let s : j * 2 ^ h ≡ 2 ^ d = rw e (split d h U.level) in
            absurd (omega (arith, U.empty (2 ^ d) (omega arith) L.after, L.first))

    up_two : 1 < j
    up_two = omega (arith, later, pow_pos (d - h))

    low_end : (j - 1) * 2 ^ h + 2 ^ h ≡ j * 2 ^ h
    low_end = pred_mul j (2 ^ h) (omega (arith, up_two))

    last_leaf : (j - 1) * 2 ^ h + 2 ^ h ≤ 2 * 2 ^ d
    last_leaf = omega (arith, low_end, U.reach, L.inside)

    -- there is room above
    up_room : get_or t (j - 1) 0 ≡ 0 → h < d
    up_room z = go (ℕ_discrete h d)
      where
        go : Dec (h ≡ d) → h < d
        go (no n) = omega (arith, U.level)
        go (yes e) =
            let k : d - h ≡ 0 = omega arith in
            let f : j < 2 * 2 ^ 0 = rw k at U.upto in
            absurd (omega (arith, up_two))

    pub up_on : get_or t (j - 1) 0 ≡ 0 → Up d t i (h + 1) (j / 2)
    up_on z =
        let e : d - h ≡ suc (d - (h + 1)) = omega (arith, up_room z) in
        let p : 2 ^ (d - h) ≡ 2 ^ (d - (h + 1)) * 2 = ap (λ (n : ℕ). 2 ^ n) e ∙ pow-suc 2 (d - (h + 1)) in
        let q : j / 2 * 2 ^ (h + 1) ≡ 2 * (j / 2) * 2 ^ h =
        ap (λ (n : ℕ). j / 2 * 2 ^ n) (add-one h) ∙ low (j / 2) h in
        let below : 2 * (j / 2) * 2 ^ h ≤ j * 2 ^ h = mul-le-mul_right (2 ^ h) halves in
        let above : (j - 1) * 2 ^ h ≤ 2 * (j / 2) * 2 ^ h = mul-le-mul_right (2 ^ h) halves' in
        record {
          level = omega (arith, up_room z);
          from = omega (arith, later);
          upto = omega (arith, U.upto);
          reach = omega (arith, U.reach);
          empty = λ k a b. go k (omega arith) b (dec_lt k (j * 2 ^ h));
        }
      where
        halves : 2 * (j / 2) ≤ j
        halves = omega arith

        halves' : j - 1 ≤ 2 * (j / 2)
        halves' = omega arith

        go : (k : ℕ) → (j - 1) * 2 ^ h ≤ k → k < i → Dec (k < j * 2 ^ h) → get_or t k 0 ≡ 0
        go k a b (no n) = U.empty k (omega arith) b
        go k a b (yes y) =
            omega (
              arith,
              under (2 ^ d) t L.heap h (j - 1) (omega (arith, up_two)) last_leaf k a
                  (omega (arith, low_end)),
            )

    pub up_end : get_or t (j - 1) 0 ≢ 0 → Above (2 ^ d) t i h (j - 1)
    up_end n = record {
      under = record {
        heap = L.heap;
        root = omega (arith, up_two);
        from = omega (arith, split d h U.level, mul-le-mul_right (2 ^ h) first_of);
        upto = last_leaf;
        full = omega arith;
      };
      low = omega (arith, U.level, L.few);
      reach = omega (arith, low_end, U.reach);
      empty = λ k a b. U.empty k (omega (arith, low_end)) b;
    }
      where
        first_of : 2 ^ (d - h) ≤ j - 1
        first_of = omega (arith, later)

-- ---- down again

-- the last leaf before hi that is not 0 lies below j
pub record Down (s : ℕ) (t : Words) (lo hi h j : ℕ) : Type 0 where
  pub under : Under s t h j
  pub above : lo ≤ j * 2 ^ h
  pub reach : j * 2 ^ h + 2 ^ h ≤ hi
  pub empty : (k : ℕ) → j * 2 ^ h + 2 ^ h ≤ k → k < hi → get_or t k 0 ≡ 0

module _ (s : ℕ) (t : Words) (lo hi : ℕ) where
  module _ (h j : ℕ) (D : Down s t lo hi (suc h) j) where
    u : Under s t (suc h) j
    u = D.under

    inside : j < s
    unfolding u
    inside = inner s j h u.upto

    down_right : get_or t (2 * j + 1) 0 ≢ 0 → Down s t lo hi h (2 * j + 1)
    unfolding u
    down_right n = record {
      under = record {
        heap = u.heap;
        root = omega arith;
        from = omega (arith, u.from, low j h, mid j h);
        upto = omega (arith, u.upto, low j h, mid j h, pow-suc 2 h);
        full = omega arith;
      };
      above = omega (arith, D.above, low j h, mid j h);
      reach = omega (arith, D.reach, low j h, mid j h, pow-suc 2 h);
      empty = λ k a b. D.empty k (omega (arith, low j h, mid j h, pow-suc 2 h)) b;
    }

    down_left : get_or t (2 * j + 1) 0 ≡ 0 → Down s t lo hi h (2 * j)
    unfolding u
    down_left z = record {
      under = record {
        heap = u.heap;
        root = omega (arith, u.root);
        from = omega (arith, u.from, low j h);
        upto = omega (arith, u.upto, low j h, pow-suc 2 h);
        full = omega (arith, u.full, u.heap.node j u.root inside);
      };
      above = omega (arith, D.above, low j h);
      reach = omega (arith, D.reach, low j h, pow-suc 2 h);
      empty = λ k a b. go k a b (dec_lt k (j * 2 ^ suc h + 2 ^ suc h));
    }
      where
        go : (k : ℕ) → 2 * j * 2 ^ h + 2 ^ h ≤ k → k < hi → Dec (k < j * 2 ^ suc h + 2 ^ suc h) → get_or t k 0 ≡ 0
        go k a b (no n) = D.empty k (omega arith) b
        go k a b (yes y) =
            omega (
              arith,
              under s t u.heap h (2 * j + 1) (omega arith) (omega (arith, u.upto, low j h, mid j h, pow-suc 2 h)) k
                  (omega (arith, mid j h)) (omega (arith, low j h, mid j h, pow-suc 2 h)),
            )

  -- the same in the code's numbers
  pub down_inside : (h j : ℕ) → 0 < h → Down s t lo hi h j → 2 * j + 1 < length t
  down_inside zero j p D = absurd (omega arith)
  down_inside (suc h) j p D = omega (arith, inside h j D, D.under.heap.long)

  pub go_right_lem : (h j k : ℕ) → 0 < h → Down s t lo hi h j → get_or t (2 * j + 1) 0 ≢ 0 → k ≡ 2 * j + 1
      → Down s t lo hi (h - 1) k
  go_right_lem zero j k p D n q = absurd (omega arith)
  go_right_lem (suc h) j k p D n q = let e : suc h - 1 ≡ h = omega arith in rw (e, q) (down_right h j D n)

  pub go_left_lem : (h j k : ℕ) → 0 < h → Down s t lo hi h j → get_or t (2 * j + 1) 0 ≡ 0 → k ≡ 2 * j + 1 - 1
      → Down s t lo hi (h - 1) k
  go_left_lem zero j k p D n q = absurd (omega arith)
  go_left_lem (suc h) j k p D n q =
      let e : suc h - 1 ≡ h = omega arith in
      let f : k ≡ 2 * j = omega arith in
      rw (e, f) (down_left h j D n)

  pub down_end : (j : ℕ) → Down s t lo hi 0 j → LastIn t lo hi j
  down_end j D = record {
    above = omega (arith, D.above, mul-one j);
    below = omega (arith, D.reach, mul-one j);
    full = D.under.full;
    empty = λ k a b. D.empty k (omega (arith, mul-one j)) b;
  }

-- the last leaf below the word that the climb found is the last before i
pub last_is : (s : ℕ) (t : Words) (i h j r : ℕ) → Above s t i h j → LastIn t (j * 2 ^ h) (j * 2 ^ h + 2 ^ h) r
    → LastIn t s i r
last_is s t i h j r A l = record {
  above = omega (arith, A.under.from, l.above);
  below = omega (arith, A.reach, l.below);
  full = l.full;
  empty = λ k a b. go k a b (dec_lt k (j * 2 ^ h + 2 ^ h));
}
  where
    go : (k : ℕ) → r < k → k < i → Dec (k < j * 2 ^ h + 2 ^ h) → get_or t k 0 ≡ 0
    go k a b (yes y) = l.empty k a y
    go k a b (no n) = A.empty k (omega arith) b
