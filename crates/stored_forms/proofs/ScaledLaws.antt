-- Runs of units as runs of cells, p to a unit: a search or a change of the one is that of the other. So the block that
-- leftmost fit finds in the free tree is demand 2's. Assumes nothing.
use Prim.Native.Nat.{ℕ, ◌+◌, ◌-◌, ◌*◌, ◌≤◌, ◌<◌}
use native.Mathlib.Nat.{add-mul, suc-mul, zero-mul, mul-le-mul_right}
use native.Mathlib.Omega.{arith}
use native.Mathlib.Decide.{dec_le}
use mathlib.Core.Path.{◌≡◌, refl, sym, ap, ap₂, ◌∙◌}
use mathlib.Core.Bool.{Bool, true, false, cond}
use mathlib.Core.List.{List, [], ◌∷◌, ◌++◌, map}
use mathlib.Core.Option.{Option, none, some}
use lib.Dec.{eqb, leb, ltb}
use Rattle.words.proofs.Tests.{bool_iff, eqb_eq, eqb_same, le_of, of_le, lt_of, of_lt}
use Rattle.ledger.specs.Runs.{Run, run, add_run, shorten}
use Rattle.ledger.proofs.FitLaws.{first_fit}
use Rattle.stored_forms.specs.Tree.{tree_of}
use Rattle.stored_forms.specs.Blocks.{leftmost}
use Rattle.stored_forms.proofs.TreeLaws.{leftmost_first, heaped_tree_of, inorder_tree_of}
use Rattle.stored_forms.proofs.FreeTreeLaws.{scaled}

module _ (p : ℕ) (some_cells : 0 < p) where
  -- ---- numbers

  lt_scaled : (x y : ℕ) → x < y → x * p < y * p
  lt_scaled x y h = omega (arith, suc-mul x p, mul-le-mul_right p h)

  le_back : (x y : ℕ) → x * p ≤ y * p → x ≤ y
  le_back x y h = go (dec_le x y)
    where
      go : Dec (x ≤ y) → x ≤ y
      go (yes l) = l
      go (no l) = absurd (omega (arith, lt_scaled y x (omega arith)))

  leb_scaled : (x y : ℕ) → leb (x * p) (y * p) ≡ leb x y
  leb_scaled x y =
      bool_iff (leb (x * p) (y * p)) (leb x y) (λ e. of_le x y (le_back x y (le_of (x * p) (y * p) e)))
      (λ e. of_le (x * p) (y * p) (mul-le-mul_right p (le_of x y e)))

  ltb_scaled : (x y : ℕ) → ltb (x * p) (y * p) ≡ ltb x y
  ltb_scaled x y = go (dec_le y x)
    where
      go : Dec (y ≤ x) → ltb (x * p) (y * p) ≡ ltb x y
      go (yes l) =
          bool_iff (ltb (x * p) (y * p)) (ltb x y)
          (λ e. absurd (omega (arith, lt_of (x * p) (y * p) e, mul-le-mul_right p l)))
          (λ e. absurd (omega (arith, lt_of x y e)))
      go (no l) = of_lt (x * p) (y * p) (lt_scaled x y (omega arith)) ∙ sym (of_lt x y (omega arith))

  eqb_scaled : (x y : ℕ) → eqb (x * p) (y * p) ≡ eqb x y
  eqb_scaled x y =
      bool_iff (eqb (x * p) (y * p)) (eqb x y)
      (λ e. same x y (eqb_eq (x * p) (y * p) e))
      (λ e. ap (λ z. eqb (z * p) (y * p)) (eqb_eq x y e) ∙ eqb_same (y * p))
    where
      same : (x y : ℕ) → x * p ≡ y * p → eqb x y ≡ true
      same x y e =
          let a = le_back x y (omega arith) in
          let b = le_back y x (omega arith) in
          let z : x ≡ y = omega arith in
          ap (λ w. eqb w y) z ∙ eqb_same y

  -- ---- the search

  abbrev pub scaled_fit : Option Run → Option Run
  scaled_fit none = none
  scaled_fit (some r) = some (scaled p r)

  fit_scaled : (m : ℕ) (rs : List Run) → first_fit (m * p) (map (scaled p) rs) ≡ scaled_fit (first_fit m rs)
  fit_scaled m [] = refl
  fit_scaled m (r ∷ rs) = rw (leb_scaled m r.size) (go (leb m r.size) (fit_scaled m rs))
    where
      go : (b : Bool) → first_fit (m * p) (map (scaled p) rs) ≡ scaled_fit (first_fit m rs)
          → cond b (some (scaled p r)) (first_fit (m * p) (map (scaled p) rs))
          ≡ scaled_fit (cond b (some r) (first_fit m rs))
      go true ih = refl
      go false ih = ih

  -- leftmost fit in the tree of the cells finds the first run of units that is long enough
  pub leftmost_scaled : (m : ℕ) (rs : List Run)
      → leftmost (m * p) (tree_of (map (scaled p) rs)) ≡ scaled_fit (first_fit m rs)
  leftmost_scaled m rs =
      let cells = map (scaled p) rs in
      leftmost_first (m * p) (tree_of cells) (heaped_tree_of cells) ∙ ap (first_fit (m * p)) (inorder_tree_of cells)
      ∙ fit_scaled m rs

  -- ---- changes

  pub append_scaled : (xs : List Run) (r : Run) (ys : List Run) → map (scaled p) (xs ++ r ∷ ys)
      ≡ map (scaled p) xs ++ scaled p r ∷ map (scaled p) ys
  append_scaled [] r ys = refl
  append_scaled (x ∷ xs) r ys = ap (λ (l : List Run). scaled p x ∷ l) (append_scaled xs r ys)

  rest_scaled : (x y : ℕ) → (x - y) * p ≡ x * p - y * p
  rest_scaled x y = go (dec_le y x)
    where
      go : Dec (y ≤ x) → (x - y) * p ≡ x * p - y * p
      go (yes l) =
          let e : x - y + y ≡ x = omega arith in
          omega (arith, add-mul (x - y) y p, ap (λ z. z * p) e)
      go (no l) =
          let e : x - y ≡ 0 = omega arith in
          let none : (x - y) * p ≡ 0 = ap (λ z. z * p) e ∙ zero-mul p in
          omega (arith, none, lt_scaled x y (omega arith))

  shorter : (m : ℕ) (r : Run) → run (r.start * p + m * p) (r.size * p - m * p)
      ≡ scaled p (run (r.start + m) (r.size - m))
  shorter m r = ap₂ run (sym (add-mul r.start m p)) (sym (rest_scaled r.size m))

  -- a run shortened among others
  pub shorten_scaled : (xs : List Run) (m : ℕ) (r : Run) (ys : List Run)
      → map (scaled p) (xs ++ shorten m r ys)
      ≡ map (scaled p) xs ++ shorten (m * p) (scaled p r) (map (scaled p) ys)
  shorten_scaled [] m r ys = rw (eqb_scaled m r.size) (go (eqb m r.size))
    where
      go : (b : Bool) → map (scaled p) (cond b ys (run (r.start + m) (r.size - m) ∷ ys))
          ≡ cond b (map (scaled p) ys)
          (run (r.start * p + m * p) (r.size * p - m * p) ∷ map (scaled p) ys)
      go true = refl
      go false = ap (λ (x : Run). x ∷ map (scaled p) ys) (sym (shorter m r))
  shorten_scaled (x ∷ xs) m r ys = ap (λ (l : List Run). scaled p x ∷ l) (shorten_scaled xs m r ys)

  -- units made a run
  pub add_scaled : (s m : ℕ) (rs : List Run) → map (scaled p) (add_run s m rs)
      ≡ add_run (s * p) (m * p) (map (scaled p) rs)
  add_scaled s m [] = refl
  add_scaled s m (r ∷ rs) =
      rw (
        sym (add-mul r.start r.size p),
        sym (add-mul s m p),
        ltb_scaled (r.start + r.size) s,
        eqb_scaled (r.start + r.size) s,
        eqb_scaled (s + m) r.start,
      ) (go (ltb (r.start + r.size) s) (eqb (r.start + r.size) s) (eqb (s + m) r.start) (add_scaled s m rs)
      (add_scaled r.start (r.size + m) rs))
    where
      f : List Run → List Run
      f l = map (scaled p) l

      go : (a b c : Bool) → f (add_run s m rs) ≡ add_run (s * p) (m * p) (f rs)
          → f (add_run r.start (r.size + m) rs) ≡ add_run (r.start * p) ((r.size + m) * p) (f rs)
          → f (cond a (r ∷ add_run s m rs) (cond b (add_run r.start (r.size + m) rs)
          (cond c (run s (m + r.size) ∷ rs) (run s m ∷ r ∷ rs))))
          ≡ cond a (scaled p r ∷ add_run (s * p) (m * p) (f rs))
          (cond b (add_run (r.start * p) (r.size * p + m * p) (f rs))
          (cond c (run (s * p) (m * p + r.size * p) ∷ f rs) (run (s * p) (m * p) ∷ f (r ∷ rs))))
      go true b c past in_one = ap (λ (l : List Run). scaled p r ∷ l) past
      go false true c past in_one = in_one ∙ ap (λ z. add_run (r.start * p) z (f rs)) (add-mul r.size m p)
      go false false true past in_one = ap (λ z. run (s * p) z ∷ f rs) (add-mul m r.size p)
      go false false false past in_one = refl
