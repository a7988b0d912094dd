-- The join in an arena, over the form: one law for each way through the pair that joins. Assumes of a form that its
-- nodes are readable.
use Prim.Native.Nat.{ℕ, ◌+◌, ◌-◌, ◌≤◌, ◌<◌}
use native.Mathlib.Omega.{arith}
use mathlib.Core.Path.{◌≡◌, refl, subst}
use mathlib.Core.Logic.{◌≢◌}
use mathlib.Core.Bool.{Bool, true, false, ◌||◌}
use lib.Dec.{eqb}
use Rattle.words.specs.Lists.{Words}
use Rattle.words.proofs.Tests.{eqb_eq}
use Rattle.ledger.specs.Runs.{run}
use Rattle.stored_forms.specs.Tree.{Tree, node, Form, length_at, left_at, right_at}
use Rattle.stored_forms.proofs.NodeLaws.{Readable, within_le}
use Rattle.tree_nodes.specs.Nodes.{cells, LeftSet, RightSet}
use Rattle.free_tree.specs.Shapes.{top}
use Rattle.free_tree.specs.Held.{At, NoNodeOf, Beside, LeftWins, RightWins, Joined, LeftJoined, RightJoined}
use Rattle.free_tree.specs.Held.{BothJoined}
use Rattle.free_tree.proofs.RunOrder.{wider}
use Rattle.free_tree.proofs.JoinLaws.{join_left, join_right, within_join, join_none}
use Rattle.free_tree.proofs.CellLaws.{no_node_below, no_node_above}
use Rattle.free_tree.proofs.StepLaws.{count, count_at, rooted, at_none, at_in, at_small, at_length, at_left}
use Rattle.free_tree.proofs.StepLaws.{at_right, unchanged}
use Rattle.free_tree.proofs.StepLaws.{left_kept, right_kept, left_replaced, right_replaced}

module _ {F : Form} (readable : Readable F F.links) where
  pub at_top : {m : Words} {l : ℕ} {t : Tree} → l ≢ 0 → At F m l t → length_at F m (l - 1) ≡ top t
  at_top {m} {l} {t} z p = rooted (λ t. length_at F m (l - 1) ≡ top t) z (λ a n b p. at_length readable p) t p

  -- ---- one root stays on top, and the join goes on down its inner side

  module _ {m : Words} {a b c n : ℕ} {x y tb : Tree} (w : Beside F m a b (node x (run c n) y) tb) where
    inner_left : {s : ℕ} → s ≡ right_at F m c → Beside F m s b y tb
    inner_left e = record {
      left = at_right readable w.left e;
      right = w.right;
      middle = w.middle;
      left_within = wider y (c + n) 0 w.middle w.middle (omega arith) (omega arith) w.left_within.2;
      right_within = w.right_within;
    }

    none_inside : (d : ℕ) → d < c + n → NoNodeOf y tb d
    none_inside d h =
        let low = within_le y (c + n) w.middle w.left_within.2 in (
          no_node_below y (c + n) w.middle d w.left_within.2 h,
          no_node_below tb w.middle (cells F m) d w.right_within (omega arith),
        )

    left_step : {m₁ m' : Words} {s : ℕ} → top tb ≤ n → Joined F m m₁ y tb s → RightSet F m₁ m' c s
        → Joined F m m' (node x (run c n) y) tb a
    left_step h made put =
        rw (join_left x (run c n) y tb h)
        (right_replaced readable w.left made (λ d o. ((o.0.2, o.1), o.0.1)) put
        (within_join y tb (c + n) w.middle (cells F m) w.left_within.2 w.right_within) none_inside)

  module _ {m : Words} {a b c n : ℕ} {x y ta : Tree} (w : Beside F m a b ta (node x (run c n) y)) where
    inner_right : {s : ℕ} → s ≡ left_at F m c → Beside F m a s ta x
    inner_right e =
        let high = within_le y (c + n) (cells F m) w.right_within.2 in
        record {
          left = w.left;
          right = at_left readable w.right e;
          middle = w.middle;
          left_within = w.left_within;
          right_within = wider x w.middle w.middle c (cells F m) (omega arith) (omega arith) w.right_within.0;
        }

    none_outside : (d : ℕ) → c ≤ d → NoNodeOf ta x d
    none_outside d h =
        let high = within_le x w.middle c w.right_within.0 in
        (no_node_above ta 0 w.middle d w.left_within (omega arith), no_node_above x w.middle c d w.right_within.0 h)

    right_step : {m₁ m' : Words} {s : ℕ} → top ta < n → Joined F m m₁ ta x s → LeftSet F m₁ m' c s
        → Joined F m m' ta (node x (run c n) y) b
    right_step h made put =
        rw (join_right ta x (run c n) y h)
        (left_replaced readable w.right made (λ d o. ((o.0, o.1.0), o.1.1)) put
        (within_join ta x 0 w.middle c w.left_within w.right_within.0) none_outside)

  -- ---- the roots of two trees that are not empty

  pub record Roots (m : Words) (a b : ℕ) : Type 0 where
    pub left : a ≢ 0
    pub right : b ≢ 0
    pub left_in_lem : a - 1 < cells F m
    pub right_in_lem : b - 1 < cells F m
    pub left_small : a < F.links
    pub right_small : b < F.links

  pub roots : {m : Words} {a b : ℕ} {ta tb : Tree} → a ≢ 0 → b ≢ 0 → Beside F m a b ta tb → Roots m a b
  roots {ta = ta} {tb = tb} x y w = record {
    left = x;
    right = y;
    left_in_lem = at_in readable x (ta, w.left);
    right_in_lem = at_in readable y (tb, w.right);
    left_small = at_small readable w.left;
    right_small = at_small readable w.right;
  }

  pub left_roots : {m : Words} {a b : ℕ} → ((ta : Tree) × (tb : Tree) × LeftWins F m a b ta tb) → Roots m a b
  left_roots (ta, tb, w) = roots w.left_root w.right_root w.sides

  pub right_roots : {m : Words} {a b : ℕ} → ((ta : Tree) × (tb : Tree) × RightWins F m a b ta tb) → Roots m a b
  right_roots (ta, tb, w) = roots w.left_root w.right_root w.sides

  -- which root wins, from the lengths that are read
  pub left_wins : {m : Words} {a b : ℕ} {ta tb : Tree} → a ≢ 0 → b ≢ 0 → length_at F m (b - 1) ≤ length_at F m (a - 1)
      → Beside F m a b ta tb → LeftWins F m a b ta tb
  left_wins x y h w = record {
    sides = w;
    left_root = x;
    right_root = y;
    heavier = omega (arith, at_top x w.left, at_top y w.right);
  }

  pub right_wins : {m : Words} {a b : ℕ} {ta tb : Tree} → a ≢ 0 → b ≢ 0 → length_at F m (a - 1) < length_at F m (b - 1)
      → Beside F m a b ta tb → RightWins F m a b ta tb
  right_wins x y h w = record {
    sides = w;
    left_root = x;
    right_root = y;
    heavier = omega (arith, at_top x w.left, at_top y w.right);
  }

  -- ---- the ways through the function whose left root wins; s is the root's right son

  module _ {m : Words} {a b s : ℕ} (e : s ≡ right_at F m (a - 1)) where
    by_left : (P : Tree → Tree → Type 0)
        → ((x : Tree) (n : ℕ) (y tb : Tree) → LeftWins F m a b (node x (run (a - 1) n) y) tb
        → P (node x (run (a - 1) n) y) tb)
        → (ta tb : Tree) → LeftWins F m a b ta tb → P ta tb
    by_left P f ta tb w =
        rooted (λ t. LeftWins F m a b t tb → P t tb) w.left_root (λ x n y p. f x n y tb) ta w.sides.left w

    pub left_end : {m' : Words} → s ≡ 0 → RightSet F m m' (a - 1) b → LeftJoined F m m' a b
    left_end {m'} z put =
        by_left (λ ta tb. Joined F m m' ta tb a)
        (λ x n y tb w.
        at_none (λ y. LeftWins F m a b (node x (run (a - 1) n) y) tb
        → Joined F m m' (node x (run (a - 1) n) y) tb a) z
        (λ w. left_step w.sides w.heavier (unchanged readable w.sides.right) put) y
        (at_right readable w.sides.left e) w)

    -- the son's tree and the second tree, and their nodes are fewer
    pub left_inner : ((ta : Tree) × (tb : Tree) × LeftWins F m a b ta tb)
        → (count F m s + count F m b < count F m a + count F m b)
        × ((ta : Tree) × (tb : Tree) × Beside F m s b ta tb)
    left_inner (ta, tb, w) =
        by_left (λ ta tb. (count F m s + count F m b < count F m a + count F m b)
        × ((ta : Tree) × (tb : Tree) × Beside F m s b ta tb))
        (λ x n y tb w.
        let v = inner_left w.sides e in
        (omega (arith, count_at readable v.left, count_at readable w.sides.left), (y, tb, v))) ta tb w

    pub left_left : {m' : Words} → s ≢ 0 → length_at F m (b - 1) ≤ length_at F m (s - 1) → LeftJoined F m m' s b
        → LeftJoined F m m' a b
    left_left {m'} z h post =
        by_left (λ ta tb. Joined F m m' ta tb a)
        (λ x n y tb w.
        let v = inner_left w.sides e in
        let made = post y tb (left_wins z w.right_root h v) in
        left_step w.sides w.heavier made
        (right_kept readable w.sides.left made
        (none_inside w.sides (a - 1) (omega (arith, w.sides.left_within.1))) e))

    pub left_right : {m₁ m' : Words} → s ≢ 0 → length_at F m (s - 1) < length_at F m (b - 1)
        → RightJoined F m m₁ s b
        → RightSet F m₁ m' (a - 1) b → LeftJoined F m m' a b
    left_right {m' = m'} z h post put =
        by_left (λ ta tb. Joined F m m' ta tb a)
        (λ x n y tb w. left_step w.sides w.heavier
        (post y tb (right_wins z w.right_root h (inner_left w.sides e))) put)

  -- ---- the ways through the function whose right root wins; s is the root's left son

  module _ {m : Words} {a b s : ℕ} (e : s ≡ left_at F m (b - 1)) where
    by_right : (P : Tree → Tree → Type 0)
        → ((ta x : Tree) (n : ℕ) (y : Tree) → RightWins F m a b ta (node x (run (b - 1) n) y)
        → P ta (node x (run (b - 1) n) y))
        → (ta tb : Tree) → RightWins F m a b ta tb → P ta tb
    by_right P f ta tb w =
        rooted (λ t. RightWins F m a b ta t → P ta t) w.right_root (λ x n y p. f ta x n y) tb
        w.sides.right w

    pub right_end : {m' : Words} → s ≡ 0 → LeftSet F m m' (b - 1) a → RightJoined F m m' a b
    right_end {m'} z put =
        by_right (λ ta tb. Joined F m m' ta tb b)
        (λ ta x n y w.
        at_none (λ x. RightWins F m a b ta (node x (run (b - 1) n) y)
        → Joined F m m' ta (node x (run (b - 1) n) y) b) z
        (λ w. right_step w.sides w.heavier (rw (join_none ta) (unchanged readable w.sides.left)) put)
        x (at_left readable w.sides.right e) w)

    pub right_inner : ((ta : Tree) × (tb : Tree) × RightWins F m a b ta tb)
        → (count F m a + count F m s < count F m a + count F m b)
        × ((ta : Tree) × (tb : Tree) × Beside F m a s ta tb)
    right_inner (ta, tb, w) =
        by_right (λ ta tb. (count F m a + count F m s < count F m a + count F m b)
        × ((ta : Tree) × (tb : Tree) × Beside F m a s ta tb))
        (λ ta x n y w.
        let v = inner_right w.sides e in
        (omega (arith, count_at readable v.right, count_at readable w.sides.right), (ta, x, v))) ta tb w

    pub right_right : {m' : Words} → s ≢ 0 → length_at F m (a - 1) < length_at F m (s - 1) → RightJoined F m m' a s
        → RightJoined F m m' a b
    right_right {m'} z h post =
        by_right (λ ta tb. Joined F m m' ta tb b)
        (λ ta x n y w.
        let v = inner_right w.sides e in
        let made = post ta x (right_wins w.left_root z h v) in
        right_step w.sides w.heavier made
        (left_kept readable w.sides.right made (none_outside w.sides (b - 1) (omega arith)) e))

    pub right_left : {m₁ m' : Words} → s ≢ 0 → length_at F m (s - 1) ≤ length_at F m (a - 1) → LeftJoined F m m₁ a s
        → LeftSet F m₁ m' (b - 1) a → RightJoined F m m' a b
    right_left {m' = m'} z h post put =
        by_right (λ ta tb. Joined F m m' ta tb b)
        (λ ta x n y w. right_step w.sides w.heavier
        (post ta x (left_wins w.left_root z h (inner_right w.sides e))) put)

  -- ---- two trees of which either may be empty

  pub both_none_left : {m : Words} {a b : ℕ} → a ≡ 0 → BothJoined F m m a b b
  both_none_left {m} {a} {b} z ta tb w =
      at_none (λ ta. Joined F m m ta tb b) z (unchanged readable w.right) ta w.left

  pub both_none_right : {m : Words} {a b : ℕ} → b ≡ 0 → BothJoined F m m a b a
  both_none_right {m} {a} {b} z ta tb w =
      at_none (λ tb. Joined F m m ta tb a) z (rw (join_none ta) (unchanged readable w.left)) tb w.right

  -- where one is, the sum of both links is that of the other
  pub both_none : {m : Words} {a b : ℕ} → (eqb a 0 || eqb b 0) ≡ true → BothJoined F m m a b (a + b)
  both_none {m} {a} {b} e = go (eqb a 0) refl
    where
      go : (v : Bool) → eqb a 0 ≡ v → BothJoined F m m a b (a + b)
      go true h =
          let z = eqb_eq a 0 h in
          let other : b ≡ a + b = omega arith in
          subst (BothJoined F m m a b) other (both_none_left z)
      go false h =
          let z = eqb_eq b 0 (rw h at e) in
          let other : a ≡ a + b = omega arith in
          subst (BothJoined F m m a b) other (both_none_right z)

  module _ {m m' : Words} {a b : ℕ} (x : a ≢ 0) (y : b ≢ 0) where
    pub both_left : length_at F m (b - 1) ≤ length_at F m (a - 1) → LeftJoined F m m' a b
        → BothJoined F m m' a b a
    both_left h post ta tb w = post ta tb (left_wins x y h w)

    pub both_right : length_at F m (a - 1) < length_at F m (b - 1) → RightJoined F m m' a b
        → BothJoined F m m' a b b
    both_right h post ta tb w = post ta tb (right_wins x y h w)
