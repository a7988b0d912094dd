-- A block in an arena that gives up its first cells, over the form: one law for each way through the steps. Assumes of
-- a form that its nodes are readable.
use Prim.Native.Nat.{ℕ, suc, ◌+◌, ◌-◌, ◌≤◌, ◌<◌}
use native.Mathlib.Nat.{le_trans, lt_of_lt_of_le, mul-le-mul_left}
use native.Mathlib.Omega.{arith}
use mathlib.Core.Path.{◌≡◌, refl, sym, ap, ◌∙◌}
use mathlib.Core.Logic.{◌≢◌}
use mathlib.Core.Bool.{Bool, true, false, cond, ◌&&◌, false≢true, true≢false}
use lib.Dec.{leb}
use mathlib.Core.Option.{some}
use Rattle.words.specs.Lists.{Words, first_that}
use Rattle.words.proofs.Tests.{eqb_eq, of_le, of_lt, of_ge, absurd_some}
use Rattle.ledger.specs.Runs.{Run, run}
use Rattle.stored_forms.specs.Tree.{Tree, leaf, node, inorder, Form, length_at, left_at, right_at}
use Rattle.stored_forms.proofs.NodeLaws.{Readable, within_le}
use Rattle.tree_nodes.specs.Nodes.{cells, NodePut, LeftSet, RightSet}
use Rattle.free_tree.specs.Shapes.{stands_above, stands_over, heavier, on_top, heapify, shrink, Stops, begins_at}
use Rattle.free_tree.specs.Held.{At, Became, NoNodeNor, Placed, OverRoot, Heavier, Between, NoNodeOfNor}
use Rattle.free_tree.specs.Held.{OnTop, Heapified, Longer}
use Rattle.free_tree.proofs.RunOrder.{wider}
use Rattle.free_tree.proofs.CellLaws.{no_node_below, no_node_above}
use Rattle.free_tree.proofs.StepLaws.{count, count_at, rooted, rooted_length, at_none, at_in, at_small, at_left}
use Rattle.free_tree.proofs.StepLaws.{at_right, left_kept, right_kept, left_replaced, right_replaced}
use Rattle.free_tree.proofs.JoinSteps.{at_top}
use Rattle.free_tree.proofs.PlaceSteps.{Local, place_tree}
use Rattle.free_tree.proofs.ChangeSteps.{beyond, put_between}
use Rattle.free_tree.proofs.ShrinkLaws.{heapify_over_lem, heapify_left, heapify_right, within_heapify}
use Rattle.free_tree.proofs.ShrinkLaws.{found_left, found_right}
use Rattle.free_tree.proofs.ShrinkLaws.{found_within, here_size, within_shrink}

-- the tree at the link l has the run at its root
abbrev pub LongerRoot : Form → Words → ℕ → ℕ → ℕ → Type 0
LongerRoot F m l x k = (t : Tree) × (n : ℕ) × Stops (begins_at x) t × Longer F m l (run x n) k t

-- two trees at the links a and b, with the run between them
abbrev pub Sides : Form → Words → ℕ → ℕ → Run → Type 0
Sides F m a b r = (ta : Tree) × (tb : Tree) × Between F m a b r ta tb

-- The run goes between the trees at the links a and b, and came down the right side of the first to cell c, all of whose
-- nodes stay on top; s is the link to the right son there. What is made of the son's tree and the second makes the
-- whole: as it is where the son's link stays, and with the link to it set at cell c.
pub record SinkRight (F : Form) (m : Words) (a b : ℕ) (r : Run) (c s : ℕ) : Type 0 where
  pub inside : c < cells F m
  pub inner : Sides F m s b r
  pub fewer : count F m s + count F m b < count F m a + count F m b
  pub stays : {m₁ : Words} → Heapified F m m₁ s b r s → Heapified F m m₁ a b r a
  pub turns : {m₁ m' : Words} {q : ℕ} → Heapified F m m₁ s b r q → RightSet F m₁ m' c q → Heapified F m m' a b r a

-- the same down the left side of the second
pub record SinkLeft (F : Form) (m : Words) (a b : ℕ) (r : Run) (c s : ℕ) : Type 0 where
  pub inside : c < cells F m
  pub inner : Sides F m a s r
  pub fewer : count F m a + count F m s < count F m a + count F m b
  pub stays : {m₁ : Words} → Heapified F m m₁ a s r s → Heapified F m m₁ a b r b
  pub turns : {m₁ m' : Words} {q : ℕ} → Heapified F m m₁ a s r q → LeftSet F m₁ m' c q → Heapified F m m' a b r b

module _ {F : Form} (readable : Readable F F.links) where
  -- ---- above a root

  pub over_some : {m : Words} {l k : ℕ} (r : Run) {v : Bool} → l ≢ 0 → k ≡ length_at F m (l - 1)
      → v ≡ stands_above r (run (l - 1) k) → OverRoot F m l r v
  over_some r {v} z len e = rooted_length readable (λ t. v ≡ stands_over r t) z len (λ a b p. e)

  -- ---- between two trees

  pub between_in : {m : Words} {a b : ℕ} {r : Run} → Sides F m a b r
      → (r.start < cells F m) × (r.start + 1 < F.links)
  between_in {m} {r = r} (ta, tb, p) =
      let some_cells = p.filled in
      let inside = within_le tb (r.start + r.size) (cells F m) p.right_within in
      let small = p.left.small in
      (omega arith, omega arith)

  -- ---- which of two roots is heavier, from the lengths that are read

  module _ {m : Words} {a b : ℕ} where
    pub heavier_both : {i k : ℕ} → a ≢ 0 → b ≢ 0 → k ≡ length_at F m (b - 1) → i ≡ length_at F m (a - 1)
        → Heavier F m a b (leb k i)
    heavier_both {i} {k} x y g f ta tb p q =
        rooted_length readable (λ t. leb k i ≡ heavier t tb) x f
        (λ c d w. ap (λ (n : ℕ). leb n i) (g ∙ at_top readable y q)) ta p

  -- ---- where the heavier root stays on top, the run lies between its inner son's tree and the other tree

  module _ {m : Words} {a b c n : ℕ} {r : Run} {x y tb : Tree} (w : Between F m a b r (node x (run c n) y) tb) where
    inner_left : {s : ℕ} → s ≡ right_at F m c → Between F m s b r y tb
    inner_left e = record {
      left = at_right readable w.left e;
      right = w.right;
      left_within = wider y (c + n) 0 r.start r.start (omega arith) (omega arith) w.left_within.2;
      right_within = w.right_within;
      filled = w.filled;
      zeros = w.zeros;
    }

    none_inside : (d : ℕ) → d < c + n → NoNodeOfNor y tb r.start d
    none_inside d h =
        let low = within_le y (c + n) r.start w.left_within.2 in (
          no_node_below y (c + n) r.start d w.left_within.2 h,
          no_node_below tb (r.start + r.size) (cells F m) d w.right_within (omega arith),
          λ z. omega arith,
        )

    left_step : {m₁ m' : Words} {s : ℕ} → (stands_above r (run c n) && stands_over r tb) ≡ false
        → heavier (node x (run c n) y) tb ≡ true → Became F m m₁ (NoNodeOfNor y tb r.start) s (heapify r y tb)
        → RightSet F m₁ m' c s
        → Became F m m' (NoNodeOfNor (node x (run c n) y) tb r.start) a (heapify r (node x (run c n) y) tb)
    left_step e h made put =
        rw (heapify_left r x (run c n) y tb e h)
        (right_replaced readable w.left made (λ d o. ((o.0.2, o.1, o.2), o.0.1)) put
        (within_heapify r y tb (c + n) (cells F m) w.left_within.2 w.filled w.right_within) none_inside)

  module _ {m : Words} {a b c n : ℕ} {r : Run} {x y ta : Tree} (w : Between F m a b r ta (node x (run c n) y)) where
    inner_right : {s : ℕ} → s ≡ left_at F m c → Between F m a s r ta x
    inner_right e =
        let high = within_le y (c + n) (cells F m) w.right_within.2 in
        let end = r.start + r.size in
        record {
          left = w.left;
          right = at_left readable w.right e;
          left_within = w.left_within;
          right_within = wider x end end c (cells F m) (omega arith) (omega arith) w.right_within.0;
          filled = w.filled;
          zeros = w.zeros;
        }

    none_outside : (d : ℕ) → c ≤ d → NoNodeOfNor ta x r.start d
    none_outside d h =
        let some = w.filled in
        let high = within_le x (r.start + r.size) c w.right_within.0 in (
          no_node_above ta 0 r.start d w.left_within (omega arith),
          no_node_above x (r.start + r.size) c d w.right_within.0 h,
          λ z. omega arith,
        )

    right_step : {m₁ m' : Words} {s : ℕ} → (stands_over r ta && stands_above r (run c n)) ≡ false
        → heavier ta (node x (run c n) y) ≡ false → Became F m m₁ (NoNodeOfNor ta x r.start) s (heapify r ta x)
        → LeftSet F m₁ m' c s
        → Became F m m' (NoNodeOfNor ta (node x (run c n) y) r.start) b (heapify r ta (node x (run c n) y))
    right_step e h made put =
        rw (heapify_right r ta x (run c n) y e h)
        (left_replaced readable w.right made (λ d o. ((o.0, o.1.0, o.2), o.1.1)) put
        (within_heapify r ta x 0 c w.left_within w.filled w.right_within.0) none_outside)

  -- ---- which stays on top

  top_run : (r : Run) (s t : Tree) → 0 ≡ on_top r s t → (stands_over r s && stands_over r t) ≡ true
  top_run r s t = go (stands_over r s && stands_over r t) (heavier s t)
    where
      go : (v w : Bool) → ◌≡◌ {A = ℕ} 0 (cond v 0 (cond w 1 2)) → v ≡ true
      go true w e = refl
      go false true e = absurd (omega arith)
      go false false e = absurd (omega arith)

  top_first : (r : Run) (s t : Tree) → 1 ≡ on_top r s t
      → ((stands_over r s && stands_over r t) ≡ false) × (heavier s t ≡ true)
  top_first r s t = go (stands_over r s && stands_over r t) (heavier s t)
    where
      go : (v w : Bool) → ◌≡◌ {A = ℕ} 1 (cond v 0 (cond w 1 2)) → (v ≡ false) × (w ≡ true)
      go true w e = absurd (omega arith)
      go false true e = (refl, refl)
      go false false e = absurd (omega arith)

  top_second : (r : Run) (s t : Tree) → 2 ≡ on_top r s t
      → ((stands_over r s && stands_over r t) ≡ false) × (heavier s t ≡ false)
  top_second r s t = go (stands_over r s && stands_over r t) (heavier s t)
    where
      go : (v w : Bool) → ◌≡◌ {A = ℕ} 2 (cond v 0 (cond w 1 2)) → (v ≡ false) × (w ≡ false)
      go true w e = absurd (omega arith)
      go false true e = absurd (omega arith)
      go false false e = (refl, refl)

  -- ---- the ways through

  no_root : (r : Run) (t : Tree) → (stands_over r t && true) ≡ false → false ≡ heavier t leaf → ⊥
  no_root r leaf e h = true≢false e
  no_root r (node a q b) e h = false≢true (h ∙ of_le 0 q.size (omega arith))

  module _ {m : Words} {a b x n k : ℕ} (which : OnTop F m a b (run x n) k) where
    at_top_of : {ta tb : Tree} {i : ℕ} → Between F m a b (run x n) ta tb → k ≡ i → i ≡ on_top (run x n) ta tb
    at_top_of {ta} {tb} p e = sym e ∙ which ta tb p.left p.right

    pub heapify_top : {m' : Words} → k ≡ 0 → NodePut F m m' x n a b → Heapified F m m' a b (run x n) (x + 1)
    heapify_top e put ta tb p =
        let made = put_between readable p put in
        rw (heapify_over_lem (run x n) ta tb (top_run (run x n) ta tb (at_top_of p e)))
        (record { tree = made.tree; frame = λ d o. made.frame d o.2; long = made.long })

    -- the first root stays on top; s is its right son
    module _ (e : k ≡ 1) where
      pub left_root : Sides F m a b (run x n) → a ≢ 0
      left_root (ta, tb, p) z =
          at_none (λ t. 1 ≡ on_top (run x n) t tb → ⊥) z (λ h. false≢true (top_first (run x n) leaf tb h).1) ta
          p.left (at_top_of p e)

      module _ {s : ℕ} (son : s ≡ right_at F m (a - 1)) where
        left_inner : Sides F m a b (run x n)
            → (count F m s + count F m b < count F m a + count F m b) × Sides F m s b (run x n)
        left_inner (ta, tb, p) =
            rooted (λ t. Between F m a b (run x n) t tb
            → (count F m s + count F m b < count F m a + count F m b) × Sides F m s b (run x n))
            (left_root (ta, tb, p))
            (λ c i d q p.
            let inner = inner_left p son in
            (omega (arith, count_at readable inner.left, count_at readable q), (d, tb, inner))) ta p.left p

        down_left_side : {m₁ m' : Words} {q : ℕ} → Heapified F m m₁ s b (run x n) q → RightSet F m₁ m' (a - 1) q
            → Heapified F m m' a b (run x n) a
        down_left_side {m' = m'} post put ta tb p =
            rooted (λ t. Between F m a b (run x n) t tb
            → Became F m m' (NoNodeOfNor t tb x) a (heapify (run x n) t tb)) (left_root (ta, tb, p))
            (λ c i d q p.
            let (under, first) = top_first (run x n) (node c (run (a - 1) i) d) tb (at_top_of p e) in
            left_step p under first (post d tb (inner_left p son)) put) ta p.left p

        -- its link to the son stays
        keep_left_side : {m₁ : Words} → Heapified F m m₁ s b (run x n) s → Heapified F m m₁ a b (run x n) a
        keep_left_side {m₁} post ta tb p =
            rooted (λ t. Between F m a b (run x n) t tb
            → Became F m m₁ (NoNodeOfNor t tb x) a (heapify (run x n) t tb)) (left_root (ta, tb, p))
            (λ c i d q p.
            let (under, first) = top_first (run x n) (node c (run (a - 1) i) d) tb (at_top_of p e) in
            let made = post d tb (inner_left p son) in
            left_step p under first made
            (right_kept readable q made (none_inside p (a - 1) (omega (arith, p.left_within.1))) son)) ta p.left p

    -- the second root stays on top; s is its left son
    module _ (e : k ≡ 2) where
      pub right_root : Sides F m a b (run x n) → b ≢ 0
      right_root (ta, tb, p) z =
          at_none (λ t. 2 ≡ on_top (run x n) ta t → ⊥) z
          (λ h. let (under, second) = top_second (run x n) ta leaf h in no_root (run x n) ta under (sym second)) tb
          p.right (at_top_of p e)

      module _ {s : ℕ} (son : s ≡ left_at F m (b - 1)) where
        right_inner : Sides F m a b (run x n)
            → (count F m a + count F m s < count F m a + count F m b) × Sides F m a s (run x n)
        right_inner (ta, tb, p) =
            rooted (λ t. Between F m a b (run x n) ta t
            → (count F m a + count F m s < count F m a + count F m b) × Sides F m a s (run x n))
            (right_root (ta, tb, p))
            (λ c i d q p.
            let inner = inner_right p son in
            (omega (arith, count_at readable inner.right, count_at readable q), (ta, c, inner))) tb p.right p

        down_right_side : {m₁ m' : Words} {q : ℕ} → Heapified F m m₁ a s (run x n) q → LeftSet F m₁ m' (b - 1) q
            → Heapified F m m' a b (run x n) b
        down_right_side {m' = m'} post put ta tb p =
            rooted (λ t. Between F m a b (run x n) ta t
            → Became F m m' (NoNodeOfNor ta t x) b (heapify (run x n) ta t)) (right_root (ta, tb, p))
            (λ c i d q p.
            let (under, second) = top_second (run x n) ta (node c (run (b - 1) i) d) (at_top_of p e) in
            right_step p under second (post ta c (inner_right p son)) put) tb p.right p

        keep_right_side : {m₁ : Words} → Heapified F m m₁ a s (run x n) s → Heapified F m m₁ a b (run x n) b
        keep_right_side {m₁} post ta tb p =
            rooted (λ t. Between F m a b (run x n) ta t
            → Became F m m₁ (NoNodeOfNor ta t x) b (heapify (run x n) ta t)) (right_root (ta, tb, p))
            (λ c i d q p.
            let (under, second) = top_second (run x n) ta (node c (run (b - 1) i) d) (at_top_of p e) in
            let made = post ta c (inner_right p son) in
            right_step p under second made
            (left_kept readable q made (none_outside p (b - 1) (omega arith)) son)) tb p.right p

  -- ---- the way down one side: its first node, and one way after another

  module _ {m : Words} {a b x n k s : ℕ} (which : OnTop F m a b (run x n) k) (sides : Sides F m a b (run x n)) where
    pub sink_right_start : k ≡ 1 → s ≡ right_at F m (a - 1) → SinkRight F m a b (run x n) (a - 1) s
    sink_right_start e son =
        let (less, inner) = left_inner which e son sides in
        let (ta, tb, p) = sides in
        record {
          inside = at_in readable (left_root which e sides) (ta, p.left);
          inner = inner;
          fewer = less;
          stays = λ post. keep_left_side which e son post;
          turns = λ post put. down_left_side which e son post put;
        }

    pub sink_left_start : k ≡ 2 → s ≡ left_at F m (b - 1) → SinkLeft F m a b (run x n) (b - 1) s
    sink_left_start e son =
        let (less, inner) = right_inner which e son sides in
        let (ta, tb, p) = sides in
        record {
          inside = at_in readable (right_root which e sides) (tb, p.right);
          inner = inner;
          fewer = less;
          stays = λ post. keep_right_side which e son post;
          turns = λ post put. down_right_side which e son post put;
        }

  module _ {m : Words} {a b c d s u : ℕ} {r : Run} where
    pub sink_right_on : SinkRight F m a b r c s → SinkRight F m s b r d u → SinkRight F m a b r d u
    sink_right_on w v = record {
      inside = v.inside;
      inner = v.inner;
      fewer = omega (arith, w.fewer, v.fewer);
      stays = λ post. w.stays (v.stays post);
      turns = λ post put. w.stays (v.turns post put);
    }

    pub sink_left_on : SinkLeft F m a b r c s → SinkLeft F m a s r d u → SinkLeft F m a b r d u
    sink_left_on w v = record {
      inside = v.inside;
      inner = v.inner;
      fewer = omega (arith, w.fewer, v.fewer);
      stays = λ post. w.stays (v.stays post);
      turns = λ post put. w.stays (v.turns post put);
    }

  -- the link to what was made is small
  pub heapified_small : {m m' : Words} {a b q : ℕ} {r : Run} → Heapified F m m' a b r q → Sides F m a b r
      → q < F.links
  heapified_small post (ta, tb, p) = at_small readable (post ta tb p).tree

  -- ---- down to the run

  longer_root : {m : Words} {l k : ℕ} {r : Run} {t : Tree} → Longer F m l r k t → l ≢ 0
  longer_root {m} {l} {k} {r} {t} p z =
      at_none (λ t. first_that (begins_at r.start) (inorder t) ≡ some r → ⊥) z absurd_some t p.tree p.found

  module _ {m : Words} {l c i s x n k : ℕ} {a b : Tree} (p : Longer F m l (run x n) k (node a (run c i) b)) where
    longer_left : s ≡ left_at F m c → x < c → Longer F m s (run x n) k a
    longer_left e h = record {
      tree = at_left readable p.tree e;
      found = sym (found_left x a (run c i) b 0 (cells F m) p.tree.within h) ∙ p.found;
      part = p.part;
      more = p.more;
    }

    longer_right : s ≡ right_at F m c → c < x → Longer F m s (run x n) k b
    longer_right e h = record {
      tree = at_right readable p.tree e;
      found = sym (found_right x a (run c i) b 0 (cells F m) p.tree.within h) ∙ p.found;
      part = p.part;
      more = p.more;
    }

  -- above the run the step goes down to a son
  pub shrinks : {m : Words} (x n k : ℕ)
      → Local F m (begins_at x) x (λ l t. Longer F m l (run x n) k t) (shrink x k)
      (λ t. NoNodeNor t (x + k))
  shrinks {m} x n k = record {
    tree = λ p. p.tree;
    left = λ {l} {a} {b} {q} p e h s.
        let c = q.start in
        let place = p.tree.within.0 in
        let low = longer_left p s h in
        let more = p.more in
        let end = (found_within x n a 0 c place low.found).1 in
        record {
          down = low;
          same = rw (of_lt x c h);
          place = within_shrink x k n more a 0 c place low.found;
          rest = λ d u. (no_node_above a 0 c d place u, λ w. omega arith);
          out = λ d o. ((o.0.0, o.1), o.0.1);
        };
    right = λ {l} {a} {b} {q} p e h s.
        let c = q.start in
        let place = p.tree.within.2 in
        let past = beyond x q e h in
        let high = longer_right p s past in
        let start = (found_within x n b (c + q.size) (cells F m) place high.found).0 in
        record {
          down = high;
          same = rw (of_ge x c h, of_lt c x past);
          place = within_shrink x k n p.more b (c + q.size) (cells F m) place high.found;
          rest = λ d u. (no_node_below b (c + q.size) (cells F m) d place u, λ w. omega arith);
          out = λ d o. ((o.0.2, o.1), o.0.1);
        };
  }

  -- ---- at the run: what is left of it lies between its sons

  pub root_tree : {m : Words} {l x k : ℕ} → LongerRoot F m l x k → (l ≢ 0) × ((t : Tree) × At F m l t)
  root_tree (t, n, e, p) = (longer_root p, (t, p.tree))

  pub longer_place : {m : Words} {l x k at over : ℕ} → Placed F m l (begins_at x) x at over
      → ((t : Tree) × (n : ℕ) × Longer F m l (run x n) k t) → LongerRoot F m at x k
  longer_place {x = x} {k = k} placed (t, n, p) =
      let (s, e, q) = place_tree readable (shrinks x n k) placed (t, p) in
      (s, n, e, q)

  module _ {m : Words} {l x k i a b : ℕ} (left : a ≡ left_at F m (l - 1)) (right : b ≡ right_at F m (l - 1))
      (len : i ≡ length_at F m (l - 1)) where
    by_length : {n : ℕ} (P : Tree → Type 0)
        → ((ta tb : Tree) → l - 1 ≡ x → Longer F m l (run x n) k (node ta (run (l - 1) i) tb)
        → P (node ta (run (l - 1) i) tb))
        → (t : Tree) → Stops (begins_at x) t → Longer F m l (run x n) k t → P t
    by_length {n} P f t e p =
        rooted_length readable (λ t. Stops (begins_at x) t → Longer F m l (run x n) k t → P t) (longer_root p) len
        (λ ta tb q e. f ta tb (eqb_eq (l - 1) x e)) t p.tree e p

    module _ {n : ℕ} {ta tb : Tree} (same : l - 1 ≡ x)
        (p : Longer F m l (run x n) k (node ta (run (l - 1) i) tb)) where
      longer_here : k < i
      longer_here =
          omega (arith, p.more, here_size x n ta (run (l - 1) i) tb 0 (cells F m) p.tree.within same p.found)

      sons_between : Between F m a b (run (x + k) (i - k)) ta tb
      sons_between =
          let more = longer_here in
          let low : suc (l - 1) ≤ x + k = omega (arith, p.part) in
          let high : x + k + (i - k) ≤ l - 1 + i = omega arith in
          record {
            left = at_left readable p.tree left;
            right = at_right readable p.tree right;
            left_within = wider ta 0 0 (l - 1) (x + k) (omega arith) (omega arith) p.tree.within.0;
            right_within =
                wider tb (l - 1 + i) (x + k + (i - k)) (cells F m) (cells F m) high (omega arith) p.tree.within.2;
            filled = omega arith;
            zeros = λ d u v.
                p.tree.holds.1 d (le_trans (mul-le-mul_left F.cell low) u)
                (lt_of_lt_of_le v (mul-le-mul_left F.cell high));
          }

    pub shrink_between : LongerRoot F m l x k
        → (k < i) × (x + k < F.links) × Sides F m a b (run (x + k) (i - k))
    shrink_between (t, n, e, p) =
        by_length
        (λ t.
        (k < i) × (x + k < F.links) × Sides F m a b (run (x + k) (i - k)))
        (λ ta tb same p.
        let w = sons_between same p in
        (longer_here same p, omega (arith, (between_in (ta, tb, w)).1), (ta, tb, w))) t e p

    pub shrink_here : {m' : Words} {q n : ℕ} → Heapified F m m' a b (run (x + k) (i - k)) q
        → (t : Tree) → Stops (begins_at x) t → Longer F m l (run x n) k t
        → Became F m m' (NoNodeNor t (x + k)) q (shrink x k t)
    shrink_here {m'} {q} post =
        by_length (λ t. Became F m m' (NoNodeNor t (x + k)) q (shrink x k t))
        (λ ta tb same p.
        let made = post ta tb (sons_between same p) in
        rw (of_ge x (l - 1) (omega arith), of_ge (l - 1) x (omega arith))
        (record { tree = made.tree; frame = λ d o. made.frame d (o.0.0, o.0.2, o.1); long = made.long }))
