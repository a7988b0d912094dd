-- The search for the leftmost fit: one law for each way through a turn of the loop, and the way to what it finds.
-- Assumes of a form that its nodes are readable.
use Prim.Native.Nat.{ℕ, suc, ◌+◌, ◌-◌, ◌≤◌, ◌<◌}
use native.Mathlib.Omega.{arith}
use mathlib.Core.Path.{◌≡◌, refl, sym, ap, ◌∙◌, subst}
use mathlib.Core.Logic.{◌≢◌}
use mathlib.Core.Bool.{Bool, true, false, cond}
use mathlib.Core.Option.{none, some}
use Rattle.words.specs.Lists.{Words}
use Rattle.words.proofs.Tests.{eqb_same, eqb_ne, of_le, of_gt}
use Rattle.ledger.specs.Runs.{Run, run}
use Rattle.stored_forms.specs.Tree.{Tree, leaf, node, Form, length_at, left_at}
use Rattle.stored_forms.specs.Blocks.{Within, root_fits, leftmost}
use Rattle.stored_forms.proofs.TreeLaws.{long_enough}
use Rattle.stored_forms.proofs.NodeLaws.{Readable, within_le, link_within}
use Rattle.tree_nodes.specs.Nodes.{cells}
use Rattle.free_tree.specs.Shapes.{Under, whole, go_left, Stops, begins_at, link_to}
use Rattle.free_tree.specs.Held.{At, NodeOf, LeftmostFound}
use Rattle.free_tree.proofs.StepLaws.{rooted, rooted_length, at_none, at_left}

-- the link to the leftmost fit of a tree whose root fits, else the last link that fitted
abbrev fit_or : ℕ → Tree → ℕ → ℕ
fit_or n t d = cond (root_fits n t) (link_to (leftmost n t)) d

fit_none : (n : ℕ) (t : Tree) → link_to (leftmost n t) ≡ fit_or n t 0
fit_none n leaf = refl
fit_none n (node a q b) = go (long_enough n q) (root_fits n a)
  where
    go : (x y : Bool)
        → link_to (cond x (cond y (leftmost n a) (some q)) none)
        ≡ cond x (link_to (cond x (cond y (leftmost n a) (some q)) none)) 0
    go true y = refl
    go false y = refl

fit_left : (n : ℕ) (a : Tree) (q : Run) (b : Tree) (d : ℕ) → n ≤ q.size
    → fit_or n (node a q b) d ≡ fit_or n a (suc q.start)
fit_left n a q b d h = rw (of_le n q.size h) (go (root_fits n a))
  where
    go : (x : Bool) → link_to (cond x (leftmost n a) (some q)) ≡ cond x (link_to (leftmost n a)) (suc q.start)
    go true = refl
    go false = refl

-- what the search for n cells at the link l has left to find; d is the last link that fitted
abbrev pub FitLeft : Form → Words → ℕ → ℕ → ℕ → ℕ → Type 0
FitLeft F m root n l d =
    (T : Tree) → At F m root T → (t : Tree) × At F m l t × (link_to (leftmost n T) ≡ fit_or n t d)

-- From the root to the subtree at the link l the way goes left alone, and its father is at the link `over`. So it is
-- the way to any cell below the nodes on it.
abbrev pub OnLeft : Form → Words → ℕ → ℕ → ℕ → Type 0
OnLeft F m root l over =
    (T : Tree) → At F m root T
    → (t : Tree) × At F m l t × (h : ℕ) × Within 0 h t × ((x : ℕ) → x < h → Under (begins_at x) x T t over)

module _ {F : Form} (readable : Readable F F.links) where
  -- ---- leftmost fit

  pub fit_start : {m : Words} {root : ℕ} (n : ℕ) → FitLeft F m root n root 0
  fit_start n T p = (T, p, fit_none n T)

  pub fit_tree : {m : Words} {root l d : ℕ} (n : ℕ) → FitLeft F m root n l d → ((T : Tree) × At F m root T)
      → (t : Tree) × At F m l t
  fit_tree n inv (T, p) = let (t, q, e) = inv T p in (t, q)

  pub fit_end : {m : Words} {root l d : ℕ} (n : ℕ) → l ≡ 0 → FitLeft F m root n l d → LeftmostFound F m root n d
  fit_end {d = d} n z inv T p = let (t, q, e) = inv T p in sym (e ∙ at_none (λ t. fit_or n t d ≡ d) z refl t q)

  module _ {m : Words} {root n l d k : ℕ} (z : l ≢ 0) (len : k ≡ length_at F m (l - 1))
      (inv : FitLeft F m root n l d) where
    pub fit_stop : k < n → LeftmostFound F m root n d
    fit_stop h T p =
        let (t, q, e) = inv T p in
        sym (e ∙ rooted_length readable (λ t. fit_or n t d ≡ d) z len (λ a b q. rw (of_gt n k h)) t q)

    pub fit_next : {s : ℕ} → s ≡ left_at F m (l - 1) → n ≤ k → FitLeft F m root n s l
    fit_next {s} f h T p =
        let (t, q, e) = inv T p in
        rooted_length readable
        (λ t. link_to (leftmost n T) ≡ fit_or n t d
        → (t : Tree) × At F m s t × (link_to (leftmost n T) ≡ fit_or n t l)) z len
        (λ a b q e. (
          a,
          at_left readable q f,
          e ∙ fit_left n a (run (l - 1) k) b d h ∙ ap (fit_or n a) q.at,
        )) t q e

  -- ---- the way to it

  pub left_start : {m : Words} {root : ℕ} → OnLeft F m root root 0
  left_start {m} T p = (T, p, cells F m, p.within, λ x h. whole)

  module _ {m : Words} {root l over : ℕ} (z : l ≢ 0) (inv : OnLeft F m root l over) where
    pub left_next : {s : ℕ} → s ≡ left_at F m (l - 1) → OnLeft F m root s l
    left_next {s} f T p =
        let (t, q, h, w, u) = inv T p in
        rooted
        (λ t. Within 0 h t → ((x : ℕ) → x < h → Under (begins_at x) x T t over)
        → (t : Tree) × At F m s t × (h : ℕ) × Within 0 h t × ((x : ℕ) → x < h → Under (begins_at x) x T t l)) z
        (λ a n b q w u. (
          a,
          at_left readable q f,
          l - 1,
          w.0,
          λ x k. subst (Under (begins_at x) x T a) q.at
              (go_left (u x (omega (arith, within_le b (l - 1 + n) h w.2))) (eqb_ne (l - 1) x (λ e. omega arith)) k),
        )) t q w u

    pub left_node : NodeOf F m root l over
    left_node = (
      z,
      λ T p.
          let (t, q, h, w, u) = inv T p in
          record {
            sub = t;
            tree = q;
            way = u (l - 1) (omega (arith, link_within t 0 h w, q.at));
            end = rooted (Stops (begins_at (l - 1))) z (λ a n b q. eqb_same (l - 1)) t q;
          },
    )
