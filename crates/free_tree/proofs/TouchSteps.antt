-- The search for the blocks that touch cells of which none is free: one law for each way through a turn of the loop.
-- Assumes of a form that its nodes are readable.
use Prim.Native.Nat.{ℕ, suc, ◌+◌, ◌-◌, ◌≤◌, ◌<◌}
use native.Mathlib.Decide.{ℕ_discrete}
use native.Mathlib.Omega.{arith}
use mathlib.Core.Path.{◌≡◌, refl, sym, ap, ◌∙◌}
use mathlib.Core.Logic.{◌≢◌}
use mathlib.Core.Bool.{Bool, true, false, not}
use mathlib.Core.List.{◌∷◌, ◌++◌}
use mathlib.Core.Option.{Option, none, some}
use Rattle.words.specs.Lists.{Words, all, first_that}
use Rattle.words.proofs.Tests.{and_i, eqb_same, eqb_ne}
use Rattle.ledger.specs.Runs.{Run, run}
use Rattle.stored_forms.specs.Tree.{Tree, node, inorder, Form, length_at, left_at, right_at}
use Rattle.stored_forms.specs.Blocks.{Within}
use Rattle.stored_forms.proofs.NodeLaws.{Readable, within_le}
use Rattle.tree_nodes.specs.Nodes.{cells}
use Rattle.free_tree.specs.Shapes.{ends_at, begins_at, link_to}
use Rattle.free_tree.specs.Held.{At, Clear, TouchFound, if_ends, if_begins}
use Rattle.free_tree.proofs.RunOrder.{within_all, first_that_none, first_that_past, first_that_before}
use Rattle.free_tree.proofs.RunOrder.{begins_elsewhere}
use Rattle.free_tree.proofs.ShrinkLaws.{found_left, found_right, found_here}
use Rattle.free_tree.proofs.StepLaws.{rooted, at_none, at_length, at_left, at_right}

-- ---- links that are tested in the end

-- the link to the run, or d for none
abbrev link_or : Option Run → ℕ → ℕ
link_or none d = d
link_or (some r) d = suc r.start

link_or_lem : (o : Option Run) → link_to o ≡ link_or o 0
link_or_lem none = refl
link_or_lem (some r) = refl

module _ (F : Form) (m : Words) (x : ℕ) where
  pub ends_yes : (a : ℕ) → a ≢ 0 → a - 1 + length_at F m (a - 1) ≡ x → if_ends F m x a ≡ a
  ends_yes a z e = rw (eqb_ne a 0 z, e, eqb_same x)

  pub ends_no : (a : ℕ) → (a ≢ 0 → a - 1 + length_at F m (a - 1) ≢ x) → if_ends F m x a ≡ 0
  ends_no a h = go (ℕ_discrete a 0)
    where
      go : Dec (a ≡ 0) → if_ends F m x a ≡ 0
      go (yes z) = rw z
      go (no z) = rw (eqb_ne a 0 z, eqb_ne (a - 1 + length_at F m (a - 1)) x (h z))

begins_yes : (x b : ℕ) → b ≡ x + 1 → if_begins x b ≡ b
begins_yes x b e = rw (e, eqb_same (x + 1))

begins_no : (x b : ℕ) → b ≢ x + 1 → if_begins x b ≡ 0
begins_no x b h = rw (eqb_ne b (x + 1) h)

abbrev ends_elsewhere : ℕ → Run → Bool
ends_elsewhere x r = not (ends_at x r)

ends_away : (x : ℕ) (r : Run) → (r.start + r.size ≡ x → ⊥) → ends_elsewhere x r ≡ true
ends_away x r h = ap not (eqb_ne (r.start + r.size) x h)

-- ---- past a node

-- The trees x and y lie below and above the block of n cells at the link l, in the range of cells from k up to e.
module _ (F : Form) (m : Words) (x y : Tree) (l n k e : ℕ) (z : l ≢ 0)
    (range : Within k e (node x (run (l - 1) n) y)) where
  some_cells : 1 ≤ n
  some_cells = range.1

  range_from : k ≤ l - 1
  range_from = within_le x k (l - 1) range.0

  range_to : l - 1 + n ≤ e
  range_to = within_le y (l - 1 + n) e range.2

  -- the block lies below the cells from lo on, and so does the last that was passed, at the link a
  module _ (lo a : ℕ) (under : l - 1 + n ≤ lo) (ended : a ≢ 0 → a - 1 + length_at F m (a - 1) ≤ k)
      (len : length_at F m (l - 1) ≡ n) where
    first_ends : first_that (ends_at lo) (inorder x ++ run (l - 1) n ∷ inorder y)
        ≡ first_that (ends_at lo) (run (l - 1) n ∷ inorder y)
    first_ends =
        first_that_past (ends_at lo) (inorder x) (run (l - 1) n ∷ inorder y)
        (within_all (ends_elsewhere lo) x k (l - 1) range.0
        (λ r u v w. ends_away lo r (λ d. omega (arith, some_cells))))

    ends_past : link_or (first_that (ends_at lo) (inorder x ++ run (l - 1) n ∷ inorder y)) (if_ends F m lo a)
        ≡ link_or (first_that (ends_at lo) (inorder y)) (if_ends F m lo l)
    ends_past = go (ℕ_discrete (l - 1 + n) lo)
      where
        go : Dec (l - 1 + n ≡ lo)
            → link_or (first_that (ends_at lo) (inorder x ++ run (l - 1) n ∷ inorder y)) (if_ends F m lo a)
            ≡ link_or (first_that (ends_at lo) (inorder y)) (if_ends F m lo l)
        go (yes d) =
            let hit : ends_at lo (run (l - 1) n) ≡ true = rw d (eqb_same lo) in
            let rest : first_that (ends_at lo) (inorder y) ≡ none =
            first_that_none (ends_at lo) (inorder y)
            (within_all (ends_elsewhere lo) y (l - 1 + n) e range.2 (λ r u v w. ends_away lo r (λ q. omega arith))) in
            let own : if_ends F m lo l ≡ l = ends_yes F m lo l z (rw len d) in
            rw (first_ends, hit, rest, own) (omega arith)
        go (no d) =
            let miss : ends_at lo (run (l - 1) n) ≡ false = eqb_ne (l - 1 + n) lo d in
            let old : if_ends F m lo a ≡ 0 =
            ends_no F m lo a (λ w q. omega (arith, ended w, range_from, some_cells)) in
            let own : if_ends F m lo l ≡ 0 = ends_no F m lo l (λ w. rw len d) in
            rw (first_ends, miss, old, own) refl

  -- the block lies above the cells up to hi, and so does the last that was passed, at the link b
  module _ (hi b : ℕ) (over : hi ≤ l - 1) (begun : b ≢ 0 → e < b) where
    begins_past : link_or (first_that (begins_at hi) (inorder x ++ run (l - 1) n ∷ inorder y)) (if_begins hi b)
        ≡ link_or (first_that (begins_at hi) (inorder x)) (if_begins hi l)
    begins_past = go (ℕ_discrete (l - 1) hi)
      where
        go : Dec (l - 1 ≡ hi)
            → link_or (first_that (begins_at hi) (inorder x ++ run (l - 1) n ∷ inorder y)) (if_begins hi b)
            ≡ link_or (first_that (begins_at hi) (inorder x)) (if_begins hi l)
        go (yes d) =
            let first = found_here hi x (run (l - 1) n) y k e range d in
            let rest =
            first_that_none (begins_at hi) (inorder x)
            (within_all (begins_elsewhere hi) x k (l - 1) range.0
            (λ r u v w. ap not (eqb_ne r.start hi (λ q. omega arith)))) in
            let own : if_begins hi l ≡ l = begins_yes hi l (omega arith) in
            rw (first, rest, own) (omega arith)
        go (no d) =
            let first = found_left hi x (run (l - 1) n) y k e range (omega arith) in
            let old : if_begins hi b ≡ 0 =
            begins_no hi b (λ q. omega (arith, begun (λ w. omega arith), range_to, some_cells)) in
            let own : if_begins hi l ≡ 0 = begins_no hi l (λ q. omega arith) in
            rw (first, old, own) refl

-- ---- the search

-- the run of T that ends at lo is in its subtree t, or is the one at the link a
abbrev Below : Form → Words → ℕ → Tree → Tree → ℕ → Type 0
Below F m lo T t a =
    link_to (first_that (ends_at lo) (inorder T)) ≡ link_or (first_that (ends_at lo) (inorder t)) (if_ends F m lo a)

-- the run of T that begins at hi is in its subtree t, or is the one at the link b
abbrev Above : ℕ → Tree → Tree → ℕ → Type 0
Above hi T t b =
    link_to (first_that (begins_at hi) (inorder T)) ≡ link_or (first_that (begins_at hi) (inorder t)) (if_begins hi b)

-- Where the search for the blocks that touch the cells from lo up to hi stands in the tree T: at the subtree at the
-- link l. The blocks at the links a and b are the last that it passed below and above, 0 for none. Those sought are in
-- the subtree, or are these two.
pub record Flanked (F : Form) (m : Words) (lo hi : ℕ) (T : Tree) (l a b : ℕ) : Type 0 where
  pub sub : Tree
  pub here : Clear F m l lo hi sub
  pub from : ℕ
  pub to : ℕ
  pub range : Within from to sub
  pub inside : to ≤ cells F m
  pub low : a ≤ from
  pub ended : a ≢ 0 → a - 1 + length_at F m (a - 1) ≤ from
  pub high : b ≢ 0 → to < b
  pub below : Below F m lo T sub a
  pub above : Above hi T sub b

abbrev pub Flanks : Form → Words → ℕ → ℕ → ℕ → ℕ → ℕ → ℕ → Type 0
Flanks F m root lo hi l a b = (T : Tree) → Clear F m root lo hi T → Flanked F m lo hi T l a b

module _ {F : Form} (readable : Readable F F.links) {m : Words} {root lo hi : ℕ} where
  pub flank_start : Flanks F m root lo hi root 0 0
  flank_start T p = record {
    sub = T;
    here = p;
    from = 0;
    to = cells F m;
    range = p.tree.within;
    inside = omega arith;
    low = omega arith;
    ended = λ z. absurd (z refl);
    high = λ z. absurd (z refl);
    below = rw (ends_no F m lo 0 (λ z. absurd (z refl))) (link_or_lem (first_that (ends_at lo) (inorder T)));
    above = rw (begins_no hi 0 (λ z. omega arith)) (link_or_lem (first_that (begins_at hi) (inorder T)));
  }

  module _ {l a b : ℕ} (inv : Flanks F m root lo hi l a b) where
    pub flank_tree : ((T : Tree) × Clear F m root lo hi T) → (t : Tree) × At F m l t
    flank_tree (T, p) = let f = inv T p in (f.sub, f.here.tree)

    pub flank_end : l ≡ 0 → TouchFound F m root lo hi (if_ends F m lo a) (if_begins hi b)
    flank_end z T p =
        let f = inv T p in
        at_none
        (λ t. Below F m lo T t a → Above hi T t b
        → (if_ends F m lo a ≡ link_to (first_that (ends_at lo) (inorder T)))
        × (if_begins hi b ≡ link_to (first_that (begins_at hi) (inorder T)))) z (λ u v. (sym u, sym v)) f.sub
        f.here.tree f.below f.above

    module _ (z : l ≢ 0) {s : ℕ} where
      pub flank_right : s ≡ right_at F m (l - 1) → l - 1 ≤ lo → Flanks F m root lo hi s l b
      flank_right e h T p =
          let f = inv T p in
          rooted
          (λ t. Clear F m l lo hi t → Within f.from f.to t → Below F m lo T t a → Above hi T t b
          → Flanked F m lo hi T s l b) z
          (λ x n y q clear range below above.
          let under = clear.apart.1 h in
          let before = clear.some in
          let some_cells = range.1 in
          let len = at_length readable q in
          let past = found_right hi x (run (l - 1) n) y f.from f.to range (omega arith) in
          record {
            sub = y;
            here = record { tree = at_right readable q e; some = before; apart = clear.apart.3 };
            from = l - 1 + n;
            to = f.to;
            range = range.2;
            inside = f.inside;
            low = omega arith;
            ended = λ w. rw len (omega arith);
            high = f.high;
            below = below ∙ ends_past F m x y l n f.from f.to z range lo a under f.ended len;
            above = above ∙ ap (λ o. link_or o (if_begins hi b)) past;
          }) f.sub f.here.tree f.here f.range f.below f.above

      pub flank_left : s ≡ left_at F m (l - 1) → lo < l - 1 → Flanks F m root lo hi s a l
      flank_left e h T p =
          let f = inv T p in
          rooted
          (λ t. Clear F m l lo hi t → Within f.from f.to t → Below F m lo T t a → Above hi T t b
          → Flanked F m lo hi T s a l) z
          (λ x n y q clear range below above.
          let before = clear.some in
          let over = clear.apart.2 (omega arith) in
          let past =
          first_that_before (ends_at lo) (inorder x) (run (l - 1) n ∷ inorder y)
          (and_i (ends_elsewhere lo (run (l - 1) n)) (all (ends_elsewhere lo) (inorder y))
          (ends_away lo (run (l - 1) n) (λ d. omega arith))
          (within_all (ends_elsewhere lo) y (l - 1 + n) f.to range.2
          (λ r u v w. ends_away lo r (λ d. omega arith)))) in
          let low = within_le y (l - 1 + n) f.to range.2 in
          let inside = f.inside in
          record {
            sub = x;
            here = record { tree = at_left readable q e; some = before; apart = clear.apart.0 };
            from = f.from;
            to = l - 1;
            range = range.0;
            inside = omega arith;
            low = f.low;
            ended = f.ended;
            high = λ w. omega arith;
            below = below ∙ ap (λ o. link_or o (if_ends F m lo a)) past;
            above = above ∙ begins_past F m x y l n f.from f.to z range hi b (omega arith) f.high;
          }) f.sub f.here.tree f.here f.range f.below f.above
