-- The tree of the free runs: it has them from left to right, it is the only such tree, and its leftmost fit is the
-- first run that is long enough. 01, "Stored form of the tree pool". Assumes nothing.
use Prim.Native.Nat.{ℕ, ◌≤◌}
use native.Mathlib.Omega.{arith}
use mathlib.Core.Path.{◌≡◌, refl, sym, ap, ap₂, ◌∙◌}
use mathlib.Core.Bool.{Bool, true, false, cond, not, false≢true}
use mathlib.Core.List.{List, [], ◌∷◌, ◌++◌, append-nil}
use mathlib.Core.Option.{none, some}
use lib.Dec.{leb}
use Rattle.words.specs.Lists.{all}
use Rattle.words.proofs.Tests.{and_l, and_r, and_i, not_true, le_of, of_le, lt_of, of_lt, not_le, of_gt, absurd_some}
use Rattle.words.proofs.ListLaws.{all_imp, all_append, all_append_r}
use Rattle.ledger.specs.Runs.{Run}
use Rattle.ledger.proofs.FitLaws.{first_fit}
use Rattle.stored_forms.specs.Tree.{Tree, leaf, node, add_left, tree_of, inorder, shorter_than, no_longer_than, Heaped}
use Rattle.stored_forms.specs.Tree.{IsTreeOf}
use Rattle.stored_forms.specs.Blocks.{root_fits, leftmost}

-- ---- the runs of the tree, from left to right

-- a run no shorter than all of a tree stands on top
add_left_top : (q : Run) (t : Tree) → all (no_longer_than q) (inorder t) ≡ true → add_left q t ≡ node leaf q t
add_left_top q leaf h = refl
add_left_top q (node a r b) h =
    rw (and_l (no_longer_than q r) (all (no_longer_than q) (inorder b)) (all_append_r (no_longer_than q) (inorder a) (r ∷ inorder b) h))

inorder_add_left : (r : Run) (t : Tree) → inorder (add_left r t) ≡ r ∷ inorder t
inorder_add_left r leaf = refl
inorder_add_left r (node a q b) = go (leb q.size r.size) (inorder_add_left r a)
  where
    go : (c : Bool) → inorder (add_left r a) ≡ r ∷ inorder a
        → inorder (cond c (node leaf r (node a q b)) (node (add_left r a) q b)) ≡ r ∷ (inorder a ++ q ∷ inorder b)
    go true ih = refl
    go false ih = ap (λ (l : List Run). l ++ q ∷ inorder b) ih

pub inorder_tree_of : (rs : List Run) → inorder (tree_of rs) ≡ rs
inorder_tree_of [] = refl
inorder_tree_of (r ∷ rs) = inorder_add_left r (tree_of rs) ∙ ap (λ (l : List Run). r ∷ l) (inorder_tree_of rs)

-- ---- no other tree

-- a longest run, the first of these, is the root, and the runs on its two sides are its sons' trees
pub tree_of_split : (xs : List Run) (q : Run) (ys : List Run) → all (shorter_than q) xs ≡ true → all (no_longer_than q) ys ≡ true
    → tree_of (xs ++ q ∷ ys) ≡ node (tree_of xs) q (tree_of ys)
tree_of_split [] q ys h k = add_left_top q (tree_of ys) (rw (inorder_tree_of ys) k)
tree_of_split (x ∷ xs) q ys h k =
    rw (tree_of_split xs q ys (and_r (shorter_than q x) (all (shorter_than q) xs) h) k, below)
  where
    below : leb q.size x.size ≡ false
    below = of_gt q.size x.size (lt_of x.size q.size (and_l (shorter_than q x) (all (shorter_than q) xs) h))

tree_of_inorder : (t : Tree) → Heaped t → tree_of (inorder t) ≡ t
tree_of_inorder leaf h = refl
tree_of_inorder (node a q b) h =
    tree_of_split (inorder a) q (inorder b) h.0 h.1
    ∙ ap₂ (λ x y. node x q y) (tree_of_inorder a h.2) (tree_of_inorder b h.3)

pub tree_unique : (rs : List Run) (t : Tree) → IsTreeOf rs t → t ≡ tree_of rs
tree_unique rs t h = sym (tree_of_inorder t h.heap) ∙ ap tree_of h.order

-- ---- fathers and sons

-- what is shorter, or no longer, than a run is no longer than one that is no shorter
shorter_no_longer : (q r : Run) → q.size ≤ r.size → (x : Run) → shorter_than q x ≡ true → no_longer_than r x ≡ true
shorter_no_longer q r h x e = of_le x.size r.size (omega (arith, lt_of x.size q.size e))

no_longer_no_longer : (q r : Run) → q.size ≤ r.size → (x : Run) → no_longer_than q x ≡ true → no_longer_than r x ≡ true
no_longer_no_longer q r h x e = of_le x.size r.size (omega (arith, le_of x.size q.size e))

heaped_add_left : (r : Run) (t : Tree) → Heaped t → Heaped (add_left r t)
heaped_add_left r leaf h = (refl, refl, tt, tt)
heaped_add_left r (node a q b) h = go (leb q.size r.size) refl (heaped_add_left r a h.2)
  where
    go : (c : Bool) → leb q.size r.size ≡ c → Heaped (add_left r a)
        → Heaped (cond c (node leaf r (node a q b)) (node (add_left r a) q b))
    go true e ih =
        let l = le_of q.size r.size e in (
          refl,
          all_append (no_longer_than r) (inorder a) (q ∷ inorder b)
              (all_imp (shorter_than q) (no_longer_than r) (shorter_no_longer q r l) (inorder a) h.0)
              (and_i (no_longer_than r q) (all (no_longer_than r) (inorder b)) e
              (all_imp (no_longer_than q) (no_longer_than r) (no_longer_no_longer q r l) (inorder b) h.1)),
          tt,
          h,
        )
    go false e ih = (
      rw (inorder_add_left r a)
          (and_i (shorter_than q r) (all (shorter_than q) (inorder a))
          (of_lt r.size q.size (not_le q.size r.size e)) h.0),
      h.1,
      ih,
      h.3,
    )

pub heaped_tree_of : (rs : List Run) → Heaped (tree_of rs)
heaped_tree_of [] = tt
heaped_tree_of (r ∷ rs) = heaped_add_left r (tree_of rs) (heaped_tree_of rs)

-- ---- leftmost fit

-- a run of at least m cells
abbrev pub long_enough : ℕ → Run → Bool
long_enough m r = leb m r.size

too_short : ℕ → Run → Bool
too_short m r = not (leb m r.size)

-- the first that passes: past a part where none does, and in a part where one does
first_past : (m : ℕ) (xs ys : List Run) → all (too_short m) xs ≡ true
    → first_fit m (xs ++ ys) ≡ first_fit m ys
unfolding too_short
first_past m [] ys h = refl
first_past m (x ∷ xs) ys h =
    rw (not_true (leb m x.size) (and_l (too_short m x) (all (too_short m) xs) h))
    (first_past m xs ys (and_r (too_short m x) (all (too_short m) xs) h))

first_none : (m : ℕ) (xs : List Run) → all (too_short m) xs ≡ true → first_fit m xs ≡ none
first_none m xs h = ap (first_fit m) (sym (append-nil xs)) ∙ first_past m xs [] h

first_in : (m : ℕ) (xs ys : List Run) (r : Run) → first_fit m xs ≡ some r
    → first_fit m (xs ++ ys) ≡ some r
first_in m [] ys r h = absurd (absurd_some h)
first_in m (x ∷ xs) ys r h = go (leb m x.size) (first_in m xs ys r) h
  where
    go : (b : Bool) → (first_fit m xs ≡ some r → first_fit m (xs ++ ys) ≡ some r)
        → cond b (some x) (first_fit m xs) ≡ some r
        → cond b (some x) (first_fit m (xs ++ ys)) ≡ some r
    go true ih h = h
    go false ih h = ih h

-- none of a tree is longer than its root
root_longest : (m : ℕ) (t : Tree) → Heaped t → root_fits m t ≡ false → all (too_short m) (inorder t) ≡ true
unfolding too_short
root_longest m leaf h e = refl
root_longest m (node a q b) h e =
    all_append (too_short m) (inorder a) (q ∷ inorder b)
    (all_imp (shorter_than q) (too_short m) (λ r x. short r (omega (arith, lt_of r.size q.size x))) (inorder a) h.0)
    (and_i (too_short m q) (all (too_short m) (inorder b)) (ap not e)
    (all_imp (no_longer_than q) (too_short m) (λ r x. short r (le_of r.size q.size x)) (inorder b) h.1))
  where
    short : (r : Run) → r.size ≤ q.size → too_short m r ≡ true
    short r l = ap not (of_gt m r.size (omega (arith, not_le m q.size e)))

leftmost_found : (m : ℕ) (t : Tree) → root_fits m t ≡ true → (r : Run) × (leftmost m t ≡ some r)
leftmost_found m leaf h = absurd (false≢true h)
leftmost_found m (node a q b) h = go (root_fits m a) refl (leftmost_found m a)
  where
    go : (c : Bool) → root_fits m a ≡ c → (root_fits m a ≡ true → (r : Run) × (leftmost m a ≡ some r))
        → (r : Run) × (cond (leb m q.size) (cond (root_fits m a) (leftmost m a) (some q)) none ≡ some r)
    go true e ih = ((ih e).0, rw (h, e) (ih e).1)
    go false e ih = (q, rw (h, e))

-- leftmost fit gives the first run, by address, that is long enough
pub leftmost_first : (m : ℕ) (t : Tree) → Heaped t → leftmost m t ≡ first_fit m (inorder t)
leftmost_first m leaf h = refl
leftmost_first m (node a q b) h = go (leb m q.size) refl (root_fits m a) refl (leftmost_first m a h.2)
  where
    go : (c : Bool) → leb m q.size ≡ c → (d : Bool) → root_fits m a ≡ d
        → leftmost m a ≡ first_fit m (inorder a)
        → cond (leb m q.size) (cond (root_fits m a) (leftmost m a) (some q)) none
        ≡ first_fit m (inorder a ++ q ∷ inorder b)
    go true e true k ih =
        let f = leftmost_found m a k in
        rw (e, k) (f.1 ∙ sym (first_in m (inorder a) (q ∷ inorder b) f.0 (sym ih ∙ f.1)))
    go true e false k ih = rw (e, k) (sym (first_past m (inorder a) (q ∷ inorder b) (root_longest m a h.2 k) ∙ rw e))
    go false e d k ih = rw e (sym (first_none m (inorder a ++ q ∷ inorder b) (root_longest m (node a q b) h e)))
