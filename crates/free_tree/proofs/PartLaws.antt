-- The split of a tree by address: its parts have the runs between them, in order, and no son longer than its father.
-- Assumes nothing.
use Prim.Native.Nat.{ℕ, ◌+◌, ◌≤◌}
use native.Mathlib.Omega.{arith}
use mathlib.Core.Path.{◌≡◌, refl, sym, ap, ◌∙◌}
use mathlib.Core.Bool.{Bool, true, false, cond, not}
use mathlib.Core.List.{List, ◌∷◌, ◌++◌, append_assoc}
use lib.Dec.{ltb}
use Rattle.words.specs.Lists.{all}
use Rattle.words.proofs.Tests.{and_i, lt_of, of_lt, not_lt, of_ge}
use Rattle.words.proofs.ListLaws.{all_append, all_append_l, all_append_r}
use Rattle.ledger.specs.Runs.{Run}
use Rattle.stored_forms.specs.Tree.{Tree, leaf, node, inorder, Heaped, no_longer_than, shorter_than}
use Rattle.stored_forms.specs.Blocks.{Within}
use Rattle.stored_forms.proofs.NodeLaws.{within_le}
use Rattle.free_tree.specs.Shapes.{below, above}
use Rattle.free_tree.specs.Held.{Apart}
use Rattle.free_tree.proofs.RunOrder.{wider, within_all, starts_below, starts_from}

pub inorder_parts : (x : ℕ) (t : Tree) → inorder (below x t) ++ inorder (above x t) ≡ inorder t
inorder_parts x leaf = refl
inorder_parts x (node a q b) = go (ltb q.start x) (inorder_parts x a) (inorder_parts x b)
  where
    go : (low : Bool) → inorder (below x a) ++ inorder (above x a) ≡ inorder a
        → inorder (below x b) ++ inorder (above x b) ≡ inorder b
        → inorder (cond low (node a q (below x b)) (below x a)) ++ inorder (cond low (above x b) (node (above x a) q b))
        ≡ inorder a ++ q ∷ inorder b
    go true i j =
        append_assoc (inorder a) (q ∷ inorder (below x b)) (inorder (above x b))
        ∙ ap (λ (l : List Run). inorder a ++ q ∷ l) j
    go false i j =
        sym (append_assoc (inorder (below x a)) (inorder (above x a)) (q ∷ inorder b))
        ∙ ap (λ (l : List Run). l ++ q ∷ inorder b) i

-- ---- what holds of a tree's runs holds of its parts'

module _ (f : Run → Bool) (x : ℕ) (t : Tree) (h : all f (inorder t) ≡ true) where
  pub all_below : all f (inorder (below x t)) ≡ true
  all_below = all_append_l f (inorder (below x t)) (inorder (above x t)) (rw (inorder_parts x t) h)

  pub all_above : all f (inorder (above x t)) ≡ true
  all_above = all_append_r f (inorder (below x t)) (inorder (above x t)) (rw (inorder_parts x t) h)

pub heaped_below : (x : ℕ) (t : Tree) → Heaped t → Heaped (below x t)
heaped_below x leaf h = tt
heaped_below x (node a q b) h = go (ltb q.start x) (heaped_below x a h.2) (heaped_below x b h.3)
  where
    go : (low : Bool) → Heaped (below x a) → Heaped (below x b) → Heaped (cond low (node a q (below x b)) (below x a))
    go true i j = (h.0, all_below (no_longer_than q) x b h.1, h.2, j)
    go false i j = i

pub heaped_above : (x : ℕ) (t : Tree) → Heaped t → Heaped (above x t)
heaped_above x leaf h = tt
heaped_above x (node a q b) h = go (ltb q.start x) (heaped_above x a h.2) (heaped_above x b h.3)
  where
    go : (low : Bool) → Heaped (above x a) → Heaped (above x b) → Heaped (cond low (above x b) (node (above x a) q b))
    go true i j = j
    go false i j = (all_above (shorter_than q) x a h.0, h.1, i, h.3)

-- ---- where the parts lie

pub within_below : (x : ℕ) (t : Tree) (lo hi : ℕ) → Within lo hi t → Within lo hi (below x t)
within_below x leaf lo hi w = w
within_below x (node a q b) lo hi w =
    go (ltb q.start x) (within_below x a lo q.start w.0) (within_below x b (q.start + q.size) hi w.2)
  where
    go : (low : Bool) → Within lo q.start (below x a) → Within (q.start + q.size) hi (below x b)
        → Within lo hi (cond low (node a q (below x b)) (below x a))
    go true i j = (w.0, w.1, j)
    go false i j =
        wider (below x a) lo lo q.start hi (omega arith)
        (omega (arith, within_le b (q.start + q.size) hi w.2)) i

pub within_above : (x : ℕ) (t : Tree) (lo hi : ℕ) → Within lo hi t → Within lo hi (above x t)
within_above x leaf lo hi w = w
within_above x (node a q b) lo hi w =
    go (ltb q.start x) (within_above x a lo q.start w.0) (within_above x b (q.start + q.size) hi w.2)
  where
    go : (low : Bool) → Within lo q.start (above x a) → Within (q.start + q.size) hi (above x b)
        → Within lo hi (cond low (above x b) (node (above x a) q b))
    go true i j =
        wider (above x b) (q.start + q.size) lo hi hi (omega (arith, within_le a lo q.start w.0))
        (omega arith) j
    go false i j = (i, w.1, w.2)

-- the parts of a tree that a run does not overlap lie on both sides of it

pub below_apart : (r : Run) (t : Tree) (lo hi : ℕ) → Apart r t → Within lo hi t → lo ≤ r.start
    → Within lo r.start (below r.start t)
below_apart r leaf lo hi o w h = h
below_apart r (node a q b) lo hi o w h =
    go (ltb q.start r.start) refl (below_apart r a lo q.start o.0 w.0 h)
    (below_apart r b (q.start + q.size) hi o.3 w.2)
  where
    go : (low : Bool) → ltb q.start r.start ≡ low → Within lo r.start (below r.start a)
        → (q.start + q.size ≤ r.start → Within (q.start + q.size) r.start (below r.start b))
        → Within lo r.start (cond low (node a q (below r.start b)) (below r.start a))
    go true e i j = (w.0, w.1, j (o.1 (omega (arith, lt_of q.start r.start e))))
    go false e i j = i

pub above_apart : (r : Run) (t : Tree) (lo hi : ℕ) → Apart r t → Within lo hi t → r.start + r.size ≤ hi
    → Within (r.start + r.size) hi (above r.start t)
above_apart r leaf lo hi o w h = h
above_apart r (node a q b) lo hi o w h =
    go (ltb q.start r.start) refl (above_apart r a lo q.start o.0 w.0)
    (above_apart r b (q.start + q.size) hi o.3 w.2 h)
  where
    end : ℕ
    end = r.start + r.size

    go : (low : Bool) → ltb q.start r.start ≡ low
        → (end ≤ q.start → Within end q.start (above r.start a)) → Within end hi (above r.start b)
        → Within end hi (cond low (above r.start b) (node (above r.start a) q b))
    go true e i j = j
    go false e i j = (i (o.2 (not_lt q.start r.start e)), w.1, w.2)

-- in a tree in order, the first part's runs begin below x, and the second's from it on

pub starts_below_lem : (x : ℕ) (t : Tree) (lo hi : ℕ) → Within lo hi t → all (starts_below x) (inorder (below x t)) ≡ true
starts_below_lem x leaf lo hi w = refl
starts_below_lem x (node a q b) lo hi w =
    go (ltb q.start x) refl (starts_below_lem x a lo q.start w.0) (starts_below_lem x b (q.start + q.size) hi w.2)
  where
    go : (low : Bool) → ltb q.start x ≡ low → all (starts_below x) (inorder (below x a)) ≡ true
        → all (starts_below x) (inorder (below x b)) ≡ true
        → all (starts_below x) (inorder (cond low (node a q (below x b)) (below x a))) ≡ true
    go true e i j =
        let less = lt_of q.start x e in
        all_append (starts_below x) (inorder a) (q ∷ inorder (below x b))
        (within_all (starts_below x) a lo q.start w.0 (λ r u v z. of_lt r.start x (omega arith)))
        (and_i (starts_below x q) (all (starts_below x) (inorder (below x b))) e j)
    go false e i j = i

pub starts_above : (x : ℕ) (t : Tree) (lo hi : ℕ) → Within lo hi t → all (starts_from x) (inorder (above x t)) ≡ true
starts_above x leaf lo hi w = refl
starts_above x (node a q b) lo hi w =
    go (ltb q.start x) refl (starts_above x a lo q.start w.0) (starts_above x b (q.start + q.size) hi w.2)
  where
    go : (low : Bool) → ltb q.start x ≡ low → all (starts_from x) (inorder (above x a)) ≡ true
        → all (starts_from x) (inorder (above x b)) ≡ true
        → all (starts_from x) (inorder (cond low (above x b) (node (above x a) q b))) ≡ true
    go true e i j = j
    go false e i j =
        let more = not_lt q.start x e in
        all_append (starts_from x) (inorder (above x a)) (q ∷ inorder b) i
        (and_i (starts_from x q) (all (starts_from x) (inorder b)) (ap not e)
        (within_all (starts_from x) b (q.start + q.size) hi w.2
        (λ r u v z. ap not (of_ge r.start x (omega arith)))))
