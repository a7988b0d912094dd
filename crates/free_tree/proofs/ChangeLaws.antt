-- Insertion and deletion on the tree of the runs: it stays the tree of the runs, one more or one less. Assumes nothing.
use Prim.Native.Nat.{ℕ, ◌+◌, ◌≤◌, ◌<◌}
use native.Mathlib.Omega.{arith}
use mathlib.Core.Path.{◌≡◌, refl, sym, ap, ◌∙◌}
use mathlib.Core.Logic.{◌≢◌}
use mathlib.Core.Bool.{Bool, true, false, cond, not, ◌&&◌, ◌||◌, false≢true, true≢false}
use mathlib.Core.List.{List, ◌∷◌, ◌++◌, append_assoc}
use lib.Dec.{eqb, ltb}
use Rattle.words.specs.Lists.{all}
use Rattle.words.proofs.Tests.{and_l, and_r, and_i, eqb_eq, eqb_same, eqb_ne, eqb_false, of_le, lt_of, of_lt}
use Rattle.words.proofs.Tests.{not_lt}
use Rattle.words.proofs.ListLaws.{all_imp, all_append, all_append_l, all_append_r}
use Rattle.ledger.specs.Runs.{Run}
use Rattle.stored_forms.specs.Tree.{Tree, leaf, node, inorder, Heaped, shorter_than, no_longer_than, tree_of}
use Rattle.stored_forms.proofs.TreeLaws.{tree_unique, inorder_tree_of, heaped_tree_of}
use Rattle.stored_forms.specs.Blocks.{Within, NotFirst}
use Rattle.free_tree.specs.Shapes.{below, above, stands_above, insert, join, delete, put_run, drop_run}
use Rattle.free_tree.specs.Held.{Apart}
use Rattle.free_tree.proofs.RunOrder.{wider, within_all, put_run_between, begins_elsewhere, drop_run_past}
use Rattle.free_tree.proofs.RunOrder.{drop_run_before}
use Rattle.free_tree.proofs.JoinLaws.{all_top, inorder_join, within_join, heaped_join}
use Rattle.free_tree.proofs.PartLaws.{inorder_parts, all_below, all_above, heaped_below, heaped_above}
use Rattle.free_tree.proofs.PartLaws.{below_apart, above_apart, starts_below_lem, starts_above}

-- ---- which of two runs stands above

pub stands_true : (r q : Run) → stands_above r q ≡ true → (q.size ≤ r.size) × (q.start ≤ r.start → q.size < r.size)
stands_true r q = go (ltb q.size r.size) refl (eqb q.size r.size) refl (ltb r.start q.start) refl
  where
    go : (x : Bool) → ltb q.size r.size ≡ x → (y : Bool) → eqb q.size r.size ≡ y
        → (z : Bool) → ltb r.start q.start ≡ z → (x || (y && z)) ≡ true
        → (q.size ≤ r.size) × (q.start ≤ r.start → q.size < r.size)
    go true e y f z g h = let l = lt_of q.size r.size e in (omega arith, λ u. l)
    go false e true f true g h =
        let l = lt_of r.start q.start g in
        (omega (arith, eqb_eq q.size r.size f), λ u. absurd (omega arith))
    go false e true f false g h = absurd (false≢true h)
    go false e false f z g h = absurd (false≢true h)

pub stands_false : (r q : Run) → stands_above r q ≡ false → (r.size ≤ q.size) × (r.start < q.start → r.size < q.size)
stands_false r q = go (ltb q.size r.size) refl (eqb q.size r.size) refl (ltb r.start q.start) refl
  where
    go : (x : Bool) → ltb q.size r.size ≡ x → (y : Bool) → eqb q.size r.size ≡ y
        → (z : Bool) → ltb r.start q.start ≡ z → (x || (y && z)) ≡ false
        → (r.size ≤ q.size) × (r.start < q.start → r.size < q.size)
    go true e y f z g h = absurd (true≢false h)
    go false e true f true g h = absurd (true≢false h)
    go false e true f false g h =
        let l = not_lt q.size r.size e in
        let m = not_lt r.start q.start g in
        (l, λ u. absurd (omega arith))
    go false e false f z g h =
        let l = not_lt q.size r.size e in
        let n = eqb_false q.size r.size f in
        (l, λ u. omega arith)

-- ---- insertion

pub inorder_insert : (r : Run) (t : Tree)
    → inorder (insert r t) ≡ inorder (below r.start t) ++ r ∷ inorder (above r.start t)
inorder_insert r leaf = refl
inorder_insert r (node a q b) =
    go (stands_above r q) (ltb q.start r.start) (inorder_insert r a) (inorder_insert r b)
  where
    x : ℕ
    x = r.start

    low : Bool → Tree
    low d = cond d (node a q (below x b)) (below x a)

    high : Bool → Tree
    high d = cond d (above x b) (node (above x a) q b)

    go : (c d : Bool) → inorder (insert r a) ≡ inorder (below x a) ++ r ∷ inorder (above x a)
        → inorder (insert r b) ≡ inorder (below x b) ++ r ∷ inorder (above x b)
        → inorder (cond c (node (low d) r (high d)) (cond d (node a q (insert r b)) (node (insert r a) q b)))
        ≡ inorder (low d) ++ r ∷ inorder (high d)
    go true d i j = refl
    go false true i j =
        ap (λ (l : List Run). inorder a ++ q ∷ l) j
        ∙ sym (append_assoc (inorder a) (q ∷ inorder (below x b)) (r ∷ inorder (above x b)))
    go false false i j =
        ap (λ (l : List Run). l ++ q ∷ inorder b) i
        ∙ append_assoc (inorder (below x a)) (r ∷ inorder (above x a)) (q ∷ inorder b)

all_insert : (f : Run → Bool) (r : Run) (t : Tree) → f r ≡ true → all f (inorder t) ≡ true
    → all f (inorder (insert r t)) ≡ true
all_insert f r t e h =
    rw (inorder_insert r t)
    (all_append f (inorder (below r.start t)) (r ∷ inorder (above r.start t)) (all_below f r.start t h)
    (and_i (f r) (all f (inorder (above r.start t))) e (all_above f r.start t h)))

-- a run that stands above the root: what begins below it is shorter
below_shorter : (r : Run) (a : Tree) (q : Run) (b : Tree) → stands_above r q ≡ true → Heaped (node a q b)
    → all (shorter_than r) (inorder (below r.start (node a q b))) ≡ true
below_shorter r a q b e h = go (ltb q.start r.start) refl
  where
    go : (d : Bool) → ltb q.start r.start ≡ d → all (shorter_than r) (inorder (below r.start (node a q b))) ≡ true
    go true f =
        let low = lt_of q.start r.start f in
        let less = (stands_true r q e).1 (omega arith) in
        all_below (shorter_than r) r.start (node a q b)
        (all_top (shorter_than r) (node a q b) h (λ p u. of_lt p.size r.size (omega arith)))
    go false f =
        let long = (stands_true r q e).0 in
        rw f
        (all_below (shorter_than r) r.start a
        (all_imp (shorter_than q) (shorter_than r)
        (λ p u. of_lt p.size r.size (omega (arith, lt_of p.size q.size u))) (inorder a) h.0))

pub heaped_insert : (r : Run) (t : Tree) → NotFirst r.start t → Heaped t → Heaped (insert r t)
heaped_insert r leaf n h = (refl, refl, tt, tt)
heaped_insert r (node a q b) n h =
    go (stands_above r q) refl (ltb q.start r.start) refl
    (heaped_insert r a n.0 h.2) (heaped_insert r b n.2 h.3)
  where
    t : Tree
    t = node a q b

    x : ℕ
    x = r.start

    go : (c : Bool) → stands_above r q ≡ c → (d : Bool) → ltb q.start x ≡ d → Heaped (insert r a)
        → Heaped (insert r b)
        → Heaped (cond c (node (below x t) r (above x t)) (cond d (node a q (insert r b)) (node (insert r a) q b)))
    go true e d f i j =
        let long = (stands_true r q e).0 in (
          below_shorter r a q b e h,
          all_above (no_longer_than r) x t (all_top (no_longer_than r) t h (λ p u. of_le p.size r.size (omega arith))),
          heaped_below x t h,
          heaped_above x t h,
        )
    go false e true f i j = (
      h.0,
      all_insert (no_longer_than q) r b (of_le r.size q.size (stands_false r q e).0) h.1,
      h.2,
      j,
    )
    go false e false f i j =
        let high = not_lt q.start x f in
        let other = n.1 in
        let less = (stands_false r q e).1 (omega arith) in
        (all_insert (shorter_than q) r a (of_lt r.size q.size less) h.0, h.1, i, h.3)

pub within_insert : (r : Run) (t : Tree) (lo hi : ℕ) → Apart r t → Within lo hi t → 1 ≤ r.size → lo ≤ r.start
    → r.start + r.size ≤ hi → Within lo hi (insert r t)
within_insert r leaf lo hi o w one p s = (p, one, s)
within_insert r (node a q b) lo hi o w one p s =
    go (stands_above r q) (ltb q.start r.start) refl
    (λ l. within_insert r a lo q.start o.0 w.0 one p l)
    (λ l. within_insert r b (q.start + q.size) hi o.3 w.2 one l s)
  where
    t : Tree
    t = node a q b

    x : ℕ
    x = r.start

    go : (c d : Bool) → ltb q.start x ≡ d
        → (x + r.size ≤ q.start → Within lo q.start (insert r a))
        → (q.start + q.size ≤ x → Within (q.start + q.size) hi (insert r b))
        → Within lo hi (cond c (node (below x t) r (above x t))
        (cond d (node a q (insert r b)) (node (insert r a) q b)))
    go true d f i j = (below_apart r t lo hi o w p, one, above_apart r t lo hi o w s)
    go false true f i j = (w.0, w.1, j (o.1 (omega (arith, lt_of q.start x f))))
    go false false f i j = (i (o.2 (not_lt q.start x f)), w.1, w.2)

-- ---- deletion

all_delete : (f : Run → Bool) (x : ℕ) (t : Tree) → all f (inorder t) ≡ true → all f (inorder (delete x t)) ≡ true
all_delete f x leaf h = refl
all_delete f x (node a q b) h =
    go (ltb x q.start) (ltb q.start x) (all_delete f x a low) (all_delete f x b high)
  where
    low : all f (inorder a) ≡ true
    low = all_append_l f (inorder a) (q ∷ inorder b) h

    rest : all f (q ∷ inorder b) ≡ true
    rest = all_append_r f (inorder a) (q ∷ inorder b) h

    high : all f (inorder b) ≡ true
    high = and_r (f q) (all f (inorder b)) rest

    go : (c d : Bool) → all f (inorder (delete x a)) ≡ true → all f (inorder (delete x b)) ≡ true
        → all f (inorder (cond c (node (delete x a) q b) (cond d (node a q (delete x b)) (join a b)))) ≡ true
    go true d i j = all_append f (inorder (delete x a)) (q ∷ inorder b) i rest
    go false true i j =
        all_append f (inorder a) (q ∷ inorder (delete x b)) low
        (and_i (f q) (all f (inorder (delete x b))) (and_l (f q) (all f (inorder b)) rest) j)
    go false false i j = rw (inorder_join a b) (all_append f (inorder a) (inorder b) low high)

pub heaped_delete : (x : ℕ) (t : Tree) → Heaped t → Heaped (delete x t)
heaped_delete x leaf h = tt
heaped_delete x (node a q b) h =
    go (ltb x q.start) (ltb q.start x) (heaped_delete x a h.2) (heaped_delete x b h.3)
  where
    go : (c d : Bool) → Heaped (delete x a) → Heaped (delete x b)
        → Heaped (cond c (node (delete x a) q b) (cond d (node a q (delete x b)) (join a b)))
    go true d i j = (all_delete (shorter_than q) x a h.0, h.1, i, h.3)
    go false true i j = (h.0, all_delete (no_longer_than q) x b h.1, h.2, j)
    go false false i j = heaped_join a b h.2 h.3

pub within_delete : (x : ℕ) (t : Tree) (lo hi : ℕ) → Within lo hi t → Within lo hi (delete x t)
within_delete x leaf lo hi w = w
within_delete x (node a q b) lo hi w =
    go (ltb x q.start) (ltb q.start x) (within_delete x a lo q.start w.0)
    (within_delete x b (q.start + q.size) hi w.2)
  where
    go : (c d : Bool) → Within lo q.start (delete x a) → Within (q.start + q.size) hi (delete x b)
        → Within lo hi (cond c (node (delete x a) q b) (cond d (node a q (delete x b)) (join a b)))
    go true d i j = (i, w.1, w.2)
    go false true i j = (w.0, w.1, j)
    go false false i j =
        within_join a b lo q.start hi w.0
        (wider b (q.start + q.size) q.start hi hi (omega arith) (omega arith) w.2)

-- no run of a tree outside its range
elsewhere : (x : ℕ) (t : Tree) (lo hi : ℕ) → Within lo hi t → ((c : ℕ) → lo ≤ c → c < hi → c ≢ x)
    → all (begins_elsewhere x) (inorder t) ≡ true
elsewhere x t lo hi w h =
    within_all (begins_elsewhere x) t lo hi w (λ r u v z. ap not (eqb_ne r.start x (h r.start u (omega arith))))

pub inorder_delete : (x : ℕ) (t : Tree) (lo hi : ℕ) → Within lo hi t → inorder (delete x t) ≡ drop_run x (inorder t)
inorder_delete x leaf lo hi w = refl
inorder_delete x (node a q b) lo hi w =
    go (ltb x q.start) refl (ltb q.start x) refl (inorder_delete x a lo q.start w.0)
    (inorder_delete x b (q.start + q.size) hi w.2)
  where
    end : ℕ
    end = q.start + q.size

    some_cells : 1 ≤ q.size
    some_cells = w.1

    go : (c : Bool) → ltb x q.start ≡ c → (d : Bool) → ltb q.start x ≡ d
        → inorder (delete x a) ≡ drop_run x (inorder a) → inorder (delete x b) ≡ drop_run x (inorder b)
        → inorder (cond c (node (delete x a) q b) (cond d (node a q (delete x b)) (join a b)))
        ≡ drop_run x (inorder a ++ q ∷ inorder b)
    go true e d f i j =
        let less = lt_of x q.start e in
        ap (λ (l : List Run). l ++ q ∷ inorder b) i
        ∙ sym (drop_run_before x (inorder a) (q ∷ inorder b)
        (and_i (begins_elsewhere x q) (all (begins_elsewhere x) (inorder b))
        (ap not (eqb_ne q.start x (λ z. omega arith)))
        (elsewhere x b end hi w.2 (λ c u v z. omega arith))))
    go false e true f i j =
        let more = lt_of q.start x f in
        ap (λ (l : List Run). inorder a ++ q ∷ l) j
        ∙ sym (drop_run_past x (inorder a) (q ∷ inorder b) (elsewhere x a lo q.start w.0 (λ c u v z. omega arith))
        ∙ rw (eqb_ne q.start x (λ z. omega arith)))
    go false e false f i j =
        let same : q.start ≡ x = omega (arith, not_lt x q.start e, not_lt q.start x f) in
        inorder_join a b
        ∙ sym (drop_run_past x (inorder a) (q ∷ inorder b) (elsewhere x a lo q.start w.0 (λ c u v z. omega arith))
        ∙ rw (same, eqb_same x))

-- ---- the tree of the runs, one more or one less

pub insert_tree : (r : Run) (rs : List Run) (lo hi : ℕ) → Within lo hi (tree_of rs) → NotFirst r.start (tree_of rs)
    → insert r (tree_of rs) ≡ tree_of (put_run r rs)
insert_tree r rs lo hi w n =
    let t = tree_of rs in
    let x = r.start in
    tree_unique (put_run r rs) (insert r t) (record {
      order =
          inorder_insert r t
          ∙ sym (put_run_between r (inorder (below x t)) (inorder (above x t)) (starts_below_lem x t lo hi w)
          (starts_above x t lo hi w))
          ∙ ap (put_run r) (inorder_parts x t ∙ inorder_tree_of rs);
      heap = heaped_insert r t n (heaped_tree_of rs);
    })

pub delete_tree : (x : ℕ) (rs : List Run) (lo hi : ℕ) → Within lo hi (tree_of rs)
    → delete x (tree_of rs) ≡ tree_of (drop_run x rs)
delete_tree x rs lo hi w =
    let t = tree_of rs in
    tree_unique (drop_run x rs) (delete x t) (record {
      order = inorder_delete x t lo hi w ∙ ap (drop_run x) (inorder_tree_of rs);
      heap = heaped_delete x t (heaped_tree_of rs);
    })
