-- A run of the tree that gives up its first cells: what is left of it stands where it was taken out and put in again.
-- Assumes nothing.
use Prim.Native.Nat.{ℕ, ◌+◌, ◌-◌, ◌≤◌, ◌<◌}
use native.Mathlib.Omega.{arith}
use mathlib.Core.Path.{◌≡◌, refl, sym, ap, ◌∙◌}
use mathlib.Core.Bool.{Bool, true, false, cond, not, ◌&&◌, false≢true, true≢false}
use mathlib.Core.List.{List, [], ◌∷◌, ◌++◌, append_assoc}
use mathlib.Core.Option.{Option, some}
use lib.Dec.{leb, ltb}
use Rattle.words.specs.Lists.{all, first_that}
use Rattle.words.proofs.Tests.{false_of, and_l, and_r, and_i, eqb_same, eqb_ne, le_of, of_le, lt_of, of_lt, not_lt}
use Rattle.words.proofs.Tests.{not_le, of_ge, absurd_some}
use Rattle.words.proofs.ListLaws.{all_append}
use Rattle.ledger.specs.Runs.{Run, run}
use Rattle.stored_forms.specs.Tree.{Tree, leaf, node, inorder, Heaped, shorter_than, no_longer_than}
use Rattle.stored_forms.proofs.TreeLaws.{tree_unique}
use Rattle.stored_forms.specs.Blocks.{Within}
use Rattle.stored_forms.proofs.NodeLaws.{within_le}
use Rattle.free_tree.specs.Shapes.{top, below, above, join, stands_above, insert, delete, stands_over, heavier}
use Rattle.free_tree.specs.Shapes.{heapify_over, heapify, shrink, put_run, begins_at}
use Rattle.free_tree.specs.Held.{Apart}
use Rattle.free_tree.proofs.RunOrder.{wider, within_all, first_that_past, first_that_before, begins_elsewhere}
use Rattle.free_tree.proofs.RunOrder.{starts_below, starts_from, put_run_between}
use Rattle.free_tree.proofs.JoinLaws.{all_top, join_by, inorder_join, heaped_join, within_join}
use Rattle.free_tree.proofs.PartLaws.{inorder_parts, starts_below_lem, starts_above}
use Rattle.free_tree.proofs.ChangeLaws.{stands_true, stands_false, inorder_insert, heaped_insert}
use Rattle.free_tree.proofs.ChangeSteps.{apart_no_node}

-- ---- a run between two trees

apart_above : (r : Run) (t : Tree) (lo hi : ℕ) → Within lo hi t → hi ≤ r.start → Apart r t
apart_above r leaf lo hi w h = tt
apart_above r (node a q b) lo hi w h =
    let some_cells = w.1 in
    let high = within_le b (q.start + q.size) hi w.2 in (
      apart_above r a lo q.start w.0 (omega arith),
      (λ u. omega arith),
      (λ u. omega arith),
      apart_above r b (q.start + q.size) hi w.2 h,
    )

apart_below : (r : Run) (t : Tree) (lo hi : ℕ) → Within lo hi t → 1 ≤ r.size → r.start + r.size ≤ lo → Apart r t
apart_below r leaf lo hi w s h = tt
apart_below r (node a q b) lo hi w s h =
    let low = within_le a lo q.start w.0 in (
      apart_below r a lo q.start w.0 s h,
      (λ u. omega arith),
      (λ u. omega arith),
      apart_below r b (q.start + q.size) hi w.2 s (omega arith),
    )

apart_join : (r : Run) (s t : Tree) → Apart r s → Apart r t → Apart r (join s t)
apart_join r =
    join_by (λ s t j. Apart r s → Apart r t → Apart r j)
    (λ t x y. y)
    (λ t x y. x)
    (λ a q b t j h i x y. (x.0, x.1, x.2, i x.3 y))
    (λ t a q b j h i x y. (i x y.0, y.1, y.2, y.3))

-- a run that stands above a tree's root: of what begins below it all is shorter, of what begins above it none longer
over_shorter : (r : Run) (t : Tree) (lo : ℕ) → Within lo r.start t → Heaped t → stands_over r t ≡ true
    → all (shorter_than r) (inorder t) ≡ true
over_shorter r leaf lo w h e = refl
over_shorter r (node a q b) lo w h e =
    let high = within_le b (q.start + q.size) r.start w.2 in
    let less = (stands_true r q e).1 (omega arith) in
    all_top (shorter_than r) (node a q b) h (λ p u. of_lt p.size r.size (omega arith))

over_no_longer : (r : Run) (t : Tree) → Heaped t → stands_over r t ≡ true → all (no_longer_than r) (inorder t) ≡ true
over_no_longer r leaf h e = refl
over_no_longer r (node a q b) h e =
    let long = (stands_true r q e).0 in
    all_top (no_longer_than r) (node a q b) h (λ p u. of_le p.size r.size (omega arith))

-- ---- the ways that it goes

module _ (r : Run) where
  pub heapify_over_lem : (s t : Tree) → (stands_over r s && stands_over r t) ≡ true → heapify r s t ≡ node s r t
  heapify_over_lem leaf leaf e = refl
  heapify_over_lem leaf (node c p d) e = rw e
  heapify_over_lem (node a q b) leaf e = rw (and_l (stands_above r q) true e)
  heapify_over_lem (node a q b) (node c p d) e = rw e

  no_top : (v : Bool) → (v && true) ≡ false → v ≡ false
  no_top true e = e
  no_top false e = refl

  pub heapify_left : (a : Tree) (q : Run) (b t : Tree) → (stands_above r q && stands_over r t) ≡ false
      → heavier (node a q b) t ≡ true → heapify r (node a q b) t ≡ node a q (heapify r b t)
  heapify_left a q b leaf e h = rw (no_top (stands_above r q) e)
  heapify_left a q b (node c p d) e h = rw (e, h)

  pub heapify_right : (s a : Tree) (q : Run) (b : Tree) → (stands_over r s && stands_above r q) ≡ false
      → heavier s (node a q b) ≡ false → heapify r s (node a q b) ≡ node (heapify r s a) q b
  heapify_right leaf a q b e h = rw e
  heapify_right (node c p d) a q b e h = rw (e, h)

  -- what holds of every tree that is made so
  module _ (P : Tree → Tree → Tree → Type 0)
      (over : (s t : Tree) → (stands_over r s && stands_over r t) ≡ true → P s t (node s r t))
      (left : (a : Tree) (q : Run) (b t j : Tree) → (stands_above r q && stands_over r t) ≡ false
      → heavier (node a q b) t ≡ true → P b t j → P (node a q b) t (node a q j))
      (right : (s a : Tree) (q : Run) (b j : Tree) → (stands_over r s && stands_above r q) ≡ false
      → heavier s (node a q b) ≡ false → P s a j → P s (node a q b) (node j q b)) where
    over_by : (s : Tree) (f : Tree → Tree)
        → ((t : Tree) → (stands_over r s && stands_over r t) ≡ false → heavier s t ≡ true → P s t (f t))
        → (stands_over r s ≡ false → heavier s leaf ≡ true)
        → (t : Tree) → P s t (heapify_over r s f t)
    over_by s f h k leaf = go (stands_over r s) refl
      where
        go : (v : Bool) → stands_over r s ≡ v → P s leaf (cond v (node s r leaf) (f leaf))
        go true e = over s leaf (rw e)
        go false e = h leaf (rw e) (k e)
    over_by s f h k (node c p d) =
        go (stands_over r s && stands_above r p) refl (heavier s (node c p d)) refl (over_by s f h k c)
      where
        go : (v : Bool) → (stands_over r s && stands_above r p) ≡ v → (w : Bool) → heavier s (node c p d) ≡ w
            → P s c (heapify_over r s f c)
            → P s (node c p d) (cond v (node s r (node c p d))
            (cond w (f (node c p d)) (node (heapify_over r s f c) p d)))
        go true e w g i = over s (node c p d) e
        go false e true g i = h (node c p d) e g
        go false e false g i = right s c p d (heapify_over r s f c) e g i

    heapify_by : (s t : Tree) → P s t (heapify r s t)
    heapify_by leaf t = over_by leaf (λ u. u) (λ u e g. absurd (false≢true g)) (λ e. absurd (true≢false e)) t
    heapify_by (node a q b) t =
        over_by (node a q b) (λ u. node a q (heapify r b u))
        (λ u e g. left a q b u (heapify r b u) e g (heapify_by b u)) (λ e. of_le 0 q.size (omega arith)) t

-- the run is no longer than the heavier root of the first tree, and shorter than that of the second
below_left : (r : Run) (a : Tree) (q : Run) (b t : Tree) → (stands_above r q && stands_over r t) ≡ false
    → heavier (node a q b) t ≡ true → r.size ≤ q.size
below_left r a q b t e h = go (stands_above r q) refl t e h
  where
    go : (v : Bool) → stands_above r q ≡ v → (t : Tree) → (v && stands_over r t) ≡ false → heavier (node a q b) t ≡ true
        → r.size ≤ q.size
    go false f t e h = (stands_false r q f).0
    go true f leaf e h = absurd (true≢false e)
    go true f (node c p d) e h = omega (arith, (stands_false r p e).0, le_of p.size q.size h)

below_right : (r : Run) (s a : Tree) (q : Run) (b : Tree) → (stands_over r s && stands_above r q) ≡ false
    → heavier s (node a q b) ≡ false → r.start < q.start → r.size < q.size
below_right r s a q b e h l = go s (stands_over r s) refl e h
  where
    go : (s : Tree) (v : Bool) → stands_over r s ≡ v → (v && stands_above r q) ≡ false → heavier s (node a q b) ≡ false
        → r.size < q.size
    go s true f e h = (stands_false r q e).1 l
    go leaf false f e h = absurd (true≢false f)
    go (node c p d) false f e h = omega (arith, (stands_false r p f).0, not_le q.size p.size h)

lighter : (s a : Tree) (q : Run) (b : Tree) → heavier s (node a q b) ≡ false → Heaped s
    → all (shorter_than q) (inorder s) ≡ true
lighter leaf a q b h k = refl
lighter (node c p d) a q b h k =
    all_top (shorter_than q) (node c p d) k
    (λ x u. of_lt x.size q.size (omega (arith, not_le q.size p.size h)))

-- ---- its runs, and their place

record IsBetween (r : Run) (s t j : Tree) : Type 0 where
  order : inorder j ≡ inorder s ++ r ∷ inorder t
  place : (lo hi : ℕ) → Within lo r.start s → Within (r.start + r.size) hi t → Within lo hi j
  heap : (lo hi : ℕ) → Within lo r.start s → Within (r.start + r.size) hi t → Heaped s → Heaped t → Heaped j

is_between : (r : Run) → 1 ≤ r.size → (s t : Tree) → IsBetween r s t (heapify r s t)
is_between r filled =
    heapify_by r (IsBetween r)
    (λ s t e. record {
      order = refl;
      place = λ lo hi v w. (v, filled, w);
      heap = λ lo hi v w h k. (
        over_shorter r s lo v h (and_l (stands_over r s) (stands_over r t) e),
        over_no_longer r t k (and_r (stands_over r s) (stands_over r t) e),
        h,
        k,
      );
    })
    (λ a q b t j e g i. record {
      order =
          ap (λ (l : List Run). inorder a ++ q ∷ l) i.order
          ∙ sym (append_assoc (inorder a) (q ∷ inorder b) (r ∷ inorder t));
      place = λ lo hi v w. (v.0, v.1, i.place (q.start + q.size) hi v.2 w);
      heap = λ lo hi v w h k.
          let top = le_of (top t) q.size g in (
            h.0,
            rw i.order
                (all_append (no_longer_than q) (inorder b) (r ∷ inorder t) h.1
                (and_i (no_longer_than q r) (all (no_longer_than q) (inorder t))
                (of_le r.size q.size (below_left r a q b t e g))
                (all_top (no_longer_than q) t k (λ p u. of_le p.size q.size (omega arith))))),
            h.2,
            i.heap (q.start + q.size) hi v.2 w h.3 k,
          );
    })
    (λ s a q b j e g i. record {
      order =
          ap (λ (l : List Run). l ++ q ∷ inorder b) i.order
          ∙ append_assoc (inorder s) (r ∷ inorder a) (q ∷ inorder b);
      place = λ lo hi v w. (i.place lo q.start v w.0, w.1, w.2);
      heap = λ lo hi v w h k.
          let end = within_le a (r.start + r.size) q.start w.0 in (
            rw i.order
                (all_append (shorter_than q) (inorder s) (r ∷ inorder a) (lighter s a q b g h)
                (and_i (shorter_than q r) (all (shorter_than q) (inorder a))
                (of_lt r.size q.size (below_right r s a q b e g (omega arith))) k.0)),
            k.1,
            i.heap lo q.start v w.0 h k.2,
            k.3,
          );
    })

module _ (r : Run) (a b : Tree) (lo hi : ℕ) (under : Within lo r.start a) (filled : 1 ≤ r.size)
    (over : Within (r.start + r.size) hi b) where
  pub within_heapify : Within lo hi (heapify r a b)
  within_heapify = (is_between r filled a b).place lo hi under over

  abbrev both : Tree
  both = join a b

  both_apart : Apart r both
  both_apart =
      apart_join r a b (apart_above r a lo r.start under (omega arith))
      (apart_below r b (r.start + r.size) hi over filled (omega arith))

  both_within : Within lo hi both
  both_within =
      within_join a b lo r.start hi under
      (wider b (r.start + r.size) r.start hi hi (omega arith) (omega arith) over)

  -- the runs of the tree that it is inserted into
  inorder_both : inorder (insert r both) ≡ inorder a ++ r ∷ inorder b
  inorder_both =
      let x = r.start in
      inorder_insert r both
      ∙ sym (put_run_between r (inorder (below x both)) (inorder (above x both)) (starts_below_lem x both lo hi both_within)
      (starts_above x both lo hi both_within))
      ∙ ap (put_run r) (inorder_parts x both ∙ inorder_join a b)
      ∙ put_run_between r (inorder a) (inorder b)
      (within_all (starts_below x) a lo x under (λ q u v w. of_lt q.start x (omega arith)))
      (within_all (starts_from x) b (x + r.size) hi over (λ q u v w. ap not (of_ge q.start x (omega arith))))

  -- the two joined, and the run put in
  heapify_is : Heaped a → Heaped b → heapify r a b ≡ insert r both
  heapify_is h k =
      let made = is_between r filled a b in
      let rs = inorder a ++ r ∷ inorder b in
      tree_unique rs (heapify r a b) (record { order = made.order; heap = made.heap lo hi under over h k })
      ∙ sym (tree_unique rs (insert r both) (record {
        order = inorder_both;
        heap = heaped_insert r both (apart_no_node r both r.start both_apart (omega arith) (omega arith))
            (heaped_join a b h k);
      }))

-- ---- the run that begins at a cell

first_that_all : (f p : Run → Bool) (rs : List Run) (r : Run) → all f rs ≡ true → first_that p rs ≡ some r → f r ≡ true
first_that_all f p [] r h e = absurd (absurd_some e)
first_that_all f p (q ∷ rs) r h e = go (p q) e (first_that_all f p rs r (and_r (f q) (all f rs) h))
  where
    go : (v : Bool) → cond v (some q) (first_that p rs) ≡ some r → (first_that p rs ≡ some r → f r ≡ true) → f r ≡ true
    go true g i = let same : q ≡ r = cc in rw same at (and_l (f q) (all f rs) h)
    go false g i = i g

module _ (x : ℕ) (a : Tree) (q : Run) (b : Tree) (lo hi : ℕ) (w : Within lo hi (node a q b)) where
  abbrev find : List Run → Option Run
  find = first_that (begins_at x)

  away : (r : Run) → (r.start ≡ x → ⊥) → begins_elsewhere x r ≡ true
  away r n = ap not (eqb_ne r.start x n)

  pub found_left : x < q.start → find (inorder (node a q b)) ≡ find (inorder a)
  found_left h =
      first_that_before (begins_at x) (inorder a) (q ∷ inorder b)
      (and_i (begins_elsewhere x q) (all (begins_elsewhere x) (inorder b)) (away q (λ z. omega arith))
      (within_all (begins_elsewhere x) b (q.start + q.size) hi w.2 (λ r u v s. away r (λ z. omega arith))))

  past : q.start ≤ x → find (inorder (node a q b)) ≡ find (q ∷ inorder b)
  past h =
      first_that_past (begins_at x) (inorder a) (q ∷ inorder b)
      (within_all (begins_elsewhere x) a lo q.start w.0 (λ r u v s. away r (λ z. omega arith)))

  pub found_right : q.start < x → find (inorder (node a q b)) ≡ find (inorder b)
  found_right h = past (omega arith) ∙ rw (eqb_ne q.start x (λ z. omega arith))

  pub found_here : q.start ≡ x → find (inorder (node a q b)) ≡ some q
  found_here e = past (omega arith) ∙ rw (e, eqb_same x)

-- it lies in the range of its tree
pub found_within : (x n : ℕ) (t : Tree) (lo hi : ℕ) → Within lo hi t
    → first_that (begins_at x) (inorder t) ≡ some (run x n)
    → (lo ≤ x) × (x + n ≤ hi)
found_within x n t lo hi w e = (
  le_of lo x
      (first_that_all (λ r. leb lo r.start) (begins_at x) (inorder t) (run x n)
      (within_all (λ r. leb lo r.start) t lo hi w (λ r u v s. of_le lo r.start u)) e),
  le_of (x + n) hi
      (first_that_all (λ r. leb (r.start + r.size) hi) (begins_at x) (inorder t) (run x n)
      (within_all (λ r. leb (r.start + r.size) hi) t lo hi w (λ r u v s. of_le (r.start + r.size) hi s)) e),
)

-- at the run itself, its length is known
pub here_size : (x n : ℕ) (a : Tree) (q : Run) (b : Tree) (lo hi : ℕ) → Within lo hi (node a q b) → q.start ≡ x
    → first_that (begins_at x) (inorder (node a q b)) ≡ some (run x n) → q.size ≡ n
here_size x n a q b lo hi w e f =
    let same : some q ≡ some (run x n) = sym (found_here x a q b lo hi w e) ∙ f in
    let is : q ≡ run x n = cc in
    ap (λ (r : Run). r.size) is

module _ (x k n : ℕ) (more : k < n) where
  abbrev rest : Run
  rest = run (x + k) (n - k)

  abbrev HasRun : Tree → Type 0
  HasRun t = first_that (begins_at x) (inorder t) ≡ some (run x n)

  pub within_shrink : (t : Tree) (lo hi : ℕ) → Within lo hi t → HasRun t → Within lo hi (shrink x k t)
  within_shrink leaf lo hi w f = w
  within_shrink (node a q b) lo hi w f =
      go (ltb x q.start) refl (ltb q.start x) refl (within_shrink a lo q.start w.0)
      (within_shrink b (q.start + q.size) hi w.2)
    where
      go : (c : Bool) → ltb x q.start ≡ c → (d : Bool) → ltb q.start x ≡ d
          → (HasRun a → Within lo q.start (shrink x k a))
          → (HasRun b → Within (q.start + q.size) hi (shrink x k b))
          → Within lo hi (cond c (node (shrink x k a) q b)
          (cond d (node a q (shrink x k b)) (heapify (run (x + k) (q.size - k)) a b)))
      go true e d g i j = (i (sym (found_left x a q b lo hi w (lt_of x q.start e)) ∙ f), w.1, w.2)
      go false e true g i j =
          (w.0, w.1, j (sym (found_right x a q b lo hi w (lt_of q.start x g)) ∙ f))
      go false e false g i j =
          let same : q.start ≡ x = omega (arith, not_lt x q.start e, not_lt q.start x g) in
          let size = here_size x n a q b lo hi w same f in
          within_heapify (run (x + k) (q.size - k)) a b lo hi
          (wider a lo lo q.start (x + k) (omega arith) (omega arith) w.0) (omega arith)
          (wider b (q.start + q.size) (x + k + (q.size - k)) hi hi (omega arith) (omega arith) w.2)

  -- The fathers of the run stand above what is left of it, and below its place there are only its sons.
  pub shrink_is : (t : Tree) (lo hi : ℕ) → Within lo hi t → Heaped t → HasRun t → shrink x k t ≡ insert rest (delete x t)
  shrink_is leaf lo hi w h f = absurd (absurd_some f)
  shrink_is (node a q b) lo hi w h f =
      go (ltb x q.start) refl (ltb q.start x) refl (shrink_is a lo q.start w.0 h.2)
      (shrink_is b (q.start + q.size) hi w.2 h.3)
    where
      go : (c : Bool) → ltb x q.start ≡ c → (d : Bool) → ltb q.start x ≡ d
          → (HasRun a → shrink x k a ≡ insert rest (delete x a)) → (HasRun b → shrink x k b ≡ insert rest (delete x b))
          → cond c (node (shrink x k a) q b)
          (cond d (node a q (shrink x k b)) (heapify (run (x + k) (q.size - k)) a b))
          ≡ insert rest (cond c (node (delete x a) q b) (cond d (node a q (delete x b)) (join a b)))
      go true e d g i j =
          let in_left = sym (found_left x a q b lo hi w (lt_of x q.start e)) ∙ f in
          let less =
          lt_of n q.size (first_that_all (shorter_than q) (begins_at x) (inorder a) (run x n) h.0 in_left) in
          let end = (found_within x n a lo q.start w.0 in_left).1 in
          let sinks = false_of (stands_above rest q) (λ s. omega (arith, (stands_true rest q s).0)) in
          rw (sinks, of_ge q.start (x + k) (omega arith)) (ap (λ (t : Tree). node t q b) (i in_left))
      go false e true g i j =
          let past = lt_of q.start x g in
          let in_right = sym (found_right x a q b lo hi w past) ∙ f in
          let less =
          le_of n q.size (first_that_all (no_longer_than q) (begins_at x) (inorder b) (run x n) h.1 in_right) in
          let sinks =
          false_of (stands_above rest q) (λ s. omega (arith, (stands_true rest q s).1 (omega arith))) in
          rw (sinks, of_lt q.start (x + k) (omega arith)) (ap (node a q) (j in_right))
      go false e false g i j =
          let same : q.start ≡ x = omega (arith, not_lt x q.start e, not_lt q.start x g) in
          let size = here_size x n a q b lo hi w same f in
          rw size
          (heapify_is rest a b lo hi
          (wider a lo lo q.start (x + k) (omega arith) (omega arith) w.0) (omega arith)
          (wider b (q.start + q.size) (x + k + (n - k)) hi hi (omega arith) (omega arith) w.2) h.2 h.3)
