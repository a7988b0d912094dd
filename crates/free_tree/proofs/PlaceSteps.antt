-- The place of a change in an arena, over the form and over what stops the search: the way down to it, and the change
-- carried up again. Assumes of a form that its nodes are readable.
use Prim.Native.Nat.{ℕ, suc, ◌+◌, ◌-◌, ◌≤◌, ◌<◌}
use native.Mathlib.Omega.{arith}
use mathlib.Core.Path.{◌≡◌, refl, sym, ap, ◌∙◌, subst}
use mathlib.Core.Logic.{◌≢◌}
use mathlib.Core.Bool.{Bool, true, false}
use Rattle.words.specs.Lists.{Words}
use Rattle.ledger.specs.Runs.{Run, run}
use Rattle.stored_forms.specs.Tree.{Tree, node, Form, length_at, left_at, right_at, link}
use Rattle.stored_forms.specs.Blocks.{Within}
use Rattle.stored_forms.proofs.NodeLaws.{Readable, link_within}
use Rattle.tree_nodes.specs.Nodes.{cells, LeftSet, RightSet}
use Rattle.free_tree.specs.Shapes.{Under, whole, go_left, go_right, Stops}
use Rattle.free_tree.specs.Links.{links_changed}
use Rattle.free_tree.specs.Held.{At, Became, Place, Placed, Attached}
use Rattle.free_tree.specs.Readings.{Tells}
use Rattle.free_tree.proofs.LinkLaws.{left_changed, right_changed}
use Rattle.free_tree.proofs.StepLaws.{rooted_length, at_none, at_small, at_left, at_right}
use Rattle.free_tree.proofs.StepLaws.{left_kept, right_kept, left_replaced, right_replaced}

-- ---- the way down

-- where the search is: at the subtree at the link `at`, whose father has the link `over`
abbrev pub Seeking : Form → Words → ℕ → (Run → Bool) → ℕ → ℕ → ℕ → Type 0
Seeking F m l stop x at over =
    (T : Tree) → At F m l T → (t : Tree) × At F m at t × Under stop x T t over

-- where a search is that a test of cells stops
pub record SeekingBy (F : Form) (m : Words) (l : ℕ) (says : ℕ → Bool → Type 0) (x at over : ℕ) : Type 0 where
  pub tree : (t : Tree) × At F m at t
  pub way : (stop : Run → Bool) → Tells F m says stop → Seeking F m l stop x at over

module _ {F : Form} (readable : Readable F F.links) where
  pub seek_start : {m : Words} {l : ℕ} (stop : Run → Bool) (x : ℕ) → Seeking F m l stop x l 0
  seek_start stop x T p = (T, p, whole)

  module _ {m : Words} {l at over x : ℕ} {stop : Run → Bool} (inv : Seeking F m l stop x at over) where
    pub seek_end : at ≡ 0 → Placed F m l stop x at over
    seek_end z T p =
        let (t, q, w) = inv T p in
        record { sub = t; tree = q; way = w; end = at_none (Stops stop) z tt t q }

    -- k is the root's length
    module _ {k : ℕ} (z : at ≢ 0) (len : k ≡ length_at F m (at - 1)) where
      pub seek_stop : stop (run (at - 1) k) ≡ true → Placed F m l stop x at over
      seek_stop e T p =
          let (t, q, w) = inv T p in
          record { sub = t; tree = q; way = w; end = rooted_length readable (Stops stop) z len (λ a b q. e) t q }

      module _ {s : ℕ} (e : stop (run (at - 1) k) ≡ false) where
        pub seek_left : s ≡ left_at F m (at - 1) → x < at - 1 → Seeking F m l stop x s at
        seek_left f h T p =
            let (t, q, w) = inv T p in
            rooted_length readable
            (λ t. Under stop x T t over → (t : Tree) × At F m s t × Under stop x T t at) z len
            (λ a b q w. (a, at_left readable q f, subst (Under stop x T a) q.at (go_left w e h))) t q w

        pub seek_right : s ≡ right_at F m (at - 1) → at - 1 ≤ x → Seeking F m l stop x s at
        seek_right f h T p =
            let (t, q, w) = inv T p in
            rooted_length readable
            (λ t. Under stop x T t over → (t : Tree) × At F m s t × Under stop x T t at) z len
            (λ a b q w. (b, at_right readable q f, subst (Under stop x T b) q.at (go_right w e h))) t q w

  pub place_at : {m : Words} {l at over x : ℕ} {stop : Run → Bool} → Placed F m l stop x at over
      → ((T : Tree) × At F m l T) → (t : Tree) × At F m at t
  place_at placed (T, p) = let w = placed T p in (w.sub, w.tree)

-- ---- the change of a son

-- The change f of a tree that meets R touches no cell that is `off` the tree. At the node a q b it is the change of the
-- left son, in the son's place; of the right son.
pub record InLeft (R : ℕ → Tree → Type 0) (f : Tree → Tree) (off : Tree → ℕ → Type 0) (a : Tree) (q : Run) (b : Tree)
    : Type 0 where
  pub down : R (link a) a
  pub same : f (node a q b) ≡ node (f a) q b
  pub place : Within 0 q.start (f a)
  pub rest : (d : ℕ) → q.start ≤ d → off a d
  pub out : (d : ℕ) → off (node a q b) d → off a d × (d ≢ q.start)

pub record InRight (end : ℕ) (R : ℕ → Tree → Type 0) (f : Tree → Tree) (off : Tree → ℕ → Type 0) (a : Tree) (q : Run)
    (b : Tree) : Type 0 where
  pub down : R (link b) b
  pub same : f (node a q b) ≡ node a q (f b)
  pub place : Within (q.start + q.size) end (f b)
  pub rest : (d : ℕ) → d < q.start + q.size → off b d
  pub out : (d : ℕ) → off (node a q b) d → off b d × (d ≢ q.start)

-- so it is at each node that does not stop the search for cell x
pub record Local (F : Form) (m : Words) (stop : Run → Bool) (x : ℕ) (R : ℕ → Tree → Type 0)
    (f : Tree → Tree) (off : Tree → ℕ → Type 0) : Type 0 where
  pub tree : {l : ℕ} {t : Tree} → R l t → At F m l t
  pub left : {l : ℕ} {a b : Tree} {q : Run} → R l (node a q b) → stop q ≡ false → x < q.start
      → link a ≡ left_at F m q.start → InLeft R f off a q b
  pub right : {l : ℕ} {a b : Tree} {q : Run} → R l (node a q b) → stop q ≡ false → q.start ≤ x
      → link b ≡ right_at F m q.start → InRight (cells F m) R f off a q b

-- ---- and up again

module _ {F : Form} (readable : Readable F F.links) {m : Words} {stop : Run → Bool} {x : ℕ}
    {R : ℕ → Tree → Type 0} {f : Tree → Tree} {off : Tree → ℕ → Type 0} (local : Local F m stop x R f off) where
  -- What the change of the subtree t does to the tree T at the link l: where t keeps its link, and where its new link
  -- is attached to its father.
  record Carried (l : ℕ) (T t : Tree) (over : ℕ) : Type 0 where
    here : R (link t) t
    inside : over ≤ cells F m
    stay : {m₁ : Words} → Became F m m₁ (off t) (link t) (f t) → Became F m m₁ (off T) l (f T)
    attached : {m₁ m' : Words} {q k : ℕ} → Became F m m₁ (off t) q (f t) → Attached F m₁ m' l over x q k
        → Became F m m' (off T) k (f T)
    changed : links_changed T (f T) ≡ links_changed t (f t)

  module _ {l : ℕ} {T : Tree} where
    module _ {a b : Tree} {q : Run} {over : ℕ} (up : Carried l T (node a q b) over) (e : stop q ≡ false) where
      abbrev root : At F m (suc q.start) (node a q b)
      root = local.tree up.here

      root_inside : suc q.start ≤ cells F m
      root_inside = link_within (node a q b) 0 (cells F m) root.within

      module _ (h : x < q.start) where
        abbrev in_left : InLeft R f off a q b
        in_left = local.left up.here e h (at_left readable root refl).at

        left_up : {m₁ m' : Words} {s : ℕ} → Became F m m₁ (off a) s (f a) → LeftSet F m₁ m' q.start s
            → Became F m m' (off T) l (f T)
        left_up {m₁} {m'} made put =
            up.stay
            (rw in_left.same
            (left_replaced readable root made in_left.out put in_left.place in_left.rest))

        carried_left : Carried l T a (suc q.start)
        carried_left = record {
          here = in_left.down;
          inside = root_inside;
          stay = λ made.
              left_up made
              (left_kept readable root made (in_left.rest q.start (omega arith)) (at_left readable root refl).at);
          attached = λ made put. rw put.0 (left_up made (put.1 h));
          changed =
              up.changed ∙ ap (links_changed (node a q b)) in_left.same
              ∙ left_changed a q b 0 (cells F m) root.within (f a) in_left.place;
        }

      module _ (h : q.start ≤ x) where
        abbrev in_right : InRight (cells F m) R f off a q b
        in_right = local.right up.here e h (at_right readable root refl).at

        right_up : {m₁ m' : Words} {s : ℕ} → Became F m m₁ (off b) s (f b) → RightSet F m₁ m' q.start s
            → Became F m m' (off T) l (f T)
        right_up {m₁} {m'} made put =
            up.stay
            (rw in_right.same
            (right_replaced readable root made in_right.out put in_right.place in_right.rest))

        carried_right : Carried l T b (suc q.start)
        carried_right = record {
          here = in_right.down;
          inside = root_inside;
          stay = λ made.
              right_up made
              (right_kept readable root made (in_right.rest q.start (omega (arith, root.within.1)))
              (at_right readable root refl).at);
          attached = λ made put. rw put.0 (right_up made (put.2 h));
          changed =
              up.changed ∙ ap (links_changed (node a q b)) in_right.same
              ∙ right_changed a q b 0 (cells F m) root.within (f b) in_right.place;
        }

    carried : R l T → {t : Tree} {over : ℕ} → Under stop x T t over → Carried l T t over
    carried p whole = record {
      here = rw (local.tree p).at p;
      inside = omega arith;
      stay = λ made. rw (local.tree p).at at made;
      attached = λ made put. rw (put.0, put.1) made;
      changed = refl;
    }
    carried p (go_left w e h) = carried_left (carried p w) e h
    carried p (go_right w e h) = carried_right (carried p w) e h

  -- the search ended at the link `at`, below the link `over`
  module _ {l at over : ℕ} (placed : Placed F m l stop x at over) where
    there : {T : Tree} → R l T → (w : Place F m stop x T at over) → R at w.sub
    there p w = rw w.tree.at at (carried p w.way).here

    pub place_tree : ((T : Tree) × R l T) → (t : Tree) × Stops stop t × R at t
    place_tree (T, p) = let w = placed T (local.tree p) in (w.sub, w.end, there p w)

    pub place_there : ((T : Tree) × R l T) → (t : Tree) × R at t
    place_there (T, p) = let w = placed T (local.tree p) in (w.sub, there p w)

    -- the links that differ there are all that differ
    pub place_changed : {n : ℕ} → ((t : Tree) → Stops stop t → R at t → n ≡ links_changed t (f t))
        → (T : Tree) → R l T → n ≡ links_changed T (f T)
    place_changed count T p =
        let w = placed T (local.tree p) in
        count w.sub w.end (there p w) ∙ sym (carried p w.way).changed

    -- nothing was to change there
    pub place_kept : ((t : Tree) → R at t → Became F m m (off t) at (f t))
        → (T : Tree) → R l T → Became F m m (off T) l (f T)
    place_kept made T p =
        let w = placed T (local.tree p) in
        (carried p w.way).stay (rw w.tree.at (made w.sub (there p w)))

    -- the subtree there was changed
    module _ {m₁ : Words} {q : ℕ}
        (made : (t : Tree) → Stops stop t → R at t → Became F m m₁ (off t) q (f t)) where
      pub place_ready : ((T : Tree) × R l T) → (over ≤ cells F m₁) × (q < F.links) × (l < F.links)
      place_ready (T, p) =
          let w = placed T (local.tree p) in
          let done = made w.sub w.end (there p w) in
          let root = at_small readable (local.tree p) in
          (rw done.long (carried p w.way).inside, at_small readable done.tree, root)

      pub place_attached : {m' : Words} {k : ℕ} → Attached F m₁ m' l over x q k
          → (T : Tree) → R l T → Became F m m' (off T) k (f T)
      place_attached put T p =
          let w = placed T (local.tree p) in
          (carried p w.way).attached (made w.sub w.end (there p w)) put
