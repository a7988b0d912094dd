-- Insertion and deletion in an arena, over the form: one law for each way through them. Assumes of a form that its
-- nodes are readable.
use Prim.Native.Nat.{ℕ, suc, ◌+◌, ◌-◌, ◌*◌, ◌≤◌, ◌<◌}
use native.Mathlib.Nat.{le_trans, lt_of_lt_of_le, mul-le-mul_left}
use native.Mathlib.Omega.{arith}
use native.Mathlib.Numerals.{add-one}
use mathlib.Core.Path.{◌≡◌, refl, sym, ap₂, ◌∙◌, subst}
use mathlib.Core.Logic.{◌≢◌}
use mathlib.Core.Bool.{false}
use Rattle.words.specs.Lists.{Words}
use Rattle.words.proofs.Tests.{eqb_eq, eqb_false, of_lt, of_ge}
use Rattle.ledger.specs.Runs.{Run, run}
use Rattle.stored_forms.specs.Tree.{Tree, leaf, node, Form, left_at, right_at, link}
use Rattle.stored_forms.specs.Blocks.{NotFirst, Zeros}
use Rattle.stored_forms.proofs.NodeLaws.{Readable, within_le}
use Rattle.tree_nodes.specs.Nodes.{cells, differ, NodePut}
use Rattle.tree_nodes.proofs.LinkLaws.{other_link, both_few}
use Rattle.free_tree.specs.Shapes.{below, above, stands_above, split_top, insert, delete, Stops, begins_at}
use Rattle.free_tree.specs.Links.{links_changed}
use Rattle.free_tree.specs.Held.{At, Became, NoNode, NoNodeNor, Beside, BothJoined, Parted, Parts, Apart, Room}
use Rattle.free_tree.specs.Held.{PutOver, Deleted, Between, Placed, NodeOf}
use Rattle.free_tree.proofs.RunOrder.{wider}
use Rattle.free_tree.proofs.PartLaws.{below_apart, above_apart}
use Rattle.free_tree.proofs.LinkLaws.{parts_few, link_other, top_changed}
use Rattle.free_tree.proofs.ChangeLaws.{within_insert, within_delete}
use Rattle.free_tree.proofs.CellLaws.{no_node_below, no_node_above, same_zeros, same_tree}
use Rattle.free_tree.proofs.StepLaws.{rooted, at_none, at_small, at_left, at_right, at_nodes, unchanged}
use Rattle.free_tree.proofs.PlaceSteps.{Local}

-- no cell of a run that a tree does not overlap is a node of it
pub apart_no_node : (r : Run) (t : Tree) (c : ℕ) → Apart r t → r.start ≤ c → c < r.start + r.size → NotFirst c t
apart_no_node r leaf c o x y = tt
apart_no_node r (node a q b) c o x y = (
  apart_no_node r a c o.0 x y,
  (λ z. let end = o.2 (omega arith) in omega arith),
  apart_no_node r b c o.3 x y,
)

-- a run that does not begin at cell x, nor above it
pub beyond : (x : ℕ) (q : Run) → begins_at x q ≡ false → q.start ≤ x → q.start < x
beyond x q e h = let other = eqb_false q.start x e in omega arith

-- where the run is to stand
insert_top : (r : Run) (t : Tree) → Stops (stands_above r) t → insert r t ≡ split_top r t
insert_top r leaf e = refl
insert_top r (node a q b) e = rw e

module _ {F : Form} (readable : Readable F F.links) where
  -- ---- insertion

  -- the words of a run beyond its first cell
  after_first : (m : Words) (x e : ℕ) → Zeros m (F.cell * x) e → Zeros m (F.cell * suc x) e
  after_first m x e z k a b =
      let next : x ≤ suc x = omega arith in z k (le_trans (mul-le-mul_left F.cell next) a) b

  -- what a run between two trees asks of its node
  pub between_ready : {m : Words} {a b : ℕ} {r : Run} {ta tb : Tree} → Between F m a b r ta tb
      → (r.start < cells F m)
      × (((a < F.links) × (b < F.links)) × Zeros m (F.cell * r.start) (F.cell * suc r.start))
  between_ready {m} {r = r} {tb = tb} p =
      let some = p.filled in
      let high = within_le tb (r.start + r.size) (cells F m) p.right_within in
      let next : suc r.start ≤ r.start + r.size = omega arith in (
        omega arith,
        (
          (at_small readable p.left, at_small readable p.right),
          λ k a b. p.zeros k a (lt_of_lt_of_le b (mul-le-mul_left F.cell next)),
        ),
      )

  -- the run's node is put above the two
  pub put_between : {m m' : Words} {a b x n : ℕ} {ta tb : Tree} → Between F m a b (run x n) ta tb
      → NodePut F m m' x n a b → Became F m m' (λ d. d ≢ x) (x + 1) (node ta (run x n) tb)
  put_between {m} {m'} {a} {b} {x} {n} {ta} {tb} p put =
      let long = put.long in
      let at_low = p.left.at in
      let at_high = p.right.at in
      let some = p.filled in
      record {
        tree = record {
          at = sym (add-one x);
          holds = (
            put.node ∙ cc,
            same_zeros readable m m' (suc x) (x + n) (λ d u v. put.frame d (λ z. omega arith))
                (after_first m x (F.cell * (x + n)) p.zeros),
            same_tree readable m m' ta 0 x p.left_within long (λ d u v. put.frame d (λ z. omega arith))
                p.left.holds,
            same_tree readable m m' tb (x + n) (cells F m) p.right_within long (λ d u v. put.frame d (λ z. omega arith))
                p.right.holds,
          );
          within = rw long (p.left_within, some, p.right_within);
          small = rw long p.left.small;
        };
        frame = put.frame;
        long = long;
      }

  -- a tree that was split, and the run between its parts
  parted_between : {m m₁ : Words} {l x n lo hi k : ℕ} {t : Tree} → Room F m l (run x n) t
      → Parted F m m₁ x t lo hi k → Between F m₁ lo hi (run x n) (below x t) (above x t)
  parted_between {m} {m₁} {x = x} {n = n} {t = t} p j =
      record {
        left = j.low.tree;
        right = j.high.tree;
        left_within = below_apart (run x n) t 0 (cells F m) p.apart p.tree.within (omega arith);
        right_within = rw j.low.long
            (above_apart (run x n) t 0 (cells F m) p.apart p.tree.within p.inside);
        filled = p.filled;
        zeros = same_zeros readable m m₁ x (x + n)
            (λ d u v. j.low.frame d (apart_no_node (run x n) t d p.apart u v)) p.zeros;
      }

  room_left : {m : Words} {l c k s : ℕ} {r : Run} {a b : Tree} → s ≡ left_at F m c
      → Room F m l r (node a (run c k) b)
      → Room F m s r a
  room_left e p = record {
    tree = at_left readable p.tree e;
    apart = p.apart.0;
    filled = p.filled;
    inside = p.inside;
    zeros = p.zeros;
  }

  room_right : {m : Words} {l c k s : ℕ} {r : Run} {a b : Tree} → s ≡ right_at F m c
      → Room F m l r (node a (run c k) b)
      → Room F m s r b
  room_right e p = record {
    tree = at_right readable p.tree e;
    apart = p.apart.3;
    filled = p.filled;
    inside = p.inside;
    zeros = p.zeros;
  }

  room_no_node : {m : Words} {l : ℕ} {r : Run} {t : Tree} → Room F m l r t → NotFirst r.start t
  room_no_node {r = r} {t = t} p =
      apart_no_node r t r.start p.apart (omega arith) (omega (arith, p.filled))

  -- the tree at the link l is split, and its parts are the sons of the run's node
  module _ {m m₁ : Words} {l x n lo hi i : ℕ} (post : Parts F m m₁ l x lo hi i) where
    pub parts_ready : {a b : ℕ} → a ≡ lo → b ≡ hi → ((t : Tree) × Room F m l (run x n) t)
        → (x < cells F m₁) × (((a < F.links) × (b < F.links)) × Zeros m₁ (F.cell * x) (F.cell * suc x))
    parts_ready e f (t, p) = rw (e, f) (between_ready (parted_between p (post t p.tree)))

    pub put_over : {m' : Words} {j k : ℕ} → NodePut F m₁ m' x n lo hi × (j ≡ differ 0 lo + differ 0 hi) → k ≡ i + j
        → PutOver F m m' l (run x n) k
    put_over {m'} (put, f) e t p =
        let w = post t p.tree in
        let made = put_between (parted_between p w) put in
        let sons = f ∙ ap₂ (λ a b. differ 0 a + differ 0 b) (sym w.low.tree.at) (sym w.high.tree.at) in
        let count = top_changed (run x n) t (room_no_node p) in (
          record {
            tree = made.tree;
            frame = λ d o k e. made.frame d o.1 k e ∙ w.low.frame d o.0 k e;
            long = made.long ∙ w.low.long;
          },
          omega (arith, w.count),
        )

  module _ {m m' : Words} {l x n k : ℕ} (post : PutOver F m m' l (run x n) k) where
    pub put_few : ((t : Tree) × Room F m l (run x n) t) → 2 * k < F.links + 4
    put_few (t, p) =
        let count = top_changed (run x n) t (room_no_node p) in
        let few = parts_few x t 0 (cells F m) p.tree.within in
        let sons = both_few (link (below x t)) (link (above x t)) in
        omega (arith, (post t p).1, at_nodes readable p.tree)

    -- the subtree is where the run is to stand
    pub insert_here : (t : Tree) → Stops (stands_above (run x n)) t → Room F m l (run x n) t
        → Became F m m' (NoNodeNor t x) (x + 1) (insert (run x n) t)
    insert_here t e p = rw (insert_top (run x n) t e) (post t p).0

    pub insert_count : {i : ℕ} → i ≡ k + 1 → (t : Tree) → Stops (stands_above (run x n)) t
        → Room F m l (run x n) t → i ≡ links_changed t (insert (run x n) t)
    insert_count f t e p =
        let root = other_link (link_other x t (room_no_node p)) in
        rw (insert_top (run x n) t e) (omega (arith, (post t p).1))

  -- and above it the insertion goes down to a son
  pub inserts : {m : Words} (r : Run)
      → Local F m (stands_above r) r.start (λ l t. Room F m l r t) (insert r)
      (λ t. NoNodeNor t r.start)
  inserts {m} r = record {
    tree = λ p. p.tree;
    left = λ {l} {a} {b} {q} p e h s.
        let c = q.start in
        let place = p.tree.within.0 in
        let past = p.apart.2 (omega arith) in
        let some = p.filled in
        record {
          down = room_left s p;
          same = rw (e, of_ge c r.start (omega arith));
          place = within_insert r a 0 c p.apart.0 place some (omega arith) past;
          rest = λ d u. (no_node_above a 0 c d place u, λ w. omega arith);
          out = λ d o. ((o.0.0, o.1), o.0.1);
        };
    right = λ {l} {a} {b} {q} p e h s.
        let c = q.start in
        let place = p.tree.within.2 in
        let some = p.tree.within.1 in
        let past = p.apart.1 h in
        record {
          down = room_right s p;
          same = rw (e, of_lt c r.start (omega arith));
          place = within_insert r b (c + q.size) (cells F m) p.apart.3 place p.filled past p.inside;
          rest = λ d u. (no_node_below b (c + q.size) (cells F m) d place u, λ w. omega arith);
          out = λ d o. ((o.0.2, o.1), o.0.1);
        };
  }

  -- ---- deletion

  -- there is no run at cell x
  pub delete_none : {m : Words} {l : ℕ} (x : ℕ) → l ≡ 0 → Deleted F m m l x l
  delete_none {m} {l} x z t p =
      at_none (λ t. At F m l t → Became F m m (NoNode t) l (delete x t)) z (unchanged readable) t p p

  -- the sons of the root at the link l lie beside each other
  module _ {m : Words} {l a b : ℕ} (z : l ≢ 0) (left : a ≡ left_at F m (l - 1)) (right : b ≡ right_at F m (l - 1)) where
    sons : {n : ℕ} {ta tb : Tree} → At F m l (node ta (run (l - 1) n) tb) → Beside F m a b ta tb
    sons {n} {ta} {tb} p = record {
      left = at_left readable p left;
      right = at_right readable p right;
      middle = l - 1;
      left_within = p.within.0;
      right_within = wider tb (l - 1 + n) (l - 1) (cells F m) (cells F m) (omega arith) (omega arith) p.within.2;
    }

    pub sons_beside : ((t : Tree) × At F m l t) → (ta : Tree) × (tb : Tree) × Beside F m a b ta tb
    sons_beside (t, p) =
        rooted (λ t. (ta : Tree) × (tb : Tree) × Beside F m a b ta tb) z (λ ta n tb p. (ta, tb, sons p)) t p

    pub delete_here : {m' : Words} {k : ℕ} (x : ℕ) → BothJoined F m m' a b k
        → (t : Tree) → Stops (begins_at x) t → At F m l t → Became F m m' (NoNode t) k (delete x t)
    delete_here {m'} {k} x post t e p =
        rooted (λ t. Stops (begins_at x) t → Became F m m' (NoNode t) k (delete x t)) z
        (λ ta n tb p e.
        let same = eqb_eq (l - 1) x e in
        let j = post ta tb (sons p) in
        rw (of_ge x (l - 1) (omega arith), of_ge (l - 1) x (omega arith))
        (record { tree = j.tree; frame = λ d o. j.frame d (o.0, o.2); long = j.long })) t p e

  pub deletes : {m : Words} (x : ℕ) → Local F m (begins_at x) x (At F m) (delete x) NoNode
  deletes {m} x = record {
    tree = λ p. p;
    left = λ {l} {a} {b} {q} p e h s.
        let c = q.start in
        let place = p.within.0 in
        record {
          down = at_left readable p s;
          same = rw (of_lt x c h);
          place = within_delete x a 0 c place;
          rest = λ d u. no_node_above a 0 c d place u;
          out = λ d o. (o.0, o.1);
        };
    right = λ {l} {a} {b} {q} p e h s.
        let c = q.start in
        let place = p.within.2 in
        record {
          down = at_right readable p s;
          same = rw (of_ge x c h, of_lt c x (beyond x q e h));
          place = within_delete x b (c + q.size) (cells F m) place;
          rest = λ d u. no_node_below b (c + q.size) (cells F m) d place u;
          out = λ d o. (o.2, o.1);
        };
  }

  -- the search for cell x has ended at the link `at`, below the link `over`: the node there is at cell x
  module _ {m : Words} {l x at over : ℕ} (placed : Placed F m l (begins_at x) x at over) (z : at ≢ 0) where
    placed_cell : ((T : Tree) × At F m l T) → at - 1 ≡ x
    placed_cell (T, p) =
        let w = placed T p in
        rooted (λ t. Stops (begins_at x) t → at - 1 ≡ x) z (λ a n b q e. eqb_eq (at - 1) x e) w.sub w.tree
        w.end

    pub placed_node : ((T : Tree) × At F m l T) → NodeOf F m l at over
    placed_node tree =
        (z, subst (λ y. Placed F m l (begins_at y) y at over) (sym (placed_cell tree)) placed)

    pub node_deleted : {m' : Words} {k : ℕ} → Deleted F m m' l (at - 1) k → Deleted F m m' l x k
    node_deleted {m'} {k} done t p =
        subst (λ y. Became F m m' (NoNode t) k (delete y t)) (placed_cell (t, p)) (done t p)
