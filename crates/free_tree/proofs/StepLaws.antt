-- One step up or down the free tree in an arena, over the form: the root, its sons, and a son replaced.
-- Assumes of a form that its nodes are readable.
use Prim.Native.Nat.{ℕ, zero, suc, ◌+◌, ◌-◌, ◌*◌, ◌≤◌, ◌<◌}
use native.Mathlib.Nat.{div-le_self}
use native.Mathlib.Omega.{arith}
use mathlib.Core.Path.{◌≡◌, refl, sym, ap, ap₂, ◌∙◌, subst}
use mathlib.Core.Logic.{◌≢◌}
use lib.ListN.{length}
use Rattle.words.specs.Lists.{Words}
use Rattle.ledger.specs.Runs.{run}
use Rattle.stored_forms.specs.Tree.{Tree, leaf, node, Form, cell_words, length_at, left_at, right_at, link}
use Rattle.stored_forms.specs.Blocks.{Within}
use Rattle.stored_forms.proofs.NodeLaws.{Readable, within_le, link_within, holds_reads}
use Rattle.tree_nodes.specs.Nodes.{cells, Same, NodeAt, NodePut, LeftSet, RightSet}
use Rattle.free_tree.specs.Shapes.{nodes}
use Rattle.free_tree.specs.Held.{At, Became}
use Rattle.free_tree.proofs.RunOrder.{wider}
use Rattle.free_tree.proofs.CellLaws.{same_cell, same_zeros, same_tree}

-- The number of nodes of the tree at a link, read to a depth of at most n: what every recursion on the arena falls by.
abbrev pub count_to : Form → Words → ℕ → ℕ → ℕ
count_to F m zero l = 0
count_to F m (suc n) zero = 0
count_to F m (suc n) (suc c) = suc (count_to F m n (left_at F m c) + count_to F m n (right_at F m c))

unfoldable pub count : Form → Words → ℕ → ℕ
count F m l = count_to F m (length m) l

-- what holds of every tree at a link that is not 0, from the code's own number of the root's cell
pub rooted : {F : Form} {m : Words} {l : ℕ} (P : Tree → Type 0) → l ≢ 0
    → ((a : Tree) (n : ℕ) (b : Tree) → At F m l (node a (run (l - 1) n) b) → P (node a (run (l - 1) n) b))
    → (t : Tree) → At F m l t → P t
rooted P z f leaf p = absurd (z (sym p.at))
rooted {F} {m} {l} P z f (node a q b) p =
    let e : l - 1 ≡ q.start = omega (arith, p.at) in
    subst (λ c. At F m l (node a (run c q.size) b) → P (node a (run c q.size) b)) e (f a q.size b) p

pub at_none : {F : Form} {m : Words} {l : ℕ} (P : Tree → Type 0) → l ≡ 0 → P leaf
    → (t : Tree) → At F m l t → P t
at_none P z f leaf p = f
at_none P z f (node a q b) p = absurd (omega (arith, p.at))

-- the words of cell c, and what they read as
record Reads (F : Form) (m : Words) (c n l r : ℕ) : Type 0 where
  words : cell_words F m c ≡ F.node n l r
  len : length_at F m c ≡ n
  left : left_at F m c ≡ l
  right : right_at F m c ≡ r

module _ {F : Form} (readable : Readable F F.links) where
  -- ---- the root and its sons

  pub at_in : {m : Words} {l : ℕ} → l ≢ 0 → ((t : Tree) × At F m l t) → l - 1 < cells F m
  at_in {m} {l} z (t, p) = omega (arith, link_within t 0 (cells F m) p.within, p.at)

  pub at_small : {m : Words} {l : ℕ} {t : Tree} → At F m l t → l < F.links
  at_small {m} {l} {t} p = omega (arith, link_within t 0 (cells F m) p.within, p.at, p.small)

  module _ {m : Words} {l c n : ℕ} {a b : Tree} (p : At F m l (node a (run c n) b)) where
    sons_small : (link a < F.links) × (link b < F.links)
    sons_small =
        let high = within_le b (c + n) (cells F m) p.within.2 in
        let small = p.small in (
          omega (arith, link_within a 0 c p.within.0),
          omega (arith, link_within b (c + n) (cells F m) p.within.2),
        )

    node_reads : (length_at F m c ≡ n) × (left_at F m c ≡ link a) × (right_at F m c ≡ link b)
    node_reads = holds_reads F F.links readable m a (run c n) b p.holds sons_small.0 sons_small.1

    pub at_length : length_at F m c ≡ n
    at_length = node_reads.0

    pub at_left : {s : ℕ} → s ≡ left_at F m c → At F m s a
    at_left e =
        let high = within_le b (c + n) (cells F m) p.within.2 in
        record {
          at = sym (e ∙ node_reads.1);
          holds = p.holds.2;
          within = wider a 0 0 c (cells F m) (omega arith) (omega arith) p.within.0;
          small = p.small;
        }

    pub at_right : {s : ℕ} → s ≡ right_at F m c → At F m s b
    at_right e = record {
      at = sym (e ∙ node_reads.2);
      holds = p.holds.3;
      within = wider b (c + n) 0 (cells F m) (cells F m) (omega arith) (omega arith) p.within.2;
      small = p.small;
    }

  -- the same with the length that was read
  pub rooted_length : {m : Words} {l k : ℕ} (P : Tree → Type 0) → l ≢ 0 → k ≡ length_at F m (l - 1)
      → ((a b : Tree) → At F m l (node a (run (l - 1) k) b) → P (node a (run (l - 1) k) b))
      → (t : Tree) → At F m l t → P t
  rooted_length {m} {l} P z len f =
      rooted P z
      (λ a n b p.
      subst (λ i. At F m l (node a (run (l - 1) i) b) → P (node a (run (l - 1) i) b)) (len ∙ at_length p)
      (f a b) p)

  -- ---- the number of nodes

  nodes_within : (t : Tree) (lo hi : ℕ) → Within lo hi t → lo + nodes t ≤ hi
  nodes_within leaf lo hi w = omega arith
  nodes_within (node a q b) lo hi w =
      omega (arith, nodes_within a lo q.start w.0, nodes_within b (q.start + q.size) hi w.2, w.1)

  pub at_nodes : {m : Words} {l : ℕ} {t : Tree} → At F m l t → 2 * nodes t < F.links
  at_nodes {m} {l} {t} p = omega (arith, nodes_within t 0 (cells F m) p.within, p.small)

  count_to_lem : (m : Words) (n : ℕ) (t : Tree) (l : ℕ) → At F m l t → nodes t ≤ n → count_to F m n l ≡ nodes t
  count_to_lem m zero leaf l p h = refl
  count_to_lem m zero (node a q b) l p h = absurd (omega arith)
  count_to_lem m (suc n) leaf l p h = ap (count_to F m (suc n)) (sym p.at)
  count_to_lem m (suc n) (node a q b) l p h =
      ap (count_to F m (suc n)) (sym p.at)
      ∙ ap₂ (λ x y. suc (x + y))
      (count_to_lem m n a (left_at F m q.start) (at_left p refl) (omega arith))
      (count_to_lem m n b (right_at F m q.start) (at_right p refl) (omega arith))

  pub count_at : {m : Words} {l : ℕ} {t : Tree} → At F m l t → count F m l ≡ nodes t
  unfolding count
  count_at {m} {l} {t} p =
      count_to_lem m (length m) t l p
      (omega (arith, nodes_within t 0 (cells F m) p.within, div-le_self (length m) F.cell))

  -- the tree of a son: it lies at the link that is read, and has fewer nodes
  pub down_left : {m : Words} {l s : ℕ} → l ≢ 0 → s ≡ left_at F m (l - 1) → ((t : Tree) × At F m l t)
      → (count F m s < count F m l) × ((t : Tree) × At F m s t)
  down_left {m} {l} {s} z e (t, p) =
      rooted (λ t. (count F m s < count F m l) × ((t : Tree) × At F m s t)) z
      (λ a n b p. let q = at_left p e in (omega (arith, count_at q, count_at p), (a, q))) t p

  pub down_right : {m : Words} {l s : ℕ} → l ≢ 0 → s ≡ right_at F m (l - 1) → ((t : Tree) × At F m l t)
      → (count F m s < count F m l) × ((t : Tree) × At F m s t)
  down_right {m} {l} {s} z e (t, p) =
      rooted (λ t. (count F m s < count F m l) × ((t : Tree) × At F m s t)) z
      (λ a n b p. let q = at_right p e in (omega (arith, count_at q, count_at p), (b, q))) t p

  -- ---- a son replaced

  -- nothing done
  pub unchanged : {m : Words} {l : ℕ} {t : Tree} {off : ℕ → Type 0} → At F m l t → Became F m m off l t
  unchanged p = record { tree = p; frame = λ c o k e. refl; long = refl }

  -- a tree that was made stays where another node is put
  pub still : {m m₁ m' : Words} {off off' : ℕ → Type 0} {l c n x y : ℕ} {t : Tree} (lo hi : ℕ)
      → Became F m m₁ off l t → Within lo hi t → NodePut F m₁ m' c n x y
      → ((d : ℕ) → lo ≤ d → d < hi → d ≢ c) → ((d : ℕ) → off' d → off d × (d ≢ c)) → Became F m m' off' l t
  still {m} {m₁} {m'} {l = l} {t = t} lo hi made place put away out =
      let p = made.tree in
      record {
        tree = record {
          at = p.at;
          holds = same_tree readable m₁ m' t lo hi place put.long (λ d x y. put.frame d (away d x y)) p.holds;
          within = rw put.long p.within;
          small = rw put.long p.small;
        };
        frame = λ d o k e. put.frame d (out d o).1 k e ∙ made.frame d (out d o).0 k e;
        long = put.long ∙ made.long;
      }

  -- The root at cell c of the tree at the link l gets a new son, at the link s, that lies in its place. First the son
  -- was made, then the root's node was put.
  module _ {m m₁ : Words} {l c n s : ℕ} {a b t : Tree} {off : ℕ → Type 0}
      (p : At F m l (node a (run c n) b)) (made : Became F m m₁ off s t) where
    -- the root's node still reads as it did
    reads : off c → Reads F m₁ c n (link a) (link b)
    reads o =
        let (x, y) = sons_small p in
        let w = same_cell readable m m₁ c made.long (made.frame c o) ∙ p.holds.0 in
        record {
          words = w;
          len = ap F.length_of w ∙ readable.length_back n (link a) (link b) x y;
          left = ap F.left_of w ∙ readable.left_back n (link a) (link b) x y;
          right = ap F.right_of w ∙ readable.right_back n (link a) (link b) x y;
        }

    pub reads_node : off c → NodeAt F m₁ c
    reads_node o = let r = reads o in r.words ∙ cc

    -- where the son's link stays, nothing is to be put
    pub left_kept : off c → s ≡ left_at F m c → LeftSet F m₁ m₁ c s
    left_kept o e lies =
        let r = reads o in
        let x = (at_left p e).at in
        record { node = r.words ∙ cc; frame = λ d z k f. refl; long = refl }

    pub right_kept : off c → s ≡ right_at F m c → RightSet F m₁ m₁ c s
    right_kept o e lies =
        let r = reads o in
        let x = (at_right p e).at in
        record { node = r.words ∙ cc; frame = λ d z k f. refl; long = refl }

    module _ {m' : Words} {off' : ℕ → Type 0} (out : (d : ℕ) → off' d → off d × (d ≢ c)) where
      module _ (set : LeftSet F m₁ m' c s) (place : Within 0 c t) (rest : (d : ℕ) → c ≤ d → off d) where
        pub left_replaced : Became F m m' off' l (node t (run c n) b)
        left_replaced =
            let put = set (reads_node (rest c (omega arith))) in
            let long : length m' ≡ length m = put.long ∙ made.long in
            let r = reads (rest c (omega arith)) in
            let at = made.tree.at in
            let after : (d : ℕ) → c < d → Same F m m' d =
            λ d h k e. put.frame d (λ z. omega arith) k e ∙ made.frame d (rest d (omega arith)) k e in
            record {
              tree = record {
                at = p.at;
                holds = (
                  put.node ∙ cc,
                  same_zeros readable m m' (suc c) (c + n) (λ d x y. after d x) p.holds.1,
                  same_tree readable m₁ m' t 0 c place put.long (λ d x y. put.frame d (λ z. omega arith))
                      made.tree.holds,
                  same_tree readable m m' b (c + n) (cells F m) p.within.2 long
                      (λ d x y. after d (omega (arith, p.within.1))) p.holds.3,
                );
                within = rw long (place, p.within.1, p.within.2);
                small = rw long p.small;
              };
              frame = λ d o k e. put.frame d (out d o).1 k e ∙ made.frame d (out d o).0 k e;
              long = long;
            }

      module _ (set : RightSet F m₁ m' c s) (place : Within (c + n) (cells F m) t)
          (rest : (d : ℕ) → d < c + n → off d) where
        pub right_replaced : Became F m m' off' l (node a (run c n) t)
        right_replaced =
            let some = p.within.1 in
            let put = set (reads_node (rest c (omega arith))) in
            let long : length m' ≡ length m = put.long ∙ made.long in
            let r = reads (rest c (omega arith)) in
            let at = made.tree.at in
            let before : (d : ℕ) → d < c + n → d ≢ c → Same F m m' d =
            λ d h x k e. put.frame d x k e ∙ made.frame d (rest d h) k e in
            record {
              tree = record {
                at = p.at;
                holds = (
                  put.node ∙ cc,
                  same_zeros readable m m' (suc c) (c + n) (λ d x y. before d y (λ z. omega arith)) p.holds.1,
                  same_tree readable m m' a 0 c p.within.0 long (λ d x y. before d (omega arith) (λ z. omega arith))
                      p.holds.2,
                  same_tree readable m₁ m' t (c + n) (cells F m) place put.long
                      (λ d x y. put.frame d (λ z. omega arith))
                      made.tree.holds,
                );
                within = rw long (p.within.0, some, place);
                small = rw long p.small;
              };
              frame = λ d o k e. put.frame d (out d o).1 k e ∙ made.frame d (out d o).0 k e;
              long = long;
            }
