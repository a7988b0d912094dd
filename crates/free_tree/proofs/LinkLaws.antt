-- The links that differ between a tree and what an insertion makes of it: only those on its way down, and in the parts
-- of the tree that is split. Assumes nothing.
use Prim.Native.Nat.{ℕ, suc, ◌+◌, ◌≤◌, ◌<◌}
use native.Mathlib.Omega.{arith}
use mathlib.Core.Path.{◌≡◌, refl, ◌∙◌}
use mathlib.Core.Logic.{◌≢◌}
use mathlib.Core.Bool.{Bool, true, false, cond}
use lib.Dec.{ltb}
use Rattle.words.proofs.Tests.{of_lt, of_ge, lt_of, not_lt}
use Rattle.ledger.specs.Runs.{Run}
use Rattle.stored_forms.specs.Tree.{Tree, leaf, node, link}
use Rattle.stored_forms.specs.Blocks.{Within, NotFirst}
use Rattle.stored_forms.proofs.NodeLaws.{within_le}
use Rattle.tree_nodes.specs.Nodes.{differ}
use Rattle.tree_nodes.proofs.LinkLaws.{same_link, differ_few}
use Rattle.free_tree.specs.Shapes.{nodes, below, above, split_top}
use Rattle.free_tree.specs.Links.{left_in, right_in, sons_changed, links_changed, parts_changed}
use Rattle.free_tree.proofs.PartLaws.{within_below, within_above}

-- a tree has no links at a cell that is no node of it
none_in : (c : ℕ) (t : Tree) → NotFirst c t → (left_in c t ≡ 0) × (right_in c t ≡ 0)
none_in c leaf n = (refl, refl)
none_in c (node a q b) n = go (ltb c q.start) refl (ltb q.start c) refl (none_in c a n.0) (none_in c b n.2)
  where
    go : (x : Bool) → ltb c q.start ≡ x → (y : Bool) → ltb q.start c ≡ y
        → (left_in c a ≡ 0) × (right_in c a ≡ 0) → (left_in c b ≡ 0) × (right_in c b ≡ 0)
        → (cond x (left_in c a) (cond y (left_in c b) (link a)) ≡ 0)
        × (cond x (right_in c a) (cond y (right_in c b) (link b)) ≡ 0)
    go true e y f i j = i
    go false e true f i j = j
    go false e false f i j =
        let low = not_lt c q.start e in
        let high = not_lt q.start c f in
        absurd (n.1 (omega arith))

module _ (a : Tree) (q : Run) (b : Tree) where
  -- what lies on one side of the root has the same links there
  left_side : (lo hi : ℕ) (u : Tree) → hi ≤ q.start → Within lo hi u → sons_changed (node a q b) u ≡ sons_changed a u
  left_side lo hi leaf h w = refl
  left_side lo hi (node x r y) h w =
      let some = w.1 in
      let high = within_le y (r.start + r.size) hi w.2 in
      let less : ltb r.start q.start ≡ true = of_lt r.start q.start (omega arith) in
      let i = left_side lo r.start x (omega arith) w.0 in
      let j = left_side (r.start + r.size) hi y h w.2 in
      rw (less, i, j)

  right_side : (lo hi : ℕ) (u : Tree) → q.start < lo → Within lo hi u → sons_changed (node a q b) u ≡ sons_changed b u
  right_side lo hi leaf h w = refl
  right_side lo hi (node x r y) h w =
      let some = w.1 in
      let low = within_le x lo r.start w.0 in
      let not-less : ltb r.start q.start ≡ false = of_ge r.start q.start (omega arith) in
      let more : ltb q.start r.start ≡ true = of_lt q.start r.start (omega arith) in
      let i = right_side lo r.start x h w.0 in
      let j = right_side (r.start + r.size) hi y (omega arith) w.2 in
      rw (not-less, more, i, j)

  -- the root's own links
  own_left : left_in q.start (node a q b) ≡ link a
  own_left = rw (of_ge q.start q.start (omega arith))

  own_right : right_in q.start (node a q b) ≡ link b
  own_right = rw (of_ge q.start q.start (omega arith))

-- nothing differs from itself
none_changed : (t : Tree) (lo hi : ℕ) → Within lo hi t → sons_changed t t ≡ 0
none_changed leaf lo hi w = refl
none_changed (node a q b) lo hi w =
    let some = w.1 in
    let i = left_side a q b lo q.start a (omega arith) w.0 ∙ none_changed a lo q.start w.0 in
    let j = right_side a q b (q.start + q.size) hi b (omega arith) w.2
    ∙ none_changed b (q.start + q.size) hi w.2 in
    rw (i, j, own_left a q b, own_right a q b, same_link {x = link a} refl, same_link {x = link b} refl)

-- ---- one son is another, and the other stays

module _ (a : Tree) (q : Run) (b : Tree) (lo hi : ℕ) (w : Within lo hi (node a q b)) where
  left_same : sons_changed (node a q b) a ≡ 0
  left_same = left_side a q b lo q.start a (omega arith) w.0 ∙ none_changed a lo q.start w.0

  right_same : sons_changed (node a q b) b ≡ 0
  right_same =
      right_side a q b (q.start + q.size) hi b (omega (arith, w.1)) w.2
      ∙ none_changed b (q.start + q.size) hi w.2

  module _ (c : Tree) where
    pub left_changed : Within lo q.start c → links_changed (node a q b) (node c q b) ≡ links_changed a c
    left_changed v =
        let root = same_link {x = suc q.start} refl in
        let other = same_link {x = link b} refl in
        let side = right_same in
        let inner = left_side a q b lo q.start c (omega arith) v in
        rw (own_left a q b, own_right a q b) (omega arith)

    pub right_changed : Within (q.start + q.size) hi c → links_changed (node a q b) (node a q c) ≡ links_changed b c
    right_changed v =
        let root = same_link {x = suc q.start} refl in
        let other = same_link {x = link a} refl in
        let side = left_same in
        let inner = right_side a q b (q.start + q.size) hi c (omega (arith, w.1)) v in
        rw (own_left a q b, own_right a q b) (omega arith)

  -- ---- the split: it goes on in one son, whose root's link is the root's

  module _ {x : ℕ} where
    pub parts_of_right : q.start < x
        → parts_changed x (node a q b) ≡ differ (link b) (link (below x b)) + parts_changed x b
    parts_of_right h =
        let end = q.start + q.size in
        let past : q.start < end = omega (arith, w.1) in
        let other = same_link {x = link a} refl in
        let side = left_same in
        let lows = right_side a q b end hi (below x b) past (within_below x b end hi w.2) in
        let highs = right_side a q b end hi (above x b) past (within_above x b end hi w.2) in
        rw (of_lt q.start x h, own_left a q b, own_right a q b) (omega arith)

    pub parts_of_left : x ≤ q.start
        → parts_changed x (node a q b) ≡ differ (link a) (link (above x a)) + parts_changed x a
    parts_of_left h =
        let other = same_link {x = link b} refl in
        let side = right_same in
        let lows = left_side a q b lo q.start (below x a) (omega arith) (within_below x a lo q.start w.0) in
        let highs = left_side a q b lo q.start (above x a) (omega arith) (within_above x a lo q.start w.0) in
        rw (of_ge q.start x h, own_left a q b, own_right a q b) (omega arith)

-- at most one link a node
pub parts_few : (x : ℕ) (t : Tree) (lo hi : ℕ) → Within lo hi t → parts_changed x t ≤ nodes t
parts_few x leaf lo hi w = omega arith
parts_few x (node a q b) lo hi w =
    go (ltb q.start x) refl (parts_few x a lo q.start w.0) (parts_few x b (q.start + q.size) hi w.2)
  where
    go : (low : Bool) → ltb q.start x ≡ low → parts_changed x a ≤ nodes a → parts_changed x b ≤ nodes b
        → parts_changed x (node a q b) ≤ nodes (node a q b)
    go true e i j =
        let one = differ_few (link b) (link (below x b)) in
        let is = parts_of_right a q b lo hi w (lt_of q.start x e) in
        omega arith
    go false e i j =
        let one = differ_few (link a) (link (above x a)) in
        let is = parts_of_left a q b lo hi w (not_lt q.start x e) in
        omega arith

-- the root of a part is on its side of cell x
pub below_link : (x : ℕ) (t : Tree) → link (below x t) ≤ x
below_link x leaf = omega arith
below_link x (node a q b) = go (ltb q.start x) refl (below_link x a)
  where
    go : (low : Bool) → ltb q.start x ≡ low → link (below x a) ≤ x
        → link (cond low (node a q (below x b)) (below x a)) ≤ x
    go true e i = omega (arith, lt_of q.start x e)
    go false e i = i

pub above_link : (x : ℕ) (t : Tree) → link (above x t) ≢ 0 → x < link (above x t)
above_link x leaf n = absurd (n refl)
above_link x (node a q b) n = go (ltb q.start x) refl (above_link x b) n
  where
    go : (low : Bool) → ltb q.start x ≡ low → (link (above x b) ≢ 0 → x < link (above x b))
        → link (cond low (above x b) (node (above x a) q b)) ≢ 0
        → x < link (cond low (above x b) (node (above x a) q b))
    go true e i n = i n
    go false e i n = omega (arith, not_lt q.start x e)

-- a tree that has no node at cell c, and a new node there on top of its parts
pub link_other : (c : ℕ) (t : Tree) → NotFirst c t → link t ≢ suc c
link_other c leaf n z = omega arith
link_other c (node a q b) n z = n.1 (omega arith)

pub top_changed : (r : Run) (t : Tree) → NotFirst r.start t
    → sons_changed t (split_top r t)
    ≡ differ 0 (link (below r.start t)) + differ 0 (link (above r.start t)) + parts_changed r.start t
top_changed r t n = let none = none_in r.start t n in rw (none.0, none.1) (omega arith)
