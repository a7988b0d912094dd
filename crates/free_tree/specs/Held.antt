-- The free tree in an arena, over the form: what a step asks of the arena, and what it leaves. Assumes nothing.
use Rattle.std.specs.Prelude.{ℕ, zero, suc, ◌+◌, ◌-◌, ◌*◌, ◌≤◌, ◌<◌, ◌≡◌, ◌≢◌, Bool, cond, ◌&&◌, eqb, length}
use Rattle.std.proofs.Math.Option.{some}
use Rattle.words.specs.Lists.{Words, first_that}
use Rattle.ledger.specs.Runs.{Run, run}
use Rattle.stored_forms.specs.Tree.{Tree, leaf, node, inorder, Form, length_at, link}
use Rattle.stored_forms.specs.Blocks.{leftmost}
use Rattle.stored_forms.specs.Blocks.{Within, NotFirst, Holds, Zeros}
use Rattle.tree_nodes.specs.Nodes.{cells, Same, LeftSet, RightSet}
use Rattle.free_tree.specs.Shapes.{top, join, below, above, split_top, insert, delete, stands_over, heavier, on_top}
use Rattle.free_tree.specs.Shapes.{heapify, shrink, Under, Stops, ends_at, begins_at, link_to}
use Rattle.free_tree.specs.Links.{sons_changed, links_changed, parts_changed, link_of, count_of}

-- ---- a tree

-- The tree t lies in the arena at the link l. Every link is below the form's `links`, and so is the number of all
-- links, two to a cell.
pub record At (F : Form) (m : Words) (l : ℕ) (t : Tree) : Type 0 where
  pub at : link t ≡ l
  pub holds : Holds F m t
  pub within : Within 0 (cells F m) t
  pub small : 2 * cells F m < F.links

-- From m to m' a step left the tree t at the link l, and every cell that is `untouched` as it was.
pub record Became (F : Form) (m m' : Words) (untouched : ℕ → Type 0) (l : ℕ) (t : Tree) : Type 0 where
  pub tree : At F m' l t
  pub frame : (c : ℕ) → untouched c → Same F m m' c
  pub long : length m' ≡ length m

-- cell c is no node of the tree; of the two trees; of the tree with a new node at cell x
abbrev pub NoNode : Tree → ℕ → Type 0
NoNode t c = NotFirst c t

abbrev pub NoNodeOf : Tree → Tree → ℕ → Type 0
NoNodeOf t u c = NotFirst c t × NotFirst c u

abbrev pub NoNodeNor : Tree → ℕ → ℕ → Type 0
NoNodeNor t x c = NotFirst c t × (c ≢ x)

-- ---- join

-- Two trees lie in the arena, the second above the first.
pub record Beside (F : Form) (m : Words) (a b : ℕ) (ta tb : Tree) : Type 0 where
  pub left : At F m a ta
  pub right : At F m b tb
  pub middle : ℕ
  pub left_within : Within 0 middle ta
  pub right_within : Within middle (cells F m) tb

-- neither is empty, and the first root stays on top
pub record LeftWins (F : Form) (m : Words) (a b : ℕ) (ta tb : Tree) : Type 0 where
  pub sides : Beside F m a b ta tb
  pub left_root : a ≢ 0
  pub right_root : b ≢ 0
  pub heavier : top tb ≤ top ta

-- neither is empty, and the second root stays on top
pub record RightWins (F : Form) (m : Words) (a b : ℕ) (ta tb : Tree) : Type 0 where
  pub sides : Beside F m a b ta tb
  pub left_root : a ≢ 0
  pub right_root : b ≢ 0
  pub heavier : top ta < top tb

abbrev pub Joined : Form → Words → Words → Tree → Tree → ℕ → Type 0
Joined F m m' ta tb l = Became F m m' (NoNodeOf ta tb) l (join ta tb)

-- what the two that join ensure: the root that stays on top keeps its link
abbrev pub LeftJoined : Form → Words → Words → ℕ → ℕ → Type 0
LeftJoined F m m' a b = (ta tb : Tree) → LeftWins F m a b ta tb → Joined F m m' ta tb a

abbrev pub RightJoined : Form → Words → Words → ℕ → ℕ → Type 0
RightJoined F m m' a b = (ta tb : Tree) → RightWins F m a b ta tb → Joined F m m' ta tb b

-- the join of the trees at the links a and b, of which either may be empty; k is the link to the whole
abbrev pub BothJoined : Form → Words → Words → ℕ → ℕ → ℕ → Type 0
BothJoined F m m' a b k = (ta tb : Tree) → Beside F m a b ta tb → Joined F m m' ta tb k

-- ---- split

-- the tree t split at cell x: its parts lie at the links lo and hi, and n links were stored
pub record Parted (F : Form) (m m' : Words) (x : ℕ) (t : Tree) (lo hi n : ℕ) : Type 0 where
  pub low : Became F m m' (NoNode t) lo (below x t)
  pub high : Became F m m' (NoNode t) hi (above x t)
  pub count : n ≡ parts_changed x t

-- what the split of the tree at the link l ensures
abbrev pub Parts : Form → Words → Words → ℕ → ℕ → ℕ → ℕ → ℕ → Type 0
Parts F m m' l x lo hi n = (t : Tree) → At F m l t → Parted F m m' x t lo hi n

-- ---- the place of a change

-- Where the search by the address of cell x ends in the tree T: at the subtree `sub`, which lies at the link `at` and
-- whose father has the link `over`.
pub record Place (F : Form) (m : Words) (stop : Run → Bool) (x : ℕ) (T : Tree) (at over : ℕ)
    : Type 0 where
  pub sub : Tree
  pub tree : At F m at sub
  pub way : Under stop x T sub over
  pub end : Stops stop sub

-- what that search of the tree at the link l ensures
abbrev pub Placed : Form → Words → ℕ → (Run → Bool) → ℕ → ℕ → ℕ → Type 0
Placed F m l stop x at over = (T : Tree) → At F m l T → Place F m stop x T at over

-- the node at the link `at` is one of the tree at the link l, and its father has the link `over`, 0 for none
abbrev pub NodeOf : Form → Words → ℕ → ℕ → ℕ → Type 0
NodeOf F m l at over = (at ≢ 0) × Placed F m l (begins_at (at - 1)) (at - 1) at over

-- The link q is set at the node at the link `over`, on the side where cell x is, and the link to the whole is `root` as
-- before; where there is no such node, q is the link to the whole.
abbrev pub Attached : Form → Words → Words → ℕ → ℕ → ℕ → ℕ → ℕ → Type 0
Attached F m m' root zero x q k = (m' ≡ m) × (k ≡ q)
Attached F m m' root (suc c) x q k = (k ≡ root) × (x < c → LeftSet F m m' c q) × (c ≤ x → RightSet F m m' c q)

-- ---- insert, delete

-- no block of the tree overlaps the run
abbrev pub Apart : Run → Tree → Type 0
Apart r leaf = Unit {0}
Apart r (node a q b) =
    Apart r a × (q.start ≤ r.start → q.start + q.size ≤ r.start)
    × (r.start ≤ q.start → r.start + r.size ≤ q.start) × Apart r b

-- The tree lies at the link l, with room for the run: its words are zero.
pub record Room (F : Form) (m : Words) (l : ℕ) (r : Run) (t : Tree) : Type 0 where
  pub tree : At F m l t
  pub apart : Apart r t
  pub filled : 1 ≤ r.size
  pub inside : r.start + r.size ≤ cells F m
  pub zeros : Zeros m (F.cell * r.start) (F.cell * (r.start + r.size))

-- what putting the run r on top of the parts of the tree at the link l ensures, n the number of links stored
abbrev pub PutOver : Form → Words → Words → ℕ → Run → ℕ → Type 0
PutOver F m m' l r n =
    (t : Tree) → Room F m l r t
    → Became F m m' (NoNodeNor t r.start) (r.start + 1) (split_top r t) × (n ≡ sons_changed t (split_top r t))

-- What the insertion of the run r into the tree at the link l ensures, k the link to the whole and the number of links
-- stored. 02: "the count equals the number of links that differ afterwards".
abbrev pub Inserted : Form → Words → Words → ℕ → Run → ℕ → Type 0
Inserted F m m' l r k =
    (t : Tree) → Room F m l r t
    → Became F m m' (NoNodeNor t r.start) (link_of k) (insert r t) × (count_of k ≡ links_changed t (insert r t))

-- what the deletion of the run at cell x from the tree at the link l ensures, k the link to the rest
abbrev pub Deleted : Form → Words → Words → ℕ → ℕ → ℕ → Type 0
Deleted F m m' l x k = (t : Tree) → At F m l t → Became F m m' (NoNode t) k (delete x t)

-- ---- shrink

-- v says whether the run r stands above the root at the link l
abbrev pub OverRoot : Form → Words → ℕ → Run → Bool → Type 0
OverRoot F m l r v = (t : Tree) → At F m l t → v ≡ stands_over r t

-- v says whether the root at the link a stays above the one at the link b
abbrev pub Heavier : Form → Words → ℕ → ℕ → Bool → Type 0
Heavier F m a b v = (ta tb : Tree) → At F m a ta → At F m b tb → v ≡ heavier ta tb

-- v says whether the run r stands above the roots at the links a and b
abbrev pub OverRoots : Form → Words → ℕ → ℕ → Run → Bool → Type 0
OverRoots F m a b r v = (ta tb : Tree) → At F m a ta → At F m b tb → v ≡ (stands_over r ta && stands_over r tb)

-- k says which stays on top where the run r goes between the trees at the links a and b
abbrev pub OnTop : Form → Words → ℕ → ℕ → Run → ℕ → Type 0
OnTop F m a b r k = (ta tb : Tree) → At F m a ta → At F m b tb → k ≡ on_top r ta tb

-- Two trees lie in the arena with the run r between them: its words are zero.
pub record Between (F : Form) (m : Words) (a b : ℕ) (r : Run) (ta tb : Tree) : Type 0 where
  pub left : At F m a ta
  pub right : At F m b tb
  pub left_within : Within 0 r.start ta
  pub right_within : Within (r.start + r.size) (cells F m) tb
  pub filled : 1 ≤ r.size
  pub zeros : Zeros m (F.cell * r.start) (F.cell * (r.start + r.size))

-- cell c is no node of the two trees with a new node at cell x
abbrev pub NoNodeOfNor : Tree → Tree → ℕ → ℕ → Type 0
NoNodeOfNor t u x c = NotFirst c t × NotFirst c u × (c ≢ x)

-- what putting the run r on top of the trees at the links a and b, or among them, ensures, k the link to the whole
abbrev pub Heapified : Form → Words → Words → ℕ → ℕ → Run → ℕ → Type 0
Heapified F m m' a b r k =
    (ta tb : Tree) → Between F m a b r ta tb
    → Became F m m' (NoNodeOfNor ta tb r.start) k (heapify r ta tb)

-- The tree lies at the link l, and its run r has more than k cells, k not 0.
pub record Longer (F : Form) (m : Words) (l : ℕ) (r : Run) (k : ℕ) (t : Tree) : Type 0 where
  pub tree : At F m l t
  pub found : first_that (begins_at r.start) (inorder t) ≡ some r
  pub part : 1 ≤ k
  pub more : k < r.size

-- what ensures the step by which the run at cell x gives up its first k cells, q the link to the whole
abbrev pub Shrunk : Form → Words → Words → ℕ → ℕ → ℕ → ℕ → Type 0
Shrunk F m m' l x k q =
    (t : Tree) (n : ℕ) → Longer F m l (run x n) k t
    → Became F m m' (NoNodeNor t (x + k)) q (shrink x k t)

-- ---- searches

-- the search of the tree at the link `root` gave k, the leftmost fit for n cells
abbrev pub LeftmostFound : Form → Words → ℕ → ℕ → ℕ → Type 0
LeftmostFound F m root n k = (t : Tree) → At F m root t → k ≡ link_to (leftmost n t)

-- The tree lies at the link l, and none of its blocks has a cell from lo up to hi.
pub record Clear (F : Form) (m : Words) (l lo hi : ℕ) (t : Tree) : Type 0 where
  pub tree : At F m l t
  pub some : lo < hi
  pub apart : Apart (run lo (hi - lo)) t

-- the search of the tree at the link `root` gave a and b, the links to the block that ends at lo and to the one that
-- begins at hi, 0 for none
abbrev pub TouchFound : Form → Words → ℕ → ℕ → ℕ → ℕ → ℕ → Type 0
TouchFound F m root lo hi a b =
    (t : Tree) → Clear F m root lo hi t
    → (a ≡ link_to (first_that (ends_at lo) (inorder t))) × (b ≡ link_to (first_that (begins_at hi) (inorder t)))

-- the link l itself if its block ends at cell x, else 0
abbrev pub if_ends : Form → Words → ℕ → ℕ → ℕ
if_ends F m x l = cond (eqb l 0) 0 (cond (eqb (l - 1 + length_at F m (l - 1)) x) l 0)

-- the link l itself if its block begins at cell x, else 0
abbrev pub if_begins : ℕ → ℕ → ℕ
if_begins x l = cond (eqb l (x + 1)) l 0
