-- A walk of the free tree, on any memory: where it finds nothing wrong, the nodes met from left to right are free
-- blocks, and records lie side by side from each to the next. 01, "Stored form of the tree pool". Assumes nothing.
use Rattle.std.specs.Prelude.{ℕ, ◌+◌, ◌%◌, ◌≤◌, ◌<◌, min, ◌≡◌, Bool, true, false, List, [], ◌∷◌, ltb, length, Option, Some}
use Rattle.words.specs.Lists.{Words, all}
use Rattle.ledger.specs.Runs.{Run, Gapped, covered}
use Rattle.stored_forms.specs.Tree.{Tree, link, inorder, Heaped, Form}
use Rattle.stored_forms.specs.Blocks.{Holds}
use Rattle.tree_nodes.specs.Nodes.{cells, NodeOnly}
use Rattle.record_table.specs.Partition.{total}
use Rattle.tree_check.specs.Maps.{Covers, Leads, Roomy}

-- where a free run may begin at the earliest, behind blocks that end at cell k: no two free runs touch
abbrev pub earliest : ℕ → ℕ
earliest k = k + min k 1

-- a run shorter than z
abbrev pub under : ℕ → Run → Bool
under z r = ltb r.size z

-- N cells, and a map with room for them; a link reaches each of them, and none has the number 2,097,152.
pub record Ready (F : Form) (m map : Words) (N : ℕ) : Type 0 where
  pub places : Roomy map N
  pub inside : N ≤ cells F m
  pub linked : N < F.links
  pub small : N < 2097152

-- links of the form reach each cell of the arena, which has no more words than any form's, and whole units
abbrev pub Linked : Form → Words → Type 0
Linked F m = (cells F m < F.links) × (length m ≤ 1048576) × (length m % F.unit ≡ 0)

-- A block of z cells at cell c lies between cells k and hi, and is shorter than the limit.
pub record Between (k hi limit c z : ℕ) : Type 0 where
  pub low : k ≤ c
  pub some : 1 ≤ z
  pub high : c + z ≤ hi
  pub short : z < limit

-- The node of z cells at cell c follows records that begin at cell k, and its block's other words are zero.
pub record NodeFollows (F : Form) (m map : Words) (k c z : ℕ) : Type 0 where
  pub apart : earliest k ≤ c
  pub led : Leads map k c
  pub clear : NodeOnly F m c z

-- A tree lies at the link l: its runs are shorter than the limit and lie apart from cell k up to cell `next`, where
-- every other cell is held. `free` counts their cells besides the `before` that were counted already.
pub record Walked (F : Form) (m map : Words) (N l limit k before next free : ℕ) : Type 0 where
  pub tree : Tree
  pub linked : link tree ≡ l
  pub holds : Holds F m tree
  pub heaped : Heaped tree
  pub short : all (under limit) (inorder tree) ≡ true
  pub gapped : Gapped (earliest k) next (inorder tree)
  pub onward : k ≤ next
  pub inside : next ≤ N
  pub size : before + total (inorder tree) ≡ free
  pub few : free ≤ next
  pub known : (u : ℕ) → k ≤ u → u < next → covered (inorder tree) u ≡ false → Covers map u

-- The runs lie apart from cell k on, and the map leads to each from the one before.
abbrev pub Apart : Words → ℕ → List Run → Type 0
Apart map k [] = Unit {0}
Apart map k (r ∷ rs) =
    (earliest k ≤ r.start) × Leads map k r.start × (1 ≤ r.size) × Apart map (r.start + r.size) rs

-- the cell past the last of some runs, k if there is none
abbrev pub ends : ℕ → List Run → ℕ
ends k [] = k
ends k (r ∷ rs) = ends (r.start + r.size) rs

-- The tree t lies at the link l: its runs are shorter than the limit, and lie apart from cell k up to
-- cell N.
pub record LiesAt (F : Form) (m map : Words) (N l limit k : ℕ) (t : Tree) : Type 0 where
  pub linked : link t ≡ l
  pub holds : Holds F m t
  pub heaped : Heaped t
  pub short : all (under limit) (inorder t) ≡ true
  pub runs : Apart map k (inorder t)
  pub inside : ends k (inorder t) ≤ N

-- Where such a tree lies, of no more nodes than are allowed, the walk comes to the end of its runs and has counted
-- their cells.
pub record Passes (F : Form) (m map : Words) (N l limit k allowed before next free : ℕ) : Type 0 where
  pub meets : (t : Tree) → LiesAt F m map N l limit k t → length (inorder t) ≤ allowed
      → (next ≡ ends k (inorder t)) × (free ≡ before + total (inorder t))

-- what the walk of the whole tree at the link l, of no more nodes than are allowed, answers where such a tree lies
abbrev pub Meets : Form → Words → Words → ℕ → ℕ → ℕ → ℕ → Option (ℕ × ℕ) → Type 0
Meets F m map N l limit allowed met =
    (t : Tree) → LiesAt F m map N l limit 0 t → length (inorder t) ≤ allowed
    → met ≡ Some (ends 0 (inorder t), total (inorder t))
