-- A map of an arena's cells, which says where a block can be inserted. Assumes nothing.
use Rattle.std.specs.Prelude.{◌≡◌, ℕ, ◌+◌, ◌/◌, ◌<◌, ◌≤◌, length, slice_index}
use Rattle.words.specs.Lists.{Words}
use Rattle.stored_forms.specs.Tree.{Tree, Form}
use Rattle.stored_forms.specs.Blocks.{In}
use Rattle.tree_nodes.specs.Nodes.{cells}
use Rattle.free_tree.specs.Held.{At}

-- the map has a word for each cell, and no more than there are links
pub record Paired (F : Form) (m map : Words) : Type 0 where
  pub long : length map ≡ cells F m
  pub few : length map ≤ 8192

-- The tree at the link l has no block at a cell where the map has 0, and the cell's words are zero.
pub record Mapped (F : Form) (m map : Words) (l : ℕ) : Type 0 where
  pub tree : Tree
  pub at : At F m l tree
  pub paired : Paired F m map
  pub outside : (c : ℕ) → c < length map → slice_index map c ≡ 0 → In c tree → ⊥
  pub zeros : (i : ℕ) → i / F.cell < length map → slice_index map (i / F.cell) ≡ 0 → slice_index m i ≡ 0

-- there are n cells from cell x on, at least one, and the map has 0 at each
pub record Fits (map : Words) (x n : ℕ) : Type 0 where
  pub some : 1 ≤ n
  pub inside : x + n ≤ length map
  pub free : (c : ℕ) → x ≤ c → c < x + n → slice_index map c ≡ 0

-- the map has no 0 from lo up to hi, and no new one elsewhere
pub record Marked (map map' : Words) (lo hi : ℕ) : Type 0 where
  pub long : length map' ≡ length map
  pub other : (c : ℕ) → slice_index map' c ≡ 0 → slice_index map c ≡ 0
  pub away : (c : ℕ) → slice_index map' c ≡ 0 → lo ≤ c → c < hi → ⊥
