-- Free blocks in an arena, over the form, by the list of the free runs: what taking cells and giving cells back
-- leave. Assumes nothing.
use Rattle.std.specs.Prelude.{ℕ, suc, ◌+◌, ◌-◌, ◌*◌, ◌/◌, ◌≤◌, ◌<◌, ◌≡◌, false, List, ◌∷◌, ◌++◌, length, get_or}
use Rattle.words.specs.Lists.{Words}
use Rattle.ledger.specs.Runs.{Run, covered, Gapped}
use Rattle.ledger.specs.Runs.{add_run, shorten}
use Rattle.stored_forms.specs.Tree.{Form, tree_of}
use Rattle.stored_forms.specs.Blocks.{Zeros}
use Rattle.tree_nodes.specs.Nodes.{cells}
use Rattle.free_tree.specs.Held.{At, NodeOf}

-- At the link `root` lies the tree of the runs rs, which lie apart and in order.
pub record Lies (F : Form) (m : Words) (root : ℕ) (rs : List Run) : Type 0 where
  pub tree : At F m root (tree_of rs)
  pub gapped : Gapped 0 (cells F m) rs

-- From m to m' the free runs changed from rs to rs': words of cells that are free in neither are as they were.
pub record Changed (F : Form) (m m' : Words) (rs rs' : List Run) (root' : ℕ) : Type 0 where
  pub lies : Lies F m' root' rs'
  pub frame : (i : ℕ) → covered rs (i / F.cell) ≡ false → covered rs' (i / F.cell) ≡ false → get_or m' i 0 ≡ get_or m i 0
  pub long : length m' ≡ length m

-- ---- taking

-- The free block r, at the link `block`, has the k cells that are to be taken from its low end. Its father is at the
-- link `over`, 0 for none.
pub record Takes (F : Form) (m : Words) (root block over k : ℕ) (xs : List Run) (r : Run) (ys : List Run) : Type 0 where
  pub lies : Lies F m root (xs ++ r ∷ ys)
  pub at : block ≡ suc r.start
  pub node_of : NodeOf F m root block over
  pub some : 1 ≤ k
  pub enough : k ≤ r.size

abbrev pub Takeable : Form → Words → ℕ → ℕ → ℕ → ℕ → Type 0
Takeable F m root block over k = (xs : List Run) × (r : Run) × (ys : List Run) × Takes F m root block over k xs r ys

-- they are taken: the block is shorter or gone, and the cells read zero
pub record TakenFrom (F : Form) (m m' : Words) (k root' : ℕ) (xs : List Run) (r : Run) (ys : List Run) : Type 0 where
  pub change : Changed F m m' (xs ++ r ∷ ys) (xs ++ shorten k r ys) root'
  pub zeros : Zeros m' (F.cell * r.start) (F.cell * (r.start + k))

abbrev pub Taken : Form → Words → Words → ℕ → ℕ → ℕ → ℕ → ℕ → Type 0
Taken F m m' root block over k root' =
    (xs : List Run) (r : Run) (ys : List Run) → Takes F m root block over k xs r ys → TakenFrom F m m' k root' xs r ys

-- ---- giving back

-- the cells from lo up to hi are not free
pub record Gives (F : Form) (m : Words) (root lo hi : ℕ) (rs : List Run) : Type 0 where
  pub lies : Lies F m root rs
  pub some : lo < hi
  pub inside : hi ≤ cells F m
  pub held : (u : ℕ) → lo ≤ u → u < hi → covered rs u ≡ false

-- they are free, one run with the runs that they touch
abbrev pub Given : Form → Words → Words → ℕ → ℕ → ℕ → ℕ → Type 0
Given F m m' root lo hi root' =
    (rs : List Run) → Gives F m root lo hi rs → Changed F m m' rs (add_run lo (hi - lo) rs) root'
