-- One node of the free tree in an arena, over the form: what a step on it leaves. Assumes nothing.
use Rattle.std.specs.Prelude.{ℕ, suc, ◌+◌, ◌*◌, ◌/◌, ◌≡◌, ◌≢◌, cond, eqb, length, get_or}
use Rattle.words.specs.Lists.{Words}
use Rattle.words.specs.Places.{wiped}
use Rattle.stored_forms.specs.Tree.{Form, cell_words, length_at, left_at, right_at}
use Rattle.stored_forms.specs.Blocks.{Zeros}

-- 1 where two links differ, else 0
abbrev pub differ : ℕ → ℕ → ℕ
differ x y = cond (eqb x y) 0 1

-- a link and a count of stored links in one number: both are below this, and the count is taken times it
abbrev pub count_base : ℕ
count_base = 4294967296

-- how many cells the arena has
abbrev pub cells : Form → Words → ℕ
cells F m = length m / F.cell

-- cell c has the same words in both
abbrev pub Same : Form → Words → Words → ℕ → Type 0
Same F m m' c = (k : ℕ) → k / F.cell ≡ c → get_or m' k 0 ≡ get_or m k 0

-- the words of cell c are a node's, whatever it reads as
abbrev pub NodeAt : Form → Words → ℕ → Type 0
NodeAt F m c = cell_words F m c ≡ F.node (length_at F m c) (left_at F m c) (right_at F m c)

-- A block of z cells from cell c on has a node in its first, and zeros in the others: "A free block's first cell is its
-- node. All its other words are zero."
abbrev pub NodeOnly : Form → Words → ℕ → ℕ → Type 0
NodeOnly F m c z = NodeAt F m c × Zeros m (F.cell * suc c) (F.cell * (c + z))

-- the node of length n with the links l and r lies at cell c, and no other cell has changed
pub record NodePut (F : Form) (m m' : Words) (c n l r : ℕ) : Type 0 where
  pub node : cell_words F m' c ≡ F.node n l r
  pub frame : (d : ℕ) → d ≢ c → Same F m m' d
  pub long : length m' ≡ length m

-- a node's link is l or r now, and all else of it as it was
abbrev pub LeftSet : Form → Words → Words → ℕ → ℕ → Type 0
LeftSet F m m' c l = NodeAt F m c → NodePut F m m' c (length_at F m c) l (right_at F m c)

abbrev pub RightSet : Form → Words → Words → ℕ → ℕ → Type 0
RightSet F m m' c r = NodeAt F m c → NodePut F m m' c (length_at F m c) (left_at F m c) r

-- cell c is zero, and no other has changed
pub record NodeCleared (F : Form) (m m' : Words) (c : ℕ) : Type 0 where
  pub zero : (k : ℕ) → k / F.cell ≡ c → get_or m' k 0 ≡ 0
  pub frame : (d : ℕ) → d ≢ c → Same F m m' d
  pub long : length m' ≡ length m

-- the words with zeros in the cells from lo up to hi
abbrev pub wiped_cells : Form → ℕ → ℕ → Words → Words
wiped_cells F lo hi m = wiped 0 (F.cell * lo) (F.cell * hi) m
