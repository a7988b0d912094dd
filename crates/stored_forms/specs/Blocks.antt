-- The free blocks of a tree: where they lie, what the arena has of them, and the leftmost fit. 01, "Stored form of the
-- tree pool". Assumes nothing.
use Rattle.std.specs.Prelude.{ℕ, suc, ◌+◌, ◌*◌, ◌≤◌, ◌<◌, ◌≡◌, ◌≢◌, ◌⊎◌, Bool, false, cond, leb, get_or}
use Rattle.std.proofs.Math.Option.{Option, none, some}
use Rattle.words.specs.Lists.{Words}
use Rattle.ledger.specs.Runs.{Run}
use Rattle.stored_forms.specs.Tree.{Tree, leaf, node, Form, cell_words, link}

-- The blocks are not empty, lie in cells lo up to hi, apart, in the order of the tree.
abbrev pub Within : ℕ → ℕ → Tree → Type 0
Within lo hi leaf = lo ≤ hi
Within lo hi (node a q b) = Within lo q.start a × (1 ≤ q.size) × Within (q.start + q.size) hi b

-- Cell c lies in a block of the tree.
abbrev pub In : ℕ → Tree → Type 0
In c leaf = ⊥
In c (node a q b) = In c a ⊎ (((q.start ≤ c) × (c < q.start + q.size)) ⊎ In c b)

-- Cell c is no block's first.
abbrev pub NotFirst : ℕ → Tree → Type 0
NotFirst c leaf = Unit {0}
NotFirst c (node a q b) = NotFirst c a × (c ≢ q.start) × NotFirst c b

-- the words from lo up to hi are zero
abbrev pub Zeros : Words → ℕ → ℕ → Type 0
Zeros a lo hi = (k : ℕ) → lo ≤ k → k < hi → get_or a k 0 ≡ 0

-- The arena has every word of the tree's free blocks: "A free block's first cell is its node. All its other words are
-- zero."
abbrev pub Holds : Form → Words → Tree → Type 0
Holds F m leaf = Unit {0}
Holds F m (node a q b) =
    (cell_words F m q.start ≡ F.node q.size (link a) (link b))
    × Zeros m (F.cell * suc q.start) (F.cell * (q.start + q.size)) × Holds F m a × Holds F m b

-- ---- leftmost fit

-- the tree has a root, and it is long enough
abbrev pub root_fits : ℕ → Tree → Bool
root_fits m leaf = false
root_fits m (node a q b) = leb m q.size

-- 01, "Leftmost fit: refuse if the root is too short or absent; go left while the left son is long enough; where that
-- stops is the block."
abbrev pub leftmost : ℕ → Tree → Option Run
leftmost m leaf = none
leftmost m (node a q b) = cond (leb m q.size) (cond (root_fits m a) (leftmost m a) (some q)) none
