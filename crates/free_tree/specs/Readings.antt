-- What the clauses of the crate's own functions say beside Held: the code's types as the definitions have them, and a
-- search by a test. Assumes nothing.
use Rattle.std.specs.Prelude.{ℕ, ◌<◌, ◌≡◌, Bool}
use Rattle.words.specs.Lists.{Words}
use Rattle.ledger.specs.Runs.{Run, run}
use Rattle.stored_forms.specs.Tree.{Form, length_at}
use Rattle.tree_nodes.specs.Nodes.{cells}
use Rattle.free_tree.specs.Held.{Placed}
use Rattle.free_tree.specs.declared.Block.{Block}
use Rattle.free_tree.specs.declared.Top.{Top}
use Rattle.free_tree.specs.declared.Top.TheVariants as top

-- the block's run of cells
abbrev pub run_of : Block → Run
run_of b = run b.start b.size

-- what stays on top, as `on_top` of Shapes has it: 0 for the block, 1 for the lower root, 2 for the upper
abbrev pub top_number : Top → ℕ
top_number top.Block = 0
top_number top.Low = 1
top_number top.High = 2

-- a test of cells says of each cell's node what `stop` says of its run
abbrev pub Tells : Form → Words → (ℕ → Bool → Type 0) → (Run → Bool) → Type 0
Tells F m says stop = (c : ℕ) (v : Bool) → c < cells F m → says c v → v ≡ stop (run c (length_at F m c))

-- what the search ensures where a test of cells stops it
abbrev pub PlacedBy : Form → Words → ℕ → (ℕ → Bool → Type 0) → ℕ → ℕ → ℕ → Type 0
PlacedBy F m l says x at over = (stop : Run → Bool) → Tells F m says stop → Placed F m l stop x at over
