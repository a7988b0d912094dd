-- Cells given back to the free tree, step by step: the free blocks that touch them are taken out first.
-- Assumes nothing.
use Rattle.std.specs.Prelude.{ℕ, suc, ◌+◌, ◌-◌, ◌*◌, ◌≤◌, ◌≡◌, ◌≢◌, Bool, false, ◌||◌, List, ◌∷◌, ◌++◌}
use Rattle.words.specs.Lists.{Words, first_that}
use Rattle.words.specs.Counted.{within}
use Rattle.ledger.specs.Runs.{Run, run, covered}
use Rattle.stored_forms.specs.Tree.{Form}
use Rattle.stored_forms.specs.Blocks.{Zeros}
use Rattle.free_tree.specs.Shapes.{ends_at, begins_at, link_to}
use Rattle.free_blocks.specs.Blocks.{Lies, Changed}

-- From m to m' the cells from x up to y, one of the free runs rs or none, were taken out, and read zero. The runs that
-- are left touch them nowhere, and every other run of rs is among them.
pub record Removed (F : Form) (m m' : Words) (rs rest : List Run) (x y root' : ℕ) : Type 0 where
  pub change : Changed F m m' rs rest root'
  pub order : x ≤ y
  pub cover : (u : ℕ) → covered rs u ≡ (covered rest u || within x y u)
  pub clear : (u : ℕ) → x ≤ suc u → u ≤ y → covered rest u ≡ false
  pub zeros : Zeros m' (F.cell * x) (F.cell * y)
  pub others : (z : ℕ) → z ≢ x → first_that (begins_at z) rest ≡ first_that (begins_at z) rs

-- one of the free runs is at cell c
abbrev pub LiesAt : Form → Words → ℕ → ℕ → Type 0
LiesAt F m root c = (xs : List Run) × (n : ℕ) × (ys : List Run) × Lies F m root (xs ++ run c n ∷ ys)

-- it is taken out
abbrev pub TakenOut : Form → Words → Words → ℕ → ℕ → ℕ → Type 0
TakenOut F m m' root c root' =
    (xs : List Run) (n : ℕ) (ys : List Run) → Lies F m root (xs ++ run c n ∷ ys)
    → Removed F m m' (xs ++ run c n ∷ ys) (xs ++ ys) c (c + n) root'

-- The free runs lie in the arena, cell u is not free, and k is the link to the run that passes, 0 for none.
pub record HeldCell (F : Form) (m : Words) (root u : ℕ) (p : Run → Bool) (k : ℕ) (rs : List Run) : Type 0 where
  pub lies : Lies F m root rs
  pub held : covered rs u ≡ false
  pub found : k ≡ link_to (first_that p rs)

-- the run from x up to lo is taken out: the one at the link k, which touches lo from below, or none
abbrev pub MergedBelow : Form → Words → Words → ℕ → ℕ → ℕ → ℕ → ℕ → Type 0
MergedBelow F m m' root k lo root' x =
    (rs : List Run) → HeldCell F m root lo (ends_at lo) k rs → (rest : List Run) × Removed F m m' rs rest x lo root'

-- the run from hi up to y is taken out: the one at the link k, which touches hi from above, or none
abbrev pub MergedAbove : Form → Words → Words → ℕ → ℕ → ℕ → ℕ → ℕ → Type 0
MergedAbove F m m' root k hi root' y =
    (rs : List Run) → HeldCell F m root (hi - 1) (begins_at hi) k rs
    → (rest : List Run) × Removed F m m' rs rest hi y root'
