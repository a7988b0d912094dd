-- `free_tree::leftmost_fit` meets its contract. The loop's invariant: the leftmost fit is that of the tree at the
-- link `l` if its root fits, else the last link that fitted; and the way to both goes left alone. The measure is the
-- number of nodes at `l`. Assumes nothing.
use mathlib.Core.Logic.{◌≢◌}
use Rattle.stored_forms.specs.Tree.{form_of}
use Rattle.free_tree.proofs.StepLaws.{count}
use Rattle.free_tree.proofs.SeekSteps.{FitLeft}
use Rattle.free_tree.proofs.SeekSteps.{OnLeft}
use Rattle.free_tree.proofs.leftmost_fit.Given as goal

abbrev pub invariant-loop-l : goal.invariant-loop-l
invariant-loop-l l =
    FitLeft (form_of l.form) l.arena l.root l.cells l.l l.at × OnLeft (form_of l.form) l.arena l.root l.l l.at
    × (l.at ≢ 0 → OnLeft (form_of l.form) l.arena l.root l.at l.over)

abbrev pub decreases-loop-l : goal.decreases-loop-l
decreases-loop-l l = count (form_of l.form) l.arena l.l
