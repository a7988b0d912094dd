-- `free_tree::touching` meets its contract. The loop's invariant: the blocks sought are in the tree at the link `l`, or
-- are the last two that were passed. The measure is the number of nodes at `l`. Assumes nothing.
use Rattle.stored_forms.specs.Tree.{form_of}
use Rattle.free_tree.proofs.StepLaws.{count}
use Rattle.free_tree.proofs.TouchSteps.{Flanks}
use Rattle.free_tree.proofs.touching.Given as goal

abbrev pub invariant-loop-l : goal.invariant-loop-l
invariant-loop-l l = Flanks (form_of l.form) l.arena l.root l.lo l.hi l.l l.below l.above

abbrev pub decreases-loop-l : goal.decreases-loop-l
decreases-loop-l l = count (form_of l.form) l.arena l.l
