-- `free_tree::seek` meets its contract. The loop's invariant: the search is at the link `at`, below the link `over`. The
-- measure is the number of nodes there. Assumes nothing.
use Rattle.stored_forms.specs.Tree.{form_of}
use Rattle.free_tree.proofs.StepLaws.{count}
use Rattle.free_tree.proofs.PlaceSteps.{SeekingBy}
use Rattle.free_tree.proofs.seek.Given as goal

abbrev pub invariant-loop-at : goal.invariant-loop-at
invariant-loop-at g l = SeekingBy (form_of l.form) l.arena l.l (goal.F-post g l.stops) l.x l.at l.over

abbrev pub decreases-loop-at : goal.decreases-loop-at
decreases-loop-at g l = count (form_of l.form) l.arena l.at
