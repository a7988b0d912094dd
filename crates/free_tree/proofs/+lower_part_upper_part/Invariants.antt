-- `free_tree::lower_part` and `free_tree::upper_part` meet their contracts. The measure is the number of nodes of the
-- tree. A loop's invariant: what the split of the tree at the link `s` leaves is the split of the whole; its measure is
-- the number of nodes there. Assumes nothing.
use Rattle.stored_forms.specs.Tree.{form_of}
use Rattle.free_tree.proofs.StepLaws.{count}
use Rattle.free_tree.proofs.PartSteps.{DownLeft, DownRight}
use Rattle.free_tree.proofs.+lower_part_upper_part.Given as goal

abbrev pub decreases-lower_part : goal.decreases-lower_part
decreases-lower_part l = count (form_of l.form) l.arena.now l.l

abbrev pub decreases-upper_part : goal.decreases-upper_part
decreases-upper_part l = count (form_of l.form) l.arena.now l.l

abbrev pub invariant-lower_part-loop-s : goal.invariant-lower_part-loop-s
invariant-lower_part-loop-s l = DownLeft (form_of l.form) l.arena l.l l.x l.c l.s

abbrev pub decreases-lower_part-loop-s : goal.decreases-lower_part-loop-s
decreases-lower_part-loop-s l = count (form_of l.form) l.arena l.s

abbrev pub invariant-upper_part-loop-s : goal.invariant-upper_part-loop-s
invariant-upper_part-loop-s l = DownRight (form_of l.form) l.arena l.l l.x l.c l.s

abbrev pub decreases-upper_part-loop-s : goal.decreases-upper_part-loop-s
decreases-upper_part-loop-s l = count (form_of l.form) l.arena l.s
