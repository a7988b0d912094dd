-- The measure of `tree_check::tree_walk::walk`.
use Rattle.tree_check.proofs.tree_walk.+walk.Given as goal

abbrev pub decreases-walk : goal.decreases-walk
decreases-walk l = l.allowed
