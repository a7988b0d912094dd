-- `free_tree::over_left` and `free_tree::over_right` meet their contracts. The measure is the number of nodes of both
-- trees: each call leaves the root that stays on top behind. Assumes nothing.
use Prim.Native.Nat.{◌+◌}
use Rattle.stored_forms.specs.Tree.{form_of}
use Rattle.free_tree.proofs.StepLaws.{count}
use Rattle.free_tree.proofs.+over_left_over_right.Given as goal

abbrev pub decreases-over_left : goal.decreases-over_left
decreases-over_left l =
    let F = form_of l.form in
    count F l.arena.now l.a + count F l.arena.now l.b

abbrev pub decreases-over_right : goal.decreases-over_right
decreases-over_right l =
    let F = form_of l.form in
    count F l.arena.now l.a + count F l.arena.now l.b
