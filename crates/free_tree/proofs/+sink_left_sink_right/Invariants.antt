-- `free_tree::sink_left` and `free_tree::sink_right` meet their contracts. The measure is the number of nodes of both
-- trees. A loop's invariant: what is made of the son's tree and the other makes the whole; its measure is the number of
-- nodes there. Assumes nothing.
use Rattle.std.proofs.Common.{◌≡◌, ◌+◌}
use Rattle.ledger.specs.Runs.{run}
use Rattle.stored_forms.specs.Tree.{form_of}
use Rattle.free_tree.proofs.StepLaws.{count}
use Rattle.free_tree.proofs.ShrinkSteps.{SinkLeft, SinkRight}
use Rattle.free_tree.proofs.+sink_left_sink_right.Given as goal

abbrev pub decreases-sink_left : goal.decreases-sink_left
decreases-sink_left l =
    let F = form_of l.form in
    count F l.arena.now l.lo + count F l.arena.now l.hi

abbrev pub decreases-sink_right : goal.decreases-sink_right
decreases-sink_right l =
    let F = form_of l.form in
    count F l.arena.now l.lo + count F l.arena.now l.hi

abbrev pub invariant-sink_left-loop-arena : goal.invariant-sink_left-loop-arena
invariant-sink_left-loop-arena l =
    record { same : l.arena ≡ l.initial.arena; sinks : SinkLeft (form_of l.form) l.arena l.lo l.hi (run l.block.start l.block.size) l.c l.s }

abbrev pub decreases-sink_left-loop-arena : goal.decreases-sink_left-loop-arena
decreases-sink_left-loop-arena l = count (form_of l.form) l.arena l.s

abbrev pub invariant-sink_right-loop-arena : goal.invariant-sink_right-loop-arena
invariant-sink_right-loop-arena l =
    record { same : l.arena ≡ l.initial.arena; sinks : SinkRight (form_of l.form) l.arena l.lo l.hi (run l.block.start l.block.size) l.c l.s }

abbrev pub decreases-sink_right-loop-arena : goal.decreases-sink_right-loop-arena
decreases-sink_right-loop-arena l = count (form_of l.form) l.arena l.s
