-- `free_tree::touching` meets its contract. The loop's invariant: the blocks sought are in the tree at the link `l`, or
-- are the last two that were passed. The measure is the number of nodes at `l`. Assumes nothing.
use native.Mathlib.Omega.{arith}
use Rattle.stored_forms.proofs.NodeLaws.{readable}
use Rattle.tree_nodes.proofs.FormLaws.{few_links}
use Rattle.free_tree.proofs.StepLaws.{at_in, down_left, down_right}
use Rattle.free_tree.proofs.TouchSteps.{flank_start, flank_tree, flank_left, flank_right}
use Rattle.free_tree.proofs.TouchSteps.{flank_end}
use Rattle.free_tree.proofs.touching.Goals as goal

pub loop-l-init : goal.loop-l-init
loop-l-init c = flank_start (readable _)

pub left_of-l-requires : goal.left_of-l-requires
left_of-l-requires c =
    at_in (readable _) c.loop-l-test.true (flank_tree (readable _) c.loop-l.invariant c.requires.clear)

pub loop-l-smaller-then-lo-c : goal.loop-l-smaller-then-lo-c
loop-l-smaller-then-lo-c c =
    (down_left (readable _) c.loop-l-test.true c.left_of-l.ensures
    (flank_tree (readable _) c.loop-l.invariant c.requires.clear)).0

pub loop-l-preserved-then-lo-c : goal.loop-l-preserved-then-lo-c
loop-l-preserved-then-lo-c c =
    flank_left (readable _) c.loop-l.invariant c.loop-l-test.true c.left_of-l.ensures c.if-lo-c.true

pub loop-l-smaller : goal.loop-l-smaller
loop-l-smaller c =
    (down_right (readable _) c.loop-l-test.true c.right_of-l.ensures
    (flank_tree (readable _) c.loop-l.invariant c.requires.clear)).0

pub loop-l-preserved : goal.loop-l-preserved
loop-l-preserved c =
    flank_right (readable _) c.loop-l.invariant c.loop-l-test.true c.right_of-l.ensures c.if-lo-c.false

pub if_begins-requires : goal.if_begins-requires
if_begins-requires c =
    let (t, clear) = c.requires.clear in
    omega (arith, few_links c.args.form, c.requires.hi_bound, clear.tree.small)

pub returns : goal.returns
returns c =
    rw (c.if_ends.ensures, c.if_begins.ensures)
    (flank_end (readable _) c.loop-l.invariant c.loop-l-test.false)
