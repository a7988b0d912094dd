-- `free_tree::leftmost_fit` meets its contract. The loop's invariant: the leftmost fit is that of the tree at the
-- link `l` if its root fits, else the last link that fitted; and the way to both goes left alone. The measure is the
-- number of nodes at `l`. Assumes nothing.
use mathlib.Core.Path.{refl}
use Rattle.stored_forms.proofs.NodeLaws.{readable}
use Rattle.free_tree.proofs.StepLaws.{at_in, down_left}
use Rattle.free_tree.proofs.SeekSteps.{fit_start, fit_tree, fit_stop, fit_next, fit_end}
use Rattle.free_tree.proofs.SeekSteps.{left_start, left_next, left_node}
use Rattle.free_tree.proofs.leftmost_fit.Goals as goal

pub loop-l-init : goal.loop-l-init
loop-l-init c = (fit_start (readable _) c.args.cells, left_start (readable _), λ z. absurd (z refl))

pub length_of-requires : goal.length_of-requires
length_of-requires c =
    at_in (readable _) c.loop-l-test.true (fit_tree (readable _) c.args.cells c.loop-l.invariant.0 c.requires)

pub returns-then-length_of-cells : goal.returns-then-length_of-cells
returns-then-length_of-cells c =
    let inv = c.loop-l.invariant in record {
      leftmost_found = fit_stop (readable _) c.loop-l-test.true c.length_of.ensures inv.0 c.if-length_of-cells.true;
      node_of = λ z. left_node (readable _) z (inv.2 z);
    }

pub left_of-l-requires : goal.left_of-l-requires
left_of-l-requires c =
    at_in (readable _) c.loop-l-test.true (fit_tree (readable _) c.args.cells c.loop-l.invariant.0 c.requires)

pub loop-l-smaller : goal.loop-l-smaller
loop-l-smaller c =
    (down_left (readable _) c.loop-l-test.true c.left_of-l.ensures
    (fit_tree (readable _) c.args.cells c.loop-l.invariant.0 c.requires)).0

pub loop-l-preserved : goal.loop-l-preserved
loop-l-preserved c =
    let inv = c.loop-l.invariant in
    let z = c.loop-l-test.true in (
      fit_next (readable _) z c.length_of.ensures inv.0 c.left_of-l.ensures c.if-length_of-cells.false,
      left_next (readable _) z inv.1 c.left_of-l.ensures,
      λ w. inv.1,
    )

pub returns : goal.returns
returns c =
    let inv = c.loop-l.invariant in
    record {
      leftmost_found = fit_end (readable _) c.args.cells c.loop-l-test.false inv.0;
      node_of = λ z. left_node (readable _) z (inv.2 z);
    }
