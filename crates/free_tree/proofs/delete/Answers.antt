-- `free_tree::delete` meets its contract: there is no block at the cell, or it is taken out of its place: by its one son,
-- or by the join of both. Assumes nothing.
use native.Mathlib.Omega.{arith}
use Rattle.stored_forms.proofs.NodeLaws.{readable}
use Rattle.free_tree.proofs.StepLaws.{at_in}
use Rattle.free_tree.proofs.JoinSteps.{both_none}
use Rattle.free_tree.proofs.PlaceSteps.{place_at, place_kept, place_ready, place_attached}
use Rattle.free_tree.proofs.ChangeSteps.{deletes, delete_none, delete_here, placed_node, node_deleted}
use Rattle.free_tree.proofs.delete.Goals as goal

pub returns-then-at-eq0 : goal.returns-then-at-eq0
returns-then-at-eq0 c =
    let x = c.args.x in
    place_kept (readable _) (deletes (readable _) x) c.place_of-at.ensures
    (delete_none (readable _) x c.if-at-eq0.true)

pub left_of-a-requires : goal.left_of-a-requires
left_of-a-requires c =
    at_in (readable _) c.if-at-eq0.false (place_at (readable _) c.place_of-at.ensures c.requires)

pub right_of-b-requires : goal.right_of-b-requires
right_of-b-requires c =
    at_in (readable _) c.if-at-eq0.false (place_at (readable _) c.place_of-at.ensures c.requires)

pub attach-requires : goal.attach-requires
attach-requires c =
    let x = c.args.x in
    let made =
    delete_here (readable _) c.if-at-eq0.false c.left_of-a.ensures c.right_of-b.ensures x
    (both_none (readable _) c.if-a-b.true) in
    let (inside, link, root) = place_ready (readable _) (deletes (readable _) x) c.place_of-at.ensures made c.requires in
    record {
      over_bound = inside;
      q_bound = (link, root, omega arith);
    }

pub returns-then-a-b : goal.returns-then-a-b
returns-then-a-b c =
    let x = c.args.x in
    rw c.link_of.ensures
    (place_attached (readable _) (deletes (readable _) x) c.place_of-at.ensures
    (delete_here (readable _) c.if-at-eq0.false c.left_of-a.ensures c.right_of-b.ensures x
    (both_none (readable _) c.if-a-b.true)) c.attach.ensures.attached)

pub delete_at-requires-clause-node_of : goal.delete_at-requires-clause-node_of
delete_at-requires-clause-node_of c = placed_node (readable _) c.place_of-at.ensures c.if-at-eq0.false c.requires

pub returns : goal.returns
returns c =
    node_deleted (readable _) c.place_of-at.ensures c.if-at-eq0.false c.delete_at.ensures
