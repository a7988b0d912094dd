-- `free_tree::delete_at` meets its contract: the sons of the node are joined and attached to its father.
-- Assumes nothing.
use native.Mathlib.Omega.{arith}
use Prim.Native.Nat.{◌-◌}
use Rattle.stored_forms.proofs.NodeLaws.{readable}
use Rattle.free_tree.proofs.StepLaws.{at_in}
use Rattle.free_tree.proofs.PlaceSteps.{place_at, place_ready, place_attached}
use Rattle.free_tree.proofs.ChangeSteps.{deletes, sons_beside, delete_here}
use Rattle.free_tree.proofs.delete_at.Goals as goal

pub left_of-a-requires : goal.left_of-a-requires
left_of-a-requires c =
    at_in (readable _) c.requires.node_of.0 (place_at (readable _) c.requires.node_of.1 c.requires.at)

pub right_of-b-requires : goal.right_of-b-requires
right_of-b-requires c =
    at_in (readable _) c.requires.node_of.0 (place_at (readable _) c.requires.node_of.1 c.requires.at)

pub join_trees-q-requires : goal.join_trees-q-requires
join_trees-q-requires c =
    sons_beside (readable _) c.requires.node_of.0 c.left_of-a.ensures c.right_of-b.ensures
    (place_at (readable _) c.requires.node_of.1 c.requires.at)

pub attach-requires : goal.attach-requires
attach-requires c =
    let (z, placed) = c.requires.node_of in
    let x = c.args.at - 1 in
    let made = delete_here (readable _) z c.left_of-a.ensures c.right_of-b.ensures x c.join_trees-q.ensures in
    let (inside, link, root) = place_ready (readable _) (deletes (readable _) x) placed made c.requires.at in
    record {
      over_bound = inside;
      q_bound = (link, root, omega arith);
    }

pub returns : goal.returns
returns c =
    let (z, placed) = c.requires.node_of in
    let x = c.args.at - 1 in
    rw c.link_of.ensures
    (place_attached (readable _) (deletes (readable _) x) placed
    (delete_here (readable _) z c.left_of-a.ensures c.right_of-b.ensures x c.join_trees-q.ensures)
    c.attach.ensures.attached)
