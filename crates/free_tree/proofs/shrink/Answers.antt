-- `free_tree::shrink` meets its contract: what is left of the block is settled between the sons of its node, and the
-- whole is attached to the node's father. Assumes nothing.
use native.Mathlib.Omega.{arith}
use Prim.Native.Nat.{◌-◌}
use Rattle.stored_forms.proofs.NodeLaws.{readable}
use Rattle.tree_nodes.proofs.FormLaws.{few_links}
use Rattle.free_tree.proofs.StepLaws.{at_in}
use Rattle.free_tree.proofs.PlaceSteps.{place_ready, place_attached}
use Rattle.free_tree.proofs.ShrinkSteps.{shrinks, root_tree, longer_place}
use Rattle.free_tree.proofs.ShrinkSteps.{shrink_between, shrink_here}
use Rattle.free_tree.proofs.shrink.Goals as goal

pub left_of-a-requires : goal.left_of-a-requires
left_of-a-requires c = let (z, t) = root_tree (readable _) (longer_place (readable _) c.requires.node_of.1 c.requires.by_index) in at_in (readable _) z t

pub right_of-b-requires : goal.right_of-b-requires
right_of-b-requires c =
    let (z, t) = root_tree (readable _) (longer_place (readable _) c.requires.node_of.1 c.requires.by_index) in at_in (readable _) z t

pub length_of-n-requires : goal.length_of-n-requires
length_of-n-requires c =
    let (z, t) = root_tree (readable _) (longer_place (readable _) c.requires.node_of.1 c.requires.by_index) in at_in (readable _) z t

pub overflow_add-rest : goal.overflow_add-rest
overflow_add-rest c =
    let (more, small, between) =
    shrink_between (readable _) c.left_of-a.ensures c.right_of-b.ensures c.length_of-n.ensures
    (longer_place (readable _) c.requires.node_of.1 c.requires.by_index) in
    omega (arith, few_links c.args.form)

pub overflow_sub-rest : goal.overflow_sub-rest
overflow_sub-rest c =
    let (more, small, between) =
    shrink_between (readable _) c.left_of-a.ensures c.right_of-b.ensures c.length_of-n.ensures
    (longer_place (readable _) c.requires.node_of.1 c.requires.by_index) in
    omega arith

pub heapify-q-requires : goal.heapify-q-requires
heapify-q-requires c =
    let (more, small, between) =
    shrink_between (readable _) c.left_of-a.ensures c.right_of-b.ensures c.length_of-n.ensures
    (longer_place (readable _) c.requires.node_of.1 c.requires.by_index) in
    between

pub attach-requires : goal.attach-requires
attach-requires c =
    let (t, n, p) = c.requires.by_index in
    let (inside, link, root) =
    place_ready (readable _) (shrinks (readable _) (c.args.at - 1) n c.args.k) c.requires.node_of.1
    (shrink_here (readable _) c.left_of-a.ensures c.right_of-b.ensures c.length_of-n.ensures
    c.heapify-q.ensures) (t, p) in
    record {
      over_bound = inside;
      q_bound = (link, root, omega arith);
    }

pub returns : goal.returns
returns c t n =
    rw c.link_of.ensures
    (place_attached (readable _) (shrinks (readable _) (c.args.at - 1) n c.args.k) c.requires.node_of.1
    (shrink_here (readable _) c.left_of-a.ensures c.right_of-b.ensures c.length_of-n.ensures
    c.heapify-q.ensures) c.attach.ensures.attached t)
