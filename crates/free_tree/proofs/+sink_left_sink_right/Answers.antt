-- `free_tree::sink_left` and `free_tree::sink_right` meet their contracts. The measure is the number of nodes of both
-- trees. A loop's invariant: what is made of the son's tree and the other makes the whole; its measure is the number of
-- nodes there. Assumes nothing.
use Rattle.std.proofs.Common.{ap, arith, refl}
use Rattle.stored_forms.proofs.NodeLaws.{readable}
use Rattle.tree_nodes.proofs.FormLaws.{few_links}
use Rattle.free_tree.specs.Readings.{top_number}
use Rattle.free_tree.proofs.StepLaws.{at_in}
use Rattle.free_tree.proofs.ChangeSteps.{between_ready}
use Rattle.free_tree.proofs.ShrinkSteps.{sink_left_start, sink_left_on, sink_right_start}
use Rattle.free_tree.proofs.ShrinkSteps.{sink_right_on, between_in, left_root, right_root, heapify_top}
use Rattle.free_tree.proofs.ShrinkSteps.{heapified_small}
use Rattle.free_tree.proofs.+sink_left_sink_right.Goals as goal

pub sink_left-overflow_sub-c : goal.sink_left-overflow_sub-c
sink_left-overflow_sub-c t c =
    let root = right_root (readable _) c.requires.on_top refl c.requires.between in
    omega arith

pub sink_left-left_of-s-requires : goal.sink_left-left_of-s-requires
sink_left-left_of-s-requires t c =
    let (ta, tb, p) = c.requires.between in
    at_in (readable _) (right_root (readable _) c.requires.on_top refl c.requires.between) (tb, p.right)

pub sink_left-loop-arena-init : goal.sink_left-loop-arena-init
sink_left-loop-arena-init t c =
    record {
      same = refl;
      sinks = sink_left_start (readable _) c.requires.on_top c.requires.between refl c.left_of-s.ensures;
    }

pub sink_left-put_first-requires : goal.sink_left-put_first-requires
sink_left-put_first-requires t c =
    let (ta, tb, p) = c.loop-arena.invariant.sinks.inner in
    let (inside, (links, zeros)) = between_ready (readable _) p in
    record { c_bound = inside; l_bound = links; zeros = zeros }

pub sink_left-overflow_add-block : goal.sink_left-overflow_add-block
sink_left-overflow_add-block t c =
    omega (arith, few_links c.args.form, (between_in (readable _) c.loop-arena.invariant.sinks.inner).1)

pub sink_left-set_left-requires-clause-l_bound : goal.sink_left-set_left-requires-clause-l_bound
sink_left-set_left-requires-clause-l_bound t c = (between_in (readable _) c.loop-arena.invariant.sinks.inner).1

pub sink_left-returns-in-Block : goal.sink_left-returns-in-Block
sink_left-returns-in-Block t c =
    rw c.loop-arena.invariant.same at
    (c.loop-arena.invariant.sinks.turns
    (heapify_top (readable _) c.on_top.ensures (ap top_number c.in-Block.is) c.put_first.ensures.node_put) c.set_left.ensures)

pub sink_left-set_left-requires-in-Low-clause-l_bound : goal.sink_left-set_left-requires-in-Low-clause-l_bound
sink_left-set_left-requires-in-Low-clause-l_bound t c = heapified_small (readable _) c.sink_right.ensures c.loop-arena.invariant.sinks.inner

pub sink_left-returns-in-Low : goal.sink_left-returns-in-Low
sink_left-returns-in-Low t c =
    rw c.loop-arena.invariant.same at (c.loop-arena.invariant.sinks.turns c.sink_right.ensures c.set_left-in-Low.ensures)

pub sink_left-overflow_sub-c-in-High : goal.sink_left-overflow_sub-c-in-High
sink_left-overflow_sub-c-in-High t c =
    let root = right_root (readable _) c.on_top.ensures (ap top_number c.in-High.is) c.loop-arena.invariant.sinks.inner in
    omega arith

pub sink_left-left_of-s-requires-in-High : goal.sink_left-left_of-s-requires-in-High
sink_left-left_of-s-requires-in-High t c =
    let inner = c.loop-arena.invariant.sinks.inner in
    let (ta, tb, p) = inner in
    at_in (readable _) (right_root (readable _) c.on_top.ensures (ap top_number c.in-High.is) inner) (tb, p.right)

pub sink_left-loop-arena-smaller : goal.sink_left-loop-arena-smaller
sink_left-loop-arena-smaller t c =
    let next = sink_left_start (readable _) c.on_top.ensures c.loop-arena.invariant.sinks.inner (ap top_number c.in-High.is) c.left_of-s-in-High.ensures in
    omega (arith, next.fewer)

pub sink_left-loop-arena-preserved : goal.sink_left-loop-arena-preserved
sink_left-loop-arena-preserved t c =
    let inv = c.loop-arena.invariant.sinks in
    record {
      same = c.loop-arena.invariant.same;
      sinks = sink_left_on (readable _) inv
          (sink_left_start (readable _) c.on_top.ensures inv.inner (ap top_number c.in-High.is) c.left_of-s-in-High.ensures);
    }

pub sink_right-overflow_sub-c : goal.sink_right-overflow_sub-c
sink_right-overflow_sub-c t c =
    let root = left_root (readable _) c.requires.on_top refl c.requires.between in
    omega arith

pub sink_right-right_of-s-requires : goal.sink_right-right_of-s-requires
sink_right-right_of-s-requires t c =
    let (ta, tb, p) = c.requires.between in
    at_in (readable _) (left_root (readable _) c.requires.on_top refl c.requires.between) (ta, p.left)

pub sink_right-loop-arena-init : goal.sink_right-loop-arena-init
sink_right-loop-arena-init t c =
    record {
      same = refl;
      sinks = sink_right_start (readable _) c.requires.on_top c.requires.between refl c.right_of-s.ensures;
    }

pub sink_right-put_first-requires : goal.sink_right-put_first-requires
sink_right-put_first-requires t c =
    let (ta, tb, p) = c.loop-arena.invariant.sinks.inner in
    let (inside, (links, zeros)) = between_ready (readable _) p in
    record { c_bound = inside; l_bound = links; zeros = zeros }

pub sink_right-overflow_add-block : goal.sink_right-overflow_add-block
sink_right-overflow_add-block t c =
    omega (arith, few_links c.args.form, (between_in (readable _) c.loop-arena.invariant.sinks.inner).1)

pub sink_right-set_right-requires-clause-r_bound : goal.sink_right-set_right-requires-clause-r_bound
sink_right-set_right-requires-clause-r_bound t c = (between_in (readable _) c.loop-arena.invariant.sinks.inner).1

pub sink_right-returns-in-Block : goal.sink_right-returns-in-Block
sink_right-returns-in-Block t c =
    rw c.loop-arena.invariant.same at
    (c.loop-arena.invariant.sinks.turns
    (heapify_top (readable _) c.on_top.ensures (ap top_number c.in-Block.is) c.put_first.ensures.node_put) c.set_right.ensures)

pub sink_right-set_right-requires-in-High-clause-r_bound : goal.sink_right-set_right-requires-in-High-clause-r_bound
sink_right-set_right-requires-in-High-clause-r_bound t c = heapified_small (readable _) c.sink_left.ensures c.loop-arena.invariant.sinks.inner

pub sink_right-returns-in-High : goal.sink_right-returns-in-High
sink_right-returns-in-High t c =
    rw c.loop-arena.invariant.same at (c.loop-arena.invariant.sinks.turns c.sink_left.ensures c.set_right-in-High.ensures)

pub sink_right-overflow_sub-c-in-Low : goal.sink_right-overflow_sub-c-in-Low
sink_right-overflow_sub-c-in-Low t c =
    let root = left_root (readable _) c.on_top.ensures (ap top_number c.in-Low.is) c.loop-arena.invariant.sinks.inner in
    omega arith

pub sink_right-right_of-s-requires-in-Low : goal.sink_right-right_of-s-requires-in-Low
sink_right-right_of-s-requires-in-Low t c =
    let inner = c.loop-arena.invariant.sinks.inner in
    let (ta, tb, p) = inner in
    at_in (readable _) (left_root (readable _) c.on_top.ensures (ap top_number c.in-Low.is) inner) (ta, p.left)

pub sink_right-loop-arena-smaller : goal.sink_right-loop-arena-smaller
sink_right-loop-arena-smaller t c =
    let next = sink_right_start (readable _) c.on_top.ensures c.loop-arena.invariant.sinks.inner (ap top_number c.in-Low.is) c.right_of-s-in-Low.ensures in
    omega (arith, next.fewer)

pub sink_right-loop-arena-preserved : goal.sink_right-loop-arena-preserved
sink_right-loop-arena-preserved t c =
    let inv = c.loop-arena.invariant.sinks in
    record {
      same = c.loop-arena.invariant.same;
      sinks = sink_right_on (readable _) inv
          (sink_right_start (readable _) c.on_top.ensures inv.inner (ap top_number c.in-Low.is) c.right_of-s-in-Low.ensures);
    }
