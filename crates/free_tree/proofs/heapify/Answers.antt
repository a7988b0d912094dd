-- `free_tree::heapify` meets its contract: the block stays on top, or goes on down the inner side of the heavier root.
-- Assumes nothing.
use Rattle.std.proofs.Common.{ap, arith}
use Rattle.stored_forms.proofs.NodeLaws.{readable}
use Rattle.tree_nodes.proofs.FormLaws.{few_links}
use Rattle.free_tree.specs.Readings.{top_number}
use Rattle.free_tree.proofs.ChangeSteps.{between_ready}
use Rattle.free_tree.proofs.ShrinkSteps.{between_in, heapify_top}
use Rattle.free_tree.proofs.heapify.Goals as goal

pub put_first-requires : goal.put_first-requires
put_first-requires c =
    let (ta, tb, p) = c.requires in
    let (inside, (links, zeros)) = between_ready (readable _) p in
    record { c_bound = inside; l_bound = links; zeros = zeros }

pub overflow_add-result : goal.overflow_add-result
overflow_add-result c =
    omega (arith, few_links c.args.form, (between_in (readable _) c.requires).1)

pub returns-in-Block : goal.returns-in-Block
returns-in-Block c =
    heapify_top (readable _) c.on_top.ensures (ap top_number c.in-Block.is) c.put_first.ensures.node_put
