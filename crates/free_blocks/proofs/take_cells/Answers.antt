-- `free_blocks::take_cells` meets its contract: the block shrinks, or nothing of it is left. Assumes nothing.
use Rattle.stored_forms.specs.Tree.{form_of}
use Rattle.free_tree.proofs.Numbers.{in_kept}
use Rattle.stored_forms.proofs.NodeLaws.{readable}
use Rattle.free_blocks.proofs.TakeLaws.{take_in, take_longer, take_part, take_whole}
use Rattle.free_blocks.proofs.take_cells.Goals as goal

pub length_of-n-requires : goal.length_of-n-requires
length_of-n-requires c = (take_in (readable _) c.requires).0

pub shrink-whole-requires-clause-by_index : goal.shrink-whole-requires-clause-by_index
shrink-whole-requires-clause-by_index c = take_longer (readable _) c.length_of-n.ensures c.if-k-n.true c.requires

pub clear_node-requires : goal.clear_node-requires
clear_node-requires c =
    in_kept (form_of c.args.form).cell c.shrink-whole.auto.arena (take_in (readable _) c.requires).0

pub returns-then-k-n : goal.returns-then-k-n
returns-then-k-n c =
    take_part (readable _) c.length_of-n.ensures c.if-k-n.true c.shrink-whole.ensures c.clear_node.ensures

pub clear_node-requires-2 : goal.clear_node-requires-2
clear_node-requires-2 c =
    in_kept (form_of c.args.form).cell c.delete_at-rest.auto.arena (take_in (readable _) c.requires).0

pub returns : goal.returns
returns c =
    take_whole (readable _) c.length_of-n.ensures c.if-k-n.false c.delete_at-rest.ensures c.clear_node-2.ensures
