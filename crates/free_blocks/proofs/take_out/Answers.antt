-- `free_blocks::take_out` meets its contract: `delete` takes the block out of the tree, and `clear_node` wipes what
-- was its node. Assumes nothing.
use native.Mathlib.Omega.{arith}
use Rattle.stored_forms.specs.Tree.{form_of}
use Rattle.free_tree.proofs.Numbers.{in_kept}
use Rattle.stored_forms.proofs.NodeLaws.{readable}
use Rattle.free_blocks.proofs.GiveLaws.{block_end, take_out}
use Rattle.free_blocks.proofs.take_out.Goals as goal

pub clear_node-requires : goal.clear_node-requires
clear_node-requires c =
    let first = (block_end (readable _) c.requires).0 in
    let inside = in_kept (form_of c.args.form).cell c.delete-rest.auto.arena first in
    omega arith

pub returns : goal.returns
returns c =
    take_out (readable _) c.delete-rest.ensures c.clear_node.ensures
