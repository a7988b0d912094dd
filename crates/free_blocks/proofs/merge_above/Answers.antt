-- `free_blocks::merge_above` meets its contract: no block touches, or the one that does is taken out. Assumes nothing.
use native.Mathlib.Omega.{arith}
use Rattle.stored_forms.proofs.NodeLaws.{readable}
use Rattle.tree_nodes.proofs.FormLaws.{few_links}
use Rattle.free_blocks.proofs.GiveLaws.{block_lies, block_end, above_none, above_found}
use Rattle.free_blocks.proofs.merge_above.Goals as goal

pub returns-then-block-eq0 : goal.returns-then-block-eq0
returns-then-block-eq0 c = above_none (readable _) c.if-block-eq0.true

pub length_of-n-requires : goal.length_of-n-requires
length_of-n-requires c =
    (block_end (readable _) (block_lies (readable _) c.if-block-eq0.false c.requires)).0

pub take_out-root-requires : goal.take_out-root-requires
take_out-root-requires c =
    block_lies (readable _) c.if-block-eq0.false c.requires

pub overflow_add-result : goal.overflow_add-result
overflow_add-result c =
    let end = (block_end (readable _) (block_lies (readable _) c.if-block-eq0.false c.requires)).1 in
    let len = c.length_of-n.ensures in
    omega (arith, few_links c.args.form)

pub returns : goal.returns
returns c =
    above_found (readable _) c.if-block-eq0.false c.length_of-n.ensures c.take_out-root.ensures
