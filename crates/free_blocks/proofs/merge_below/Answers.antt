-- `free_blocks::merge_below` meets its contract: no block touches, or the one that does is taken out. Assumes nothing.
use Rattle.stored_forms.proofs.NodeLaws.{readable}
use Rattle.free_blocks.proofs.GiveLaws.{block_lies, below_none, below_found}
use Rattle.free_blocks.proofs.merge_below.Goals as goal

pub returns-then-block-eq0 : goal.returns-then-block-eq0
returns-then-block-eq0 c = below_none (readable _) c.if-block-eq0.true

pub take_out-root-requires : goal.take_out-root-requires
take_out-root-requires c = block_lies (readable _) c.if-block-eq0.false c.requires

pub returns : goal.returns
returns c =
    below_found (readable _) c.if-block-eq0.false c.take_out-root.ensures
