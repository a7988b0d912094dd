-- `segment_index::depth_of` meets its contract. Assumes nothing.
use Rattle.segment_index.proofs.PowerLaws.{power_log}
use Rattle.segment_index.proofs.depth_of.Goals as goal

pub returns : goal.returns
returns c = power_log c.args.s c.requires
