-- `segment_index::is_segments` meets its contract. Assumes nothing.
use Rattle.segment_index.proofs.PowerLaws.{ones_power}
use Rattle.segment_index.proofs.is_segments.Goals as goal

pub returns : goal.returns
returns c = ones_power c.args.s c.if-s-gt256.false
