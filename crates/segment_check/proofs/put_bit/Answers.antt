-- `segment_check::put_bit` meets its contract. Assumes nothing.
use Rattle.segment_check.proofs.BitLaws.{bit_set}
use Rattle.segment_check.proofs.put_bit.Goals as goal

pub returns : goal.returns
returns c =
    λ j. bit_set c.args.map.now c.args.k j c.requires
