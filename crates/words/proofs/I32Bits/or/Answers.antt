use Rattle.words.proofs.SignedLaws.{or_zero}
use Rattle.words.proofs.I32Bits.or.Goals as goal

pub returns : goal.returns
returns c = or_zero c.args.self c.args.other c.ranges.self c.ranges.other
