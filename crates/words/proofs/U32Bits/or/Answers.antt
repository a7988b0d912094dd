use Rattle.words.proofs.Tests.{or_none}
use Rattle.words.proofs.U32Bits.or.Goals as goal

pub returns : goal.returns
returns c = or_none c.args.self c.args.other
