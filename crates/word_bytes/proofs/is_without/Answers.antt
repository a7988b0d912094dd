-- `word_bytes::is_without` meets its contract. Assumes nothing.
use mathlib.Core.Path.{ap, ◌∙◌}
use mathlib.Core.Bool.{not}
use Rattle.word_bytes.proofs.LittleLaws.{without_lem}
use Rattle.word_bytes.proofs.is_without.Goals as goal

pub returns : goal.returns
returns c = ap not c.contains.ensures.value ∙ without_lem c.args.x c.args.s.now
