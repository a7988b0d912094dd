use mathlib.Core.Path.{◌∙◌}
use Rattle.words.proofs.ListLaws.{all_part}
use Rattle.words.proofs.is_zero_part.Goals as goal

pub returns : goal.returns
returns g c =
    let zero = g.T.Bits in
    c.is_zero.ensures ∙ all_part zero.is_zero zero.zero c.args.s.now c.args.lo c.args.hi c.requires.1
