use Rattle.words.proofs.PlaceLaws.{wiped_put}
use Rattle.words.proofs.fill_part.Goals as goal

pub returns : goal.returns
returns g c = wiped_put c.args.x c.args.lo c.args.hi c.args.s.now c.fill.new.s c.requires.0 c.requires.1 c.fill.ensures
