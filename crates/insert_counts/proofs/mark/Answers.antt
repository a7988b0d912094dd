-- `insert_counts::mark` meets its contract. Assumes nothing.
use Rattle.insert_counts.proofs.MapLaws.{marked}
use Rattle.insert_counts.proofs.mark.Goals as goal

pub returns : goal.returns
returns c = marked c.requires.1 c.fill_part.ensures
