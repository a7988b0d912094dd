-- `insert_counts::opened` meets its contract. Assumes nothing.
use Rattle.std.proofs.Common.{rules}
use Rattle.insert_counts.proofs.MapLaws.{wiped_map}
use Rattle.insert_counts.proofs.opened.Goals as goal

pub returns : goal.returns
returns c = search (rules, wiped_map)
