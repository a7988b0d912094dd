-- `record_table::first_unit` meets its contract. Assumes nothing.
use mathlib.Core.Path.{◌∙◌}
use Rattle.ledger.specs.Units.{first}
use Rattle.record_table.proofs.first_unit.Goals as goal

pub returns : goal.returns
unfolding first
returns c = c.whole_units.ensures ∙ rw c.begin_of.ensures
