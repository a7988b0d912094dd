-- `record_table::span_of` meets its contract. Assumes nothing.
use Rattle.ledger.specs.Units.{span}
use Rattle.record_table.proofs.span_of.Goals as goal

pub returns : goal.returns
unfolding span
returns c = c.whole_units.ensures
