-- `record_table::is_party` meets its contract. Assumes nothing.
use mathlib.Core.Path.{refl}
use Rattle.ledger.specs.Records.{is_party}
use Rattle.record_table.proofs.is_party.Goals as goal

pub returns : goal.returns
unfolding is_party
returns c = refl
