-- A copy of an old table: its number, and the new table. 02, ticket 6: "one call copies an old table into a new one of as
-- many records (else 8) as party 1, three zeros becoming four zeros". It is the machine's call `copy` (`copy_step` in
-- proofs/CopyLaws). Assumes nothing.
use Rattle.std.specs.Prelude.{ℕ, cond}
use Rattle.words.specs.Lists.{Words}
use Rattle.ledger.specs.Records.{table_of}
use Rattle.calls.specs.Step.{copied, copy_suits}

unfoldable pub copy_of : Words → Words → ℕ × Words
copy_of old table = cond (copy_suits old table) (0, table_of (copied old)) (8, table)
