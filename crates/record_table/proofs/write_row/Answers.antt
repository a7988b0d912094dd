-- `record_table::write_row` meets its contract: the four words of a slot are its record. Assumes nothing.
use native.Mathlib.Omega.{arith}
use mathlib.Core.Path.{◌∙◌, sym, ap}
use lib.ListN.{length-set}
use Rattle.ledger.specs.Records.{table_of}
use Rattle.ledger.proofs.RecordLaws.{put, records_put, table_records}
use Rattle.record_table.proofs.write_row.Goals as goal

pub bounds-table-i-2 : goal.bounds-table-i-2
bounds-table-i-2 c = simp length-set (omega arith)

pub bounds-table-i-3 : goal.bounds-table-i-3
bounds-table-i-3 c = simp length-set (omega arith)

pub bounds-table-i-4 : goal.bounds-table-i-4
bounds-table-i-4 c = simp length-set (omega arith)

pub returns : goal.returns
returns c =
    let a = c.args in
    let t = a.table.now in
    sym (table_records (put t a.i a.r) (simp length-set c.requires.record_words_len))
    ∙ ap table_of (records_put t a.i a.r c.requires.i_bound)
