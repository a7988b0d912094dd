-- A further slot is copied.
use Rattle.std.proofs.Common.{◌∙◌, ap, arith, set}
use Rattle.ledger.specs.declared.Row.{Row}
use Rattle.ledger.specs.Records.{records_of, table_of}
use Rattle.old_tables.proofs.CopyLaws.{copying_next, copying_end}
use Rattle.old_tables.proofs.copy_rows.Goals as goal

pub loop-i-preserved : goal.loop-i-preserved
loop-i-preserved c =
    let l = c.loop-i in
    copying_next c.args.old.now l.table c.write_row.new.table l.i (omega arith)
    (c.write_row.ensures ∙ ap (λ (x : Row). table_of (set (records_of l.table) l.i x)) c.widened_at.ensures) l.invariant

pub returns : goal.returns
returns c = copying_end c.args.old.now c.loop-i.table c.loop-i.i (omega arith) c.loop-i.invariant
