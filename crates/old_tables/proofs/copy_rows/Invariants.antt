-- The slots before i are copied.
use Rattle.old_tables.proofs.CopyLaws.{Copying}
use Rattle.old_tables.proofs.copy_rows.Given as goal

abbrev pub invariant-loop-i : goal.invariant-loop-i
invariant-loop-i l = Copying l.old l.table l.i
