-- `old_tables::copy_table` meets its contract. Assumes nothing.
use mathlib.Core.Path.{◌∙◌, sym}
use Rattle.old_tables.specs.Copies.{copy_of}
use Rattle.old_tables.proofs.copy_table.Goals as goal

pub returns-then-not-copy_suits : goal.returns-then-not-copy_suits
unfolding copy_of
returns-then-not-copy_suits c =
    let s = c.copy_suits in
    sym (rw (sym s.ensures ∙ c.if-not-copy_suits.true))

pub returns : goal.returns
unfolding copy_of
returns c =
    let s = c.copy_suits in
    sym (rw (sym s.ensures ∙ c.if-not-copy_suits.false, sym c.copy_rows.ensures))
