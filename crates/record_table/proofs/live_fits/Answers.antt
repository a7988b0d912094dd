-- `record_table::live_fits` meets its contract. Assumes nothing.
use mathlib.Core.Path.{sym}
use Rattle.record_table.proofs.CheckLaws.{low_unfit, fits_by_words}
use Rattle.record_table.proofs.live_fits.Goals as goal

pub returns-then-r-rule : goal.returns-then-r-rule
returns-then-r-rule c =
    let a = c.args in
    sym (low_unfit a.rule a.words a.next a.r c.if-r-rule.true)

pub returns : goal.returns
returns c =
    let a = c.args in
    rw (c.rest.ensures, c.is_party.ensures, c.begin_of-begin.ensures)
    (fits_by_words a.rule c.requires.0 a.words c.requires.1 a.next a.r)
