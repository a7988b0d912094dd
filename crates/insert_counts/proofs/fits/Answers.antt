-- `insert_counts::fits` meets its contract. Assumes nothing.
use Rattle.std.proofs.Common.{sym, ◌∙◌}
use Rattle.insert_counts.proofs.MapLaws.{fits_all}
use Rattle.insert_counts.proofs.fits.Goals as goal

pub returns : goal.returns
returns c e =
    fits_all c.if-n-eq0.false c.if-map-x.false c.if-map-x-2.false (sym e ∙ c.is_zero_part.ensures)
