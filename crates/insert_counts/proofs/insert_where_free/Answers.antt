-- `insert_counts::insert_where_free` meets its contract. Assumes nothing.
use Rattle.insert_counts.proofs.MapLaws.{root_read, room, inserted}
use Rattle.insert_counts.proofs.insert_where_free.Goals as goal

pub returns-then-not-fits : goal.returns-then-not-fits
returns-then-not-fits c = root_read _ c.requires

pub insert-requires : goal.insert-requires
insert-requires c =
    let f = c.fits.ensures c.if-not-fits.false in
    (c.requires.tree, room _ c.requires f)

pub returns : goal.returns
returns c =
    let f = c.fits.ensures c.if-not-fits.false in
    inserted _ c.requires f c.insert.result c.mark.ensures c.insert.ensures
