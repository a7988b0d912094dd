-- `segment_index::last_before` meets its contract. Assumes nothing.
use Rattle.segment_index.proofs.ClimbLaws.{last_is}
use Rattle.segment_index.proofs.last_before.Goals as goal

pub returns : goal.returns
returns c =
    let a = c.args in
    let above = c.climb-n.ensures in
    last_is _ a.t.now a.i _ _ _ above (c.last_under.ensures _ above.under)
