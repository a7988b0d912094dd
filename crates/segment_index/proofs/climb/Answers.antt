-- `segment_index::climb` meets its contract: between the leaves below j and i all is 0. Assumes nothing.
use Rattle.segment_index.proofs.ClimbLaws.{up_on, up_end}
use Rattle.segment_index.proofs.climb.Goals as goal

pub loop-j-preserved : goal.loop-j-preserved
loop-j-preserved c =
    up_on _ _ _ c.requires c.loop-j.h c.loop-j.j c.loop-j.invariant c.loop-j-test.true

pub returns : goal.returns
returns c =
    up_end _ _ _ c.requires c.loop-j.h c.loop-j.j c.loop-j.invariant c.loop-j-test.false
