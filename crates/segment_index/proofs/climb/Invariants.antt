-- `segment_index::climb` meets its contract: between the leaves below j and i all is 0. Assumes nothing.
use Rattle.segment_index.proofs.ClimbLaws.{Up}
use Rattle.segment_index.proofs.climb.Given as goal

abbrev pub invariant-loop-j : goal.invariant-loop-j
invariant-loop-j l = Up l.d l.t l.i l.h l.j

abbrev pub decreases-loop-j : goal.decreases-loop-j
decreases-loop-j l = l.j
