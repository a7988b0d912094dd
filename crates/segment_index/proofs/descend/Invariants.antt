-- `segment_index::descend` meets its contract: the lowest leaf that is large enough lies below i. Assumes nothing.
use Prim.Native.Nat.{◌-◌, ◌^◌}
use Rattle.segment_index.proofs.WayLaws.{Way}
use Rattle.segment_index.proofs.descend.Given as goal

abbrev pub invariant-loop : goal.invariant-loop
invariant-loop l = Way (2 ^ l.d) l.t l.n (l.d - l.counter) l.i
