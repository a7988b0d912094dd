-- `segment_check::nodes_right` meets its contract: the flag and the words from i on make the answer. Assumes nothing.
use Prim.Native.Nat.{◌-◌}
use mathlib.Core.Bool.{◌&&◌}
use mathlib.Core.Path.{◌≡◌}
use Rattle.words.specs.Counted.{every}
use Rattle.segment_check.specs.Right.{node_right}
use Rattle.segment_check.proofs.nodes_right.Given as goal

abbrev pub invariant-loop-i : goal.invariant-loop-i
invariant-loop-i l = (l.ok && every (node_right l.t) l.i (l.s - l.i)) ≡ every (node_right l.t) 1 (l.s - 1)
