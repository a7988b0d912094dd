-- `segment_check::nodes_right` meets its contract: the flag and the words from i on make the answer. Assumes nothing.
use native.Mathlib.Omega.{arith}
use mathlib.Core.Bool.{◌&&◌}
use mathlib.Core.Path.{ap}
use Prim.Native.Nat.{◌-◌}
use Rattle.words.specs.Counted.{every}
use Rattle.words.proofs.CountedLaws.{flag_next}
use Rattle.segment_check.specs.Right.{node_right}
use Rattle.segment_check.proofs.nodes_right.Goals as goal

pub loop-i-preserved : goal.loop-i-preserved
loop-i-preserved c =
    let l = c.loop-i in
    let a = c.args in
    let turn = ap (λ b. l.ok && b) c.node_right-ok.ensures in
    flag_next (every (node_right a.t.now) 1 (a.s - 1)) l.ok (node_right a.t.now) a.s l.i l.invariant
    _ (omega arith) turn
