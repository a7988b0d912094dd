-- `segment_index::last_under` meets its contract: the last leaf that is not 0 lies below j. Assumes nothing.
use Prim.Native.Nat.{◌+◌, ◌-◌}
use native.Mathlib.Omega.{arith}
use mathlib.Core.Path.{◌≡◌}
use Rattle.segment_index.proofs.ClimbLaws.{down_inside, go_right_lem, go_left_lem, down_end}
use Rattle.segment_index.proofs.last_under.Goals as goal
use Rattle.segment_index.proofs.last_under.Goals.{then-t-j-eq0, else-t-j-eq0}

-- the sons of a word that is no leaf
pub overflow_mul-j : goal.overflow_mul-j
overflow_mul-j c = omega (arith, down_inside c.requires.0 _ _ _ _ _ (omega arith) (c.loop.invariant c.requires.0 c.requires.1))

pub overflow_add-j : goal.overflow_add-j
overflow_add-j c = omega (arith, down_inside c.requires.0 _ _ _ _ _ (omega arith) (c.loop.invariant c.requires.0 c.requires.1))

pub offset_bounds-t-j : goal.offset_bounds-t-j
offset_bounds-t-j c = omega (arith, down_inside c.requires.0 _ _ _ _ _ (omega arith) (c.loop.invariant c.requires.0 c.requires.1))

pub bounds-t-j : goal.bounds-t-j
bounds-t-j c = down_inside c.requires.0 _ _ _ _ _ (omega arith) (c.loop.invariant c.requires.0 c.requires.1)

pub loop-preserved : goal.loop-preserved
loop-preserved c =
    let h = c.args.n.height in
    let e : h - c.loop.counter - 1 ≡ h - (c.loop.counter + 1) = omega arith in
    λ s u.
    elim c.if-t-j-eq0.branch [
      | then-t-j-eq0 w ↦
          rw e at
          (go_left_lem s _ _ _ (h - c.loop.counter) c.loop.j _ (omega arith) (c.loop.invariant s u) w.if-t-j-eq0.true
          w.j-is)
      | else-t-j-eq0 w ↦
          rw e at
          (go_right_lem s _ _ _ (h - c.loop.counter) c.loop.j _ (omega arith) (c.loop.invariant s u) w.if-t-j-eq0.false
          w.j-is)
    ]

pub returns : goal.returns
returns c =
    let z : c.args.n.height - c.loop.counter ≡ 0 = omega arith in
    λ s u. down_end s c.args.t.now _ _ c.loop.j (rw z at (c.loop.invariant s u))
