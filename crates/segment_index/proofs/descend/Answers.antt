-- `segment_index::descend` meets its contract: the lowest leaf that is large enough lies below i. Assumes nothing.
use Prim.Native.Nat.{ℕ, suc, ◌+◌, ◌-◌, ◌^◌, ◌<◌}
use native.Mathlib.Omega.{arith}
use mathlib.Core.Path.{subst, ◌≡◌, sym}
use Rattle.words.specs.Lists.{Words}
use Rattle.segment_index.proofs.WayLaws.{Way, way_left, way_right, way_end, inner}
use Rattle.segment_index.proofs.descend.Goals as goal
use Rattle.segment_index.proofs.descend.Goals.{then-t-i, else-t-i}

-- in a turn: the way one level further down, and the word is no leaf
turn : (d : ℕ) (t : Words) (n k i : ℕ) → k < d → Way (2 ^ d) t n (d - k) i → Way (2 ^ d) t n (suc (d - (k + 1))) i
turn d t n k i h w =
    let e : d - k ≡ suc (d - (k + 1)) = omega arith in
    subst (λ (m : ℕ). Way (2 ^ d) t n m i) e w

pub bounds-t-i : goal.bounds-t-i
bounds-t-i c =
    omega (arith, inner _ _ _ (turn _ _ _ _ _ c.loop-test.true c.loop.invariant).upto, c.requires.1.long)

pub loop-preserved : goal.loop-preserved
loop-preserved c =
    let a = c.args in
    let h = c.requires.1 in
    let k = a.d - (c.loop.counter + 1) in
    let on = Way (2 ^ a.d) a.t.now a.n k in
    let here = turn a.d a.t.now a.n c.loop.counter c.loop.i c.loop-test.true c.loop.invariant in
    elim c.if-t-i.branch [
      | then-t-i w ↦ subst on (sym w.i-is) (way_right (2 ^ a.d) a.t.now h a.n k c.loop.i here w.if-t-i.true)
      | else-t-i w ↦ subst on (sym w.i-is) (way_left (2 ^ a.d) a.t.now h a.n k c.loop.i here w.if-t-i.false)
    ]

pub returns : goal.returns
returns c =
    let a = c.args in
    let e : a.d - c.loop.counter ≡ 0 = omega arith in
    way_end (2 ^ a.d) a.t.now a.n c.loop.i
    (subst (λ (k : ℕ). Way (2 ^ a.d) a.t.now a.n k c.loop.i) e c.loop.invariant)
