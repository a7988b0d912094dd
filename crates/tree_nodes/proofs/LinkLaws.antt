-- Two links that differ, or do not. Assumes nothing.
use Prim.Native.Nat.{ℕ, ◌+◌, ◌≤◌}
use native.Mathlib.Omega.{arith}
use native.Mathlib.Decide.{ℕ_discrete}
use mathlib.Core.Path.{◌≡◌, sym, ap, ◌∙◌}
use mathlib.Core.Logic.{◌≢◌}
use Rattle.words.proofs.Tests.{eqb_same, eqb_ne}
use Rattle.tree_nodes.specs.Nodes.{differ}

pub same_link : {x y : ℕ} → x ≡ y → differ x y ≡ 0
same_link {x} e = ap (differ x) (sym e) ∙ rw (eqb_same x)

pub other_link : {x y : ℕ} → x ≢ y → differ x y ≡ 1
other_link {x} {y} h = rw (eqb_ne x y h)

-- a link counts at most once, and not at all only if it is the same
differ_is : (x y : ℕ) → (differ x y ≤ 1) × (differ x y ≡ 0 → x ≡ y)
differ_is x y = go (ℕ_discrete x y)
  where
    go : Dec (x ≡ y) → (differ x y ≤ 1) × (differ x y ≡ 0 → x ≡ y)
    go (yes e) = (rw (same_link e) (omega arith), λ z. e)
    go (no h) = (rw (other_link h) (omega arith), λ z. absurd (omega (arith, other_link h)))

pub differ_few : (x y : ℕ) → differ x y ≤ 1
differ_few x y = (differ_is x y).0

pub both_few : (l r : ℕ) → differ 0 l + differ 0 r ≤ 2
both_few l r = omega (arith, differ_few 0 l, differ_few 0 r)

-- where neither link differs from 0, both are 0
pub both_none : {l r : ℕ} → 0 ≡ differ 0 l + differ 0 r → (l ≡ 0) × (r ≡ 0)
both_none {l} {r} e = (sym ((differ_is 0 l).1 (omega arith)), sym ((differ_is 0 r).1 (omega arith)))
