-- Tests of numbers, from one reading to another. Nothing here is about trees. Assumes nothing.
use Prim.Native.Nat.{ℕ, ◌-◌, ◌/◌, ◌≤◌, ◌<◌}
use native.Mathlib.Omega.{arith}
use mathlib.Core.Path.{◌≡◌}
use mathlib.Core.Logic.{◌≢◌}
use mathlib.Core.Bool.{true, false, not, ◌&&◌}
use lib.Dec.{eqb, leb}
use Rattle.words.proofs.Tests.{and_l, and_r, not_true, eqb_ne, eqb_false, le_of, not_le}

pub read_le : {x y u v : ℕ} → x ≡ u → y ≡ v → x ≤ y → u ≤ v
read_le p q h = omega arith

pub read_lt : {x y u v : ℕ} → x ≡ u → y ≡ v → x < y → u < v
read_lt p q h = omega arith

pub falls_below : {x n t : ℕ} → n ≡ t → x < n → x < t
falls_below p h = omega arith

-- what lies below a part of a length does so for an equal length
pub in_kept : (d : ℕ) {n n' c : ℕ} → n' ≡ n → c < n / d → c < n' / d
in_kept d e h = rw e h

-- the cell of a link s that is not 0 is below x where the link is at most x
pub cell_below : {s x : ℕ} → s ≢ 0 → s ≤ x → s - 1 < x
cell_below z h = omega arith

-- the same, read off the one test of both, where it holds and where it fails
pub some_up_to : {s x : ℕ} → (not (eqb s 0) && leb s x) ≡ true → (s ≢ 0) × (s - 1 < x)
some_up_to {s} {x} e =
    let some = eqb_false s 0 (not_true (eqb s 0) (and_l (not (eqb s 0)) (leb s x) e)) in
    (some, cell_below some (le_of s x (and_r (not (eqb s 0)) (leb s x) e)))

pub some_past : {s x : ℕ} → s ≢ 0 → (not (eqb s 0) && leb s x) ≡ false → x ≤ s - 1
some_past {s} {x} z e = omega (arith, not_le s x (rw (eqb_ne s 0 z) at e))
