-- The numbers of segments by their bits: a test computed over every number up to 256. Assumes nothing.
use Prim.Native.Nat.{ℕ, ◌<◌, ◌≤◌, ◌^◌}
use native.Mathlib.Omega.{arith}
use mathlib.Core.Bool.{Bool, true, false, not, ◌&&◌, ◌||◌, true≢false}
use mathlib.Core.Path.{◌≡◌, refl, sym}
use lib.Count.{ones, count_trailing_zeros}
use lib.Dec.{eqb, leb}
use Rattle.words.proofs.CountedLaws.{every_at}
use Rattle.words.proofs.Tests.{and_l, and_r, eqb_eq, le_of, false_of}
use Rattle.stored_forms.specs.Segments.{is_power, depth}
use Rattle.stored_forms.proofs.SegmentLaws.{power_range}

-- two tests give the same
same : Bool → Bool → Bool
same true b = b
same false b = not b

same_is : (a b : Bool) → same a b ≡ true → a ≡ b
unfolding same
same_is true b e = sym e
same_is false true e = e
same_is false false e = refl

holds_if : (a b : Bool) → a ≡ true → (not a || b) ≡ true → b ≡ true
holds_if true b p e = e
holds_if false b p e = absurd (true≢false (sym p))

-- s is a power of two where one of its bits is set, and the zeros below it are its logarithm
right : ℕ → Bool
unfolding same
right s =
    same (eqb (ones s) 1) (is_power s depth)
    && (not (is_power s depth) || (eqb s (2 ^ count_trailing_zeros 32 s) && leb (count_trailing_zeros 32 s) depth))

right_at_lem : (s : ℕ) → s ≤ 256 → right s ≡ true
unfolding right ones count_trailing_zeros
right_at_lem s h = every_at right 0 257 refl s (omega arith) (omega arith)

pub ones_power : (s : ℕ) → s ≤ 256 → eqb (ones s) 1 ≡ is_power s depth
unfolding right
ones_power s h =
    let agree = same (eqb (ones s) 1) (is_power s depth) in
    let log = not (is_power s depth) || (eqb s (2 ^ count_trailing_zeros 32 s) && leb (count_trailing_zeros 32 s) depth) in
    same_is (eqb (ones s) 1) (is_power s depth) (and_l agree log (right_at_lem s h))

pub power_log : (s : ℕ) → is_power s depth ≡ true → (s ≡ 2 ^ count_trailing_zeros 32 s) × (count_trailing_zeros 32 s ≤ depth)
unfolding right
power_log s e =
    let agree = same (eqb (ones s) 1) (is_power s depth) in
    let is = eqb s (2 ^ count_trailing_zeros 32 s) in
    let few = leb (count_trailing_zeros 32 s) depth in
    let both = holds_if (is_power s depth) (is && few) e
    (and_r agree (not (is_power s depth) || (is && few)) (right_at_lem s (power_range s depth e).1)) in
    (eqb_eq s (2 ^ count_trailing_zeros 32 s) (and_l is few both), le_of (count_trailing_zeros 32 s) depth (and_r is few both))
