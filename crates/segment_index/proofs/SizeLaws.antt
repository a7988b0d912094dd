-- Segments: how many there are, how long they are, and which one a word lies in. Assumes nothing.
use Prim.Native.Nat.{ℕ, ◌+◌, ◌-◌, ◌*◌, ◌/◌, ◌%◌, ◌^◌, ◌<◌, ◌≤◌}
use native.Mathlib.Decide.{dec_lt}
use native.Mathlib.Nat.{div-eq_of_lt-le, lt-div-mul-add, div-mul-le_self, div-le_self, mul-le-mul_right, mul_comm}
use native.Mathlib.Nat.{add-mul, one-mul, zero-mul}
use native.Mathlib.Omega.{arith}
use mathlib.Core.Logic.{◌≢◌}
use mathlib.Core.Path.{◌≡◌, sym, ◌∙◌}
use lib.Dec.{lit<}
use lib.Pow.{shl_exact}
use Rattle.stored_forms.specs.Segments.{segment_size}
use Rattle.stored_forms.proofs.SegmentLaws.{segment_size_lem}

-- 1 moved to a place below 64, as a machine computes it
pub one_moved : (b : ℕ) → b < 64 → 1 * 2 ^ b % 2 ^ 64 ≡ 2 ^ b
one_moved b h = shl_exact {a = 1} 1 b 64 (lit< tt) (omega arith) ∙ one-mul (2 ^ b)

pub size_pos : (W S : ℕ) → 0 < S → 0 < W → 0 < segment_size W S
size_pos W S h i = go (dec_lt 0 (segment_size W S))
  where
    go : Dec (0 < segment_size W S) → 0 < segment_size W S
    go (yes q) = q
    go (no q) =
        let z : segment_size W S ≡ 0 = omega arith in
        let e : S * segment_size W S ≡ 0 = rw z (mul_comm S 0 ∙ zero-mul S) in
        absurd (omega (arith, (segment_size_lem W S h).0))

pub size_le : (W S : ℕ) → segment_size W S ≤ W + (S - 1)
unfolding segment_size
size_le W S = div-le_self (W + (S - 1)) S

-- the segment of a word
pub segment_low : (u g : ℕ) → u / g * g ≤ u
segment_low u g = div-mul-le_self u g

pub segment_high : (u g : ℕ) → 0 < g → u < u / g * g + g
segment_high u g h = lt-div-mul-add {a = u} h

pub segment_is : (u g k : ℕ) → k * g ≤ u → u < k * g + g → u / g ≡ k
segment_is u g k a b = div-eq_of_lt-le g a (rw (add-mul k 1 g, one-mul g) b)

pub segment_in : (W S u : ℕ) → 0 < S → u < W → u / segment_size W S < S
segment_in W S u h i = go (dec_lt (u / segment_size W S) S)
  where
    go : Dec (u / segment_size W S < S) → u / segment_size W S < S
    go (yes q) = q
    go (no q) =
        let le : S ≤ u / segment_size W S = omega arith in
        absurd
        (omega (
          arith,
          (segment_size_lem W S h).0,
          div-mul-le_self u (segment_size W S),
          mul-le-mul_right (segment_size W S) le,
        ))

-- a lower word of another segment lies below the segment's start
pub segment_below : (a u g : ℕ) → 0 < g → a ≤ u → u / g ≢ a / g → a < u / g * g
segment_below a u g h le ne = go (dec_lt a (u / g * g))
  where
    go : Dec (a < u / g * g) → a < u / g * g
    go (yes q) = q
    go (no q) = absurd (ne (sym (segment_is a g (u / g) (omega arith) (omega (arith, segment_high u g h)))))
