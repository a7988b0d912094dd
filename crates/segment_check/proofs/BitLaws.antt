-- Laws of bits: a power of two has one, and a map with one more set. Assumes nothing.
use Prim.Native.Nat.{ℕ, suc, ◌+◌, ◌-◌, ◌*◌, ◌/◌, ◌%◌, ◌^◌, ◌<◌}
use native.Mathlib.Decide.{ℕ_discrete, dec_lt}
use native.Mathlib.Nat.{pow-suc, div-eq_of_lt, div_self}
use native.Mathlib.Omega.{arith}
use mathlib.Core.Bool.{true, ◌||◌}
use mathlib.Core.Path.{◌≡◌, sym, ap, ◌∙◌}
use lib.Bits.{bit_or, or_step, or_shr}
use lib.Dec.{eqb}
use lib.ListN.{length, get_or, set}
use lib.Pow.{pow-add, pow-lt, pow_pos, shl-shr}
use lib.Seq.{get_or-set_same, get_or-set_other}
use Rattle.words.specs.Lists.{Words}
use Rattle.words.proofs.Tests.{eqb_same, eqb_ne}
use Rattle.segment_index.proofs.SizeLaws.{one_moved}
use Rattle.segment_check.specs.BitMaps.{bit_of, bit_at}

-- ---- a number

-- a power of two has no other bit
power_other : (b j : ℕ) → (j ≡ b → ⊥) → 2 ^ b / 2 ^ j % 2 ≡ 0
power_other b j q = go (dec_lt b j)
  where
    go : Dec (b < j) → 2 ^ b / 2 ^ j % 2 ≡ 0
    go (yes h) = ap (λ n. n % 2) (div-eq_of_lt (pow-lt h))
    go (no h) =
        let d = b - j - 1 in
        let e : b ≡ suc d + j = omega arith in
        let p : 2 ^ b / 2 ^ j ≡ 2 ^ d * 2 =
        ap (λ n. 2 ^ n / 2 ^ j) e ∙ ap (λ n. n / 2 ^ j) (pow-add 2 (suc d) j) ∙ shl-shr (2 ^ suc d) j
        ∙ pow-suc 2 d in
        omega arith

or_bit : (x y : ℕ) → y % 2 ≡ 0 → bit_or x y % 2 ≡ x % 2
or_bit x y z = omega (arith, or_step x y)

-- any other bit is as it was
or_other : (w b j : ℕ) → (j ≡ b → ⊥) → bit_of (bit_or w (2 ^ b)) j ≡ bit_of w j
or_other w b j q =
    ap (λ n. eqb n 1)
    (ap (λ n. n % 2) (or_shr w (2 ^ b) j) ∙ or_bit (w / 2 ^ j) (2 ^ b / 2 ^ j) (power_other b j q))

-- and its own
or_own : (w b : ℕ) → bit_of (bit_or w (2 ^ b)) b ≡ true
or_own w b =
    ap (λ n. eqb n 1)
    (ap (λ n. n % 2) (or_shr w (2 ^ b) b ∙ ap (bit_or (w / 2 ^ b)) (div_self (pow_pos b))) ∙ odd (w / 2 ^ b))
  where
    odd : (x : ℕ) → bit_or x 1 % 2 ≡ 1
    odd x = omega (arith, or_step x 1)

-- ---- a map

-- any other bit is as it was, where one is set
bit_other : (map : Words) (k j : ℕ) → k < 64 * length map → (j ≡ k → ⊥)
    → bit_at (set map (k / 64) (bit_or (get_or map (k / 64) 0) (1 * 2 ^ (k % 64) % 2 ^ 64))) j ≡ bit_at map j
bit_other map k j h q = rw (one_moved (k % 64) (omega arith)) (go (ℕ_discrete (j / 64) (k / 64)))
  where
    w : ℕ
    w = bit_or (get_or map (k / 64) 0) (2 ^ (k % 64))

    go : Dec (j / 64 ≡ k / 64) → bit_at (set map (k / 64) w) j ≡ bit_at map j
    go (yes e) =
        let old = get_or map (k / 64) 0 in
        let inside : k / 64 < length map = omega arith in
        ap (λ n. bit_of (get_or (set map (k / 64) w) n 0) (j % 64)) e
        ∙ ap (λ n. bit_of n (j % 64)) (get_or-set_same map (k / 64) w 0 inside)
        ∙ or_other old (k % 64) (j % 64) (λ s. q (omega arith)) ∙ ap (λ n. bit_of (get_or map n 0) (j % 64)) (sym e)
    go (no d) = ap (λ n. bit_of n (j % 64)) (get_or-set_other map (k / 64) (j / 64) w 0 d)

-- the bit that is set, and with it every other as it was
pub bit_set : (map : Words) (k j : ℕ) → k < 64 * length map
    → bit_at (set map (k / 64) (bit_or (get_or map (k / 64) 0) (1 * 2 ^ (k % 64) % 2 ^ 64))) j ≡ (eqb j k || bit_at map j)
bit_set map k j h = go (ℕ_discrete j k)
  where
    own : bit_at (set map (k / 64) (bit_or (get_or map (k / 64) 0) (1 * 2 ^ (k % 64) % 2 ^ 64))) k ≡ true
    own =
        rw (one_moved (k % 64) (omega arith))
        (ap (λ n. bit_of n (k % 64))
        (get_or-set_same map (k / 64) (bit_or (get_or map (k / 64) 0) (2 ^ (k % 64))) 0 (omega arith))
        ∙ or_own (get_or map (k / 64) 0) (k % 64))

    go : Dec (j ≡ k)
        → bit_at (set map (k / 64) (bit_or (get_or map (k / 64) 0) (1 * 2 ^ (k % 64) % 2 ^ 64))) j ≡ (eqb j k || bit_at map j)
    go (yes e) = rw (e, eqb_same k) own
    go (no e) = rw (eqb_ne j k e) (bit_other map k j h e)
