-- Laws of numbers in text: a step of reading, and the digits that are written. Assumes nothing.
use Prim.Native.Nat.{ℕ, zero, suc, ◌+◌, ◌-◌, ◌*◌, ◌/◌, ◌%◌, ◌^◌, ◌≤◌, ◌<◌}
use mathlib.Core.Path.{◌≡◌, ap, ◌∙◌}
use mathlib.Core.Logic.{◌⊎◌, ⊎_elim}
use Rattle.std.specs.Prelude.{Some, None}
use mathlib.Core.List.{[], ◌∷◌, ◌++◌, append_assoc}
use native.Mathlib.Numerals.{add-one}
use native.Mathlib.Nat.{pow-suc}
use native.Mathlib.Omega.{arith}
use lib.ListN.{length, get_or, drop, drop_of_length-le, length-append}
use lib.Seq.{drop-cons}
use borrow.Author.Tests.{lt-ltb, le-ltb}
use Rattle.text.specs.Numbers.{Bytes, largest, value_from, decimal, decimal_of, last_two}

-- a step of the loop that reads digits
module _ (acc i : ℕ) (s : Bytes) (h : i < length s) where
  abbrev byte : ℕ
  byte = get_or s i 0

  pub value_out : (byte < 48) ⊎ (57 < byte) → value_from acc (drop i s) ≡ None
  unfolding value_from
  value_out o =
      rw (drop-cons s i 0 h)
      (⊎_elim (λ l. simp (lt-ltb byte 48 l)) (λ g. simp (le-ltb byte 48 (omega arith), lt-ltb 57 byte g)) o)

  module _ (lo : 48 ≤ byte) (hi : byte ≤ 57) where
    pub value_large : largest < acc * 10 + byte - 48 → value_from acc (drop i s) ≡ None
    unfolding value_from
    value_large l = rw (drop-cons s i 0 h) (simp (le-ltb byte 48 lo, le-ltb 57 byte hi, lt-ltb _ _ l))

    pub value_on : acc * 10 + byte - 48 ≤ largest
        → value_from acc (drop i s) ≡ value_from (acc * 10 + byte - 48) (drop (i + 1) s)
    unfolding value_from
    value_on l =
        rw (drop-cons s i 0 h, add-one)
        (simp (le-ltb byte 48 lo, le-ltb 57 byte hi, le-ltb largest (acc * 10 + byte - 48) l))

pub value_end : (acc i : ℕ) (s : Bytes) → length s ≤ i → value_from acc (drop i s) ≡ Some acc
unfolding value_from
value_end acc i s h = rw (drop_of_length-le s h)

-- more room than needed changes nothing
decimal_room : (k n : ℕ) → n < 10 ^ suc k → decimal (suc (suc k)) n ≡ decimal (suc k) n
unfolding decimal
decimal_room zero n h = simp (lt-ltb n 10 h)
decimal_room (suc k) n h =
    let p = pow-suc 10 (suc k) in
    rw (decimal_room k (n / 10) (omega arith))

pub decimal_small : (n : ℕ) → n < 10 → decimal_of n ≡ (48 + n) ∷ []
unfolding decimal_of decimal
decimal_small n h = simp (lt-ltb n 10 h)

decimal_step : (n : ℕ) → 10 ≤ n → decimal 10 n ≡ decimal 9 (n / 10) ++ (48 + n % 10) ∷ []
unfolding decimal
decimal_step n h = simp (le-ltb n 10 h)

pub decimal_large : (n : ℕ) → 10 ≤ n → n ≤ largest → decimal_of n ≡ decimal_of (n / 10) ++ (48 + n % 10) ∷ []
unfolding decimal_of
decimal_large n h b = rw (decimal_room 8 (n / 10) (omega arith)) (decimal_step n h)

pub length_small : (n : ℕ) → n < 10 → length (decimal_of n) ≡ 1
length_small n h = ap length (decimal_small n h)

-- ---- two digits at a time

pub decimal_two : (n : ℕ) → 10 ≤ n → n < 100 → decimal_of n ≡ last_two n
decimal_two n h l =
    let tens : n / 10 % 10 ≡ n / 10 = omega arith in
    rw (decimal_large n h (omega arith), decimal_small (n / 10) (omega arith), tens)

pub decimal_more : (n : ℕ) → 100 ≤ n → n ≤ largest → decimal_of n ≡ decimal_of (n / 100) ++ last_two n
decimal_more n h b =
    let hundreds : n / 10 / 10 ≡ n / 100 = omega arith in
    let tens = decimal_large (n / 10) (omega arith) (omega arith) in
    decimal_large n (omega arith) b
    ∙ ap (λ (d : Bytes). d ++ (48 + n % 10) ∷ []) (tens ∙ ap (λ m. decimal_of m ++ (48 + n / 10 % 10) ∷ []) hundreds)
    ∙ append_assoc (decimal_of (n / 100)) ((48 + n / 10 % 10) ∷ []) ((48 + n % 10) ∷ [])

pub length_two : (n : ℕ) → 10 ≤ n → n < 100 → length (decimal_of n) ≡ 2
length_two n h l = ap length (decimal_two n h l)

pub length_more : (n : ℕ) → 100 ≤ n → n ≤ largest → length (decimal_of n) ≡ length (decimal_of (n / 100)) + 2
length_more n h b = ap length (decimal_more n h b) ∙ length-append (decimal_of (n / 100)) (last_two n)
