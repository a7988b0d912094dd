-- What is written is read back, and only the written form is read. Assumes nothing.
use Prim.Native.Nat.{ℕ, zero, suc, ◌+◌, ◌-◌, ◌*◌, ◌/◌, ◌%◌, ◌^◌, ◌≤◌, ◌<◌}
use mathlib.Core.Path.{◌≡◌, refl, sym, ap, ◌∙◌}
use Rattle.std.specs.Prelude.{Option, Some, None}
use mathlib.Core.List.{[], ◌∷◌, ◌++◌, append_assoc, append-nil}
use mathlib.Core.Bool.{Bool, true, false, cond}
use mathlib.Core.Logic.{⊎_elim}
use Rattle.std.proofs.lemmas.Bool.{cases_Bool, cases_lt}
use native.Mathlib.Nat.{pow-suc}
use native.Mathlib.Omega.{arith}
use lib.ListN.{length, get_or}
use lib.Dec.{ltb, eqb}
use borrow.Author.Tests.{lt-ltb, le-ltb, ne_eqb, ltb-false, eqb-true, eqb-false}
use Rattle.text.specs.Numbers.{Bytes, largest, value_from, value_of, decimal, decimal_of}
use Rattle.text.proofs.NumberLaws.{decimal_small, decimal_large}

-- ---- what is written is read back

module _ (rest : Bytes) where
  value_digit : (acc d : ℕ) → d < 10 → acc * 10 + d ≤ largest
      → value_from acc ((48 + d) ∷ rest) ≡ value_from (acc * 10 + d) rest
  unfolding value_from
  value_digit acc d h m =
      let e : acc * 10 + (48 + d) - 48 ≡ acc * 10 + d = omega arith in
      simp (le-ltb (48 + d) 48 (omega arith), le-ltb 57 (48 + d) (omega arith), e, le-ltb largest (acc * 10 + d) m)

  value_first : (d : ℕ) → d < 10 → value_from 0 ((48 + d) ∷ rest) ≡ value_from d rest
  value_first d h = value_digit 0 d h (omega arith) ∙ ap (λ (v : ℕ). value_from v rest) (omega arith)

-- the digits of n, then rest
value_digits : (k n : ℕ) (rest : Bytes) → n < 10 ^ suc k → n ≤ largest
    → value_from 0 (decimal (suc k) n ++ rest) ≡ value_from n rest
unfolding decimal
value_digits zero n rest h m = simp (lt-ltb n 10 h) (value_first rest n h)
value_digits (suc k) n rest h m =
    let p = pow-suc 10 (suc k) in
    ⊎_elim
    (λ l. simp (lt-ltb n 10 l) (value_first rest n l))
    (λ g. simp (le-ltb n 10 g, append_assoc)
    (value_digits k (n / 10) ((48 + n % 10) ∷ rest) (omega arith) (omega arith)
    ∙ value_digit rest (n / 10) (n % 10) (omega arith) (omega arith)
    ∙ ap (λ (v : ℕ). value_from v rest) (omega arith)))
    (cases_lt n 10)

no_leading_zero : (k n : ℕ) (rest : Bytes) → 0 < n → n < 10 ^ suc k → 48 < get_or (decimal (suc k) n ++ rest) 0 0
unfolding decimal
no_leading_zero zero n rest z h = simp (lt-ltb n 10 h) (omega arith)
no_leading_zero (suc k) n rest z h =
    let p = pow-suc 10 (suc k) in
    ⊎_elim
    (λ l. simp (lt-ltb n 10 l) (omega arith))
    (λ g. simp (le-ltb n 10 g, append_assoc)
    (no_leading_zero k (n / 10) ((48 + n % 10) ∷ rest) (omega arith) (omega arith)))
    (cases_lt n 10)

not_empty : (s : Bytes) → 48 < get_or s 0 0 → length s ≡ 0 → ⊥
not_empty [] h e = omega arith
not_empty (x ∷ s) h e = omega arith

pub read_written : (n : ℕ) → n ≤ largest → value_of (decimal_of n) ≡ Some n
unfolding value_of value_from decimal_of
read_written zero m = rw (decimal_small 0 (omega arith))
read_written (suc n) m =
    let s = decimal_of (suc n) in
    let h : 48 < get_or s 0 0 = rw append-nil at (no_leading_zero 9 (suc n) [] (omega arith) (omega arith)) in
    simp (ne_eqb (length s) 0 (not_empty s h), ne_eqb (get_or s 0 0) 48 (λ e. omega arith))
    (rw append-nil at (value_digits 9 (suc n) [] (omega arith) m))

-- ---- only what is written is read

not_bad : (n : ℕ) → None ≡ Some n → ⊥
not_bad n e = let z : ◌≡◌ {A = ℕ} 0 1 = cc in omega arith

-- a test that leads to None is not met where the answer is a number
test_unmet : (t : Bool) (x : Option ℕ) (n : ℕ) → cond t None x ≡ Some n → (t ≡ false) × (x ≡ Some n)
test_unmet true x n e = absurd (not_bad n e)
test_unmet false x n e = (refl, e)

-- a byte that is read is a digit, and reading goes on with it
module _ (acc b n : ℕ) (s : Bytes) where
  abbrev next : ℕ
  next = acc * 10 + b - 48

  was_digit : value_from acc (b ∷ s) ≡ Some n
      → (48 ≤ b) × (b ≤ 57) × (next ≤ largest) × (value_from next s ≡ Some n)
  unfolding value_from
  was_digit e =
      let lo = test_unmet (ltb b 48) _ n e in
      let hi = test_unmet (ltb 57 b) _ n lo.1 in
      let le = test_unmet (ltb largest next) _ n hi.1 in
      (ltb-false b 48 lo.0, ltb-false 57 b hi.0, ltb-false largest next le.0, le.1)

-- read on from a value that is not 0, the bytes are the rest of the answer's digits
only_rest : (s : Bytes) (acc n : ℕ) → 0 < acc → acc ≤ largest → value_from acc s ≡ Some n
    → decimal_of acc ++ s ≡ decimal_of n
unfolding value_from
only_rest [] acc n z m e = let q : acc ≡ n = cc in append-nil (decimal_of acc) ∙ ap decimal_of q
only_rest (b ∷ s) acc n z m e =
    let d = was_digit acc b n s e in
    let v = acc * 10 + b - 48 in
    let q : v / 10 ≡ acc = omega (arith, d.0, d.1) in
    let last : 48 + v % 10 ≡ b = omega (arith, d.0, d.1) in
    let more : decimal_of v ≡ decimal_of acc ++ b ∷ [] =
    rw (decimal_large v (omega (arith, d.0, z)) d.2, q, last) in
    sym (append_assoc (decimal_of acc) (b ∷ []) s)
    ∙ ap (λ (x : Bytes). x ++ s) (sym more)
    ∙ only_rest s v n (omega (arith, d.0, z)) d.2 d.3

only_zero : (n : ℕ) (s : Bytes) → cond (eqb (length (48 ∷ s)) 1) (Some 0) None ≡ Some n → 48 ∷ s ≡ decimal_of n
only_zero n [] e = let z : 0 ≡ n = cc in sym (decimal_small 0 (omega arith)) ∙ ap decimal_of z
only_zero n (x ∷ s) e = absurd (not_bad n (rw (ne_eqb (length (48 ∷ x ∷ s)) 1 (λ q. omega arith)) at e))

only_digits : (b n : ℕ) (s : Bytes) → (b ≡ 48 → ⊥) → value_from 0 (b ∷ s) ≡ Some n → b ∷ s ≡ decimal_of n
only_digits b n s k e =
    let d = was_digit 0 b n s e in
    let v = 0 * 10 + b - 48 in
    let some : 0 < v = omega (arith, d.0, k) in
    let is : 48 + v ≡ b = omega (arith, d.0) in
    let one : decimal_of v ≡ b ∷ [] = rw (decimal_small v (omega (arith, d.1)), is) in
    ap (λ (x : Bytes). x ++ s) (sym one) ∙ only_rest s v n some d.2 d.3

pub only_written : (s : Bytes) (n : ℕ) → value_of s ≡ Some n → s ≡ decimal_of n
unfolding value_of
only_written [] n e = absurd (not_bad n e)
only_written (b ∷ s) n e =
    let p = (test_unmet (eqb (length (b ∷ s)) 0) _ n e).1 in
    ⊎_elim
    (λ t. ap (λ (x : ℕ). x ∷ s) (eqb-true b 48 t) ∙ only_zero n s (rw t at p))
    (λ f. only_digits b n s (eqb-false b 48 f) (rw f at p))
    (cases_Bool (eqb b 48))
