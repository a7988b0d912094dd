-- Laws of tests: what a Bool says, and what a comparison of numbers says, std's by shorter names. Assumes nothing.
use Prim.Native.Nat.{ℕ, ◌≤◌, ◌<◌}
use native.Mathlib.Decide.{ℕ_discrete}
use native.Mathlib.Omega.{arith}
use mathlib.Core.Path.{◌≡◌, refl, sym, ap, ◌∙◌}
use mathlib.Core.Bool.{Bool, true, false, ◌&&◌, ◌||◌, false≢true, true≢false, and-false, or-true}
use mathlib.Core.Option.{none, some}
use lib.Bits.{bit_or, or_zero_l, or_add_and, and_le_r}
use lib.Dec.{eqb, leb, ltb}
use borrow.Author.Tests.{eq-eqb}
use Rattle.words.specs.Counted.{within}
pub use Rattle.std.proofs.lemmas.Bool.{false_from_ne_true as false_of, and_from as and_i, not_from_false as of_not}
pub use borrow.Author.Tests.{not-true as not_true, not-false as not_false}
pub use borrow.Author.Tests.{eqb-true as eqb_eq, eqb-false as eqb_false, ne_eqb as eqb_ne}
pub use borrow.Author.Tests.{leb-true as le_of, leb-false as not_le, le-leb as of_le, lt-leb as of_gt}
pub use borrow.Author.Tests.{ltb-true as lt_of, ltb-false as not_lt, lt-ltb as of_lt, le-ltb as of_ge}

pub bool_iff : (a b : Bool) → (a ≡ true → b ≡ true) → (b ≡ true → a ≡ true) → a ≡ b
bool_iff true b f g = sym (f refl)
bool_iff false true f g = g refl
bool_iff false false f g = refl

-- ---- and, or, not

pub and_l : (a b : Bool) → (a && b) ≡ true → a ≡ true
and_l true b e = refl
and_l false b e = e

pub and_r : (a b : Bool) → (a && b) ≡ true → b ≡ true
and_r true b e = e
and_r false b e = absurd (false≢true e)

pub or_l : (a b : Bool) → (a || b) ≡ false → a ≡ false
or_l true b e = e
or_l false b e = refl

pub or_r : (a b : Bool) → (a || b) ≡ false → b ≡ false
or_r true b e = absurd (true≢false e)
or_r false b e = e

pub or_map : (a b c d : Bool) → (a ≡ true → c ≡ true) → (b ≡ true → d ≡ true) → (a || b) ≡ true → (c || d) ≡ true
or_map true b c d f g h = rw (f refl)
or_map false b c d f g h = rw (g h) (or-true c)

pub and_map : (a b c d : Bool) → (a ≡ true → c ≡ true) → (b ≡ true → d ≡ true) → (a && b) ≡ true → (c && d) ≡ true
and_map a b c d f g h = and_i c d (f (and_l a b h)) (g (and_r a b h))

-- ---- numbers

pub eqb_same : (n : ℕ) → eqb n n ≡ true
eqb_same n = eq-eqb n n refl

-- two numbers have no bit between them if both are 0
pub or_none : (a b : ℕ) → eqb (bit_or a b) 0 ≡ (eqb a 0 && eqb b 0)
or_none a b = go (ℕ_discrete a 0)
  where
    go : Dec (a ≡ 0) → eqb (bit_or a b) 0 ≡ (eqb a 0 && eqb b 0)
    go (yes e) = rw e (ap (λ n. eqb n 0) (or_zero_l b))
    go (no h) =
        eqb_ne (bit_or a b) 0 (λ e. h (omega (arith, or_add_and a b, and_le_r a b)))
        ∙ ap (λ (x : Bool). x && eqb b 0) (sym (eqb_ne a 0 h))

-- ---- ranges

pub within_in : (lo hi i : ℕ) → lo ≤ i → i < hi → within lo hi i ≡ true
within_in lo hi i a b = and_i (leb lo i) (ltb i hi) (of_le lo i a) (of_lt i hi b)

pub within_low : (lo hi i : ℕ) → i < lo → within lo hi i ≡ false
within_low lo hi i a = rw (of_gt lo i a)

pub within_high : (lo hi i : ℕ) → hi ≤ i → within lo hi i ≡ false
within_high lo hi i a = rw (of_ge i hi a) (and-false (leb lo i))

pub within_of : (lo hi i : ℕ) → within lo hi i ≡ true → (lo ≤ i) × (i < hi)
within_of lo hi i e = (le_of lo i (and_l (leb lo i) (ltb i hi) e), lt_of i hi (and_r (leb lo i) (ltb i hi) e))

-- ---- what may be missing

pub absurd_some : {A : Type 0} {a : A} → none ≡ some a → ⊥
absurd_some e = cc
