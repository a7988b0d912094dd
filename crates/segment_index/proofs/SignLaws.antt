-- Laws of signed numbers. Assumes nothing.
use Prim.Native.Nat.{ℕ, zero, suc}
use mathlib.Core.Path.{◌≡◌, refl}
use lib.IntN.{ℤ, pos, negsuc, neg_ℤ, nat_abs}
use Rattle.segment_index.specs.Control.{free_size}

pub abs_neg : (z : ℤ) → nat_abs (neg_ℤ z) ≡ nat_abs z
abs_neg (pos zero) = refl
abs_neg (pos (suc n)) = refl
abs_neg (negsuc n) = refl

-- a held block has no free words
pub free_neg : (n : ℕ) → free_size (neg_ℤ (pos n)) ≡ 0
free_neg zero = refl
free_neg (suc n) = refl
