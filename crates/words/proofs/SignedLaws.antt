-- Laws of signed words as code holds them, by their bits. Assumes nothing.
use Prim.Native.Nat.{zero, suc}
use native.Mathlib.Omega.{arith}
use mathlib.Core.Path.{◌≡◌, refl, sym, ap, ap₂, ◌∙◌}
use mathlib.Core.Bool.{◌&&◌}
use mir.Syntax.{w32}
use mir.Val.{SFits, of_z, to_z}
use mir.Facts.{sfits_to_z}
use lib.Bits.{bit_or}
use lib.Dec.{eqb, eqb-suc-zero}
use lib.IntN.{ℤ, pos, negsuc}
use Rattle.std.proofs.Math.Facts.{Fits-or, Fits-of_z, of_z-to_z}
use Rattle.words.specs.Signed.{is_zero_z}
use Rattle.words.proofs.Tests.{eqb_ne, or_none}

-- a word is 0 where its bits are
pub zero_bits : (z : ℤ) → SFits w32 z → is_zero_z z ≡ eqb (of_z w32 z) 0
zero_bits (pos zero) h = refl
zero_bits (pos (suc n)) h = sym (eqb-suc-zero n)
zero_bits (negsuc n) h = sym (eqb_ne (of_z w32 (negsuc n)) 0 (λ e. omega arith))

-- two words have no bit between them where both are 0
pub or_zero : (a b : ℤ) → SFits w32 a → SFits w32 b
    → is_zero_z (to_z w32 (bit_or (of_z w32 a) (of_z w32 b))) ≡ (is_zero_z a && is_zero_z b)
or_zero a b f g =
    let fits = Fits-or (Fits-of_z f) (Fits-of_z g) in
    zero_bits (to_z w32 (bit_or (of_z w32 a) (of_z w32 b))) (sfits_to_z fits)
    ∙ ap (λ n. eqb n 0) (of_z-to_z fits)
    ∙ or_none (of_z w32 a) (of_z w32 b)
    ∙ sym (ap₂ (λ x y. x && y) (zero_bits a f) (zero_bits b g))
