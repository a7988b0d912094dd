-- Cutting the bytes into pieces changes nothing. Assumes nothing.
use mathlib.Core.Path.{◌≡◌, refl, sym, ap, ◌∙◌}
use mathlib.Core.Bool.{Bool, true, false, cond}
use mathlib.Core.List.{[], ◌∷◌, ◌++◌, append_assoc}
use lib.Dec.{eqb}
use Rattle.text.specs.Numbers.{Bytes}
use Rattle.text.specs.Lines.{Served, Fed, also, feed, keep}

module _ {S : Type 0} (serve : S → Bytes → Served S) where
  also_also : (a b : Bytes) (f : Fed S) → also a (also b f) ≡ also (a ++ b) f
  also_also a b f =
      ap (λ (o : Bytes). record { state = f.state; kept = f.kept; said = o }) (sym (append_assoc a b f.said))

  -- the bytes ys after what was fed
  abbrev pub more : Fed S → Bytes → Fed S
  more f ys = also f.said (feed serve f.state f.kept ys)

  by_byte : (t : Bool) (said : Bytes) (f g : Fed S) (f₁ g₁ : Fed S) (ys : Bytes) → f₁ ≡ more f ys → g₁ ≡ more g ys
      → cond t (also said f₁) g₁ ≡ more (cond t (also said f) g) ys
  by_byte true said f g f₁ g₁ ys p q = ap (also said) p ∙ also_also said f.said (feed serve f.state f.kept ys)
  by_byte false said f g f₁ g₁ ys p q = q

  -- one piece is two pieces, wherever it is cut
  pub cut : (s : S) (k xs ys : Bytes) → feed serve s k (xs ++ ys) ≡ more (feed serve s k xs) ys
  cut s k [] ys = refl
  cut s k (b ∷ xs) ys =
      by_byte (eqb b 10) (serve s k).said (feed serve (serve s k).state [] xs) (feed serve s (keep k b) xs) _ _ ys
      (cut (serve s k).state [] xs ys) (cut s (keep k b) xs ys)
