-- Bytes written one piece after another. Assumes nothing.
use Prim.Native.Nat.{ℕ, suc, ◌+◌, ◌≤◌, ◌<◌}
use mathlib.Core.Path.{◌≡◌, sym, ap, ◌∙◌}
use mathlib.Core.List.{List, [], ◌∷◌, ◌++◌}
use native.Mathlib.Nat.{add-zero, add-suc, suc-add}
use native.Mathlib.Numerals.{add-one}
use native.Mathlib.Omega.{arith}
use lib.ListN.{length, get_or, set, drop, length-append, drop_of_length-le}
use lib.Seq.{sets, drop-cons}
use Rattle.text.specs.Numbers.{Bytes, decimal_of}
use Rattle.text.specs.Fields.{fields_of, line_of, Wrote}

sets_append : (xs ys l : Bytes) (at : ℕ) → sets l at (xs ++ ys) ≡ sets (sets l at xs) (at + length xs) ys
sets_append [] ys l at = rw add-zero
sets_append (x ∷ xs) ys l at =
    sets_append xs ys (set l at x) (suc at)
    ∙ ap (λ (n : ℕ). sets (sets (set l at x) (suc at) xs) n ys) (suc-add at (length xs) ∙ sym (add-suc at (length xs)))

-- bytes set after others that were written
pub sets_after : (xs ys l₀ l₁ : Bytes) (at r : ℕ) → Wrote l₀ l₁ at r xs → sets l₁ r ys ≡ sets l₀ at (xs ++ ys)
sets_after xs ys l₀ l₁ at r w =
    ap (λ (l : Bytes). sets l r ys) w.1
    ∙ ap (λ (n : ℕ). sets (sets l₀ at xs) n ys) w.0
    ∙ sym (sets_append xs ys l₀ at)

pub wrote_then : (xs ys l₀ l₁ l₂ : Bytes) (at r₁ r₂ : ℕ) → Wrote l₀ l₁ at r₁ xs → Wrote l₁ l₂ r₁ r₂ ys
    → Wrote l₀ l₂ at r₂ (xs ++ ys)
wrote_then xs ys l₀ l₁ l₂ at r₁ r₂ a b = (
  omega (arith, a.0, b.0, length-append xs ys),
  b.1 ∙ sets_after xs ys l₀ l₁ at r₁ a,
)

-- a step of the loop that writes fields
module _ (ns : List ℕ) (i : ℕ) (h : i < length ns) where
  field_next : fields_of (drop i ns) ≡ (9 ∷ decimal_of (get_or ns i 0)) ++ fields_of (drop (i + 1) ns)
  field_next = rw (drop-cons ns i 0 h, add-one)

  -- the fields from i on take at least the next one's bytes
  pub field_room : length (fields_of (drop i ns))
      ≡ 1 + length (decimal_of (get_or ns i 0)) + length (fields_of (drop (i + 1) ns))
  field_room =
      omega (arith, ap length field_next, length-append (9 ∷ decimal_of (get_or ns i 0)) (fields_of (drop (i + 1) ns)))

  pub field_step : (l₀ l₁ : Bytes) (e r : ℕ) → Wrote l₀ l₁ e r (9 ∷ decimal_of (get_or ns i 0))
      → sets l₁ r (fields_of (drop (i + 1) ns)) ≡ sets l₀ e (fields_of (drop i ns))
  field_step l₀ l₁ e r w =
      sets_after (9 ∷ decimal_of (get_or ns i 0)) (fields_of (drop (i + 1) ns)) l₀ l₁ e r w
      ∙ ap (λ (bs : Bytes). sets l₀ e bs) (sym field_next)

pub fields_end : (ns : List ℕ) (i : ℕ) → length ns ≤ i → fields_of (drop i ns) ≡ []
fields_end ns i h = rw (drop_of_length-le ns h)

-- a step of the loop that writes bytes
pub byte_step : (bs : Bytes) (i : ℕ) → i < length bs → (l : Bytes) (at : ℕ)
    → sets (set l (at + i) (get_or bs i 0)) (at + (i + 1)) (drop (i + 1) bs) ≡ sets l (at + i) (drop i bs)
byte_step bs i h l at =
    let e : at + (i + 1) ≡ suc (at + i) = omega arith in
    rw (e, add-one, drop-cons bs i 0 h)

pub bytes_end : (bs : Bytes) (i : ℕ) → length bs ≤ i → drop i bs ≡ []
bytes_end bs i h = drop_of_length-le bs h

pub line_long : (letter : ℕ) (ns : List ℕ) → length (line_of letter ns) ≡ length (fields_of ns) + 2
unfolding line_of
line_long letter ns = omega (arith, length-append (fields_of ns) (10 ∷ []))
