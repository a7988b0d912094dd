-- Fields of a line. 01, "The text program": "one record a line, fields parted by tabs". Assumes nothing.
use Rattle.std.specs.Prelude.{ℕ, zero, suc, ◌+◌, ◌≡◌, Bool, cond, List, [], ◌∷◌, ◌++◌, length, take, drop, leb, eqb, Option, Some, None, option_and_then}
use Rattle.std.proofs.lemmas.List.Edits.{sets}
use Rattle.text.specs.Numbers.{Bytes, value_of, decimal_of}

-- the place of the first tab, or the length
unfoldable pub tab_in : Bytes → ℕ
tab_in [] = 0
tab_in (b ∷ bs) = cond (eqb b 9) 0 (suc (tab_in bs))

-- the field before the first tab, and what follows that tab
abbrev pub before_tab : Bytes → Bytes
before_tab s = take (tab_in s) s

abbrev pub after_tab : Bytes → Bytes
after_tab s = drop (tab_in s + 1) s

-- two numbers with one tab between them: a second tab would be no digit of the second number
abbrev pub two : Option ℕ → Option ℕ → Option (ℕ × ℕ)
two (Some a) (Some b) = Some (a, b)
two (Some a) None = None
two None y = None

unfoldable pub pair_of : Bytes → Option (ℕ × ℕ)
pair_of s = cond (leb (length s) (tab_in s)) None (two (value_of (before_tab s)) (value_of (after_tab s)))

-- three numbers with tabs between them
abbrev pub three : Option ℕ → Option (ℕ × ℕ) → Option (ℕ × ℕ × ℕ)
three (Some a) (Some (b, c)) = Some (a, b, c)
three (Some a) None = None
three None y = None

unfoldable pub triple_of : Bytes → Option (ℕ × ℕ × ℕ)
triple_of s = cond (leb (length s) (tab_in s)) None (three (value_of (before_tab s)) (pair_of (after_tab s)))

-- four numbers with tabs between them
abbrev pub four : Option ℕ → Option (ℕ × ℕ × ℕ) → Option (ℕ × ℕ × ℕ × ℕ)
four (Some a) (Some (b, c, d)) = Some (a, b, c, d)
four (Some a) None = None
four None y = None

unfoldable pub quad_of : Bytes → Option (ℕ × ℕ × ℕ × ℕ)
quad_of s = cond (leb (length s) (tab_in s)) None (four (value_of (before_tab s)) (triple_of (after_tab s)))

-- the next field and what comes behind its tab, if there is one; the last field is all of the bytes
abbrev pub field_at : Bool → Bytes → Option (Bytes × Bytes)
field_at last s =
    cond last (Some (s, [])) (cond (leb (length s) (tab_in s)) None (Some (before_tab s, after_tab s)))

-- a number and those after it
abbrev pub with_more : Option ℕ → Option (List ℕ) → Option (List ℕ)
with_more (Some n) (Some ns) = Some (n ∷ ns)
with_more (Some n) None = None
with_more None ns = None

-- so many numbers with tabs between them
unfoldable pub numbers_of : ℕ → Bytes → Option (List ℕ)
numbers_of zero s = Some []
numbers_of (suc k) s = option_and_then (λ f. with_more (value_of f.0) (numbers_of k f.1)) (field_at (eqb k 0) s)

-- the numbers of a line that is written, each after a tab
abbrev pub fields_of : List ℕ → Bytes
fields_of [] = []
fields_of (n ∷ ns) = 9 ∷ decimal_of n ++ fields_of ns

-- such a line: a letter, its numbers, a line feed ("lines ended by a line feed")
unfoldable pub line_of : ℕ → List ℕ → Bytes
line_of letter ns = letter ∷ fields_of ns ++ 10 ∷ []

-- the bytes bs stand in the buffer from place `at` on, all others are as before, and r is the place after them
abbrev pub Wrote : Bytes → Bytes → ℕ → ℕ → Bytes → Type 0
Wrote before after at r bs = (r ≡ at + length bs) × (after ≡ sets before at bs)
