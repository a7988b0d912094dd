-- Words as bytes, lowest first. 02, ticket 1: "docs/ fix its length and layout". Assumes nothing.
use Rattle.std.specs.Prelude.{ℕ, ◌+◌, ◌*◌, ◌/◌, ◌%◌, ◌<◌, Bool, not, [], ◌∷◌, ◌++◌, eqb, get_or}
use Rattle.words.specs.Lists.{Words}
use Rattle.text.specs.Numbers.{Bytes}

-- The four bytes of a word. The last is not reduced, so that a word is had back whatever number it is.
abbrev pub word_bytes : ℕ → Bytes
word_bytes x = x % 256 ∷ x / 256 % 256 ∷ x / 65536 % 256 ∷ x / 16777216 ∷ []

abbrev pub word_of : ℕ → ℕ → ℕ → ℕ → ℕ
word_of a b c d = a + 256 * b + 65536 * c + 16777216 * d

-- the word at word i of some bytes
abbrev pub word_at : Bytes → ℕ → ℕ
word_at bs i = word_of (get_or bs (4 * i) 0) (get_or bs (4 * i + 1) 0) (get_or bs (4 * i + 2) 0) (get_or bs (4 * i + 3) 0)

-- the bytes of words, one after another
abbrev pub bytes_of_words : Words → Bytes
bytes_of_words [] = []
bytes_of_words (x ∷ xs) = word_bytes x ++ bytes_of_words xs

-- b is not the byte x
abbrev pub is_other : ℕ → ℕ → Bool
is_other x b = not (eqb b x)

-- numbers below 256
abbrev pub Small : Bytes → Type 0
Small bs = (i : ℕ) → get_or bs i 0 < 256
