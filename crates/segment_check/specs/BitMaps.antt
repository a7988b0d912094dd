-- Bits of a map that has 64 of them to an entry, the lowest first. Assumes nothing.
use Rattle.std.specs.Prelude.{ℕ, ◌/◌, ◌%◌, ◌^◌, Bool, eqb, get_or}
use Rattle.words.specs.Lists.{Words}

-- bit j of a number is set
abbrev pub bit_of : ℕ → ℕ → Bool
bit_of w j = eqb (w / 2 ^ j % 2) 1

-- bit k of a map is set
abbrev pub bit_at : Words → ℕ → Bool
bit_at map k = bit_of (get_or map (k / 64) 0) (k % 64)
