-- Signed words: the integers that an arena of i32 holds. Assumes nothing.
use Rattle.std.specs.Prelude.{ℕ, zero, suc, Bool, true, false, List, ℤ, pos, negsuc, get_or}

abbrev pub is_zero_z : ℤ → Bool
is_zero_z (pos zero) = true
is_zero_z (pos (suc n)) = false
is_zero_z (negsuc n) = false

-- the word at place i is 0
abbrev pub zero_at_z : List ℤ → ℕ → Bool
zero_at_z a i = is_zero_z (get_or a i (pos 0))
