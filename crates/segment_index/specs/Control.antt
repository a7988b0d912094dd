-- What a control word says. Assumes nothing.
use Rattle.std.specs.Prelude.{ℕ, ℤ, pos, negsuc}

-- the size of a free block; 0 for a held block, and where no block begins
abbrev pub free_size : ℤ → ℕ
free_size (pos n) = n
free_size (negsuc n) = 0
