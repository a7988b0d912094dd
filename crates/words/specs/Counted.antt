-- Tests and sums of consecutive numbers: what a loop that counts up decides. Assumes nothing.
use Rattle.std.specs.Prelude.{ℕ, zero, suc, ◌+◌, Bool, true, false, not, ◌&&◌, leb, ltb}
use Rattle.std.proofs.Math.Option.{Option, none, some}

-- p holds at each of the n numbers from i on
abbrev pub every : (ℕ → Bool) → ℕ → ℕ → Bool
every p i zero = true
every p i (suc n) = p i && every p (suc i) n

-- the lowest of the n numbers from i on at which p holds
abbrev pub lowest : (ℕ → Bool) → ℕ → ℕ → Option ℕ
lowest p i zero = none
lowest p i (suc n) = elim (p i) [ true ↦ some i | false ↦ lowest p (suc i) n ]

-- i is at or above lo and below hi
abbrev pub within : ℕ → ℕ → ℕ → Bool
within lo hi i = leb lo i && ltb i hi

abbrev pub outside : ℕ → ℕ → ℕ → Bool
outside lo hi i = not (within lo hi i)

-- f 0 and so on up to f (n - 1), together
abbrev pub sum_to : (ℕ → ℕ) → ℕ → ℕ
sum_to f zero = 0
sum_to f (suc n) = sum_to f n + f n
