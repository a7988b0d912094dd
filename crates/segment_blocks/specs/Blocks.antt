-- An arena of blocks, by its control words: c u is the control word of the block that begins at word u, 0 where none
-- does. The scans of the pool go from block to block. Assumes nothing.
use Rattle.std.specs.Prelude.{ℕ, suc, ◌+◌, ◌-◌, ◌≤◌, ◌<◌, List, ◌≡◌, ℤ, pos, nat_abs, length, get_or}
use Rattle.stored_forms.specs.Segments.{weight}
use Rattle.stored_forms.specs.Search.{block_count}

-- a block begins at word 0, each block ends inside, and the next one begins where it ends; v shows their control words
pub record Blocks (v : List ℤ) (c : ℕ → ℤ) : Type 0 where
  pub start : 0 < length v → 0 < nat_abs (c 0)
  pub fits : (u : ℕ) → u < length v → u + nat_abs (c u) ≤ length v
  pub quiet : (u k : ℕ) → u < k → k < u + nat_abs (c u) → c k ≡ pos 0
  pub next : (u : ℕ) → u < length v → 0 < nat_abs (c u) → u + nat_abs (c u) < length v
      → 0 < nat_abs (c (u + nat_abs (c u)))
  pub past : (u : ℕ) → length v ≤ u → c u ≡ pos 0
  pub shown : (u : ℕ) → u < length v → 0 < nat_abs (c u) → get_or v u (pos 0) ≡ c u

-- a scan can start at `from`: a block begins there, or the arena ends
pub record Scan (v : List ℤ) (c : ℕ → ℤ) (from : ℕ) : Type 0 where
  pub blocks : Blocks v c
  pub inside : from ≤ length v
  pub begins : from < length v → 0 < nat_abs (c from)

-- a scan for n words from `from` on, which one of the blocks has
pub record Seeking (v : List ℤ) (c : ℕ → ℤ) (from n : ℕ) : Type 0 where
  pub scan : Scan v c from
  pub some : 0 < n
  pub place : ℕ
  pub above : from ≤ place
  pub fits : n ≤ weight (c place)

-- r is the first word from `from` on that begins a block of n words or more, and the `places`th that begins a block
pub record FirstFit (c : ℕ → ℤ) (from n r places : ℕ) : Type 0 where
  pub above : from ≤ r
  pub fits : n ≤ weight (c r)
  pub before : (u : ℕ) → from ≤ u → u < r → weight (c u) < n
  pub counted : places ≡ block_count c from (suc r - from)

-- blocks begin at `from` and, later, at p
pub record Chain (v : List ℤ) (c : ℕ → ℤ) (from p : ℕ) : Type 0 where
  pub scan : Scan v c from
  pub order : from < p
  pub inside : p < length v
  pub last : 0 < nat_abs (c p)

-- the block at r ends where p begins
pub record EndsAt (c : ℕ → ℤ) (p r : ℕ) : Type 0 where
  pub begins : 0 < nat_abs (c r)
  pub ends : r + nat_abs (c r) ≡ p

-- r is the first place at or past hi at which a scan from `from` on stands
pub record Reaches (v : List ℤ) (c : ℕ → ℤ) (from hi r : ℕ) : Type 0 where
  pub scan : Scan v c r
  pub high : hi ≤ r
  pub quiet : (u : ℕ) → hi ≤ u → from ≤ u → u < r → c u ≡ pos 0
