-- Spans that lead from unit to unit: `span k n` says that one takes the n units from unit k on. A check of gaps between
-- free blocks follows them. Assumes nothing.
use Rattle.std.specs.Prelude.{ℕ, ◌+◌, ◌<◌, ◌≡◌, true}
use Rattle.words.specs.Lists.{Words}
use Rattle.ledger.specs.declared.Rule.{Rule}
use Rattle.ledger.specs.Records.{record_at, slots, is_live}
use Rattle.ledger.specs.Units.{first, past}

-- spans lead from a unit to unit hi, without a unit left over
pub data Leading (span : ℕ → ℕ → Type 0) (hi : ℕ) : ℕ → Type 0 where
  here : {k : ℕ} → k ≡ hi → Leading span hi k
  more : {k n : ℕ} → span k n → Leading span hi (k + n) → Leading span hi k

-- they lead through each of the first i records of a table
abbrev pub LedThrough : Rule → Words → (ℕ → ℕ → Type 0) → ℕ → Type 0
LedThrough ρ t span i =
    (j : ℕ) → j < i → is_live (record_at t j) ≡ true → Leading span (past ρ (record_at t j)) (first ρ (record_at t j))

-- no record has units on both sides of unit k
abbrev pub Edge : Rule → Words → ℕ → Type 0
Edge ρ t k =
    (j : ℕ) → j < slots t → is_live (record_at t j) ≡ true → first ρ (record_at t j) < k → k < past ρ (record_at t j) → ⊥
