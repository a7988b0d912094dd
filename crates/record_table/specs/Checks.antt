-- The check of a table in parts: each record by itself, the tickets, and the units. Together they are `valid`.
-- Assumes nothing.
use Rattle.std.specs.Prelude.{ℕ, ◌-◌, ◌≤◌, ◌<◌, ◌≡◌, Bool, true, not, ◌||◌, eqb, leb}
use Rattle.std.specs.Int.Bits.{bit_and}
use Rattle.words.specs.Lists.{Words, is_zero}
use Rattle.ledger.specs.declared.Row.{Row}
use Rattle.ledger.specs.declared.Rule.{Rule}
use Rattle.ledger.specs.Records.{is_empty, is_live, record_at, slots}
use Rattle.ledger.specs.Units.{first, past, fits}

-- Row 1, a slot by itself, in an arena of W words.
abbrev pub row_ok : Rule → ℕ → ℕ → Row → Bool
row_ok ρ W next r = is_empty r || fits ρ W next r

-- Row 1, two slots: no ticket twice, and no unit twice.
abbrev pub differ : Row → Row → Bool
differ r s = is_zero r.ticket || not (eqb r.ticket s.ticket)

unfoldable pub beside : Rule → Row → Row → Bool
beside ρ r s = is_empty r || is_empty s || (leb (past ρ r) (first ρ s) || leb (past ρ s) (first ρ r))

-- the residue of a ticket by m, a power of two: its low bits
abbrev pub residue_of : ℕ → ℕ → ℕ
residue_of m x = bit_and x (m - 1)

-- a live record has units, all among the first N
abbrev pub Inside : Rule → ℕ → Row → Type 0
Inside ρ N r = is_live r ≡ true → (first ρ r < past ρ r) × (past ρ r ≤ N)

abbrev pub AllInside : Rule → ℕ → Words → Type 0
AllInside ρ N t = (i : ℕ) → i < slots t → Inside ρ N (record_at t i)
