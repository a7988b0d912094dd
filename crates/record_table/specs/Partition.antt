-- Held and free blocks that lie side by side from unit 0 to the last. A pool's blocks do, and that is quicker to see than
-- to mark every unit: if free blocks and records together have as many units as the arena, no two records share one and
-- the free blocks are the free runs (proofs/PartitionLaws). Assumes nothing.
use Rattle.std.specs.Prelude.{ℕ, ◌+◌, ◌/◌, ◌%◌, ◌<◌, ◌≡◌, Bool, true, false, cond, not, ◌||◌, List, [], ◌∷◌, eqb, get_or}
use Rattle.words.specs.Lists.{Words, is_zero}
use Rattle.words.specs.Counted.{every, sum_to}
use Rattle.ledger.specs.declared.Row.{Row}
use Rattle.ledger.specs.declared.Rule.{Rule}
use Rattle.ledger.specs.Records.{Ledger, record_at, is_empty}
use Rattle.ledger.specs.Units.{span, free}
use Rattle.ledger.specs.Runs.{Run, Gapped, covered}
use Rattle.record_table.specs.Checks.{row_ok, differ, residue_of}

-- ---- the records, slot after slot

-- the units of a record, none where it is empty
abbrev pub units_of : Rule → Row → ℕ
units_of ρ r = cond (is_empty r) 0 (span ρ r.words)

-- the ticket of slot i is none of the earlier ones
abbrev pub new_at : Words → ℕ → Bool
new_at t i = every (λ j. differ (record_at t j) (record_at t i)) 0 i

-- the ticket of slot j is not x
abbrev pub other_than : Words → ℕ → ℕ → Bool
other_than t x j = not (eqb (record_at t j).ticket x)

-- what is kept of a ticket at its residue: tickets that share a residue rarely share this too
abbrev pub mark_of : ℕ → ℕ
mark_of x = x / 2048 % 128 + 1

-- what is kept where tickets with several marks share a residue
abbrev pub several : ℕ
several = 255

-- v is kept of ticket x, and maybe of others
abbrev pub notes : ℕ → ℕ → Bool
notes v x = eqb v (mark_of x) || eqb v several

-- each of the first i tickets that is not 0 is noted at its residue by m
abbrev pub Noted : ℕ → Words → Words → ℕ → Type 0
Noted m seen t i =
    (j : ℕ) → j < i → is_zero (record_at t j).ticket ≡ false
    → notes (get_or seen (residue_of m (record_at t j).ticket) 0) (record_at t j).ticket ≡ true

-- slot i fits by itself in an arena of W words, its ticket is none of the earlier ones, and it has u units
abbrev pub Joins : Rule → ℕ → ℕ → Words → ℕ → ℕ → Type 0
Joins ρ W next t i u =
    (row_ok ρ W next (record_at t i) ≡ true) × (new_at t i ≡ true) × (u ≡ units_of ρ (record_at t i))

-- The first i slots of a table: each fits by itself in an arena of W words, no ticket stands twice, and they have so
-- many units together.
pub record Entered (ρ : Rule) (W next : ℕ) (t : Words) (i held : ℕ) : Type 0 where
  pub fit : every (λ j. row_ok ρ W next (record_at t j)) 0 i ≡ true
  pub new : every (new_at t) 0 i ≡ true
  pub sum : held ≡ sum_to (λ j. units_of ρ (record_at t j)) i

-- ---- free blocks and records

-- the units of some runs together
abbrev pub total : List Run → ℕ
total [] = 0
total (r ∷ rs) = r.size + total rs

-- runs with gaps between them among the first N units, and every other unit is held
pub record Partitioned (ρ : Rule) (L : Ledger) (N : ℕ) (rs : List Run) : Type 0 where
  pub gapped : Gapped 0 N rs
  pub held : (u : ℕ) → u < N → covered rs u ≡ false → free ρ L u ≡ false
