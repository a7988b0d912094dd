-- The unit rule: where records lie, which ledgers are valid, which units are free, and the lowest fit.
-- 01, "The ledger" and row 1 of "Calls and numbers"; 02, tickets 6 and 13. Assumes nothing.
use Rattle.std.specs.Prelude.{ℕ, suc, ◌+◌, ◌-◌, ◌*◌, ◌/◌, ◌%◌, Bool, not, ◌&&◌, ◌||◌, eqb, leb, ltb}
use Rattle.std.proofs.Math.Option.{Option}
use Rattle.words.specs.Lists.{all, any, pairwise}
use Rattle.words.specs.Counted.{every, lowest, within}
use Rattle.ledger.specs.declared.Row.{Row}
use Rattle.ledger.specs.declared.Rule.{Rule}
use Rattle.ledger.specs.Records.{Ledger, is_party, is_empty, is_live, Plan, vacate, keep, carry_out}

-- The unit rule is the code's struct `Rule`: words to a unit, and words of a block before its address.
-- Tree pool: 2, 4 or 8 by its form, and 0. Segment pool: 1 and 1, the control word.
module _ (ρ : Rule) where
  -- the units that a request for n words takes, rounded up
  unfoldable pub span : ℕ → ℕ
  span n = (n + ρ.lead + (ρ.unit - 1)) / ρ.unit

  -- the address of a block that begins at unit k
  unfoldable pub address_at : ℕ → ℕ
  address_at k = ρ.unit * k + ρ.lead

  -- a record's first unit, and the first unit past it
  unfoldable pub first : Row → ℕ
  first r = (r.address - ρ.lead) / ρ.unit

  unfoldable pub past : Row → ℕ
  past r = first r + span r.words

  -- Row 1, a record by itself, in an arena of W words: ticket not 0 and, where the next ticket is not 0, below it;
  -- words asked 1 or more; a party; starting on a unit; inside the arena.
  unfoldable pub fits : ℕ → ℕ → Row → Bool
  fits W next r =
      not (eqb r.ticket 0)
      && (eqb next 0 || ltb r.ticket next)
      && leb 1 r.words
      && is_party r.party
      && leb ρ.lead r.address
      && eqb ((r.address - ρ.lead) % ρ.unit) 0
      && leb (ρ.unit * past r) W

  -- Row 1, two records: tickets differ, and no unit is shared.
  unfoldable pub apart : Row → Row → Bool
  apart r s =
      is_empty r || is_empty s
      || (not (eqb r.ticket s.ticket) && (leb (past r) (first s) || leb (past s) (first r)))

  unfoldable pub valid : ℕ → ℕ → Ledger → Bool
  valid W next L = all (λ r. is_empty r || fits W next r) L && pairwise apart L

  -- a live record covers unit u; no live record does
  unfoldable pub covers : ℕ → Row → Bool
  covers u r = is_live r && within (first r) (past r) u

  unfoldable pub free : Ledger → ℕ → Bool
  free L u = not (any (covers u) L)

  -- the units that a record has no more after a plan: "the units beyond its rounding become free" (02, ticket 13)
  abbrev pub freed_by : Plan → Row → ℕ → Bool
  freed_by q r u = covers u r && not (covers u (carry_out q r))

  -- They are its last ones: a plan that can be carried out leaves this many units, from the first on, and frees the rest.
  abbrev pub kept_units : Plan → ℕ
  kept_units vacate = 0
  kept_units (keep n) = span n

  abbrev pub tail_units : Plan → Row → ℕ
  tail_units q r = span r.words - kept_units q

  -- word i of the arena is its holder's: it lies in a held block, at or past the address, spare words included
  unfoldable pub owns : ℕ → Row → Bool
  owns i r = is_live r && within r.address (ρ.unit * past r) i

  unfoldable pub owned : Ledger → ℕ → Bool
  owned L i = any (owns i) L

-- Demand 2: the lowest starting unit from which m of the N units are free.
unfoldable pub lowest_fit : (ℕ → Bool) → ℕ → ℕ → Option ℕ
lowest_fit f N m = lowest (λ k. every f k m) 0 (suc N - m)
