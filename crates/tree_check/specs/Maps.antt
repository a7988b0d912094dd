-- The map of a table's records: spans of cells that are held, each in its place; and what the whole test says. 01, "Stored
-- form of the tree pool". Assumes nothing.
use Rattle.std.specs.Prelude.{ℕ, ◌+◌, ◌-◌, ◌*◌, ◌/◌, ◌%◌, ◌≤◌, ◌<◌, ◌≡◌, ◌≢◌, Bool, true, false, cond, eqb, length, get_or, Option, MatchOption}
use Rattle.words.specs.Lists.{Words}
use Rattle.ledger.specs.declared.Rule.{Rule}
use Rattle.ledger.specs.Records.{record_at, records_of, slots, is_live}
use Rattle.ledger.specs.Units.{first, past, valid, free}
use Rattle.stored_forms.specs.Tree.{link, form_of, form_rule, free_tree}
use Rattle.stored_forms.specs.Blocks.{Holds}
use Rattle.record_table.specs.Partition.{Entered}
use Rattle.record_table.specs.Leads.{Leading}
use Rattle.tree_check.specs.declared.Head.{Head}

-- four bytes as one number, the lowest first
abbrev pub four_at : Words → ℕ → ℕ
four_at map i =
    get_or map i 0 + 256 * get_or map (i + 1) 0 + 65536 * get_or map (i + 2) 0 + 16777216 * get_or map (i + 3) 0

-- A map with one byte more than a multiple of eight has places of eight bytes, its entries; any other has a place of
-- one byte for each cell.
abbrev pub is_entries : Words → Bool
is_entries map = eqb (length map % 8) 1

-- the first cell of the span at place p
abbrev pub first_at : Words → ℕ → ℕ
first_at map p = cond (is_entries map) (four_at map (8 * p)) p

-- the cells of the span at place p, 0 where there is none
abbrev pub cells_at : Words → ℕ → ℕ
cells_at map p = cond (is_entries map) (four_at map (8 * p + 4)) (get_or map p 0)

-- cell u is in the span at some place
abbrev pub Covers : Words → ℕ → Type 0
Covers map u = (p : ℕ) × (first_at map p ≤ u) × (u < first_at map p + cells_at map p)

-- the map covers each cell from lo up to hi
abbrev pub CoversAll : Words → ℕ → ℕ → Type 0
CoversAll map lo hi = (u : ℕ) → lo ≤ u → u < hi → Covers map u

-- How many places of n bytes of entries a search may begin at: 64 of 96, or 512 of 768. Those behind them are as many
-- as the records, so that each finds an empty place.
unfoldable pub homes : ℕ → ℕ
homes n = cond (eqb n 769) 64 512

-- Where the search for cell k begins. Few records are told apart by their 64 cells; many by the upper bits of a
-- product, which part cells that lie at equal distances.
unfoldable pub home : ℕ → ℕ → ℕ
home n k = cond (eqb n 769) (k / 64 % 64) (k * 2654435761 % 4294967296 / 8388608)

-- A search from cell k on comes to place p, where the map has entries: no place before it is empty, or has a span from
-- cell k on.
abbrev pub Reaches : Words → ℕ → ℕ → Type 0
Reaches map k p = (home (length map) k ≤ p)
    × ((q : ℕ) → home (length map) k ≤ q → q < p → (0 < cells_at map q) × (first_at map q ≢ k))

-- the search finds the span of n cells from cell k on
pub record Next (map : Words) (k n : ℕ) : Type 0 where
  pub place : ℕ
  pub is : first_at map place ≡ k
  pub units : cells_at map place ≡ n
  pub some : 0 < n
  pub reached : is_entries map ≡ true → Reaches map k place

-- what a search for the span from cell k on answers
abbrev pub Found : Words → ℕ → Option ℕ → Type 0
Found map k found = MatchOption found ((n : ℕ) → Next map k n → ⊥) (λ n. (n < 4294967296) × Next map k n)

-- searches lead from cell lo to cell hi
abbrev pub Leads : Words → ℕ → ℕ → Type 0
Leads map lo hi = Leading (Next map) hi lo

-- the places from p on are empty, where the map has entries
abbrev pub Bare : Words → ℕ → Type 0
Bare map p = is_entries map ≡ true → (q : ℕ) → p ≤ q → cells_at map q ≡ 0

-- and p is a place that a search from cell lo on may come to
abbrev pub Spare : Words → ℕ → ℕ → Type 0
Spare map lo p =
    is_entries map ≡ true
    → (home (length map) lo ≤ p) × (p < length map / 8) × ((q : ℕ) → p ≤ q → cells_at map q ≡ 0)

-- a map with a byte for each cell has one for each of the first N
abbrev pub Roomy : Words → ℕ → Type 0
Roomy map N = is_entries map ≡ false → N ≤ length map

-- what the second map covers and the first does not lies among the n cells from cell lo on
abbrev pub Adds : Words → Words → ℕ → ℕ → Type 0
Adds map map' lo n = (u : ℕ) → Covers map' u → (lo ≤ u → u < lo + n → ⊥) → Covers map u

-- The second map has what is found in the first outside the n cells from cell lo on. If they begin with a cell that it
-- does not cover, and a place is left for them, they are led through.
pub record Grows (map map' : Words) (lo n : ℕ) : Type 0 where
  pub adds : Adds map map' lo n
  pub keeps : (k x : ℕ) → (lo ≤ k → k < lo + n → ⊥) → Next map k x → Next map' k x
  pub bare : (p : ℕ) → Spare map lo p → Bare map' (p + 1)
  pub leads : (p : ℕ) → Spare map lo p → (Covers map lo → ⊥) → Leads map' lo (lo + n)

-- the number x is in the four bytes from byte i on, and no other byte has changed
pub record FourPut (map map' : Words) (i x : ℕ) : Type 0 where
  pub is : four_at map' i ≡ x
  pub others : (k : ℕ) → (i ≤ k → k < i + 4 → ⊥) → get_or map' k 0 ≡ get_or map k 0
  pub long : length map' ≡ length map

-- the records that a map has room for
abbrev pub most : Words → ℕ
most map = cond (is_entries map) (length map / 8 - homes (length map)) 256

-- p cells to a unit: the map leads through the cells of each of the first i records
abbrev pub Led : Rule → ℕ → Words → Words → ℕ → Type 0
Led ρ p t map i =
    (j : ℕ) → j < i → is_live (record_at t j) ≡ true
    → Leads map (first ρ (record_at t j) * p) (past ρ (record_at t j) * p)

-- p cells to a unit: all slots are entered, with so many units together, and the map covers only cells of units that are
-- held; if the ledger is valid, it leads through each record
pub record Mapped (ρ : Rule) (p W next : ℕ) (t : Words) (held : ℕ) (map : Words) : Type 0 where
  pub entered : Entered ρ W next t (slots t) held
  pub spans : (c : ℕ) → Covers map c → free ρ (records_of t) (c / p) ≡ false
  pub led : valid ρ W next (records_of t) ≡ true → Led ρ p t map (slots t)

-- The table holds a valid ledger, and the arena the tree of its free runs in the head's form, from the root link on.
abbrev pub Shown : Head → Words → Words → Type 0
Shown h m t =
    (valid (form_rule (form_of h.form)) (length m) h.next (records_of t) ≡ true)
    × (link (free_tree (form_of h.form) (length m) (records_of t)) ≡ h.root)
    × Holds (form_of h.form) m (free_tree (form_of h.form) (length m) (records_of t))
