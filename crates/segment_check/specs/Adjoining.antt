-- Blocks that lie side by side in the segment pool's arena, and the map of the words at which held ones begin: a bit
-- for each word, set where a record's block begins. Assumes nothing.
use Rattle.std.specs.Prelude.{ℕ, ◌+◌, ◌-◌, ◌≤◌, ◌<◌, Bool, true, false, cond, List, ◌≡◌, ltb, ℤ, pos, nat_abs, length, get_or, Option, Some}
use Rattle.words.specs.Lists.{Words, all}
use Rattle.words.specs.Counted.{every}
use Rattle.ledger.specs.Records.{record_at, records_of, is_empty}
use Rattle.ledger.specs.Units.{first, valid}
use Rattle.ledger.specs.Runs.{Run, Gapped, covered}
use Rattle.stored_forms.specs.Segments.{segment_rule, segment_index, largest}
use Rattle.segment_blocks.specs.Blocks.{Scan, Reaches}
use Rattle.segment_blocks.specs.Upkeep.{Ground}
use Rattle.segment_cores.specs.Stores.{arena_of}
use Rattle.segment_check.specs.Right.{run_right, held_right, segment_right}
use Rattle.record_table.specs.Partition.{new_at, Noted, Joins, Entered, total}
use Rattle.record_table.specs.Checks.{row_ok}
use Rattle.segment_index.specs.Control.{free_size}
use Rattle.segment_check.specs.BitMaps.{bit_at}

-- how many words from k on the map and the control word there say are held
abbrev pub held_from : List ℤ → Words → ℕ → ℕ
held_from v map k = cond (bit_at map k) (nat_abs (get_or v k (pos 0))) 0

-- the words of a run are those of a free block
abbrev pub block_right : List ℤ → Run → Bool
block_right v r = run_right v r.start (r.start + r.size)

-- a run ends before a word
abbrev pub ends_before : ℕ → Run → Bool
ends_before at r = ltb (r.start + r.size) at

-- Blocks lie side by side in the first `at` words: free ones, of so many words together and no two of them side by
-- side, and held ones. `after` is false if the last one is held, or none is there.
pub record Adjoining (v : List ℤ) (map : Words) (at free : ℕ) (after : Bool) : Type 0 where
  pub runs : List Run
  pub gapped : Gapped 0 at runs
  pub ends : after ≡ false → all (ends_before at) runs ≡ true
  pub sum : total runs ≡ free
  pub words : all (block_right v) runs ≡ true
  pub rest : (u : ℕ) → u < at → covered runs u ≡ false → (k : ℕ) × (k ≤ u) × (u < k + held_from v map k)

-- ---- block after block

-- a held block of n words begins at a word, where the map has a record's
pub record HeldBlock (v : List ℤ) (map : Words) (at n : ℕ) : Type 0 where
  pub size : n ≡ nat_abs (get_or v at (pos 0))
  pub inside : at + n ≤ length v
  pub set : bit_at map at ≡ true

-- n words are a free block, and the block before is held
pub record FreeBlock (v : List ℤ) (at : ℕ) (after : Bool) (n : ℕ) : Type 0 where
  pub apart : after ≡ false
  pub inside : at + n ≤ length v
  pub right : run_right v at (at + n) ≡ true

-- Blocks lie side by side up to `next`, the first place at or past hi. If the blocks are those with control words c,
-- `most` is the largest weight of those from `from` up to hi.
pub record Walked (v : List ℤ) (map : Words) (from hi next free : ℕ) (after : Bool) (most : ℕ) : Type 0 where
  pub adjoining : Adjoining v map next free after
  pub few : free ≤ next
  pub high : hi ≤ next
  pub swept : (c : ℕ → ℤ) → Scan v c from → (most ≡ largest c from (hi - from)) × Reaches v c from hi next

-- Blocks lie side by side in the whole arena, and if they are those with control words c, the index has their leaves
-- and first blocks.
pub record Matched (v : List ℤ) (map t : Words) (s g free : ℕ) : Type 0 where
  pub after : Bool
  pub adjoining : Adjoining v map (length v) free after
  pub right : (c : ℕ → ℤ) → Ground v c s g → every (segment_right c (length v) s t) 0 s ≡ true

-- ---- the blocks of a sound pool

-- The blocks with control words c, as the stored form of a ledger has them: the map has each held one, the words behind
-- a free one's control word are zero, no two free ones touch, and `sum u` words are free before the block at u.
pub record Kept (v : List ℤ) (map : Words) (c : ℕ → ℤ) (sum : ℕ → ℕ) : Type 0 where
  pub heads : (u : ℕ) → u < length v → 0 < nat_abs (c u) → free_size (c u) ≡ 0 → bit_at map u ≡ true
  pub zeros : (u : ℕ) → u < length v → 0 < free_size (c u) → run_right v u (u + free_size (c u)) ≡ true
  pub apart : (u : ℕ) → u < length v → 0 < free_size (c u) → free_size (c (u + free_size (c u))) ≡ 0
  pub sums : (u : ℕ) → u < length v → 0 < nat_abs (c u) → sum (u + nat_abs (c u)) ≡ sum u + free_size (c u)

-- blocks with control words c have led to `at`: so many words are free before it, and none at it if the last block is
pub record Led (c : ℕ → ℤ) (sum : ℕ → ℕ) (at free : ℕ) (after : Bool) : Type 0 where
  pub count : free ≡ sum at
  pub turn : after ≡ true → free_size (c at) ≡ 0

-- blocks that are kept, with the index that is theirs, are walked over to their end
abbrev pub WalksAll : List ℤ → Words → Words → ℕ → ℕ → Option ℕ → Type 0
WalksAll v map t s g free =
    (c : ℕ → ℤ) → (sum : ℕ → ℕ) → Kept v map c sum → sum 0 ≡ 0 → Ground v c s g
    → every (segment_right c (length v) s t) 0 s ≡ true → free ≡ Some (sum (length v))

-- ---- the records

-- Each bit of the map that is set stands for one of the first i records of a table: its block begins there, and the
-- control word has its size.
abbrev pub Heads : List ℤ → Words → Words → ℕ → Type 0
Heads v t map i =
    (k : ℕ) → bit_at map k ≡ true
    → (j : ℕ) × (j < i) × (is_empty (record_at t j) ≡ false) × (first segment_rule (record_at t j) ≡ k)
    × (nat_abs (get_or v k (pos 0)) ≡ (record_at t j).words + 1)

-- each of the first i records has its bit in the map
abbrev pub Sets : Words → Words → ℕ → Type 0
Sets t map i =
    (j : ℕ) → j < i → is_empty (record_at t j) ≡ false → bit_at map (first segment_rule (record_at t j)) ≡ true

-- slot i may follow those before it, and its control word is right
pub record Good (v : List ℤ) (next : ℕ) (t : Words) (i : ℕ) : Type 0 where
  pub fits : row_ok segment_rule (length v) next (record_at t i) ≡ true
  pub new : new_at t i ≡ true
  pub right : held_right v (record_at t i) ≡ true

-- slot i may follow those before it with u words, its control word is right, and it stands in the map
pub record Joined (v : List ℤ) (next : ℕ) (t map seen : Words) (m i u : ℕ) : Type 0 where
  pub joins : Joins segment_rule (length v) next t i u
  pub right : held_right v (record_at t i) ≡ true
  pub noted : Noted m seen t (i + 1)
  pub heads : Heads v t map (i + 1)
  pub sets : Sets t map (i + 1)

-- so it is with each of the first i slots, and they have so many words together
pub record Headed (v : List ℤ) (next : ℕ) (t map seen : Words) (m i held : ℕ) : Type 0 where
  pub entered : Entered segment_rule (length v) next t i held
  pub right : every (λ j. held_right v (record_at t j)) 0 i ≡ true
  pub noted : Noted m seen t i
  pub heads : Heads v t map i
  pub sets : Sets t map i

-- the table holds a valid ledger, and arena and index are its stored form
abbrev pub Shown : ℕ → List ℤ → Words → Words → ℕ → Type 0
Shown next v t x s =
    (valid segment_rule (length v) next (records_of t) ≡ true) × (v ≡ arena_of (records_of t) v)
    × (x ≡ segment_index s (length v) (records_of t))
