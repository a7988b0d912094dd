-- The segment pool's search, and the places that it looks at. 01, "Search as in 001", and 02, ticket 5.
-- Assumes nothing.
use Rattle.std.specs.Prelude.{ℕ, zero, suc, ◌+◌, ◌-◌, ◌*◌, ◌/◌, ◌^◌, cond, eqb, leb, ltb, ℤ, nat_abs, get_or}
use Rattle.std.proofs.Math.Option.{Option, none, some}
use Rattle.words.specs.Lists.{Words}
use Rattle.ledger.specs.Records.{Ledger}
use Rattle.stored_forms.specs.declared.Steps.{Steps}
use Rattle.stored_forms.specs.Segments.{control_word, weight, segment_size, depth}

-- ---- the places, from the pool before the call

-- the base-two logarithm of S, one of 2 ^ 0 to 2 ^ d
abbrev pub log_of : ℕ → ℕ → ℕ
log_of S zero = 0
log_of S (suc d) = cond (eqb S (2 ^ suc d)) (suc d) (log_of S d)

-- how many blocks, free or held, begin at one of the n words from u on, by their control words c
abbrev pub block_count : (ℕ → ℤ) → ℕ → ℕ → ℕ
block_count c u zero = 0
block_count c u (suc n) = cond (ltb 0 (weight (c u))) (suc (block_count c (suc u) n)) (block_count c (suc u) n)

-- the first word of k's segment, of z words
abbrev pub segment_begin : ℕ → ℕ → ℕ
segment_begin k z = k / z * z

-- 02, where the block at k is chosen: "1, plus the base-two logarithm of S, plus the number of blocks, free or held,
-- that begin in the chosen segment at or below the chosen one".
unfoldable pub places_to : ℕ → ℕ → Ledger → ℕ → ℕ
places_to S W L k =
    let start = segment_begin k (segment_size W S) in
    1 + log_of S depth + block_count (control_word W L) start (suc k - start)

-- 02: "at most 1 + log S + words per segment"
unfoldable pub most_places : ℕ → ℕ → ℕ
most_places S W = 1 + log_of S depth + segment_size W S

-- ---- the search, which counts each comparison

-- where the search stands, and how many words it has compared: the code's struct `Steps`
abbrev pub steps : ℕ → ℕ → Steps
steps k n = record { at = k; places = n }

abbrev pub one_more : Steps → Steps
one_more s = steps s.at (suc s.places)

-- 01: "go down, left where it is large enough": d levels down from word i of the index t
abbrev pub go_down : Words → ℕ → ℕ → ℕ → Steps
go_down t n zero i = steps i 0
go_down t n (suc d) i = one_more (go_down t n d (cond (leb n (get_or t (2 * i) 0)) (2 * i) (2 * i + 1)))

-- "scan the chosen segment from its first block": from block to block, of which there are at most w
abbrev pub scan : (ℕ → ℤ) → ℕ → ℕ → ℕ → Steps
scan c n zero u = steps u 0
scan c n (suc w) u = one_more (cond (leb n (weight (c u))) (steps u 0) (scan c n w (u + nat_abs (c u))))

-- "compare the root", then the two, for n words with the control word; c u is word u of the arena, and the first block
-- of leaf i's segment is word S + i of the index. It stands at W where the root is too small.
unfoldable pub searched : (ℕ → ℤ) → ℕ → ℕ → Words → ℕ → Steps
searched c W S t n =
    let leaf = go_down t n (log_of S depth) 1 in
    let block = scan c n W (get_or t (S + leaf.at) 0) in
    cond (ltb (get_or t 1 0) n) (steps W 1) (steps block.at (1 + leaf.places + block.places))

-- What the search has to come to, by the lowest fit: its first word, with the places of ticket 5; or W, with 1.
abbrev pub steps_to : ℕ → ℕ → Ledger → Option ℕ → Steps
steps_to S W L none = steps W 1
steps_to S W L (some k) = steps k (places_to S W L k)
