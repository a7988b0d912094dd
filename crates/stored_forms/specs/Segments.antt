-- The segment pool's stored form: control words and the index. 01, "Stored form of the segment pool". Assumes nothing.
use Rattle.std.specs.Prelude.{ℕ, zero, suc, ◌+◌, ◌-◌, ◌*◌, ◌/◌, ◌^◌, max, Bool, true, false, cond, not, ◌&&◌, ◌||◌, [], ◌∷◌, eqb, leb, ltb, ℤ, pos, negsuc, neg_ℤ}
use Rattle.std.proofs.Math.Option.{none, some}
use Rattle.std.specs.Int.{w32}
use Rattle.std.proofs.Common.{of_z}
use Rattle.words.specs.Lists.{Words, list_from}
use Rattle.words.specs.Counted.{lowest}
use Rattle.ledger.specs.declared.Rule.{Rule}
use Rattle.ledger.specs.Records.{Ledger, is_live}
use Rattle.ledger.specs.Units.{span, first, free}

-- a unit is one word, and a block's first word is its control word
abbrev pub segment_rule : Rule
segment_rule = record { unit = 1; lead = 1 }

-- The largest arena, and the most words that can be asked for (number 2).
abbrev pub most_words : ℕ
most_words = 16384

-- ---- control words

-- the units of the live record that begins at unit u; 0 if none does
abbrev pub starts_at : Ledger → ℕ → ℕ
starts_at [] u = 0
starts_at (r ∷ L) u = cond (is_live r && eqb (first segment_rule r) u) (span segment_rule r.words) (starts_at L u)

-- how many of n units from u on are free, up to the first that is not
abbrev pub free_from : (ℕ → Bool) → ℕ → ℕ → ℕ
free_from f u zero = 0
free_from f u (suc n) = cond (f u) (suc (free_from f (suc u) n)) 0

-- a free unit u begins its run: the unit before it is not free, or there is none
abbrev pub opens : (ℕ → Bool) → ℕ → Bool
opens f zero = true
opens f (suc u) = not (f u)

-- The control word at word u of W: the block's size, the control word counted, positive if free and negative if held;
-- 0 where no block begins.
unfoldable pub control_word : ℕ → Ledger → ℕ → ℤ
control_word W L u =
    let f = free segment_rule L in
    cond (ltb 0 (starts_at L u)) (neg_ℤ (pos (starts_at L u)))
    (cond (f u && opens f u) (pos (free_from f u (W - u))) (pos 0))

-- the same in 32 bits
unfoldable pub segment_word : ℕ → Ledger → ℕ → ℕ
segment_word W L u = of_z w32 (control_word W L u)

-- ---- the index, from the control words c

-- what a control word counts for in a leaf: a free block its size, a held block 1, no block 0
abbrev pub weight : ℤ → ℕ
weight (pos n) = n
weight (negsuc n) = 1

-- the largest weight of the n words from u on: a leaf is 0 if no block begins in its segment, else at least 1
abbrev pub largest : (ℕ → ℤ) → ℕ → ℕ → ℕ
largest c u zero = 0
largest c u (suc n) = max (weight (c u)) (largest c (suc u) n)

-- the address of the first of the n words from u on that begins a block, or W
abbrev pub first_block : (ℕ → ℤ) → ℕ → ℕ → ℕ → ℕ
first_block c W u n = elim (lowest (λ k. ltb 0 (weight (c k))) u n) [ none ↦ W | some k ↦ k ]

-- Word i of the tree over S leaves: a leaf from S on, else the larger of words 2i and 2i + 1. `d` levels are enough
-- where S is at most 2 ^ d; `tree_word_lem` in proofs/SegmentLaws is the paper's line, with no d.
abbrev pub tree_word : (ℕ → ℕ) → ℕ → ℕ → ℕ → ℕ
tree_word leaf S zero i = leaf (i - S)
tree_word leaf S (suc d) i =
    elim (leb S i) [ true ↦ leaf (i - S) | false ↦ max (tree_word leaf S d (2 * i)) (tree_word leaf S d (2 * i + 1)) ]

-- W / S words to a segment, rounded up
unfoldable pub segment_size : ℕ → ℕ → ℕ
segment_size W S = (W + (S - 1)) / S

-- S is at most 2 ^ 8
abbrev pub depth : ℕ
depth = 8

-- word i of the 3S: 0; the tree; the first blocks
unfoldable pub index_word : (ℕ → ℤ) → ℕ → ℕ → ℕ → ℕ
index_word c W S i =
    let z = segment_size W S in
    cond (eqb i 0) 0
    (cond (ltb i (2 * S)) (tree_word (λ k. largest c (k * z) z) S depth i)
    (first_block c W ((i - 2 * S) * z) z))

unfoldable pub segment_index : ℕ → ℕ → Ledger → Words
segment_index S W L = list_from (index_word (control_word W L) W S) 0 (3 * S)

-- ---- ranges

-- one of 2 ^ 0 to 2 ^ d
abbrev pub is_power : ℕ → ℕ → Bool
is_power S zero = eqb S 1
is_power S (suc d) = eqb S (2 ^ suc d) || is_power S d

unfoldable pub segment_range : ℕ → ℕ → Bool
segment_range S W = leb 2 W && leb W most_words && is_power S depth
