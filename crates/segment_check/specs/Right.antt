-- What the check of the segment pool compares: control words of records and of free runs, and the words of the index.
-- Assumes nothing.
use Rattle.std.specs.Prelude.{ℕ, ◌+◌, ◌-◌, ◌*◌, ◌≤◌, max, Bool, ◌&&◌, ◌||◌, List, ◌≡◌, eqb, leb, ℤ, pos, nat_abs, length, get_or}
use Rattle.words.specs.Counted.{every}
use Rattle.words.specs.Lists.{Words}
use Rattle.words.specs.Signed.{zero_at_z}
use Rattle.ledger.specs.Records.{is_empty, slots}
use Rattle.ledger.specs.declared.Row.{Row}
use Rattle.stored_forms.specs.Segments.{segment_size, largest, first_block}
use Rattle.segment_index.specs.Control.{free_size}
use Rattle.segment_blocks.specs.Upkeep.{Sizes}

-- ---- the arena

-- a live record's control word is its size with the control word, negated
abbrev pub held_right : List ℤ → Row → Bool
held_right v r =
    is_empty r
    || (eqb (nat_abs (get_or v (r.address - 1) (pos 0))) (r.words + 1)
    && eqb (free_size (get_or v (r.address - 1) (pos 0))) 0)

-- the words of a free run from lo up to hi
abbrev pub run_right : List ℤ → ℕ → ℕ → Bool
run_right v lo hi =
    leb hi lo
    || (eqb (free_size (get_or v lo (pos 0))) (hi - lo) && every (zero_at_z v) (lo + 1) (hi - (lo + 1)))

-- ---- the index

abbrev pub node_right : Words → ℕ → Bool
node_right t i = eqb (get_or t i 0) (max (get_or t (2 * i) 0) (get_or t (2 * i + 1) 0))

-- word 0, and the inner words
abbrev pub tree_right : Words → ℕ → Bool
tree_right t s = eqb (get_or t 0 0) 0 && every (node_right t) 1 (s - 1)

-- the two words of segment k are these
abbrev pub two_right : Words → ℕ → ℕ → ℕ → ℕ → Bool
two_right t s k most first = eqb most (get_or t (s + k) 0) && eqb first (get_or t (2 * s + k) 0)

unfoldable pub segment_right : (ℕ → ℤ) → ℕ → ℕ → Words → ℕ → Bool
segment_right c W s t k =
    two_right t s k (largest c (k * segment_size W s) (segment_size W s))
    (first_block c W (k * segment_size W s) (segment_size W s))

-- the lengths under which the pool is checked
pub record Measured (v : List ℤ) (t x : Words) (s g : ℕ) : Type 0 where
  pub sizes : Sizes (length v) s g
  pub few : slots t ≤ 256
  pub long : length x ≡ 3 * s
