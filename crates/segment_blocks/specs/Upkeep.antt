-- The index after a change of the control words, segment by segment. Assumes nothing.
use Rattle.std.specs.Prelude.{ℕ, ◌+◌, ◌*◌, ◌≤◌, ◌<◌, min, Bool, true, false, cond, List, ◌≢◌, ◌≡◌, ltb, ℤ, pos, nat_abs, length, get_or}
use Rattle.words.specs.Lists.{Words}
use Rattle.stored_forms.specs.Segments.{weight, segment_size, is_power, depth, most_words}
use Rattle.segment_index.specs.Index.{index_of, Agree}
use Rattle.segment_index.specs.Tree.{Heap}
use Rattle.segment_blocks.specs.Blocks.{Blocks, Scan}

-- the sizes of a segment pool: s segments of g words
pub record Sizes (W s g : ℕ) : Type 0 where
  pub power : is_power s depth ≡ true
  pub words : 0 < W
  pub most : W ≤ most_words
  pub each : g ≡ segment_size W s

-- blocks with the control words c, in s segments of g words
pub record Ground (v : List ℤ) (c : ℕ → ℤ) (s g : ℕ) : Type 0 where
  pub sizes : Sizes (length v) s g
  pub blocks : Blocks v c

-- one free block, from word 0 to the end
pub record OneBlock (v : List ℤ) (c : ℕ → ℤ) (s g : ℕ) : Type 0 where
  pub ground : Ground v c s g
  pub whole : c 0 ≡ pos (length v)

-- the blocks of segment k can be scanned from `from` on: its first block, or a later place where it has none
pub record Facing (v : List ℤ) (c : ℕ → ℤ) (s g k from : ℕ) : Type 0 where
  pub sizes : Sizes (length v) s g
  pub is : k < s
  pub low : min (k * g) (length v) ≤ from
  pub scan : Scan v c from
  pub quiet : (u : ℕ) → k * g ≤ u → u < from → c u ≡ pos 0

-- and the index can be brought up to date there
pub record Ready (v : List ℤ) (c : ℕ → ℤ) (t : Words) (s g k from : ℕ) : Type 0 where
  pub facing : Facing v c s g k from
  pub heap : Heap s t
  pub long : length t ≡ 3 * s

-- u is t with segment k as the control words c have it
pub record Refreshed (c : ℕ → ℤ) (W s k : ℕ) (t u : Words) : Type 0 where
  pub heap : Heap s u
  pub same : length u ≡ length t
  pub zero : get_or u 0 0 ≡ get_or t 0 0
  pub here : Agree c W s u k
  pub rest : (j : ℕ) → s ≤ j → j ≢ s + k → j ≢ 2 * s + k → get_or u j 0 ≡ get_or t j 0

-- that, where `on` says so; else nothing
pub record RefreshedIf (on : Bool) (c : ℕ → ℤ) (W s k : ℕ) (t u : Words) : Type 0 where
  pub done : on ≡ true → Refreshed c W s k t u
  pub kept : on ≡ false → u ≡ t

-- the first-block word of a segment that ends at hi and has its first block at `from`, if at all
abbrev pub first_from : ℕ → ℕ → ℕ → ℕ
first_from from hi W = cond (ltb from hi) from W

-- The control words b have become c, and t is still the index of b. At most three weights differ: those at a, at p, and
-- at e unless y is 0. A block of c's begins at a, and none between a and `end`.
pub record Touched (b c : ℕ → ℤ) (v : List ℤ) (t : Words) (s g a p e end y : ℕ) : Type 0 where
  pub sizes : Sizes (length v) s g
  pub was : t ≡ index_of b (length v) s
  pub blocks : Blocks v c
  pub same : (u : ℕ) → u ≢ a → u ≢ p → (u ≡ e → y ≡ 0) → weight (c u) ≡ weight (b u)
  pub after : 0 < nat_abs (c a)
  pub low : a ≤ p
  pub mid : p < e
  pub high : e ≤ end
  pub top : end ≤ length v
  pub last : 0 < y → e < length v
  pub quiet : (u : ℕ) → a < u → u < end → c u ≡ pos 0
  pub begins : end < length v → 0 < nat_abs (c end)
