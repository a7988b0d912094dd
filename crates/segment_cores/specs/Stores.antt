-- A sound segment pool over integers, and what a grant, a release and a trim store. Assumes nothing.
use Rattle.std.specs.Prelude.{ℕ, ◌+◌, ◌-◌, ◌≤◌, ◌^◌, true, cond, List, ◌≡◌, ltb, ℤ, pos, neg_ℤ, length, set}
use Rattle.words.specs.Lists.{Words}
use Rattle.words.specs.Places.{stamp, wiped}
use Rattle.ledger.specs.Records.{Ledger}
use Rattle.ledger.specs.Units.{valid, free, owned}
use Rattle.stored_forms.specs.Segments.{segment_rule, control_word, segment_index, opens, depth}
use Rattle.segment_blocks.specs.Upkeep.{Sizes}
use Rattle.segment_cores.specs.Views.{Adds, Cuts}

-- the arena of a ledger, over what holders wrote in v
unfoldable pub arena_of : Ledger → List ℤ → List ℤ
arena_of L v = stamp (owned segment_rule L) (control_word (length v) L) v

-- v and t are the stored form of L, in s segments of g words
pub record Sound (L : Ledger) (v : List ℤ) (t : Words) (s g : ℕ) : Type 0 where
  pub sizes : Sizes (length v) s g
  pub next : ℕ
  pub good : valid segment_rule (length v) next L ≡ true
  pub arena : v ≡ arena_of L v
  pub index : t ≡ segment_index s (length v) L

-- L' is to have a block of n words more than L, at p, where a free run begins
pub record Granting (L L' : Ledger) (v : List ℤ) (t : Words) (s g p n : ℕ) : Type 0 where
  pub sound : Sound L v t s g
  pub next : ℕ
  pub good : valid segment_rule (length v) next L' ≡ true
  pub adds : Adds L L' (length v) p n
  pub opened : opens (free segment_rule L) p ≡ true

-- L' is to have a block less than L: that at p, of n words
pub record Releasing (L L' : Ledger) (v : List ℤ) (t : Words) (s d g p n : ℕ) : Type 0 where
  pub sound : Sound L v t s g
  pub power : s ≡ 2 ^ d
  pub few : d ≤ depth
  pub next : ℕ
  pub good : valid segment_rule (length v) next L' ≡ true
  pub adds : Adds L' L (length v) p n

-- L' is to have the block at p cut to its first m words, k fewer than in L
pub record Trimming (L L' : Ledger) (v : List ℤ) (t : Words) (s g p m k : ℕ) : Type 0 where
  pub sound : Sound L v t s g
  pub next : ℕ
  pub good : valid segment_rule (length v) next L' ≡ true
  pub cuts : Cuts L L' (length v) p m k

-- the stored form of L, over what holders wrote in v
pub record Becomes (L : Ledger) (v : List ℤ) (s : ℕ) (v' : List ℤ) (t' : Words) : Type 0 where
  pub arena : v' ≡ arena_of L v
  pub index : t' ≡ segment_index s (length v) L

-- a ledger with no live record, for an arena of W words
pub record Unheld (L : Ledger) (W : ℕ) : Type 0 where
  pub next : ℕ
  pub good : valid segment_rule W next L ≡ true
  pub clear : (u : ℕ) → free segment_rule L u ≡ true

-- ---- the stores

-- a free block of y words at e, none where y is 0
abbrev pub put_rest : List ℤ → ℕ → ℕ → List ℤ
put_rest v e y = cond (ltb 0 y) (set v e (pos y)) v

-- a grant: the control word of what is left of the run, and the block's own
abbrev pub grant_stores : List ℤ → ℕ → ℕ → ℕ → List ℤ
grant_stores v p n y = set (put_rest v (p + n) y) p (neg_ℤ (pos n))

-- the end of what a release wipes: the block, and the control word of the free block above it
abbrev pub past_old : ℕ → ℕ → ℕ
past_old e y = cond (ltb 0 y) (e + 1) e

-- a release: what is no more is wiped, and the run's control word is written
abbrev pub merged : List ℤ → ℕ → ℕ → ℕ → ℕ → List ℤ
merged v p n x y = set (wiped (pos 0) p (past_old (p + n) y) v) (p - x) (pos (x + n + y))

-- a trim: the kept block's control word is written, and what lies behind it is released, with no free word below
abbrev pub trimmed : List ℤ → ℕ → ℕ → ℕ → ℕ → List ℤ
trimmed v p m k y = merged (set v p (neg_ℤ (pos m))) (p + m) k 0 y
