-- What the segment pool's search and release look at. Assumes nothing.
use Rattle.std.specs.Prelude.{ℕ, ◌-◌, ◌^◌, ◌≤◌, ◌<◌, Bool, cond, List, ◌≡◌, ltb, ℤ, pos, nat_abs, length, get_or}
use Rattle.words.specs.Lists.{Words}
use Rattle.ledger.specs.Records.{Ledger}
use Rattle.stored_forms.specs.Segments.{segment_size, starts_at, depth}
use Rattle.segment_index.specs.Control.{free_size}
use Rattle.segment_index.specs.Index.{index_of}
use Rattle.segment_blocks.specs.Upkeep.{Sizes}
use Rattle.segment_cores.specs.Stores.{Sound}
use Rattle.segment_cores.specs.Views.{Rest}

-- a sound pool of 2 ^ d segments, in which n words are sought, the control word counted
pub record Searching (L : Ledger) (v : List ℤ) (t : Words) (s d n : ℕ) : Type 0 where
  pub sound : Sound L v t s (segment_size (length v) s)
  pub power : s ≡ 2 ^ d
  pub few : d ≤ depth
  pub two : 2 ≤ n

-- the index of the control words c, of which one is at 0 and one, past it, at p
pub record LaterBlock (c : ℕ → ℤ) (W : ℕ) (t : Words) (s d g p : ℕ) : Type 0 where
  pub sizes : Sizes W s g
  pub power : s ≡ 2 ^ d
  pub few : d ≤ depth
  pub was : t ≡ index_of c W s
  pub start : 0 < nat_abs (c 0)
  pub later : 0 < p
  pub inside : p < W
  pub here : 0 < nat_abs (c p)

-- a block begins at r, below p
pub record Begun (c : ℕ → ℤ) (p r : ℕ) : Type 0 where
  pub below : r < p
  pub begins : 0 < nat_abs (c r)

-- a held block of a sound pool of 2 ^ d segments begins at p
pub record HeldAt (L : Ledger) (v : List ℤ) (t : Words) (s d g p : ℕ) : Type 0 where
  pub sound : Sound L v t s g
  pub power : s ≡ 2 ^ d
  pub few : d ≤ depth
  pub here : 0 < starts_at L p

-- x free units lie right below p
pub record Beneath (f : ℕ → Bool) (p x : ℕ) : Type 0 where
  pub fits : x ≤ p
  pub rest : Rest f (p - x) x p

-- the free words from a place on at which a block begins, or the arena ends
abbrev pub rest_at : List ℤ → ℕ → ℕ
rest_at v e = cond (ltb e (length v)) (free_size (get_or v e (pos 0))) 0
