-- The way from a leaf to the last one before it that is not 0. The word j at height h has the leaves from j * 2 ^ h on
-- below it, 2 ^ h of them. Assumes nothing.
use Rattle.std.specs.Prelude.{ℕ, ◌+◌, ◌*◌, ◌^◌, ◌≤◌, ◌<◌, ◌≡◌, get_or}
use Rattle.words.specs.Lists.{Words}
use Rattle.stored_forms.specs.Segments.{depth}
use Rattle.segment_index.specs.Tree.{Heap}

-- i is a leaf after the first, which is not 0
pub record Later (d : ℕ) (t : Words) (i : ℕ) : Type 0 where
  pub few : d ≤ depth
  pub heap : Heap (2 ^ d) t
  pub first : 0 < get_or t (2 ^ d) 0
  pub after : 2 ^ d < i
  pub inside : i < 2 * 2 ^ d

-- a word that is not 0, at height h of a tree of s leaves
pub record Under (s : ℕ) (t : Words) (h j : ℕ) : Type 0 where
  pub heap : Heap s t
  pub root : 0 < j
  pub from : s ≤ j * 2 ^ h
  pub upto : j * 2 ^ h + 2 ^ h ≤ 2 * s
  pub full : 0 < get_or t j 0

-- such a word, with nothing but zeros between the leaves below it and i
pub record Above (s : ℕ) (t : Words) (i h j : ℕ) : Type 0 where
  pub under : Under s t h j
  pub low : h ≤ depth
  pub reach : j * 2 ^ h + 2 ^ h ≤ i
  pub empty : (k : ℕ) → j * 2 ^ h + 2 ^ h ≤ k → k < i → get_or t k 0 ≡ 0
