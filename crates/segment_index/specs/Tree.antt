-- The tree of maxima: words 1 to 2s - 1, the leaves at s to 2s - 1. Assumes nothing.
use Rattle.std.specs.Prelude.{ℕ, ◌+◌, ◌*◌, ◌≤◌, ◌<◌, max, ◌≡◌, length, get_or, set}
use Rattle.words.specs.Lists.{Words}

-- every inner word is the larger of its two sons
pub record Heap (s : ℕ) (t : Words) : Type 0 where
  pub long : 2 * s ≤ length t
  pub node : (i : ℕ) → 0 < i → i < s → get_or t i 0 ≡ max (get_or t (2 * i) 0) (get_or t (2 * i + 1) 0)

-- r is the lowest leaf that is at least n
pub record LowestLeaf (s : ℕ) (t : Words) (n r : ℕ) : Type 0 where
  pub leaf : s ≤ r
  pub inside : r < 2 * s
  pub fits : n ≤ get_or t r 0
  pub before : (j : ℕ) → s ≤ j → j < r → get_or t j 0 < n

-- u is the tree t with v at the leaf r
pub record Raised (s : ℕ) (t : Words) (r v : ℕ) (u : Words) : Type 0 where
  pub heap : Heap s u
  pub same : length u ≡ length t
  pub first : get_or u 0 0 ≡ get_or t 0 0
  pub leaves : (j : ℕ) → s ≤ j → get_or u j 0 ≡ get_or (set t r v) j 0

-- r is the last of the words from lo up to hi that is not 0
pub record LastIn (t : Words) (lo hi r : ℕ) : Type 0 where
  pub above : lo ≤ r
  pub below : r < hi
  pub full : 0 < get_or t r 0
  pub empty : (j : ℕ) → r < j → j < hi → get_or t j 0 ≡ 0
