-- The update of one leaf up its branch. Assumes nothing.
use Prim.Native.Nat.{ℕ, ◌+◌, ◌*◌, ◌/◌, ◌≤◌, ◌<◌, max}
use mathlib.Core.Logic.{◌≢◌}
use mathlib.Core.Path.{◌≡◌}
use lib.ListN.{length, get_or}
use Rattle.words.specs.Lists.{Words}

-- u is t but for the words above the place i, of which the next alone may be out of date
pub record Bent (s : ℕ) (t u : Words) (i : ℕ) : Type 0 where
  pub root : 0 < i
  pub inside : i < 2 * s
  pub long : 2 * s ≤ length u
  pub same : length u ≡ length t
  pub first : get_or u 0 0 ≡ get_or t 0 0
  pub leaves : (j : ℕ) → s ≤ j → get_or u j 0 ≡ get_or t j 0
  pub node : (j : ℕ) → 0 < j → j < s → j ≢ i / 2 → get_or u j 0 ≡ max (get_or u (2 * j) 0) (get_or u (2 * j + 1) 0)

-- no word of the tree is larger than v
abbrev pub Most : ℕ → Words → ℕ → Type 0
Most s t v = (j : ℕ) → j < 2 * s → get_or t j 0 ≤ v
