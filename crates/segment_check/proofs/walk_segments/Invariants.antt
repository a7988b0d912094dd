-- `segment_check::walk_segments` meets its contract: the segments before k are walked over, and the index has their two words.
-- Assumes nothing.
use Prim.Native.Nat.{ℕ}
use mathlib.Core.Path.{◌≡◌}
use lib.IntN.{ℤ}
use lib.ListN.{length}
use Rattle.segment_blocks.specs.Upkeep.{Ground}
use Rattle.segment_check.specs.Adjoining.{Kept, Led}
use Rattle.segment_check.proofs.MatchLaws.{Matching}
use Rattle.segment_check.proofs.walk_segments.Given as goal

abbrev pub invariant-loop-k : goal.invariant-loop-k
invariant-loop-k l =
    (l.w ≡ length l.v) × Matching l.v l.map l.t l.s l.g l.k l.at l.free l.after
    × ((c : ℕ → ℤ) → (free-before : ℕ → ℕ) → Kept l.v l.map c free-before → free-before 0 ≡ 0 → Ground l.v c l.s l.g
    → Led c free-before l.at l.free l.after)
