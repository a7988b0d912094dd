-- `segment_check::ranged` meets its contract: the words before the index have been read. Assumes nothing.
use Prim.Native.Nat.{ℕ, ◌<◌, ◌^◌}
use lib.IntN.{pos}
use lib.ListN.{get_or}
use lib.Signed.{mag}
use Rattle.segment_check.proofs.ranged.Given as goal

abbrev pub invariant-loop-word : goal.invariant-loop-word
invariant-loop-word l = (j : ℕ) → j < l.word-index → mag (get_or l.arena j (pos 0)) < 2 ^ 31
