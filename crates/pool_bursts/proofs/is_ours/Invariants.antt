use Rattle.std.proofs.Common.{◌≡◌, ◌-◌}
use mathlib.Core.Bool.{◌&&◌}
use Rattle.words.specs.Counted.{every}
use Rattle.pool_bursts.proofs.LoadLaws.{ours_at}
use Rattle.pool_bursts.proofs.is_ours.Given as goal

-- the flag so far, and the test of what is left, make the answer
abbrev pub invariant-loop-i : goal.invariant-loop-i
invariant-loop-i l = (l.fine && every (ours_at l.table) l.i (l.i-end - l.i)) ≡ every (ours_at l.table) 0 l.i-end
