use mathlib.Core.Path.{◌≡◌}
use mathlib.Core.Bool.{◌&&◌}
use lib.ListN.{drop}
use Rattle.words.specs.Lists.{all}
use Rattle.words.proofs.is_zero_block.Given as goal

abbrev pub invariant-loop-x : goal.invariant-loop-x
invariant-loop-x g l = let zero = g.T.Bits.is_zero in (zero l.any && all zero (drop l.x-index l.s)) ≡ all zero l.s
