use Rattle.std.specs.Prelude.{◌<◌}
use Rattle.testing.proofs.printing.checksum.Given as goal

abbrev pub invariant-loop-x : goal.invariant-loop-x
invariant-loop-x g l = l.sum < 4294967291
