-- The flag says that none of the first j tickets is this one.
use mathlib.Core.Path.{◌≡◌}
use Rattle.words.specs.Counted.{every}
use Rattle.record_table.specs.Partition.{other_than}
use Rattle.record_table.proofs.unlike_earlier.Given as goal

abbrev pub invariant-loop-j : goal.invariant-loop-j
invariant-loop-j l = l.ok ≡ every (other_than l.table l.ticket) 0 l.j
