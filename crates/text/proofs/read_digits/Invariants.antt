use Rattle.std.proofs.Common.{◌≡◌, drop}
use Rattle.text.specs.Numbers.{value_from}
use Rattle.text.proofs.read_digits.Given as goal

-- the value so far, read on, is the value of all
abbrev pub invariant-loop-b : goal.invariant-loop-b
invariant-loop-b l = value_from l.value (drop l.b-index l.s) ≡ value_from 0 l.s
