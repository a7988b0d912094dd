use Rattle.std.proofs.Common.{ℕ, ◌+◌, ◌≡◌, length, take}
use Rattle.text.specs.Fields.{numbers_of}
use Rattle.text.proofs.FieldLaws.{joined}
use Rattle.text.proofs.read_numbers.Given as goal

-- the numbers read so far, and those of the fields that are left, are the numbers of all fields
abbrev pub invariant-loop-i : goal.invariant-loop-i
invariant-loop-i g l =
    (length l.numbers ≡ g.row.N)
    × ((k : ℕ) → k + l.i ≡ g.row.N → joined (take l.i l.numbers) (numbers_of k l.rest) ≡ numbers_of g.row.N l.s)
