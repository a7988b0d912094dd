use Rattle.std.proofs.Common.{◌≡◌, ◌+◌, length, drop}
use Rattle.std.proofs.lemmas.List.Edits.{sets}
use Rattle.text.specs.Fields.{fields_of}
use Rattle.text.proofs.put_fields.Given as goal

-- the fields left, set from here on, make all of them
abbrev pub invariant-loop-n : goal.invariant-loop-n
invariant-loop-n l =
    (l.end + length (fields_of (drop l.n-index l.ns)) ≡ l.at + length (fields_of l.ns))
    × (sets l.out l.end (fields_of (drop l.n-index l.ns)) ≡ sets l.initial.out l.at (fields_of l.ns))
