-- The forms of the tree pool by their numbers.
use Rattle.std.specs.Prelude.{ℕ}
use Rattle.testing.specs.declared.Form.{Form}
use Rattle.testing.specs.declared.Form.TheVariants.{One, Two, Three}

abbrev pub form_number : Form → ℕ
form_number One = 1
form_number Two = 2
form_number Three = 3
