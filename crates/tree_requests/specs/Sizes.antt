-- Sizes by the form: the ledger's units as cells of the free tree. 02, tickets 3 and 11. Assumes nothing.
use Rattle.std.specs.Prelude.{ℕ, ◌*◌}
use Rattle.ledger.specs.Units.{span}
use Rattle.stored_forms.specs.Tree.{Form, form_rule, cells_per_unit}

-- the cells that a request for n words takes: those of its units, "n/2 cells rounded up" in the first form (01, "The
-- ledger"), "rounded up to four words" in the second, and in the third to the unit of eight
abbrev pub cell_span : Form → ℕ → ℕ
cell_span F n = span (form_rule F) n * cells_per_unit F
