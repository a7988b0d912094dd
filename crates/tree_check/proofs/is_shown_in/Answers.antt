-- `tree_check::is_shown_in` meets its contract: its map comes in all zero. Assumes nothing.
use mathlib.Core.Path.{refl}
use Rattle.words.specs.Lists.{is_zero}
use Rattle.words.proofs.ByPlace.{all_replicate}
use Rattle.tree_check.proofs.is_shown_in.Goals as goal

pub is_shown_over-requires-clause-roomy : goal.is_shown_over-requires-clause-roomy
is_shown_over-requires-clause-roomy g c = (c.requires.roomy, all_replicate is_zero 0 refl g.row.MAP)
