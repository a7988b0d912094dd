-- `segment_check::is_shown_in` meets its contract: its map comes in all zero. Assumes nothing.
use mathlib.Core.Path.{refl}
use lib.ListN.{length-replicate}
use Rattle.words.specs.Lists.{is_zero}
use Rattle.words.proofs.ByPlace.{all_replicate}
use Rattle.segment_check.proofs.is_shown_in.Goals as goal

pub is_shown_over-requires-clause-arena_len_bound : goal.is_shown_over-requires-clause-arena_len_bound
is_shown_over-requires-clause-arena_len_bound g c = (
  rw length-replicate (c.requires.sizes.0),
  all_replicate is_zero 0 refl g.row.MAP,
  rw length-replicate (c.requires.sizes.1),
)
