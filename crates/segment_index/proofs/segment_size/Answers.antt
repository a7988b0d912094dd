-- `segment_index::segment_size` meets its contract. Assumes nothing.
use native.Mathlib.Omega.{arith}
use Rattle.stored_forms.specs.Segments.{segment_size}
use Rattle.segment_index.proofs.SizeLaws.{one_moved}
use Rattle.segment_index.proofs.segment_size.Goals as goal

-- no bit of the number of segments is lost
pub returns : goal.returns
unfolding segment_size
returns c = rw (one_moved c.args.d (omega arith))
