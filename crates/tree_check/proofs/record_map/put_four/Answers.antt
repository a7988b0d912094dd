-- `tree_check::record_map::put_four` meets its contract. Assumes nothing.
use native.Mathlib.Omega.{arith}
use mathlib.Core.Path.{◌∙◌}
use Rattle.tree_check.proofs.SpanLaws.{four_copied}
use Rattle.tree_check.proofs.record_map.put_four.Goals as goal

pub returns : goal.returns
returns c =
    four_copied c.args.map.now c.args.i c.args.x _ _ c.requires.0 c.requires.1 (omega arith)
    (c.copy_from_slice.ensures.after ∙ c.to_le_bytes.ensures)
