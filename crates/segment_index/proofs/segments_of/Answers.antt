-- `segment_index::segments_of` meets its contract. Assumes nothing.
use mathlib.Core.Path.{refl, ◌∙◌, sym, ap}
use Rattle.stored_forms.specs.Segments.{segment_size}
use Rattle.segment_index.proofs.segments_of.Goals as goal

pub returns : goal.returns
returns c =
    let power = c.depth_of-log.ensures.0 in
    record {
      count = refl;
      power = power;
      few = c.depth_of-log.ensures.1;
      size = c.segment_size-size.ensures ∙ ap (segment_size c.args.w) (sym power);
    }
