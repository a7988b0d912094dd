-- `pool_bursts::is_well_formed` meets its contract: the sizes, then the bytes. Assumes nothing.
use mathlib.Core.Path.{◌≡◌, ◌∙◌, sym, ap}
use mathlib.Core.Bool.{true, false}
use Rattle.pool_bursts.specs.declared.Fields.{Fields}
use Rattle.pool_bursts.specs.Layout.{fields_in, is_sized, is_clear, well_formed}
use Rattle.pool_bursts.proofs.is_well_formed.Goals as goal

pub returns-then-is_sized : goal.returns-then-is_sized
unfolding well_formed
returns-then-is_sized c =
    let f = c.read_fields-f in
    let size : is_sized (fields_in c.args.state.now) ≡ true =
    ap is_sized (sym f.ensures.0) ∙ sym c.is_sized.ensures ∙ c.if-is_sized.true in
    rw size (c.is_clear.ensures ∙ ap (λ (x : Fields). is_clear x c.args.state.now) f.ensures.0)

pub returns-else-is_sized : goal.returns-else-is_sized
unfolding well_formed
returns-else-is_sized c =
    let no_size : is_sized (fields_in c.args.state.now) ≡ false =
    ap is_sized (sym c.read_fields-f.ensures.0) ∙ sym c.is_sized.ensures ∙ c.if-is_sized.false in
    rw no_size c.if-is_sized.false
