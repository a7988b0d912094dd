-- `tree_check::right_lengths` meets its contract: its tests are those of the definition, but for the index that a
-- tree pool has not. Assumes nothing.
use mathlib.Core.Path.{sym, ap, ◌∙◌}
use lib.ListN.{length}
use Rattle.stored_forms.specs.Tree.{is_form, form_of, tree_range}
use Rattle.tree_check.proofs.GateLaws.{lengths_are}
use Rattle.tree_check.proofs.right_lengths.Goals as goal

pub returns : goal.returns
returns c h e =
    let m = c.args.arena.now in
    lengths_are h m c.args.table.now c.is_form.result c.is_range.result c.slot_count-slots.result
    (c.is_form.ensures ∙ ap is_form (sym e))
    (c.is_range.ensures ∙ ap (λ f. tree_range (form_of f) (length m)) (sym e)) c.slot_count-slots.ensures
