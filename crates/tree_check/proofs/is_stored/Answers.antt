-- `tree_check::is_stored` meets its contract. Assumes nothing.
use Rattle.tree_check.proofs.GateLaws.{in_range, all_linked, stored_is}
use Rattle.tree_check.proofs.is_stored.Goals as goal

pub is_shown-requires : goal.is_shown-requires
is_shown-requires c =
    let a = c.args in
    -- the lent lengths
    let fit = in_range a.head a.arena.now a.table.now c.requires in
    (all_linked a.head.form a.arena.now fit.most fit.whole, fit.few)

pub returns : goal.returns
returns c =
    let a = c.args in
    stored_is a.head a.arena.now a.table.now (in_range a.head a.arena.now a.table.now c.requires) c.is_shown.result
    c.is_shown.ensures
