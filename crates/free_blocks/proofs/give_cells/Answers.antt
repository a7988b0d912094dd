-- `free_blocks::give_cells` meets its contract: the cells are wiped, the blocks that touch them are taken out, and the
-- sum is put in. Assumes nothing.
use native.Mathlib.Omega.{arith}
use Rattle.stored_forms.proofs.NodeLaws.{readable}
use Rattle.tree_nodes.proofs.FormLaws.{few_links}
use Rattle.free_blocks.proofs.GiveLaws.{wiped_clear, touch_below, touch_above}
use Rattle.free_blocks.proofs.GiveLaws.{sum_fits, room, give}
use Rattle.free_blocks.proofs.give_cells.Goals as goal

pub touching-touched-requires-clause-clear : goal.touching-touched-requires-clause-clear
touching-touched-requires-clause-clear c =
    let (rs, g) = c.requires in (_, wiped_clear (readable _) c.wipe_cells.ensures g)

pub merge_below-below-requires : goal.merge_below-below-requires
merge_below-below-requires c =
    let (rs, g) = c.requires in
    let wipe = c.wipe_cells.ensures in
    (rs, touch_below (readable _) wipe g c.touching-touched.ensures)

pub merge_above-above-requires : goal.merge_above-above-requires
merge_above-above-requires c =
    let (rs, g) = c.requires in
    (_, touch_above (readable _) c.wipe_cells.ensures g c.touching-touched.ensures c.merge_below-below.ensures)

pub overflow_sub-size : goal.overflow_sub-size
overflow_sub-size c =
    let (rs, g) = c.requires in
    let fits =
    sum_fits (readable _) c.wipe_cells.ensures g c.touching-touched.ensures c.merge_below-below.ensures
    c.merge_above-above.ensures in
    omega arith

pub overflow_cast-size : goal.overflow_cast-size
overflow_cast-size c =
    let (rs, g) = c.requires in
    let fits =
    sum_fits (readable _) c.wipe_cells.ensures g c.touching-touched.ensures c.merge_below-below.ensures
    c.merge_above-above.ensures in
    omega (arith, few_links c.args.form)

pub insert-requires : goal.insert-requires
insert-requires c =
    let (rs, g) = c.requires in (
      _,
      room (readable _) c.wipe_cells.ensures g c.touching-touched.ensures c.merge_below-below.ensures
          c.merge_above-above.ensures,
    )

pub returns : goal.returns
returns c rs g =
    give (readable _) c.wipe_cells.ensures g c.touching-touched.ensures c.merge_below-below.ensures
    c.merge_above-above.ensures c.insert.result c.insert.ensures c.link_of.ensures
