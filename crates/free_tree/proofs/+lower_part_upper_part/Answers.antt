-- `free_tree::lower_part` and `free_tree::upper_part` meet their contracts. The measure is the number of nodes of the
-- tree. A loop's invariant: what the split of the tree at the link `s` leaves is the split of the whole; its measure is
-- the number of nodes there. Assumes nothing.
use native.Mathlib.Omega.{arith}
use mathlib.Core.Path.{sym}
use Rattle.stored_forms.proofs.NodeLaws.{readable}
use Rattle.tree_nodes.proofs.FormLaws.{few_links}
use Rattle.free_tree.proofs.Numbers.{cell_below, some_up_to, some_past}
use Rattle.free_tree.proofs.StepLaws.{at_in, down_left, down_right}
use Rattle.free_tree.proofs.PartSteps.{parts_none, parts_small, lower_read, upper_read}
use Rattle.free_tree.proofs.PartSteps.{left_start, left_on, right_start, right_on}
use Rattle.free_tree.proofs.+lower_part_upper_part.Goals as goal

pub lower_part-left_of-s-requires : goal.lower_part-left_of-s-requires
lower_part-left_of-s-requires t c = at_in (readable _) c.requires.0 c.requires.2

pub lower_part-loop-s-init : goal.lower_part-loop-s-init
lower_part-loop-s-init t c =
    left_start (readable _) c.requires.0 c.requires.2 c.left_of-s.ensures c.requires.1

pub lower_part-left_of-s-requires-in-loop-s : goal.lower_part-left_of-s-requires-in-loop-s
lower_part-left_of-s-requires-in-loop-s t c = at_in (readable _) (λ e. omega arith) c.loop-s.invariant.son

pub lower_part-loop-s-smaller : goal.lower_part-loop-s-smaller
lower_part-loop-s-smaller t c =
    (down_left (readable _) (λ e. omega arith) c.left_of-s-in-loop-s.ensures c.loop-s.invariant.son).0

pub lower_part-loop-s-preserved : goal.lower_part-loop-s-preserved
lower_part-loop-s-preserved t c =
    let inv = c.loop-s.invariant in
    left_on (readable _) inv
    (left_start (readable _) (λ e. omega arith) inv.son c.left_of-s-in-loop-s.ensures (omega arith))

pub lower_part-returns-then-s-eq0 : goal.lower_part-returns-then-s-eq0
lower_part-returns-then-s-eq0 t c =
    let none = c.if-s-eq0.true in
    c.loop-s.invariant.stays (parts_none (readable _) c.args.x none) (sym none)

pub lower_part-store_left-stored-requires-clause-l_bound : goal.lower_part-store_left-stored-requires-clause-l_bound
lower_part-store_left-stored-requires-clause-l_bound t c =
    let small = parts_small (readable _) c.upper_part-p.ensures c.loop-s.invariant.son in
    let few = few_links c.args.form in
    (rw c.link_of.ensures small.1, omega (arith, c.count_of.ensures, small.2))

pub lower_part-with_count-requires : goal.lower_part-with_count-requires
lower_part-with_count-requires t c =
    let small = parts_small (readable _) c.upper_part-p.ensures c.loop-s.invariant.son in
    let few = few_links c.args.form in
    (omega (arith, small.0), omega (arith, c.store_left-stored.ensures.1, c.count_of.ensures, small.2))

pub lower_part-returns : goal.lower_part-returns
lower_part-returns t c =
    let (put, more) = c.store_left-stored.ensures in
    let some = c.if-s-eq0.false in
    lower_read (readable _) c.with_count.result c.with_count.ensures
    (c.loop-s.invariant.turns c.upper_part-p.ensures some (cell_below some c.loop-s-test.false)
    (rw c.link_of.ensures at put) (omega (arith, more, c.count_of.ensures)))

pub upper_part-right_of-s-requires : goal.upper_part-right_of-s-requires
upper_part-right_of-s-requires t c = at_in (readable _) c.requires.0 c.requires.2

pub upper_part-loop-s-init : goal.upper_part-loop-s-init
upper_part-loop-s-init t c =
    right_start (readable _) c.requires.0 c.requires.2 c.right_of-s.ensures c.requires.1

pub upper_part-right_of-s-requires-in-loop-s : goal.upper_part-right_of-s-requires-in-loop-s
upper_part-right_of-s-requires-in-loop-s t c =
    at_in (readable _) (some_up_to c.loop-s-test.true).0 c.loop-s.invariant.son

pub upper_part-loop-s-smaller : goal.upper_part-loop-s-smaller
upper_part-loop-s-smaller t c =
    (down_right (readable _) (some_up_to c.loop-s-test.true).0 c.right_of-s-in-loop-s.ensures
    c.loop-s.invariant.son).0

pub upper_part-loop-s-preserved : goal.upper_part-loop-s-preserved
upper_part-loop-s-preserved t c =
    let inv = c.loop-s.invariant in
    let test = c.loop-s-test.true in
    right_on (readable _) inv
    (right_start (readable _) (some_up_to test).0 inv.son c.right_of-s-in-loop-s.ensures (some_up_to test).1)

pub upper_part-returns-then-s-eq0 : goal.upper_part-returns-then-s-eq0
upper_part-returns-then-s-eq0 t c =
    let none = c.if-s-eq0.true in
    c.loop-s.invariant.stays (parts_none (readable _) c.args.x none) (sym none)

pub upper_part-store_right-stored-requires-clause-r_bound : goal.upper_part-store_right-stored-requires-clause-r_bound
upper_part-store_right-stored-requires-clause-r_bound t c =
    let small = parts_small (readable _) c.lower_part-p.ensures c.loop-s.invariant.son in
    let few = few_links c.args.form in
    (rw c.link_of.ensures small.0, omega (arith, c.count_of.ensures, small.2))

pub upper_part-with_count-requires : goal.upper_part-with_count-requires
upper_part-with_count-requires t c =
    let small = parts_small (readable _) c.lower_part-p.ensures c.loop-s.invariant.son in
    let few = few_links c.args.form in
    (omega (arith, small.1), omega (arith, c.store_right-stored.ensures.1, c.count_of.ensures, small.2))

pub upper_part-returns : goal.upper_part-returns
upper_part-returns t c =
    let (put, more) = c.store_right-stored.ensures in
    let some = c.if-s-eq0.false in
    upper_read (readable _) c.with_count.result c.with_count.ensures
    (c.loop-s.invariant.turns c.lower_part-p.ensures some (some_past some c.loop-s-test.false)
    (rw c.link_of.ensures at put) (omega (arith, more, c.count_of.ensures)))
