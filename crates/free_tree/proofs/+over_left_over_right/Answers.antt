-- `free_tree::over_left` and `free_tree::over_right` meet their contracts. The measure is the number of nodes of both
-- trees: each call leaves the root that stays on top behind. Assumes nothing.
use Rattle.stored_forms.specs.Tree.{form_of}
use Rattle.stored_forms.proofs.NodeLaws.{readable}
use Rattle.free_tree.proofs.Numbers.{read_le, read_lt, falls_below, in_kept}
use Rattle.free_tree.proofs.StepLaws.{at_in}
use Rattle.free_tree.proofs.JoinSteps.{left_roots, right_roots, left_inner, right_inner, left_wins, right_wins}
use Rattle.free_tree.proofs.JoinSteps.{left_end, left_left, left_right, right_end, right_right, right_left}
use Rattle.free_tree.proofs.+over_left_over_right.Goals as goal

pub over_left-right_of-s-requires : goal.over_left-right_of-s-requires
over_left-right_of-s-requires t c = (left_roots (readable _) c.requires).left_in_lem

pub over_left-set_right-requires : goal.over_left-set_right-requires
over_left-set_right-requires t c =
    let r = left_roots (readable _) c.requires in
    record {
      c_bound = r.left_in_lem;
      r_bound = r.right_small;
    }

pub over_left-returns-then-s-eq0 : goal.over_left-returns-then-s-eq0
over_left-returns-then-s-eq0 t c =
    left_end (readable _) c.right_of-s.ensures c.if-s-eq0.true
    c.set_right.ensures

pub over_left-length_of-requires : goal.over_left-length_of-requires
over_left-length_of-requires t c =
    (left_roots (readable _) c.requires).right_in_lem

pub over_left-length_of-requires-2 : goal.over_left-length_of-requires-2
over_left-length_of-requires-2 t c =
    let (less, (ta, tb, w)) =
    left_inner (readable _) c.right_of-s.ensures c.requires in
    at_in (readable _) c.if-s-eq0.false (ta, w.left)

pub over_left-over_left-requires : goal.over_left-over_left-requires
over_left-over_left-requires t c =
    let (less, (ta, tb, w)) =
    left_inner (readable _) c.right_of-s.ensures c.requires in
    let h = read_le c.length_of.ensures c.length_of-2.ensures c.if-length_of.true in
    let z = (left_roots (readable _) c.requires).right in (
      falls_below c.decreases less,
      (ta, tb, left_wins (readable _) c.if-s-eq0.false z h w),
    )

pub over_left-over_right-requires : goal.over_left-over_right-requires
over_left-over_right-requires t c =
    let (less, (ta, tb, w)) =
    left_inner (readable _) c.right_of-s.ensures c.requires in
    let h = read_lt c.length_of-2.ensures c.length_of.ensures c.if-length_of.false in
    let z = (left_roots (readable _) c.requires).right in (
      falls_below c.decreases less,
      (ta, tb, right_wins (readable _) c.if-s-eq0.false z h w),
    )

pub over_left-set_right-requires-else-length_of : goal.over_left-set_right-requires-else-length_of
over_left-set_right-requires-else-length_of t c =
    let r = left_roots (readable _) c.requires in
    record { c_bound = in_kept (form_of c.args.form).cell c.over_right.auto.arena r.left_in_lem; r_bound = r.right_small }

pub over_left-returns-then-length_of : goal.over_left-returns-then-length_of
over_left-returns-then-length_of t c =
    let h = read_le c.length_of.ensures c.length_of-2.ensures c.if-length_of.true in
    left_left (readable _) c.right_of-s.ensures
    c.if-s-eq0.false h c.over_left.ensures

pub over_left-returns-else-length_of : goal.over_left-returns-else-length_of
over_left-returns-else-length_of t c =
    let h = read_lt c.length_of-2.ensures c.length_of.ensures c.if-length_of.false in
    left_right (readable _) c.right_of-s.ensures
    c.if-s-eq0.false h
    c.over_right.ensures
    c.set_right-else-length_of.ensures

pub over_right-left_of-s-requires : goal.over_right-left_of-s-requires
over_right-left_of-s-requires t c = (right_roots (readable _) c.requires).right_in_lem

pub over_right-set_left-requires : goal.over_right-set_left-requires
over_right-set_left-requires t c =
    let r = right_roots (readable _) c.requires in
    record {
      c_bound = r.right_in_lem;
      l_bound = r.left_small;
    }

pub over_right-returns-then-s-eq0 : goal.over_right-returns-then-s-eq0
over_right-returns-then-s-eq0 t c =
    right_end (readable _) c.left_of-s.ensures c.if-s-eq0.true
    c.set_left.ensures

pub over_right-length_of-requires : goal.over_right-length_of-requires
over_right-length_of-requires t c =
    let (less, (ta, tb, w)) =
    right_inner (readable _) c.left_of-s.ensures c.requires in
    at_in (readable _) c.if-s-eq0.false (tb, w.right)

pub over_right-length_of-requires-2 : goal.over_right-length_of-requires-2
over_right-length_of-requires-2 t c =
    (right_roots (readable _) c.requires).left_in_lem

pub over_right-over_left-requires : goal.over_right-over_left-requires
over_right-over_left-requires t c =
    let (less, (ta, tb, w)) =
    right_inner (readable _) c.left_of-s.ensures c.requires in
    let h = read_le c.length_of.ensures c.length_of-2.ensures c.if-length_of.true in
    let z = (right_roots (readable _) c.requires).left in (
      falls_below c.decreases less,
      (ta, tb, left_wins (readable _) z c.if-s-eq0.false h w),
    )

pub over_right-set_left-requires-then-length_of : goal.over_right-set_left-requires-then-length_of
over_right-set_left-requires-then-length_of t c =
    let r = right_roots (readable _) c.requires in
    record { c_bound = in_kept (form_of c.args.form).cell c.over_left.auto.arena r.right_in_lem; l_bound = r.left_small }

pub over_right-over_right-requires : goal.over_right-over_right-requires
over_right-over_right-requires t c =
    let (less, (ta, tb, w)) =
    right_inner (readable _) c.left_of-s.ensures c.requires in
    let h = read_lt c.length_of-2.ensures c.length_of.ensures c.if-length_of.false in
    let z = (right_roots (readable _) c.requires).left in (
      falls_below c.decreases less,
      (ta, tb, right_wins (readable _) z c.if-s-eq0.false h w),
    )

pub over_right-returns-then-length_of : goal.over_right-returns-then-length_of
over_right-returns-then-length_of t c =
    let h = read_le c.length_of.ensures c.length_of-2.ensures c.if-length_of.true in
    right_left (readable _) c.left_of-s.ensures
    c.if-s-eq0.false h
    c.over_left.ensures
    c.set_left-then-length_of.ensures

pub over_right-returns-else-length_of : goal.over_right-returns-else-length_of
over_right-returns-else-length_of t c =
    let h = read_lt c.length_of-2.ensures c.length_of.ensures c.if-length_of.false in
    right_right (readable _) c.left_of-s.ensures
    c.if-s-eq0.false h c.over_right.ensures
