-- `free_tree::join_trees` meets its contract: the pair joins where both trees have a root. Assumes nothing.
use Rattle.stored_forms.proofs.NodeLaws.{readable}
use Rattle.free_tree.proofs.Numbers.{read_le, read_lt}
use Rattle.free_tree.proofs.JoinSteps.{roots, left_wins, right_wins}
use Rattle.free_tree.proofs.JoinSteps.{both_left, both_right}
use Rattle.free_tree.proofs.join_trees.Goals as goal

pub length_of-requires : goal.length_of-requires
length_of-requires c =
    let (ta, tb, w) = c.requires in
    (roots (readable _) c.if-a-eq0.false c.if-b-eq0.false w).right_in_lem

pub length_of-requires-2 : goal.length_of-requires-2
length_of-requires-2 c =
    let (ta, tb, w) = c.requires in
    (roots (readable _) c.if-a-eq0.false c.if-b-eq0.false w).left_in_lem

pub over_left-requires : goal.over_left-requires
over_left-requires c =
    let h = read_le c.length_of.ensures c.length_of-2.ensures c.if-length_of.true in
    let (ta, tb, w) = c.requires in (
      ta,
      tb,
      left_wins (readable _) c.if-a-eq0.false
          c.if-b-eq0.false h w,
    )

pub over_right-requires : goal.over_right-requires
over_right-requires c =
    let h = read_lt c.length_of-2.ensures c.length_of.ensures c.if-length_of.false in
    let (ta, tb, w) = c.requires in (
      ta,
      tb,
      right_wins (readable _) c.if-a-eq0.false
          c.if-b-eq0.false h w,
    )

pub returns-then-length_of : goal.returns-then-length_of
returns-then-length_of c =
    let h = read_le c.length_of.ensures c.length_of-2.ensures c.if-length_of.true in
    both_left (readable _) c.if-a-eq0.false
    c.if-b-eq0.false h c.over_left.ensures

pub returns-else-length_of : goal.returns-else-length_of
returns-else-length_of c =
    let h = read_lt c.length_of-2.ensures c.length_of.ensures c.if-length_of.false in
    both_right (readable _) c.if-a-eq0.false
    c.if-b-eq0.false h c.over_right.ensures
