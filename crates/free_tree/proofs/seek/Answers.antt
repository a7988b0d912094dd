-- `free_tree::seek` meets its contract: its way down is that of the search which `stop` stops. Assumes nothing.
use Rattle.std.proofs.Common.{sym, ◌∙◌, refl}
use Rattle.stored_forms.proofs.NodeLaws.{readable}
use Rattle.free_tree.proofs.StepLaws.{at_in, down_left, down_right}
use Rattle.free_tree.proofs.PlaceSteps.{seek_start, seek_end, seek_stop, seek_left, seek_right}
use Rattle.free_tree.proofs.seek.Goals as goal

pub loop-at-init : goal.loop-at-init
loop-at-init g c = record {
  tree = c.requires.tree;
  way = λ stop tells. seek_start (readable _) stop c.args.x;
}

pub stops-requires : goal.stops-requires
stops-requires g c = c.requires.callable _ (at_in (readable _) c.loop-at-test.true c.loop-at.invariant.tree)

pub returns-then-stops : goal.returns-then-stops
returns-then-stops g c stop tells =
    let inside = at_in (readable _) c.loop-at-test.true c.loop-at.invariant.tree in
    seek_stop (readable _) (c.loop-at.invariant.way stop tells) c.loop-at-test.true refl
    (sym (tells _ _ inside c.stops.ensures) ∙ c.if-stops.true)

pub left_of-at-requires : goal.left_of-at-requires
left_of-at-requires g c = at_in (readable _) c.loop-at-test.true c.loop-at.invariant.tree

pub loop-at-smaller-then-x-c : goal.loop-at-smaller-then-x-c
loop-at-smaller-then-x-c g c =
    (down_left (readable _) c.loop-at-test.true c.left_of-at.ensures c.loop-at.invariant.tree).0

pub loop-at-preserved-then-x-c : goal.loop-at-preserved-then-x-c
loop-at-preserved-then-x-c g c =
    let inv = c.loop-at.invariant in
    let inside = at_in (readable _) c.loop-at-test.true inv.tree in
    record {
      tree = (down_left (readable _) c.loop-at-test.true c.left_of-at.ensures inv.tree).1;
      way = λ stop tells.
          seek_left (readable _) (inv.way stop tells) c.loop-at-test.true refl
          (sym (tells _ _ inside c.stops.ensures) ∙ c.if-stops.false) c.left_of-at.ensures c.if-x-c.true;
    }

pub right_of-at-requires : goal.right_of-at-requires
right_of-at-requires g c = at_in (readable _) c.loop-at-test.true c.loop-at.invariant.tree

pub loop-at-smaller : goal.loop-at-smaller
loop-at-smaller g c =
    (down_right (readable _) c.loop-at-test.true c.right_of-at.ensures c.loop-at.invariant.tree).0

pub loop-at-preserved : goal.loop-at-preserved
loop-at-preserved g c =
    let inv = c.loop-at.invariant in
    let inside = at_in (readable _) c.loop-at-test.true inv.tree in
    record {
      tree = (down_right (readable _) c.loop-at-test.true c.right_of-at.ensures inv.tree).1;
      way = λ stop tells.
          seek_right (readable _) (inv.way stop tells) c.loop-at-test.true refl
          (sym (tells _ _ inside c.stops.ensures) ∙ c.if-stops.false) c.right_of-at.ensures c.if-x-c.false;
    }

pub returns : goal.returns
returns g c stop tells = seek_end (readable _) (c.loop-at.invariant.way stop tells) c.loop-at-test.false
