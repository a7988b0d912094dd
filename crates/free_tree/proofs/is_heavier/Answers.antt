-- `free_tree::is_heavier` meets its contract. Assumes nothing.
use Rattle.stored_forms.proofs.NodeLaws.{readable}
use Rattle.free_tree.proofs.StepLaws.{at_in}
use Rattle.free_tree.proofs.ShrinkSteps.{heavier_both}
use Rattle.free_tree.proofs.is_heavier.Goals as goal

pub length_of-requires : goal.length_of-requires
length_of-requires c = at_in (readable _) c.if-b-eq0.false c.requires.1

pub length_of-requires-2 : goal.length_of-requires-2
length_of-requires-2 c =
    at_in (readable _) c.if-a-eq0.false c.requires.0

pub returns : goal.returns
returns c =
    heavier_both (readable _) c.if-a-eq0.false c.if-b-eq0.false c.length_of.ensures
    c.length_of-2.ensures
