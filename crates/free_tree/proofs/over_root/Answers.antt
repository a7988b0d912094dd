-- `free_tree::over_root` meets its contract. Assumes nothing.
use Rattle.ledger.specs.Runs.{run}
use Rattle.stored_forms.proofs.NodeLaws.{readable}
use Rattle.free_tree.proofs.StepLaws.{at_in}
use Rattle.free_tree.proofs.ShrinkSteps.{over_some}
use Rattle.free_tree.proofs.over_root.Goals as goal

pub length_of-size-requires : goal.length_of-size-requires
length_of-size-requires c = at_in (readable _) c.if-l-eq0.false c.requires

pub returns : goal.returns
returns c =
    let a = c.args in
    over_some (readable _) (run a.block.start a.block.size) c.if-l-eq0.false c.length_of-size.ensures
    c.stands_above.ensures
