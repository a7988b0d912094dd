-- `FourWords::is_clear` meets its contract: behind the node's words, one test of zeros. Assumes nothing.
use Rattle.stored_forms.specs.Tree.{form_two}
use Rattle.tree_nodes.proofs.FormLaws.{four_clear}
use Rattle.tree_nodes.proofs.four_words.FourWordsLayout.is_clear.Goals as goal

pub returns : goal.returns
unfolding form_two
returns c =
    let a = c.args in
    let (some, inside) = c.requires in
    rw c.is_zero_part.ensures (four_clear a.arena.now a.c a.z some inside)
