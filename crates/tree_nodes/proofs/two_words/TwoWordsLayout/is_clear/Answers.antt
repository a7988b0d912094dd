-- `TwoWords::is_clear` meets its contract: behind the node's words, one test of zeros. Assumes nothing.
use Rattle.stored_forms.specs.Tree.{form_one}
use Rattle.tree_nodes.proofs.FormLaws.{two_clear}
use Rattle.tree_nodes.proofs.two_words.TwoWordsLayout.is_clear.Goals as goal

pub returns : goal.returns
unfolding form_one
returns c =
    let a = c.args in
    let (some, inside) = c.requires in
    rw c.is_zero_part.ensures (two_clear a.arena.now a.c a.z some inside)
