-- `FourWords::put_node` meets its contract: the four words of the cell. Assumes nothing.
use Rattle.tree_nodes.proofs.FormTwo.{four_put_cleared}
use Rattle.tree_nodes.proofs.four_words.FourWordsLayout.put_node.Goals as goal

pub returns : goal.returns
returns c = let a = c.args in four_put_cleared a.arena.now a.c c.requires.c_bound a.n a.l a.r
