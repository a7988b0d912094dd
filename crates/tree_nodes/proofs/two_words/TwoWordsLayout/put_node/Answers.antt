-- `TwoWords::put_node` meets its contract: both words of the cell. Assumes nothing.
use Rattle.tree_nodes.proofs.FormOne.{one_put}
use Rattle.tree_nodes.proofs.two_words.TwoWordsLayout.put_node.Goals as goal

pub returns : goal.returns
returns c = let a = c.args in one_put a.arena.now a.c c.requires.c_bound a.n a.l a.r
