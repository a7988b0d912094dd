-- `FourWords::put_first` meets its contract: word 0, and words 1 and 2 where a link is not 0. Assumes nothing.
use Rattle.tree_nodes.proofs.FormTwo.{four_put_first}
use Rattle.tree_nodes.proofs.four_words.FourWordsLayout.put_first.Goals as goal

pub returns-clause-node_put : goal.returns-clause-node_put
returns-clause-node_put c =
    four_put_first c.args.arena.now c.args.c c.requires.c_bound c.requires.zeros c.args.n c.args.l
    c.put_link-left.ensures.0 c.put_link-right.ensures.0
