-- `FourWords::set_right` meets its contract: word 2 of the cell. Assumes nothing.
use Rattle.tree_nodes.proofs.FormTwo.{four_set_right}
use Rattle.tree_nodes.proofs.four_words.FourWordsLayout.set_right.Goals as goal

pub returns : goal.returns
returns c = four_set_right c.args.arena.now c.args.c c.requires.c_bound c.args.r
