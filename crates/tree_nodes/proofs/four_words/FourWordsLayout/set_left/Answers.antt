-- `FourWords::set_left` meets its contract: word 1 of the cell. Assumes nothing.
use Rattle.tree_nodes.proofs.FormTwo.{four_set_left}
use Rattle.tree_nodes.proofs.four_words.FourWordsLayout.set_left.Goals as goal

pub returns : goal.returns
returns c = four_set_left c.args.arena.now c.args.c c.requires.c_bound c.args.l
