-- `TwoWords::set_left` meets its contract: the high half of word 1 stays. Assumes nothing.
use Rattle.tree_nodes.proofs.FormOne.{one_set_left}
use Rattle.tree_nodes.proofs.two_words.TwoWordsLayout.set_left.Goals as goal

pub returns : goal.returns
returns c node = one_set_left c.args.arena.now c.args.c c.requires.c_bound c.args.l
