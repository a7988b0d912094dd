-- `TwoWords::set_right` meets its contract: the low half of word 1 stays. Assumes nothing.
use Rattle.tree_nodes.proofs.FormOne.{one_set_right}
use Rattle.tree_nodes.proofs.two_words.TwoWordsLayout.set_right.Goals as goal

pub returns : goal.returns
returns c node = one_set_right c.args.arena.now c.args.c c.requires.c_bound c.args.r
