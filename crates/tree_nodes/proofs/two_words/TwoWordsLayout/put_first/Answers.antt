-- `TwoWords::put_first` meets its contract: word 1 of the cell is zero already where both links are. Assumes nothing.
use Rattle.std.proofs.Common.{◌≡◌, ◌+◌, arith}
use Rattle.tree_nodes.specs.Nodes.{differ}
use Rattle.tree_nodes.proofs.LinkLaws.{both_none}
use Rattle.tree_nodes.proofs.FormOne.{one_put_bare}
use Rattle.tree_nodes.proofs.two_words.TwoWordsLayout.put_first.Goals as goal

pub returns-then-stored-eq0-clause-node_put : goal.returns-then-stored-eq0-clause-node_put
returns-then-stored-eq0-clause-node_put c =
    let a = c.args in
    let none : 0 ≡ differ 0 a.l + differ 0 a.r =
    omega (arith, c.if-stored-eq0.true, c.if_link.ensures, c.if_link-2.ensures) in
    let (el, er) = both_none none in
    one_put_bare a.arena.now a.c c.requires.c_bound a.n a.l a.r c.requires.zeros el er
