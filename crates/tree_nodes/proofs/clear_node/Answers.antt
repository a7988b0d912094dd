-- `tree_nodes::clear_node` meets its contract. Assumes nothing.
use Rattle.tree_nodes.proofs.FormLaws.{link_zero, put_cleared}
use Rattle.tree_nodes.proofs.clear_node.Goals as goal

pub put_node-requires-clause-l_bound : goal.put_node-requires-clause-l_bound
put_node-requires-clause-l_bound c = (link_zero c.args.form, link_zero c.args.form)

pub returns : goal.returns
returns c =
    put_cleared c.args.form c.put_node.ensures
