-- `free_tree::attach` meets its contract. Assumes nothing.
use native.Mathlib.Omega.{arith}
use Rattle.tree_nodes.proofs.FormLaws.{few_links}
use Rattle.free_tree.proofs.attach.Goals as goal

pub with_count-requires : goal.with_count-requires
with_count-requires c =
    let (link, root, count) = c.requires.q_bound in
    (omega (arith, few_links c.args.form), count)

pub with_count-requires-then-c-x : goal.with_count-requires-then-c-x
with_count-requires-then-c-x c =
    let (link, root, count) = c.requires.q_bound in
    (omega (arith, few_links c.args.form), omega (arith, c.store_right-count.ensures.1))

pub with_count-requires-2 : goal.with_count-requires-2
with_count-requires-2 c =
    let (link, root, count) = c.requires.q_bound in
    (omega (arith, few_links c.args.form), omega (arith, c.store_left-count.ensures.1))
