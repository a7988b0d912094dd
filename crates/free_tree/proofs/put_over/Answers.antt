-- `free_tree::put_over` meets its contract: there is no tree, or its root is that of the lower or of the upper part.
-- Assumes nothing.
use native.Mathlib.Omega.{arith}
use mathlib.Core.Path.{refl}
use Rattle.stored_forms.proofs.NodeLaws.{readable}
use Rattle.free_tree.proofs.ChangeSteps.{parts_ready, put_over}
use Rattle.free_tree.proofs.put_over.Goals as goal

pub put_first-requires-then-l-x : goal.put_first-requires-then-l-x
put_first-requires-then-l-x c =
    let (inside, (links, zeros)) = parts_ready (readable _) c.upper_part-p.ensures refl c.link_of.ensures c.requires in
    record { c_bound = inside; l_bound = links; zeros = zeros }

pub returns-then-l-x : goal.returns-then-l-x
returns-then-l-x c =
    put_over (readable _) c.upper_part-p.ensures
    (rw c.link_of.ensures at c.put_first-then-l-x.ensures.node_put, rw c.link_of.ensures at c.put_first-then-l-x.ensures.value)
    (omega (arith, c.count_of.ensures))

pub put_first-requires-2 : goal.put_first-requires-2
put_first-requires-2 c =
    let (inside, (links, zeros)) = parts_ready (readable _) c.lower_part-p.ensures c.link_of-2.ensures refl c.requires in
    record { c_bound = inside; l_bound = links; zeros = zeros }

pub returns : goal.returns
returns c =
    put_over (readable _) c.lower_part-p.ensures
    (rw c.link_of-2.ensures at c.put_first-2.ensures.node_put, rw c.link_of-2.ensures at c.put_first-2.ensures.value)
    (omega (arith, c.count_of-2.ensures))
