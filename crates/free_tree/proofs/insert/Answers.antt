-- `free_tree::insert` meets its contract: the tree at the place is split, and its parts are the sons of the new node,
-- which is attached to its father. Assumes nothing.
use native.Mathlib.Omega.{arith}
use Rattle.ledger.specs.Runs.{run}
use Rattle.stored_forms.proofs.NodeLaws.{readable}
use Rattle.tree_nodes.proofs.FormLaws.{few_links}
use Rattle.free_tree.proofs.PlaceSteps.{place_ready, place_attached, place_changed, place_there}
use Rattle.free_tree.proofs.ChangeSteps.{inserts, put_few, insert_here, insert_count}
use Rattle.free_tree.proofs.insert.Goals as goal

pub put_over-stored-requires : goal.put_over-stored-requires
put_over-stored-requires c =
    place_there (readable _) (inserts (readable _) (run c.args.x c.args.n)) c.place_for-at.ensures c.requires

pub attach-requires : goal.attach-requires
attach-requires c =
    let local = inserts (readable _) (run c.args.x c.args.n) in
    let placed = c.place_for-at.ensures in
    let put = c.put_over-stored.ensures in
    let (inside, link, root) = place_ready (readable _) local placed (insert_here (readable _) put) c.requires in
    let few = put_few (readable _) put (place_there (readable _) local placed c.requires) in
    record {
      over_bound = inside;
      q_bound = (link, root, omega (arith, few, few_links c.args.form));
    }

pub returns : goal.returns
returns c t p =
    let local = inserts (readable _) (run c.args.x c.args.n) in
    let placed = c.place_for-at.ensures in
    let put = c.put_over-stored.ensures in (
      place_attached (readable _) local placed (insert_here (readable _) put) c.attach.ensures.attached t p,
      place_changed (readable _) local placed (insert_count (readable _) put c.attach.ensures.result_value) t p,
    )
