-- `segment_cores::search` meets its contract. Assumes nothing.
use Prim.Native.Nat.{◌+◌, ◌-◌, ◌*◌}
use native.Mathlib.Omega.{arith}
use lib.ListN.{length, get_or}
use Rattle.ledger.specs.Records.{Ledger}
use Rattle.segment_blocks.specs.Blocks.{FirstFit}
use Rattle.segment_cores.specs.Cores.{Searching}
use Rattle.segment_cores.proofs.ChangeLaws.{controls}
use Rattle.segment_cores.proofs.SearchLaws.{index_long, root_inside, heap, search_none}
use Rattle.segment_cores.proofs.SearchLaws.{leaf_inside, search_scan, search_few, search_found}
use Rattle.segment_cores.proofs.search.Goals as goal
use Rattle.segment_cores.proofs.search.Goals.{After-first_fit-fit}

pub bounds-t-1 : goal.bounds-t-1
bounds-t-1 c = let (L, k) = c.requires in root_inside L _ _ _ _ _ k

pub returns-then-t-n : goal.returns-then-t-n
returns-then-t-n c = λ L k. search_none L _ _ _ _ _ k c.if-t-n.true

pub descend-requires : goal.descend-requires
descend-requires c =
    let (L, k) = c.requires in
    (k.few, heap L _ _ _ _ _ k, c.if-t-n.false)

pub index_word-from-requires : goal.index_word-from-requires
index_word-from-requires c =
    let (L, k) = c.requires in
    omega (arith, index_long L _ _ _ _ _ k, leaf_inside L _ _ _ _ _ k _ c.descend.ensures)

pub first_fit-fit-requires : goal.first_fit-fit-requires
first_fit-fit-requires c =
    let (L, k) = c.requires in
    let scan = search_scan L _ _ _ _ _ k _ c.descend.ensures in
    (controls L (length c.args.v.now), rw c.index_word-from.ensures scan)

-- what the scan says, in the readings of the ledger
scanned : (c : After-first_fit-fit) (L : Ledger)
    → let S = c.args.segments.count in
    Searching L c.args.v.now c.args.t.now S c.args.segments.log c.args.n
    → FirstFit (controls L (length c.args.v.now))
    (get_or c.args.t.now (2 * S + (c.descend.result - S)) 0) c.args.n
    c.first_fit-fit.result.at c.first_fit-fit.result.places
scanned c L k =
    let v = c.args.v.now in
    let leaf = c.descend.ensures in
    let from = c.index_word-from.ensures in
    rw from at (c.first_fit-fit.ensures (controls L (length v)) (rw from (search_scan L _ _ _ _ _ k _ leaf)))

pub overflow_add-places-2 : goal.overflow_add-places-2
overflow_add-places-2 c =
    let (L, k) = c.requires in
    let few = search_few L _ _ _ _ _ k _ c.descend.ensures _ _ (scanned (goal.at.overflow_add-places-2 c).After-first_fit-fit L k) in
    omega (arith, k.few)

pub returns : goal.returns
returns c =
    λ L k. search_found L _ _ _ _ _ k _ c.descend.ensures _ _ (scanned (goal.at.returns c).After-first_fit-fit L k)
