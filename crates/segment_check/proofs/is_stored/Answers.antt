-- `segment_check::is_stored` meets its contract, by what the check of table, arena and index says. Assumes nothing.
use Prim.Native.Nat.{ℕ}
use mathlib.Core.Path.{subst}
use Rattle.words.specs.Flags.{Says}
use Rattle.segment_check.specs.Adjoining.{Shown}
use Rattle.segment_check.proofs.GateLaws.{InRange, in_range, measured, stored_says}
use Rattle.segment_check.proofs.is_stored.Goals as goal
use Rattle.segment_check.proofs.is_stored.Goals.{Start}

-- the lent lengths
fit : (c : Start) → InRange c.args.s c.args.arena.now c.args.table.now c.args.index.now
fit c =
    let a = c.args in
    in_range a.s a.head a.arena.now a.table.now a.index.now c.requires

pub segments_of-segments-requires : goal.segments_of-segments-requires
segments_of-segments-requires c = let in_range = fit (goal.at.segments_of-segments-requires c).Start in (in_range.power, in_range.most)

pub is_shown-requires : goal.is_shown-requires
is_shown-requires c =
    measured (fit (goal.at.is_shown-requires c).Start) c.segments_of-segments.ensures

pub returns : goal.returns
returns c =
    let a = c.args in
    stored_says a.head (fit (goal.at.returns c).Start) c.ranged.ensures c.is_shown.result
    (subst
    (λ (n : ℕ). Says c.is_shown.result (Shown a.head.next a.arena.now a.table.now a.index.now n))
    c.segments_of-segments.ensures.count c.is_shown.ensures)
