-- `segment_check::gate` meets its contract, by the test that led to each number. Assumes nothing.
use mathlib.Core.Bool.{true}
use mathlib.Core.Path.{◌≡◌, ◌∙◌, refl, sym}
use Rattle.calls.specs.Pool.{Pool, lengths}
use Rattle.calls.specs.Engines.{segment_engine}
use Rattle.calls.proofs.GateLaws.{is_eight, is_one, is_zero}
use Rattle.segment_check.specs.Gate.{segment_pool}
use Rattle.segment_check.proofs.gate.Goals as goal
use Rattle.segment_check.proofs.gate.Goals.{Else-not-right_lengths}

pub returns-then-not-right_lengths : goal.returns-then-not-right_lengths
unfolding segment_engine
returns-then-not-right_lengths c =
    let a = c.args in
    let bad = sym (c.right_lengths.ensures a.head) ∙ c.if-not-right_lengths.true in
    is_eight segment_engine (segment_pool a.s a.head a.arena.now a.table.now a.index.now) refl bad

-- the lengths are right
abbrev lent : Else-not-right_lengths → Pool
lent c =
    let a = c.args in
    segment_pool a.s a.head a.arena.now a.table.now a.index.now

right : (c : Else-not-right_lengths) → lengths segment_engine (lent c) ≡ true
right c =
    let a = c.args in
    sym (c.right_lengths.ensures a.head) ∙ c.if-not-right_lengths.false

pub returns-then-not-is_stored : goal.returns-then-not-is_stored
returns-then-not-is_stored c =
    let lengths-right = right (goal.at.returns-then-not-is_stored c).Else-not-right_lengths in
    let bad = sym c.is_stored.ensures ∙ c.if-not-is_stored.true in
    is_one segment_engine (lent (goal.at.returns-then-not-is_stored c).Else-not-right_lengths) lengths-right bad

pub returns : goal.returns
returns c =
    let lengths-right = right (goal.at.returns c).Else-not-right_lengths in
    let good = sym c.is_stored.ensures ∙ c.if-not-is_stored.false in
    is_zero segment_engine (lent (goal.at.returns c).Else-not-right_lengths) lengths-right good
