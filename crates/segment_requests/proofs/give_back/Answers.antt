-- `segment_requests::give_back` meets its contract: the words that go back make the act a release. Assumes nothing.
use Prim.Native.Nat.{ℕ}
use mathlib.Core.Path.{refl, sym, subst, subst₂}
use mathlib.Core.List.{[], ◌∷◌}
use Rattle.ledger.specs.Records.{Ledger, records_of, vacate, member, settle}
use Rattle.segment_cores.specs.Stores.{Releasing, Becomes}
use Rattle.calls.specs.Pool.{Pool}
use Rattle.segment_check.specs.Gate.{segment_pool}
use Rattle.calls.specs.Step.{give}
use Rattle.segment_check.proofs.GateLaws.{InRange}
use Rattle.calls.specs.Engines.{segment_engine}
use Rattle.call_parts.proofs.ResultLaws.{acted_by}
use Rattle.segment_requests.proofs.PlanLaws.{plan_range, plan_slot, release_releasing, plan_answer, plan_pool}
use Rattle.segment_requests.proofs.give_back.Goals as goal
use Rattle.segment_requests.proofs.give_back.Goals.{Start}

abbrev pool : Start → Pool
pool s =
    segment_pool s.args.s s.args.head s.args.arena.now s.args.table.now s.args.index.now

abbrev old : Start → Ledger
old s = records_of s.args.table.now

-- the ledger without the record
abbrev rest : Start → Ledger
rest s = settle (member s.args.named.ticket vacate ∷ []) (old s)

range : (c : Start) → InRange c.args.s c.args.arena.now c.args.table.now c.args.index.now
range c =
    plan_range c.args.head c.args.s c.args.arena.now c.args.table.now
    c.args.index.now c.args.named c.args.slot c.requires.0 c.requires.1

pub segments_of-segments-requires : goal.segments_of-segments-requires
segments_of-segments-requires c =
    let r = range (goal.at.segments_of-segments-requires c).Start in
    (r.power, r.most)

-- what is released, in the code's own numbers
pub release-requires : goal.release-requires
release-requires c =
    let s = (goal.at.release-requires c).Start in
    let r = c.segments_of-segments.result in
    let released = subst₂
    (Releasing (old s) (rest s) c.args.arena.now c.args.index.now r.count r.log r.size)
    (sym c.first_unit-at.ensures) (sym c.span_of-n.ensures)
    (release_releasing c.args.head c.args.s c.args.arena.now c.args.table.now
    c.args.index.now c.args.named c.args.slot c.requires.0 c.requires.1
    c.ranged.ensures c.segments_of-segments.ensures) in
    (old s, rest s, released)

pub write_row-requires : goal.write_row-requires
write_row-requires c =
    record {
      i_bound = plan_slot c.args.head c.args.s c.args.arena.now c.args.table.now
          c.args.index.now c.args.named c.args.slot c.requires.0 c.requires.1;
      record_words_len = (range (goal.at.write_row-requires c).Start).whole;
    }

pub returns : goal.returns
returns c =
    let s = (goal.at.returns c).Start in
    let r = c.segments_of-segments.result in
    let released = subst₂
    (Releasing (old s) (rest s) c.args.arena.now c.args.index.now r.count r.log r.size)
    (sym c.first_unit-at.ensures) (sym c.span_of-n.ensures)
    (release_releasing c.args.head c.args.s c.args.arena.now c.args.table.now
    c.args.index.now c.args.named c.args.slot c.requires.0 c.requires.1
    c.ranged.ensures c.segments_of-segments.ensures) in
    let left = subst
    (λ (n : ℕ). Becomes (rest s) c.args.arena.now n c.release.new.v c.release.new.t)
    c.segments_of-segments.ensures.count (c.release.ensures (old s) (rest s) released) in
    let after = plan_pool c.args.head c.args.s c.args.arena.now c.args.table.now
    c.args.index.now c.args.named c.args.slot c.requires.0 c.requires.1 vacate refl
    c.release.new.v c.write_row.new.table c.release.new.t
    left c.write_row.ensures in
    acted_by segment_engine (give c.args.named) (pool s) _ _
    (plan_answer c.args.head c.args.s c.args.arena.now c.args.table.now
    c.args.index.now c.args.named c.args.slot c.requires.0 c.requires.1 vacate refl)
    after
