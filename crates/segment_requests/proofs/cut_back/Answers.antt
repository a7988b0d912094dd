-- `segment_requests::cut_back` meets its contract: the words that go back, and the shorter record, make the act a trim.
-- Assumes nothing.
use Prim.Native.Nat.{ℕ, ◌-◌}
use native.Mathlib.Omega.{arith}
use mathlib.Core.Path.{ap, subst, ◌∙◌}
use mathlib.Core.List.{[], ◌∷◌}
use lib.ListN.{set}
use Rattle.ledger.specs.declared.Row.{Row}
use Rattle.ledger.specs.Records.{Ledger, records_of, table_of, keep, member, settle}
use Rattle.ledger.proofs.RunLaws.{kept_few}
use Rattle.stored_forms.specs.Segments.{segment_rule}
use Rattle.segment_cores.specs.Stores.{Trimming, Becomes}
use Rattle.calls.specs.Pool.{Pool}
use Rattle.segment_check.specs.Gate.{segment_pool}
use Rattle.calls.specs.Step.{cut}
use Rattle.segment_check.proofs.GateLaws.{InRange}
use Rattle.calls.specs.Engines.{segment_engine}
use Rattle.call_parts.proofs.ResultLaws.{acted_by}
use Rattle.segment_requests.proofs.PlanLaws.{plan_range, plan_slot, trim_trimming, whole_pool, plan_answer, plan_pool}
use Rattle.segment_requests.proofs.cut_back.Goals as goal
use Rattle.segment_requests.proofs.cut_back.Goals.{Start}

abbrev pool : Start → Pool
pool s =
    segment_pool s.args.s s.args.head s.args.arena.now s.args.table.now s.args.index.now

abbrev old : Start → Ledger
old s = records_of s.args.table.now

-- the ledger with the shorter record
abbrev rest : Start → Ledger
rest s = settle (member s.args.named.ticket (keep s.args.keep) ∷ []) (old s)

range : (c : Start) → InRange c.args.s c.args.arena.now c.args.table.now c.args.index.now
range c =
    plan_range c.args.head c.args.s c.args.arena.now c.args.table.now
    c.args.index.now c.args.named c.args.slot c.requires.0 c.requires.1

pub returns-then-keep-named : goal.returns-then-keep-named
returns-then-keep-named c =
    acted_by segment_engine (cut c.args.named c.args.keep) (pool (goal.at.returns-then-keep-named c).Start) _ _
    (plan_answer c.args.head c.args.s c.args.arena.now c.args.table.now
    c.args.index.now c.args.named c.args.slot c.requires.0 c.requires.1 (keep c.args.keep) c.requires.2)
    (whole_pool c.args.head c.args.s c.args.arena.now c.args.table.now
    c.args.index.now c.args.named c.args.slot c.requires.0 c.requires.1 c.args.keep c.if-keep-named.true)

pub overflow_sub-k : goal.overflow_sub-k
overflow_sub-k c =
    rw (c.span_of-m.ensures, c.span_of.ensures)
    (kept_few segment_rule (omega arith) (keep c.args.keep) c.args.named c.requires.2)

pub segments_of-segments-requires : goal.segments_of-segments-requires
segments_of-segments-requires c =
    let r = range (goal.at.segments_of-segments-requires c).Start in
    (r.power, r.most)

-- what is cut, in the code's own numbers
pub trim-requires : goal.trim-requires
trim-requires c =
    let s = (goal.at.trim-requires c).Start in
    let r = c.segments_of-segments.result in
    let m = c.span_of-m.result in
    let cut_at : Trimming (old s) (rest s) c.args.arena.now c.args.index.now r.count r.size
    c.first_unit-at.result m (c.span_of.result - m)
    = rw (c.first_unit-at.ensures, c.span_of-m.ensures, c.span_of.ensures)
    (trim_trimming c.args.head c.args.s c.args.arena.now c.args.table.now
    c.args.index.now c.args.named c.args.slot c.requires.0 c.requires.1 c.args.keep c.requires.2 c.if-keep-named.false
    c.ranged.ensures c.segments_of-segments.ensures) in
    (old s, rest s, cut_at)

pub write_row-requires : goal.write_row-requires
write_row-requires c =
    record {
      i_bound = plan_slot c.args.head c.args.s c.args.arena.now c.args.table.now
          c.args.index.now c.args.named c.args.slot c.requires.0 c.requires.1;
      record_words_len = (range (goal.at.write_row-requires c).Start).whole;
    }

pub returns : goal.returns
returns c =
    let s = (goal.at.returns c).Start in
    let r = c.segments_of-segments.result in
    let m = c.span_of-m.result in
    let cut_at : Trimming (old s) (rest s) c.args.arena.now c.args.index.now r.count r.size
    c.first_unit-at.result m (c.span_of.result - m)
    = rw (c.first_unit-at.ensures, c.span_of-m.ensures, c.span_of.ensures)
    (trim_trimming c.args.head c.args.s c.args.arena.now c.args.table.now
    c.args.index.now c.args.named c.args.slot c.requires.0 c.requires.1 c.args.keep c.requires.2 c.if-keep-named.false
    c.ranged.ensures c.segments_of-segments.ensures) in
    let left = subst
    (λ (n : ℕ). Becomes (rest s) c.args.arena.now n c.trim.new.v c.trim.new.t)
    c.segments_of-segments.ensures.count (c.trim.ensures (old s) (rest s) cut_at) in
    let shorter = c.write_row.ensures
    ∙ ap (λ (r : Row). table_of (set (old s) c.args.slot r)) c.shortened.ensures in
    let after = plan_pool c.args.head c.args.s c.args.arena.now c.args.table.now
    c.args.index.now c.args.named c.args.slot c.requires.0 c.requires.1 (keep c.args.keep) c.requires.2
    c.trim.new.v c.write_row.new.table c.trim.new.t
    left (rw c.requires.2 shorter) in
    acted_by segment_engine (cut c.args.named c.args.keep) (pool s) _ _
    (plan_answer c.args.head c.args.s c.args.arena.now c.args.table.now
    c.args.index.now c.args.named c.args.slot c.requires.0 c.requires.1 (keep c.args.keep) c.requires.2)
    after
