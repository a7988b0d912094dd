-- `segment_pool::format` meets its contract: one free block, its index and a wiped table hold nothing. Assumes nothing.
use Prim.Native.Nat.{ℕ}
use mathlib.Core.Path.{◌∙◌, ap, sym, refl, subst}
use mathlib.Core.Bool.{true}
use Rattle.segment_cores.specs.Stores.{Becomes}
use Rattle.calls.specs.Engines.{segment_engine}
use Rattle.calls.specs.Refusals.{refusal_number, number_in}
use Rattle.calls.proofs.RefusalLaws.{number_nonzero}
use Rattle.segment_check.specs.Gate.{segment_pool, no_head}
use Rattle.segment_check.proofs.GateLaws.{InRange, measured}
use Rattle.call_parts.proofs.FormatLaws.{format_result}
use Rattle.segment_pool.proofs.FormatLaws.{head_refused, blank_pool_lem, fit}
use Rattle.segment_pool.proofs.format.Goals as goal
use Rattle.segment_pool.proofs.format.Goals.{In_default}

-- past the test the lengths are right
fits : (c : In_default) → InRange c.args.s c.args.arena.now c.args.table.now c.args.index.now
fits c =
    fit c.args.s c.args.arena.now c.args.table.now c.args.index.now c.args.first
    c.right_lengths-right.result (c.right_lengths-right.ensures no_head)
    (number_in c.format_test.result) c.format_test.ensures (ap number_in c.in_default.is)

pub returns-in-Err : goal.returns-in-Err
returns-in-Err c =
    head_refused c.args.s c.args.arena.now c.args.table.now c.args.index.now c.args.first
    c.right_lengths-right.result (c.right_lengths-right.ensures no_head)
    (refusal_number c.in-Err.refusal) (sym (ap number_in c.in-Err.is) ∙ c.format_test.ensures)
    c.from.result (number_nonzero c.in-Err.refusal) c.from.ensures

pub segments_of-segments-requires : goal.segments_of-segments-requires
segments_of-segments-requires c = let r = fits (goal.at.segments_of-segments-requires c).In_default in (r.power, r.most)

pub lay_out-requires : goal.lay_out-requires
lay_out-requires c =
    let known = measured (fits (goal.at.lay_out-requires c).In_default) c.segments_of-segments.ensures in
    record {
      sizes = known.sizes;
      t_len = known.long;
    }

pub returns : goal.returns
unfolding segment_engine
returns c =
    let right = c.right_lengths-right in
    let number = number_in c.format_test.result in
    let passed = ap number_in c.in_default.is in
    let first = c.args.first in
    format_result segment_engine
    (segment_pool c.args.s no_head c.args.arena.now c.args.table.now c.args.index.now) first
    true refl right.result (right.ensures no_head) number c.format_test.ensures passed c.succeeded.result
    (segment_pool c.args.s (record { next = first }) c.lay_out.new.v c.fill.new.s c.lay_out.new.t)
    c.succeeded.ensures
    (blank_pool_lem c.args.s c.args.arena.now c.args.table.now c.args.index.now first
    right.result (right.ensures no_head) number c.format_test.ensures passed
    c.lay_out.new.v c.fill.new.s c.lay_out.new.t
    (λ L none. subst (λ (n : ℕ). Becomes L c.args.arena.now n c.lay_out.new.v c.lay_out.new.t)
    c.segments_of-segments.ensures.count (c.lay_out.ensures L none))
    c.fill.ensures)
