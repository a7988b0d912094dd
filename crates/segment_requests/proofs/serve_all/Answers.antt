-- `segment_requests::serve_all` meets its contract: before request i, pool and answers are those of the first i
-- requests. Assumes nothing.
use native.Mathlib.Omega.{arith}
use mathlib.Core.Path.{◌∙◌, ap₂}
use Rattle.words.specs.Lists.{Words}
use Rattle.calls.specs.Pool.{Pool}
use Rattle.calls.specs.Engines.{segment_engine}
use Rattle.segment_check.specs.Gate.{segment_pool}
use Rattle.call_parts.specs.Parts.{request_at}
use Rattle.call_parts.proofs.ListLaws.{list_next, list_end}
use Rattle.calls.proofs.Engines.{segment_laws}
use Rattle.call_parts.proofs.ResultLaws.{acted_sound}
use Rattle.segment_requests.proofs.serve_all.Goals as goal
use Rattle.segment_requests.proofs.serve_all.Goals.{Start}

abbrev pool : Start → Pool
pool s =
    segment_pool s.args.s s.args.head s.args.arena.now s.args.table.now s.args.index.now

pub loop-i-preserved : goal.loop-i-preserved
loop-i-preserved c =
    let x = c.loop-i in
    let q = segment_pool c.args.s x.after x.arena x.table x.index in
    let q' = segment_pool c.args.s c.serve_at-after.result c.serve_at-after.new.arena
    c.serve_at-after.new.table c.serve_at-after.new.index in
    let rs = c.args.asked.now in
    let v = x.invariant.5 in
    let e = c.serve_at-after.ensures.index_after in (
      c.serve_at-after.auto.arena ∙ x.invariant.0,
      c.serve_at-after.auto.table ∙ x.invariant.1,
      c.serve_at-after.auto.index ∙ x.invariant.2,
      omega arith,
      acted_sound segment_engine segment_laws q (request_at c.args.party rs x.i) q' e x.invariant.4,
      list_next segment_engine (pool (goal.at.loop-i-preserved c).Start) c.args.party rs c.args.answers.now x.i q q' x.answers
          c.serve_at-after.new.answers (omega arith) (omega (arith, v.size, c.requires.asked_len.1)) e
          c.serve_at-after.ensures.answers_after v,
    )

pub returns : goal.returns
returns c =
    let x = c.loop-i in
    let (a, b) =
    list_end segment_engine (pool (goal.at.returns c).Start) c.args.party c.args.asked.now c.args.answers.now x.i
    (segment_pool c.args.s x.after x.arena x.table x.index) x.answers
    (omega (arith, c.requires.asked_len.0)) x.invariant.5 in
    ap₂ (λ (y : Pool) (z : Words). (y, z)) a b
