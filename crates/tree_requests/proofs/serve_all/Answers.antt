-- `tree_requests::serve_all` meets its contract: before request i, pool and answers are those of the first i requests.
-- Assumes nothing.
use native.Mathlib.Omega.{arith}
use mathlib.Core.Path.{ap₂}
use Rattle.words.specs.Lists.{Words}
use Rattle.calls.specs.Pool.{Pool}
use Rattle.calls.specs.Engines.{tree_engine}
use Rattle.call_parts.specs.Parts.{request_at}
use Rattle.call_parts.proofs.ListLaws.{list_next, list_end}
use Rattle.tree_check.specs.Gate.{tree_pool}
use Rattle.calls.proofs.Engines.{tree_laws}
use Rattle.call_parts.proofs.ResultLaws.{acted_sound}
use Rattle.tree_requests.proofs.serve_all.Goals as goal

pub loop-i-preserved : goal.loop-i-preserved
loop-i-preserved c =
    let x = c.loop-i in
    let p = tree_pool c.args.head c.args.arena.now c.args.table.now in
    let q = tree_pool x.after x.arena x.table in
    let q' = tree_pool c.serve_at-after.result c.serve_at-after.new.arena c.serve_at-after.new.table in
    let rs = c.args.asked.now in
    let v = x.invariant.1 in
    let e = c.serve_at-after.ensures.table_after in (
      acted_sound tree_engine tree_laws q (request_at c.args.party rs x.i) q' e x.invariant.0,
      list_next tree_engine p c.args.party rs c.args.answers.now x.i q q' x.answers c.serve_at-after.new.answers
          (omega arith) (omega (arith, v.size, c.requires.asked_len.1)) e c.serve_at-after.ensures.answers_after v,
    )

pub returns : goal.returns
returns c =
    let x = c.loop-i in
    let p = tree_pool c.args.head c.args.arena.now c.args.table.now in
    let rs = c.args.asked.now in
    let (a, b) =
    list_end tree_engine p c.args.party rs c.args.answers.now x.i (tree_pool x.after x.arena x.table) x.answers
    (omega (arith, c.requires.asked_len.0)) x.invariant.1 in
    ap₂ (λ (y : Pool) (z : Words). (y, z)) a b
