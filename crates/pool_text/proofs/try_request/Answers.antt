-- `pool_text::try_request` meets its contract: one act on the program's own pool, if its answer has room. Assumes nothing.
use Rattle.std.proofs.Common.{◌-◌, ◌≤◌, ◌≡◌, refl, ap, length, arith}
use Rattle.std.specs.Prelude.{Option}
use Rattle.words.specs.Lists.{Words}
use Rattle.words.proofs.Tests.{of_le, of_gt}
use Rattle.calls.specs.declared.Answer.{Answer}
use Rattle.calls.specs.Step.{answer_to}
use Rattle.calls.specs.Engines.{tree_engine}
use Rattle.call_parts.specs.Results.{Result}
use Rattle.text.specs.Numbers.{Bytes}
use Rattle.session.specs.declared.LineRequest.{LineRequest}
use Rattle.session.specs.Meaning.{serving, serve, act_of, request_of, answer_line}
use Rattle.session.proofs.LineLaws.{answer_long}
use Rattle.pool_text.specs.declared.Own.{Own}
use Rattle.pool_text.specs.Session.{own_pool}
use Rattle.pool_text.proofs.StandLaws.{became_served}
use Rattle.pool_text.proofs.try_request.Goals as goal

-- what a line is answered, by its request
said-is : (o : Own) (a t : Words) (line : Bytes) (q : Option LineRequest) → q ≡ request_of line
    → length (answer_line (answer_to tree_engine (own_pool o a t) (act_of q))) ≡ length (serve (serving (own_pool o a t)) line).said
unfolding serve
said-is o a t line q e = ap (λ (r : Option LineRequest). length (answer_line (answer_to tree_engine (own_pool o a t) (act_of r)))) e

-- what a request is answered
abbrev answer : Own → Words → Words → Option LineRequest → Answer
answer o a t q = answer_to tree_engine (own_pool o a t) (act_of q)

pub returns-then-room-request_length : goal.returns-then-room-request_length
returns-then-room-request_length c =
    let q = c.request_of-request in
    let same = said-is c.args.own c.args.arena.now c.args.table.now c.args.line.now q.result q.ensures in (
      of_gt _ (length c.args.out.now - c.args.at)
          (omega (arith, c.if-room-request_length.true, c.request_length.ensures, same)),
      c.requires.0,
      refl,
      refl,
    )

pub put_fitting-requires : goal.put_fitting-requires
put_fitting-requires c =
    let same = ap (λ (x : Result). length (answer_line x.answer)) c.serve_own-done.ensures in
    let said = answer c.args.own c.args.arena.now c.args.table.now c.request_of-request.result in
    let fits : length (answer_line said) ≤ length c.args.out.now - c.args.at =
    grind (arith, answer_long said) in
    omega (arith, same, fits, c.requires.1)

pub returns : goal.returns
returns c =
    let o = c.args.own in
    let a = c.args.arena.now in
    let t = c.args.table.now in
    let line = c.args.line.now in
    let out = c.args.out.now in
    let q = c.request_of-request in
    let r = c.serve_own-done in
    let p = c.put_fitting in
    let same = said-is o a t line q.result q.ensures in
    let said = answer o a t q.result in
    let fits : length (answer_line said) ≤ length out - c.args.at =
    grind (arith, answer_long said) in (
      of_le _ (length out - c.args.at) (omega (arith, fits, same)),
      became_served o a t r.new.arena r.new.table line q.result r.result q.ensures r.ensures
          out p.new.out c.args.at p.result c.requires.0 r.auto.arena r.auto.table p.ensures,
    )
