-- `pool_text::Said::answer` meets its contract: an answer has at most 35 bytes. Assumes nothing.
use Rattle.std.proofs.Common.{ℕ, arith, length, replicate, ◌≤◌}
use Rattle.session.specs.Meaning.{answer_line}
use lib.ListN.{length-replicate}
use Rattle.session.proofs.LineLaws.{answer_long}
use Rattle.text.specs.Numbers.{Bytes}
use Rattle.pool_text.proofs.BurstLaws.{small_said}
use Rattle.pool_text.proofs.Said.answer.Goals as goal

pub invariant_of-result : goal.invariant_of-result
invariant_of-result c = omega (arith, c.put_answer-len.ensures.0, answer_long c.args.x)

pub returns : goal.returns
returns c =
    let said = answer_line c.args.x in
    let small : Bytes = replicate 35 0 in
    let fits : length said ≤ length small = omega (arith, answer_long c.args.x, length-replicate {A = ℕ} 35 0) in
    small_said said small c.put_answer-len.new.out c.put_answer-len.result fits c.put_answer-len.ensures
