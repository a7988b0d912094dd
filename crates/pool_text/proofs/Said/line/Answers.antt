-- `pool_text::Said::line` meets its contract: a line of three numbers has at most 35 bytes. Assumes nothing.
use Rattle.std.proofs.Common.{ℕ, arith, length, replicate, ◌≤◌}
use lib.ListN.{length-replicate}
use Rattle.session.proofs.LineLaws.{line_room}
use Rattle.text.specs.Fields.{line_of}
use Rattle.text.specs.Numbers.{Bytes}
use Rattle.pool_text.proofs.BurstLaws.{small_said}
use Rattle.pool_text.proofs.Said.line.Goals as goal

pub put_line-len-requires : goal.put_line-len-requires
put_line-len-requires c = omega (arith, line_room c.args.letter c.args.numbers.now c.requires)

pub invariant_of-result : goal.invariant_of-result
invariant_of-result c =
    omega (arith, c.put_line-len.ensures.0, line_room c.args.letter c.args.numbers.now c.requires)

pub returns : goal.returns
returns c =
    let said = line_of c.args.letter c.args.numbers.now in
    let small : Bytes = replicate 35 0 in
    let room = line_room c.args.letter c.args.numbers.now c.requires in
    let fits : length said ≤ length small = omega (arith, room, length-replicate {A = ℕ} 35 0) in
    small_said said small c.put_line-len.new.out c.put_line-len.result fits c.put_line-len.ensures
