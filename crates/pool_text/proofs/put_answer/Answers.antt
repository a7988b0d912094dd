-- `pool_text::put_answer` meets its contract: N where the number is not 0, else K. Assumes nothing.
use Rattle.std.proofs.Common.{arith, [], ◌∷◌}
use Rattle.words.proofs.Tests.{eqb_ne}
use Rattle.session.specs.Meaning.{answer_line}
use Rattle.session.proofs.LineLaws.{line_room}
use Rattle.pool_text.proofs.put_answer.Goals as goal

pub put_line-requires : goal.put_line-requires
put_line-requires c = omega (arith, c.requires, line_room 78 (c.args.x.number ∷ []) (omega arith))

pub returns-then-x-ne0 : goal.returns-then-x-ne0
unfolding answer_line
returns-then-x-ne0 c = rw (eqb_ne c.args.x.number 0 c.if-x-ne0.true) c.put_line.ensures

pub put_line-requires-2 : goal.put_line-requires-2
put_line-requires-2 c =
    let x = c.args.x in
    omega (arith, c.requires, line_room 75 (x.ticket ∷ x.address ∷ x.words ∷ []) (omega arith))

pub returns : goal.returns
unfolding answer_line
returns c = rw c.if-x-ne0.false c.put_line-2.ensures
