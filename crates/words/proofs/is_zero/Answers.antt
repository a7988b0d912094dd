use native.Mathlib.Omega.{arith}
use Rattle.words.proofs.ListLaws.{all_cut}
use Rattle.words.proofs.is_zero.Goals as goal

pub returns-then-not-is_zero_block : goal.returns-then-not-is_zero_block
returns-then-not-is_zero_block g c =
    let cut = all_cut g.T.Bits.is_zero 256 c.loop-block.rest.now in
    let halves = c.in-Some.ensures.cases in
    grind arith

pub loop-block-preserved : goal.loop-block-preserved
loop-block-preserved g c =
    let cut = all_cut g.T.Bits.is_zero 256 c.loop-block.rest.now in
    let halves = c.in-Some.ensures.cases in
    grind arith
