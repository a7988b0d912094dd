-- `word_bytes::get_words` meets its contract: the words as far as i are read. Assumes nothing.
use lib.ListN.{length}
use native.Mathlib.Omega.{arith}
use Rattle.word_bytes.specs.Little.{word_at}
use Rattle.word_bytes.proofs.LittleLaws.{filled_all}
use Rattle.word_bytes.proofs.get_words.Goals as goal

pub returns : goal.returns
returns c =
    let n = length c.args.out.now in
    filled_all (word_at c.args.bytes.now) c.args.from n c.loop-i.out (omega arith)
    (λ j h. c.loop-i.invariant j (omega arith))
