-- `word_bytes::get_words` meets its contract: the words as far as i are read. Assumes nothing.
use Rattle.word_bytes.specs.Little.{word_at}
use Rattle.word_bytes.proofs.LittleLaws.{Filled}
use Rattle.word_bytes.proofs.get_words.Given as goal

abbrev pub invariant-loop-i : goal.invariant-loop-i
invariant-loop-i l = Filled (word_at l.bytes) l.from l.i l.out
