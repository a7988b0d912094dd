-- `word_bytes::put_words` meets its contract: the words left, set from here on, make all of them. Assumes nothing.
use Prim.Native.Nat.{◌+◌, ◌*◌}
use lib.ListN.{length, drop}
use lib.Seq.{sets}
use Rattle.word_bytes.specs.Little.{bytes_of_words}
use mathlib.Core.Path.{◌≡◌}
use Rattle.word_bytes.proofs.put_words.Given as goal

abbrev pub invariant-loop-i : goal.invariant-loop-i
invariant-loop-i l =
    (length l.out ≡ length l.initial.out)
    × (sets l.out (4 * (l.from + l.i)) (bytes_of_words (drop l.i l.words)) ≡ sets l.initial.out (4 * l.from) (bytes_of_words l.words))
