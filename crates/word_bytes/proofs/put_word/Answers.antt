-- `word_bytes::put_word` meets its contract. Assumes nothing.
use Prim.Native.Nat.{◌+◌, ◌-◌, ◌*◌}
use native.Mathlib.Omega.{arith}
use mathlib.Core.List.{[], ◌∷◌}
use mathlib.Core.Path.{ap, ◌∙◌}
use lib.ListN.{get_or}
use Rattle.text.specs.Numbers.{Bytes}
use Rattle.word_bytes.proofs.LittleLaws.{put_bytes, bytes_lem}
use Rattle.word_bytes.proofs.put_word.Goals as goal

pub returns : goal.returns
returns c =
    let four : Bytes → Bytes = λ bs. get_or bs 0 0 ∷ get_or bs 1 0 ∷ get_or bs 2 0 ∷ get_or bs 3 0 ∷ [] in
    put_bytes (4 * c.args.i) (4 * c.args.i + 4 - 4 * c.args.i) c.args.out.now c.args.x c.copy_from_slice.new.self
    (c.copy_from_slice.ensures.after ∙ ap four (c.to_le_bytes.ensures ∙ bytes_lem c.args.x c.ranges.x.fits)) (omega arith)
    c.requires
