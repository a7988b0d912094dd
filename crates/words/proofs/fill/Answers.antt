use lib.ListN.{length, replicate, length-replicate, get_or-replicate}
use lib.Seq.{ext_get_or}
use native.Mathlib.Omega.{arith}
use mathlib.Core.Path.{sym, ◌∙◌}
use Rattle.words.proofs.fill.Goals as goal

pub returns : goal.returns
returns g c =
    let n = length c.args.s.now in
    let x = c.args.x in
    let s = c.loop-y in
    ext_get_or x s.s (replicate n x) (s.auto.s ∙ sym (length-replicate n x))
    (λ k h. s.invariant k (omega arith) ∙ sym (get_or-replicate n k x x (omega arith)))
