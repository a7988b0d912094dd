-- `pool_bursts::start` meets its contract: 8, or zeros and the words of a session before P. Assumes nothing.
use native.Mathlib.Omega.{arith}
use Prim.Native.Nat.{ℕ}
use mathlib.Core.Path.{◌∙◌, sym, ap}
use mathlib.Core.List.{[], ◌∷◌}
use lib.ListN.{length, replicate, length-replicate}
use lib.Seq.{sets}
use Rattle.text.specs.Numbers.{Bytes}
use Rattle.word_bytes.specs.Little.{bytes_of_words}
use Rattle.session.specs.Meaning.{before}
use Rattle.pool_bursts.specs.declared.Fields.{Fields}
use Rattle.pool_bursts.specs.Calls.{started}
use Rattle.pool_bursts.proofs.ClearLaws.{blank_zeros}
use Rattle.pool_bursts.proofs.StoreLaws.{stored}
use Rattle.pool_bursts.proofs.CallLaws.{start_eight, start_fills}
use Rattle.pool_bursts.proofs.start.Goals as goal

-- the six words
abbrev begun : Fields
begun = record { stage = 1; kept = 0; words = 0; slots = 0; root = 0; next = 0 }

pub returns-then-state-ne-STATE : goal.returns-then-state-ne-STATE
returns-then-state-ne-STATE c = sym (start_eight c.args.state.now c.if-state-ne-STATE.true)

pub returns : goal.returns
returns c =
    let st = c.args.state.now in
    let p = c.put_front in
    let w = c.fill in
    let long = c.if-state-ne-STATE.false in
    let filled = p.ensures
    ∙ ap (λ (l : Bytes). sets (sets l 0 (bytes_of_words (1 ∷ 0 ∷ 0 ∷ 0 ∷ 0 ∷ 0 ∷ []))) 24 []) w.ensures
    ∙ stored before [] (replicate (length st) 0) begun (length-replicate {A = ℕ} (length st) 0 ∙ long) (omega arith)
    (omega arith) (omega arith) (omega arith) (omega arith) (blank_zeros begun (length st)) in
    ap (started 0) filled ∙ sym (start_fills st long)
