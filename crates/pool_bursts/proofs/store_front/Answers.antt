-- `pool_bursts::store_front` meets its contract: room, the six words, the line. Assumes nothing.
use native.Mathlib.Omega.{arith}
use mathlib.Core.Path.{◌∙◌, ap}
use lib.ListN.{length}
use lib.Seq.{sets}
use Rattle.words.specs.Lists.{Words}
use Rattle.text.specs.Numbers.{Bytes}
use Rattle.word_bytes.specs.Little.{bytes_of_words}
use Rattle.pool_text.specs.Session.{standing_of}
use Rattle.pool_bursts.specs.Inside.{with_pool}
use Rattle.pool_bursts.proofs.StoreLaws.{stored, lent_sizes}
use Rattle.pool_bursts.proofs.store_front.Goals as goal

pub returns : goal.returns
returns c =
    let w = c.clear_for in
    let f = c.fields_of-f in
    let a = c.args.arena.now in
    let t = c.args.table.now in
    let st = standing_of c.args.stage a t in
    let k = c.args.line.now in
    let b = w.new.state in
    let sizes = lent_sizes c.args.stage a t c.requires.lent.0 f.result (length k) f.ensures in
    ap (λ (l : Bytes). with_pool l st)
    (c.put_front.ensures ∙ ap (λ (ws : Words). sets (sets b 0 (bytes_of_words ws)) 24 k) f.ensures)
    ∙ stored st k b f.result (w.auto.state ∙ c.requires.lent.1) (omega (arith, c.requires.line_len)) sizes.table sizes.arena
    sizes.few_slots sizes.few_words w.ensures
