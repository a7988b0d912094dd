-- `pool_bursts::end` meets its contract: 8, 1, or the last line of the session that was read. Assumes nothing.
use mathlib.Core.Path.{◌∙◌, sym, ap}
use Rattle.text.specs.Numbers.{Bytes}
use Rattle.pool_text.specs.Session.{standing_of}
use Rattle.text.specs.Lines.{finish}
use Rattle.session.specs.Meaning.{serve}
use Rattle.session.specs.State.{Session}
use Rattle.session.specs.Calls.{end_done, end_call}
use Rattle.pool_bursts.specs.declared.Counts.{Counts}
use Rattle.pool_bursts.specs.Calls.{replied}
use Rattle.pool_bursts.proofs.CallLaws.{gated_eight, gated_one, gated_open}
use Rattle.pool_bursts.proofs.end.Goals as goal

pub returns-then-state-ne-STATE : goal.returns-then-state-ne-STATE
unfolding end_call
returns-then-state-ne-STATE c =
    let st = c.args.state.now in
    let out = c.args.answers.now in
    ap (λ (x : Counts). replied x st out) c.refused.ensures ∙ sym (gated_eight st out _ c.if-state-ne-STATE.true)

pub returns-in_default : goal.returns-in_default
unfolding end_call
returns-in_default c =
    let st = c.args.state.now in
    let out = c.args.answers.now in
    ap (λ (x : Counts). replied x st out) c.refused-in_default.ensures
    ∙ sym (gated_one st out _ c.if-state-ne-STATE.false c.in_default.ensures)

pub returns : goal.returns
unfolding end_call
returns c =
    let st = c.args.state.now in
    let out = c.args.answers.now in
    let read = c.in-Some.ensures in
    let stands = standing_of c.in-Some.read.stage c.load_words.new.arena c.load_words.new.table in
    c.end_loaded.ensures
    ∙ ap (λ (x : Bytes). end_done (finish serve stands x) st out) c.bytes.ensures.0
    ∙ ap (λ (x : Session). end_done (finish serve x.standing x.kept) st out) read.1.2
    ∙ sym (gated_open st out _ c.if-state-ne-STATE.false read.0)
