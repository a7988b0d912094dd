-- `pool_bursts::burst_in` meets its contract: 1, or the burst on the session that was read. Assumes nothing.
use mathlib.Core.Path.{◌∙◌, sym, ap}
use lib.ListN.{length}
use Rattle.text.specs.Rooms.{burst}
use Rattle.session.specs.Meaning.{serve}
use Rattle.session.specs.State.{Session}
use Rattle.session.specs.Calls.{burst_done, burst_call}
use Rattle.pool_bursts.specs.declared.Counts.{Counts}
use Rattle.pool_bursts.specs.Calls.{replied}
use Rattle.pool_bursts.proofs.CallLaws.{gated_one, gated_open}
use Rattle.pool_bursts.proofs.burst_in.Goals as goal

pub returns-in_default-clause-answers_after : goal.returns-in_default-clause-answers_after
unfolding burst_call
returns-in_default-clause-answers_after c =
    let st = c.args.state.now in
    let out = c.args.answers.now in
    ap (λ (x : Counts). replied x st out) c.refused.ensures
    ∙ sym (gated_one st out _ c.requires.state_len.0 c.in_default.ensures)

pub returns-clause-answers_after : goal.returns-clause-answers_after
unfolding burst_call
returns-clause-answers_after c =
    let st = c.args.state.now in
    let bytes = c.args.bytes.now in
    let out = c.args.answers.now in
    let read = c.in-Some.ensures in
    c.burst_loaded.ensures.answers_after
    ∙ ap (λ (x : Session). burst_done (burst serve (length out) x.standing x.kept bytes) bytes out) read.1.2
    ∙ sym (gated_open st out _ c.requires.state_len.0 read.0)
