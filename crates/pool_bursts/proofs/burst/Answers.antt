-- `pool_bursts::burst` meets its contract: 8, or the burst in words that suit. Assumes nothing.
use mathlib.Core.Path.{◌∙◌, sym, ap}
use Rattle.session.specs.Calls.{burst_call}
use Rattle.pool_bursts.specs.declared.Counts.{Counts}
use Rattle.pool_bursts.specs.Calls.{replied}
use Rattle.pool_bursts.proofs.CallLaws.{gated_eight}
use Rattle.pool_bursts.proofs.burst.Goals as goal

pub returns-then-state-ne-STATE : goal.returns-then-state-ne-STATE
unfolding burst_call
returns-then-state-ne-STATE c =
    let st = c.args.state.now in
    let out = c.args.answers.now in
    ap (λ (x : Counts). replied x st out) c.refused.ensures ∙ sym (gated_eight st out _ c.if-state-ne-STATE.true)
