-- `pool_bursts::put_stage` meets its contract, at each stage. Assumes nothing.
use mathlib.Core.Path.{◌∙◌, sym, ap, subst}
use Rattle.pool_text.specs.declared.Stage.{Stage}
use Rattle.pool_text.specs.Session.{standing_of, Lent}
use Rattle.pool_bursts.specs.Inside.{with_pool}
use Rattle.pool_bursts.proofs.put_stage.Goals as goal

pub put_pool-requires : goal.put_pool-requires
put_pool-requires c =
    let lent : Stage → Type 0 = λ x. Lent x c.args.arena.now c.args.table.now in
    (subst lent c.in-Serving.is c.requires.0, c.requires.1)

pub returns-in-Serving : goal.returns-in-Serving
returns-in-Serving c =
    c.put_pool.ensures
    ∙ sym (ap (λ (x : Stage). with_pool c.args.state.now (standing_of x c.args.arena.now c.args.table.now)) c.in-Serving.is)
