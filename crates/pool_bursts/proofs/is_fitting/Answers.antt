-- `pool_bursts::is_fitting` meets its contract: the gate's answer, and the records' party. Assumes nothing.
use Rattle.std.proofs.Common.{ap, sym, ◌∙◌}
use mathlib.Core.Bool.{Bool, ◌&&◌}
use Rattle.calls.specs.Refusals.{number_in}
use Rattle.calls.proofs.RefusalLaws.{zero_ok}
use Rattle.pool_bursts.proofs.LoadLaws.{fitting_is}
use Rattle.pool_bursts.proofs.is_fitting.Goals as goal

pub returns : goal.returns
returns c =
    let g = c.gate in
    ap (λ (b : Bool). b && c.is_ours.result) (c.is_ok.ensures.value ∙ sym (zero_ok g.result))
    ∙ fitting_is c.args.own c.args.arena.now c.args.table.now (number_in g.result) c.requires.0 c.requires.1 c.requires.2
    g.ensures c.is_ours.result c.is_ours.ensures
