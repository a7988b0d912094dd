-- A further ticket takes its part in the flag.
use Rattle.std.proofs.Common.{sym, ap, ap₂, ◌∙◌, not, ◌&&◌, eqb}
use Rattle.record_table.proofs.PairLaws.{every_last}
use Rattle.record_table.specs.Partition.{other_than}
use Rattle.record_table.proofs.unlike_earlier.Goals as goal

pub loop-j-preserved : goal.loop-j-preserved
loop-j-preserved c =
    let x = c.args.ticket in
    ap₂ (λ p q. p && q) c.loop-j.invariant (ap (λ y. not (eqb y x)) c.ticket_at.ensures)
    ∙ sym (every_last (other_than c.args.table.now x) c.loop-j.j)
