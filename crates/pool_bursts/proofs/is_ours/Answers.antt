-- `pool_bursts::is_ours` meets its contract: the flag so far and the test of what is left make the answer. Assumes
-- nothing.
use mathlib.Core.Bool.{Bool, ◌&&◌}
use native.Mathlib.Omega.{arith}
use mathlib.Core.Path.{◌∙◌, sym, ap}
use Rattle.words.specs.Counted.{every}
use Rattle.words.proofs.CountedLaws.{flag_next, flag_end}
use Rattle.words.proofs.ListLaws.{all_list_from}
use Rattle.ledger.specs.Records.{record_at, slots, records_of}
use Rattle.session.specs.State.{is_ours}
use Rattle.pool_bursts.proofs.LoadLaws.{ours_at}
use Rattle.pool_bursts.proofs.is_ours.Goals as goal

pub loop-i-preserved : goal.loop-i-preserved
loop-i-preserved c =
    let l = c.loop-i in
    let n = c.slot_count-i-end.result in
    let p = ours_at c.args.table.now in
    let here = ap (λ (b : Bool). l.fine && b) (c.is_own-fine.ensures ∙ ap is_ours c.read_row.ensures) in
    flag_next (every p 0 n) l.fine p n l.i l.invariant _ c.loop-i-test.true here

pub returns : goal.returns
unfolding records_of
returns c =
    let l = c.loop-i in
    let n = c.slot_count-i-end.result in
    let t = c.args.table.now in
    let p = ours_at t in
    flag_end (every p 0 n) l.fine p n l.i l.invariant (omega (arith, c.loop-i-test.false))
    ∙ ap (every p 0) c.slot_count-i-end.ensures ∙ sym (all_list_from is_ours (record_at t) 0 (slots t))
