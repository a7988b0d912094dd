-- `segment_check::map_rows` meets its contract: before slot i the map has the first words of the earlier records.
-- Assumes nothing.
use native.Mathlib.Omega.{arith}
use mathlib.Core.Path.{◌∙◌, subst}
use lib.ListN.{length}
use Rattle.segment_check.specs.Adjoining.{Joined}
use Rattle.segment_check.proofs.HeadLaws.{headed_next}
use Rattle.segment_check.proofs.map_rows.Goals as goal

pub loop-i-preserved : goal.loop-i-preserved
loop-i-preserved c =
    let a = c.args in
    let (low, same_map, same_seen, headed) = c.loop-i.invariant in
    let (few, joined) = c.in_ok-held.ensures.joined in
    let at = Joined a.v.now a.next a.table.now c.map_row.new.map c.map_row.new.seen in (
      omega (arith, low, few, c.requires.0),
      c.map_row.auto.map ∙ same_map,
      c.map_row.auto.seen ∙ same_seen,
      headed_next a.v.now a.next a.table.now (length a.seen.now) c.loop-i.map c.loop-i.seen c.map_row.new.map c.map_row.new.seen
          c.loop-i.i c.loop-i.held c.in_ok-held.field-0 headed
          (subst (λ m. at m c.loop-i.i c.in_ok-held.field-0) same_seen joined),
    )
