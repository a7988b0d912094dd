-- `segment_check::map_rows` meets its contract: before slot i the map has the first words of the earlier records.
-- Assumes nothing.
use Prim.Native.Nat.{◌*◌, ◌≤◌}
use mathlib.Core.Path.{◌≡◌}
use lib.ListN.{length}
use Rattle.segment_check.specs.Adjoining.{Headed}
use Rattle.segment_check.proofs.map_rows.Given as goal

abbrev pub invariant-loop-i : goal.invariant-loop-i
invariant-loop-i l =
    (l.held ≤ 16384 * l.i) × (length l.map ≡ length l.initial.map) × (length l.seen ≡ length l.initial.seen)
    × Headed l.v l.next l.table l.map l.seen (length l.initial.seen) l.i l.held
