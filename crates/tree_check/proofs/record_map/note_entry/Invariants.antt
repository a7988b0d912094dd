-- The invariants of the loops of `tree_check::record_map::note_entry`.
use Prim.Native.Nat.{ℕ, ◌≤◌, ◌<◌}
use mathlib.Core.Path.{◌≡◌}
use lib.ListN.{length}
use Rattle.tree_check.specs.Maps.{home, cells_at}
use Rattle.tree_check.proofs.record_map.note_entry.Given as goal

abbrev pub invariant-loop-place : goal.invariant-loop-place
invariant-loop-place l =
    (l.map ≡ l.initial.map)
    × ((q : ℕ) → home (length l.initial.map) l.lo ≤ q → q < l.place → 0 < cells_at l.initial.map q)
