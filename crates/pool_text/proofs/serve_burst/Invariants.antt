-- `pool_text::serve_burst` meets its contract: what the rest will have made stays the same. Assumes nothing.
use Prim.Native.Nat.{◌-◌}
use mathlib.Core.Path.{◌≡◌}
use lib.ListN.{length}
use Rattle.pool_text.specs.Session.{Going, ahead}
use Rattle.pool_text.proofs.serve_burst.Given as goal

abbrev pub invariant-loop-turn : goal.invariant-loop-turn
invariant-loop-turn l =
    Going l.turn l.arena l.table l.chunk l.out
    × (length l.out ≡ length l.initial.out)
    × (length l.arena ≡ length l.initial.arena)
    × (length l.table ≡ length l.initial.table)
    × (ahead l.turn l.line l.arena l.table l.chunk l.out ≡ ahead l.initial.turn l.initial.line l.initial.arena l.initial.table l.chunk l.initial.out)

abbrev pub decreases-loop-turn : goal.decreases-loop-turn
decreases-loop-turn l = length l.chunk - l.turn.from
