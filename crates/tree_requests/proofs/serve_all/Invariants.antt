-- The invariants of the loops of `tree_requests::serve_all`.
use mathlib.Core.Path.{◌≡◌}
use mathlib.Core.Bool.{true}
use Rattle.calls.specs.Pool.{sound}
use Rattle.calls.specs.Engines.{tree_engine}
use Rattle.call_parts.proofs.ListLaws.{Running}
use Rattle.tree_check.specs.Gate.{tree_pool}
use Rattle.tree_requests.proofs.serve_all.Given as goal

abbrev pub invariant-loop-i : goal.invariant-loop-i
invariant-loop-i l =
    (sound tree_engine (tree_pool l.after l.arena l.table) ≡ true)
    × Running tree_engine (tree_pool l.initial.after l.initial.arena l.initial.table) l.party l.asked l.initial.answers l.i
    (tree_pool l.after l.arena l.table) l.answers
