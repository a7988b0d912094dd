-- The pools of specs/SharedPool, by computation: what `Private` speaks of is not empty, a pool of several parties in which
-- each gets answers of its own. Other cases of parties are run (tree_cases, segment_cases). Assumes nothing.
use mathlib.Core.Path.{◌≡◌, refl}
use mathlib.Core.Bool.{true}
use mathlib.Core.List.{[], ◌∷◌}
use lib.ListN.{replicate}
use Rattle.calls.specs.Pool.{sound}
use Rattle.calls.specs.Engines.{tree_engine, segment_engine}
use Rattle.calls.specs.Demand3.{Sequence}
use Rattle.calls.specs.Computing.{tree_machine, segment_machine}
use Rattle.worked_cases.specs.SharedPool.{shared_tree, shared_segments, numbers, tree_views, segment_views, shared_set}
use Rattle.worked_cases.specs.SharedPool.{shared_events}

pub tree_views_lem : (numbers tree_engine shared_tree (tree_views 1) ≡ 0 ∷ 6 ∷ 6 ∷ 6 ∷ 6 ∷ 6 ∷ [])
    × (numbers tree_engine shared_tree (tree_views 2) ≡ 6 ∷ 0 ∷ 6 ∷ 7 ∷ 7 ∷ 6 ∷ [])
    × (numbers tree_engine shared_tree (tree_views 255) ≡ 6 ∷ 6 ∷ 0 ∷ 6 ∷ 6 ∷ 6 ∷ [])
    × (numbers tree_engine shared_tree (tree_views 3) ≡ replicate 6 6)
unfolding tree_machine
tree_views_lem = (refl, refl, refl, refl)

pub segment_views_lem : (numbers segment_engine shared_segments (segment_views 1) ≡ 0 ∷ 6 ∷ 7 ∷ 7 ∷ 6 ∷ [])
    × (numbers segment_engine shared_segments (segment_views 2) ≡ 6 ∷ 0 ∷ 6 ∷ 6 ∷ 6 ∷ [])
    × (numbers segment_engine shared_segments (segment_views 0) ≡ replicate 5 12)
unfolding segment_machine
segment_views_lem = (refl, refl, refl)

-- releases by their tickets' own parties among others: the condition of demand 3 is not empty
pub shared_sequence : (sound tree_engine shared_tree ≡ true) × Sequence tree_engine shared_tree shared_set shared_events
unfolding tree_machine
shared_sequence = (refl, refl)
