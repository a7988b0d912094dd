-- T1 to T14 proved together, with the places that T13, A 12 and T14 report: one statement over the set, by computation.
-- The sheet's other lines are run and compared (tree_cases, segment_cases). Assumes nothing.
use mathlib.Core.Path.{◌≡◌, refl}
use mathlib.Core.List.{[], ◌∷◌}
use Rattle.calls.specs.Step.{format, step}
use Rattle.calls.specs.Engines.{tree_engine, segment_engine}
use Rattle.calls.specs.Computing.{tree_machine, segment_machine}
use Rattle.worked_cases.specs.BenchSheet.{trace, tree_memory, tree_calls, tree_states, segment_memory}
use Rattle.worked_cases.specs.BenchSheet.{segment_calls, segment_states, places_reported, segment_places}

pub bench_sheet : (trace tree_engine tree_memory tree_calls ≡ tree_states)
    × (trace segment_engine segment_memory segment_calls ≡ segment_states)
    × (places_reported (step segment_engine (format 1) segment_memory).pool (3 ∷ 12 ∷ 11 ∷ []) ≡ segment_places)
unfolding tree_machine segment_machine
bench_sheet = (refl, refl, refl)
