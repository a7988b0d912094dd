-- The sequences of specs/Restarts are such as the claim on restarts speaks of: its condition is not empty. Assumes
-- nothing.
use mathlib.Core.Path.{refl}
use Rattle.calls.specs.Engines.{tree_engine, segment_engine}
use Rattle.calls.specs.Computing.{tree_machine, segment_machine}
use Rattle.worked_cases.specs.BenchSheet.{tree_memory, segment_memory}
use Rattle.worked_cases.specs.Restarts.{Runs, tree_later, tree_answers, segment_later, segment_answers}

pub tree_restarts : Runs tree_engine tree_memory tree_later tree_answers
unfolding tree_machine
tree_restarts = (refl, refl, refl)

pub segment_restarts : Runs segment_engine segment_memory segment_later segment_answers
unfolding segment_machine
segment_restarts = (refl, refl, refl)
