-- The sequences of specs/Sequences are such as demand 3 speaks of: its condition is not empty. Assumes nothing.
use mathlib.Core.Path.{◌≡◌, refl}
use mathlib.Core.Bool.{true}
use mathlib.Core.List.{[], ◌∷◌}
use Rattle.words.specs.Lists.{all}
use Rattle.calls.specs.Pool.{ledger, sound}
use Rattle.calls.specs.Engines.{tree_engine, segment_engine}
use Rattle.calls.specs.Demand3.{Sequence, settled_for}
use Rattle.calls.specs.Computing.{tree_machine, segment_machine}
use Rattle.worked_cases.specs.Sequences.{tree_start, tree_set, tree_events, wide_start, wide_set, wide_events}
use Rattle.worked_cases.specs.Sequences.{segment_start, segment_set, segment_events}
use Rattle.worked_cases.specs.Sequences.{numbers_of, tree_trim_set, tree_trims, segment_trim_set, segment_trims}

pub tree_sequence : (sound tree_engine tree_start ≡ true) × Sequence tree_engine tree_start tree_set tree_events
unfolding tree_machine
tree_sequence = (refl, refl)

pub wide_sequence : (sound tree_engine wide_start ≡ true) × Sequence tree_engine wide_start wide_set wide_events
unfolding tree_machine
wide_sequence = (refl, refl)

pub segment_sequence : (sound segment_engine segment_start ≡ true)
    × Sequence segment_engine segment_start segment_set segment_events
unfolding segment_machine
segment_sequence = (refl, refl)

-- with trims: what is settled can be carried out; the numbers
pub tree_trims_lem : (all (settled_for tree_engine (ledger tree_start)) tree_trim_set ≡ true)
    × Sequence tree_engine tree_start tree_trim_set tree_trims
    × (numbers_of tree_engine tree_start tree_trims
    ≡ 2 ∷ 2 ∷ 6 ∷ 7 ∷ 0 ∷ 7 ∷ 7 ∷ 7 ∷ 0 ∷ 0 ∷ 9 ∷ 0 ∷ 6 ∷ 7 ∷ 6 ∷ 1 ∷ 1 ∷ 0 ∷ 7 ∷ 7 ∷ 0 ∷ [])
unfolding tree_machine
tree_trims_lem = (refl, refl, refl)

pub segment_trims_lem : (all (settled_for segment_engine (ledger segment_start)) segment_trim_set ≡ true)
    × Sequence segment_engine segment_start segment_trim_set segment_trims
    × (numbers_of segment_engine segment_start segment_trims ≡ 2 ∷ 2 ∷ 6 ∷ 8 ∷ 0 ∷ 7 ∷ 7 ∷ 0 ∷ 0 ∷ 6 ∷ 6 ∷ 7 ∷ 8 ∷ [])
unfolding segment_machine
segment_trims_lem = (refl, refl, refl)
