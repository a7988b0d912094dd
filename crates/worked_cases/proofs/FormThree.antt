-- The case that 02 gives of form 3, with all orders of its releases, as 01 has T1 to T14 proved; and pools that are sound
-- in form 1 and not in form 3, or in both: the rule of the soundness check goes by the form. Assumes nothing.
use mathlib.Core.Path.{◌≡◌, refl}
use mathlib.Core.Bool.{true, false}
use mathlib.Core.List.{[], ◌∷◌, map}
use lib.ListN.{replicate}
use Rattle.calls.specs.Step.{format, refusal, step}
use Rattle.calls.specs.Engines.{tree_engine}
use Rattle.calls.specs.Computing.{tree_machine}
use Rattle.worked_cases.specs.BenchSheet.{trace}
use Rattle.worked_cases.specs.FormThree.{memory, form_three_calls, expected, written, r₁, r₂, r₃, released}
use Rattle.worked_cases.specs.FormThree.{ending, orders, emptied, sound_in, off_unit, part_unit, twelve_words, either}

pub form_three_lem : (trace tree_engine (memory 3 24) form_three_calls ≡ expected)
    × (trace tree_engine written (r₁ ∷ r₃ ∷ r₂ ∷ []) ≡ released)
    × (map (ending written) orders ≡ replicate 6 emptied)
unfolding tree_machine
form_three_lem = (refl, refl, refl)

pub form_three_sound : (sound_in off_unit ≡ true ∷ false ∷ []) × (sound_in part_unit ≡ true ∷ false ∷ [])
    × (sound_in twelve_words ≡ true ∷ false ∷ []) × (sound_in either ≡ true ∷ true ∷ [])
    × ((step tree_engine (format 1) (memory 3 12)).answer ≡ refusal 8)
unfolding tree_machine
form_three_sound = (refl, refl, refl, refl, refl)
