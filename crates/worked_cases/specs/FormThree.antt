-- Form 3 of the tree pool. 02, ticket 11: "In form 3 with 24 words and 4 records, A 5, A 4 and A 6 give addresses 0, 8
-- and 16, and a fourth A 1 is 5." The calls with every word along the way; the three releases in all orders; and pools
-- that are sound in one form and not in another. Assumes nothing.
use Rattle.std.specs.Prelude.{ℕ, Bool, List, [], ◌∷◌, replicate}
use Rattle.words.specs.Lists.{Words}
use Rattle.ledger.specs.Records.{row}
use Rattle.calls.specs.Pool.{Pool, sound}
use Rattle.calls.specs.Step.{Call, format, allocate, release, success, zero_answer, refusal, step}
use Rattle.calls.specs.Engines.{tree_engine}
use Rattle.worked_cases.specs.BenchSheet.{State, state}

-- a tree pool with this form
abbrev pub pool_with : ℕ → ℕ → ℕ → Words → Words → Pool
pool_with form root next arena table = record {
  head = record { own = root ∷ form ∷ []; next = next };
  shape = form;
  arena = arena;
  table = table;
  index = [];
}

-- memory before the format, with any contents
abbrev pub memory : ℕ → ℕ → Pool
memory form words = pool_with form 0 0 (replicate words 7) (replicate 16 9)

abbrev pub form_three_calls : List (Call Words)
form_three_calls = format 1 ∷ allocate 1 5 ∷ allocate 1 4 ∷ allocate 1 6 ∷ allocate 1 1 ∷ []

abbrev pub expected : List State
expected =
    (state (zero_answer) (1 ∷ 3 ∷ []) 1
    (12 ∷ 0 ∷ 0 ∷ 0 ∷ 0 ∷ 0 ∷ 0 ∷ 0 ∷ 0 ∷ 0 ∷ 0 ∷ 0 ∷ 0 ∷ 0 ∷ 0 ∷ 0 ∷ 0 ∷ 0 ∷ 0 ∷ 0 ∷ 0 ∷ 0 ∷ 0 ∷ 0 ∷ [])
    (0 ∷ 0 ∷ 0 ∷ 0 ∷ 0 ∷ 0 ∷ 0 ∷ 0 ∷ 0 ∷ 0 ∷ 0 ∷ 0 ∷ 0 ∷ 0 ∷ 0 ∷ 0 ∷ []) ([])) ∷
    (state (success (row 1 0 5 1)) (5 ∷ 3 ∷ []) 2
    (0 ∷ 0 ∷ 0 ∷ 0 ∷ 0 ∷ 0 ∷ 0 ∷ 0 ∷ 8 ∷ 0 ∷ 0 ∷ 0 ∷ 0 ∷ 0 ∷ 0 ∷ 0 ∷ 0 ∷ 0 ∷ 0 ∷ 0 ∷ 0 ∷ 0 ∷ 0 ∷ 0 ∷ [])
    (1 ∷ 0 ∷ 5 ∷ 1 ∷ 0 ∷ 0 ∷ 0 ∷ 0 ∷ 0 ∷ 0 ∷ 0 ∷ 0 ∷ 0 ∷ 0 ∷ 0 ∷ 0 ∷ []) ([])) ∷
    (state (success (row 2 8 4 1)) (9 ∷ 3 ∷ []) 3
    (0 ∷ 0 ∷ 0 ∷ 0 ∷ 0 ∷ 0 ∷ 0 ∷ 0 ∷ 0 ∷ 0 ∷ 0 ∷ 0 ∷ 0 ∷ 0 ∷ 0 ∷ 0 ∷ 4 ∷ 0 ∷ 0 ∷ 0 ∷ 0 ∷ 0 ∷ 0 ∷ 0 ∷ [])
    (1 ∷ 0 ∷ 5 ∷ 1 ∷ 2 ∷ 8 ∷ 4 ∷ 1 ∷ 0 ∷ 0 ∷ 0 ∷ 0 ∷ 0 ∷ 0 ∷ 0 ∷ 0 ∷ []) ([])) ∷
    (state (success (row 3 16 6 1)) (0 ∷ 3 ∷ []) 4
    (0 ∷ 0 ∷ 0 ∷ 0 ∷ 0 ∷ 0 ∷ 0 ∷ 0 ∷ 0 ∷ 0 ∷ 0 ∷ 0 ∷ 0 ∷ 0 ∷ 0 ∷ 0 ∷ 0 ∷ 0 ∷ 0 ∷ 0 ∷ 0 ∷ 0 ∷ 0 ∷ 0 ∷ [])
    (1 ∷ 0 ∷ 5 ∷ 1 ∷ 2 ∷ 8 ∷ 4 ∷ 1 ∷ 3 ∷ 16 ∷ 6 ∷ 1 ∷ 0 ∷ 0 ∷ 0 ∷ 0 ∷ []) ([])) ∷
    (state (refusal 5) (0 ∷ 3 ∷ []) 4
    (0 ∷ 0 ∷ 0 ∷ 0 ∷ 0 ∷ 0 ∷ 0 ∷ 0 ∷ 0 ∷ 0 ∷ 0 ∷ 0 ∷ 0 ∷ 0 ∷ 0 ∷ 0 ∷ 0 ∷ 0 ∷ 0 ∷ 0 ∷ 0 ∷ 0 ∷ 0 ∷ 0 ∷ [])
    (1 ∷ 0 ∷ 5 ∷ 1 ∷ 2 ∷ 8 ∷ 4 ∷ 1 ∷ 3 ∷ 16 ∷ 6 ∷ 1 ∷ 0 ∷ 0 ∷ 0 ∷ 0 ∷ []) ([]))
    ∷ []

-- ---- the releases

-- the pool then, when its holders have written all their words, spare ones too
abbrev pub written : Pool
written =
    pool_with 3 0 4
    (1 ∷ 2 ∷ 3 ∷ 4 ∷ 5 ∷ 6 ∷ 7 ∷ 8 ∷ 9 ∷ 10 ∷ 11 ∷ 12 ∷ 13 ∷ 14 ∷ 15 ∷ 16 ∷ 17 ∷ 18 ∷ 19 ∷ 20 ∷ 21 ∷ 22 ∷ 23 ∷ 24 ∷ [])
    (1 ∷ 0 ∷ 5 ∷ 1 ∷ 2 ∷ 8 ∷ 4 ∷ 1 ∷ 3 ∷ 16 ∷ 6 ∷ 1 ∷ 0 ∷ 0 ∷ 0 ∷ 0 ∷ [])

abbrev pub r₁ : Call Words
r₁ = release (row 1 0 5 1)

abbrev pub r₂ : Call Words
r₂ = release (row 2 8 4 1)

abbrev pub r₃ : Call Words
r₃ = release (row 3 16 6 1)

-- the other holders' spare words stay
abbrev pub released : List State
released =
    (state (success (row 1 0 5 1)) (1 ∷ 3 ∷ []) 4
    (4 ∷ 0 ∷ 0 ∷ 0 ∷ 0 ∷ 0 ∷ 0 ∷ 0 ∷ 9 ∷ 10 ∷ 11 ∷ 12 ∷ 13 ∷ 14 ∷ 15 ∷ 16 ∷ 17 ∷ 18 ∷ 19 ∷ 20 ∷ 21 ∷ 22 ∷ 23 ∷ 24 ∷ [])
    (0 ∷ 0 ∷ 0 ∷ 0 ∷ 2 ∷ 8 ∷ 4 ∷ 1 ∷ 3 ∷ 16 ∷ 6 ∷ 1 ∷ 0 ∷ 0 ∷ 0 ∷ 0 ∷ []) ([])) ∷
    (state (success (row 3 16 6 1)) (1 ∷ 3 ∷ []) 4
    (4 ∷ 589824 ∷ 0 ∷ 0 ∷ 0 ∷ 0 ∷ 0 ∷ 0 ∷ 9 ∷ 10 ∷ 11 ∷ 12 ∷ 13 ∷ 14 ∷ 15 ∷ 16 ∷ 4 ∷ 0 ∷ 0 ∷ 0 ∷ 0 ∷ 0 ∷ 0 ∷ 0 ∷ [])
    (0 ∷ 0 ∷ 0 ∷ 0 ∷ 2 ∷ 8 ∷ 4 ∷ 1 ∷ 0 ∷ 0 ∷ 0 ∷ 0 ∷ 0 ∷ 0 ∷ 0 ∷ 0 ∷ []) ([])) ∷
    (state (success (row 2 8 4 1)) (1 ∷ 3 ∷ []) 4
    (12 ∷ 0 ∷ 0 ∷ 0 ∷ 0 ∷ 0 ∷ 0 ∷ 0 ∷ 0 ∷ 0 ∷ 0 ∷ 0 ∷ 0 ∷ 0 ∷ 0 ∷ 0 ∷ 0 ∷ 0 ∷ 0 ∷ 0 ∷ 0 ∷ 0 ∷ 0 ∷ 0 ∷ [])
    (0 ∷ 0 ∷ 0 ∷ 0 ∷ 0 ∷ 0 ∷ 0 ∷ 0 ∷ 0 ∷ 0 ∷ 0 ∷ 0 ∷ 0 ∷ 0 ∷ 0 ∷ 0 ∷ []) ([]))
    ∷ []

-- the pool after some calls
abbrev pub ending : Pool → List (Call Words) → Pool
ending p [] = p
ending p (c ∷ cs) = ending (step tree_engine c p).pool cs

abbrev pub orders : List (List (Call Words))
orders =
    (r₁ ∷ r₂ ∷ r₃ ∷ []) ∷ (r₁ ∷ r₃ ∷ r₂ ∷ []) ∷ (r₂ ∷ r₁ ∷ r₃ ∷ []) ∷ (r₂ ∷ r₃ ∷ r₁ ∷ []) ∷ (r₃ ∷ r₁ ∷ r₂ ∷ [])
    ∷ (r₃ ∷ r₂ ∷ r₁ ∷ []) ∷ []

abbrev pub emptied : Pool
emptied = pool_with 3 1 4 (12 ∷ replicate 23 0) (replicate 16 0)

-- ---- the rule in the soundness check

-- whether it is sound in forms 1 and 3
abbrev pub sound_in : (ℕ → Pool) → List Bool
sound_in p = sound tree_engine (p 1) ∷ sound tree_engine (p 3) ∷ []

-- a record on a cell but no unit; a free block that is no whole number of units; 12 words, all free; and a pool whose
-- memory does not say its form
abbrev pub off_unit : ℕ → Pool
off_unit form = pool_with form 4 2 (1 ∷ 0 ∷ 7 ∷ 7 ∷ 7 ∷ 7 ∷ 9 ∷ 1 ∷ replicate 16 0) (1 ∷ 2 ∷ 4 ∷ 1 ∷ [])

abbrev pub part_unit : ℕ → Pool
part_unit form = pool_with form 4 2 (7 ∷ 7 ∷ 7 ∷ 7 ∷ 7 ∷ 7 ∷ 9 ∷ 0 ∷ replicate 16 0) (1 ∷ 0 ∷ 5 ∷ 1 ∷ [])

abbrev pub twelve_words : ℕ → Pool
twelve_words form = pool_with form 1 2 (6 ∷ replicate 11 0) (0 ∷ 0 ∷ 0 ∷ 0 ∷ [])

abbrev pub either : ℕ → Pool
either form = pool_with form 5 2 (7 ∷ 7 ∷ 7 ∷ 7 ∷ 7 ∷ 7 ∷ 7 ∷ 7 ∷ 8 ∷ 0 ∷ replicate 14 0) (1 ∷ 0 ∷ 8 ∷ 1 ∷ [])
