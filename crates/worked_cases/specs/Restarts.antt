-- A sequence after a restart for each engine, such as the claim on tickets from before it speaks of (02, ticket 2): the
-- pool of the bench sheet is formatted with first ticket 100, and yesterday gave tickets up to 99. Assumes nothing.
use Rattle.std.specs.Prelude.{ℕ, ◌≡◌, true, List, [], ◌∷◌, ◌++◌, map, replicate}
use Rattle.ledger.specs.Records.{row}
use Rattle.calls.specs.declared.Answer.{Answer}
use Rattle.calls.specs.Pool.{Pool, Engine}
use Rattle.calls.specs.Step.{format, success, zero_answer, refusal, accepted, allocate, release, find, look, list}
use Rattle.calls.specs.Step.{Outcome, step}
use Rattle.calls.specs.Lent.{in_arena, in_index, other, all_of, on_whole, Later, calls, writes, later_outcomes}
use Rattle.calls.specs.Restart.{all_allowed}
use Rattle.worked_cases.specs.BenchSheet.{tree_memory, segment_memory}
use Rattle.worked_cases.specs.Sequences.{other_words, other_head, other_arena}

abbrev pub first_today : ℕ
first_today = 100

-- the pool as it is formatted
abbrev pub today : Engine → Pool → Pool
today E m = (step E (format first_today) m).pool

-- what the calls of the sequence answer
abbrev pub answers : Engine → Pool → List Later → List Answer
answers E m ls = map (λ (o : Outcome). o.answer) (later_outcomes E (today E m) ls)

-- The format is accepted, the sequence is such as the claim speaks of, and its calls answer so.
abbrev pub Runs : Engine → Pool → List Later → List Answer → Type 0
Runs E m ls xs =
    (accepted (step E (format first_today) m).answer ≡ true) × (all_allowed E (today E m) ls ≡ true)
    × (answers E m ls ≡ xs)

abbrev pub tree_later : List Later
tree_later =
    -- a grant, into which its holder writes, and releases and finds of yesterday
    calls (on_whole tree_memory (allocate 1 5)) ∷ writes in_arena 0 9
    ∷ calls (on_whole tree_memory (release (row 1 0 5 1))) ∷ calls (on_whole tree_memory (find (row 99 0 5 1)))
    -- a list with a release of yesterday and one of today
    ∷ calls (on_whole tree_memory (list 1
    (other_words (2 ∷ 1 ∷ 0 ∷ 5 ∷ 2 ∷ 100 ∷ 0 ∷ 5 ∷ [])) (other_words (replicate 8 8))))
    -- formats that are refused: by 6, by 11 for form 0, and by 8 for a word beside the arena
    ∷ calls (on_whole tree_memory (format 0))
    ∷ calls (other_arena tree_memory 0 (all_of in_arena tree_memory) [] (format 200))
    ∷ calls (other_arena tree_memory 1 (all_of in_arena tree_memory ++ (other 5 ∷ [])) [] (format 200))
    -- accepted on another arena of 8 words: a grant and its release
    ∷ calls (other_arena tree_memory 1 (other_words (4 ∷ 0 ∷ 0 ∷ 0 ∷ 0 ∷ 0 ∷ 0 ∷ 0 ∷ [])) []
    (list 1 (other_words (1 ∷ 3 ∷ 0 ∷ 0 ∷ 2 ∷ 101 ∷ 0 ∷ 3 ∷ [])) (other_words (replicate 8 8))))
    -- yesterday's head, and a release of yesterday with it
    ∷ calls (other_head tree_memory 1 (record { own = 4 ∷ 1 ∷ []; next = 2 }) (release (row 1 0 5 1)))
    ∷ calls (on_whole tree_memory (allocate 1 4)) ∷ calls (on_whole tree_memory (look (row 99 0 4 1) [])) ∷ []

abbrev pub tree_answers : List Answer
tree_answers =
    success (row 100 0 5 1) ∷ refusal 6 ∷ refusal 6 ∷ zero_answer ∷ refusal 6 ∷ refusal 11 ∷ refusal 8 ∷ zero_answer
    ∷ refusal 1 ∷ success (row 102 0 4 1) ∷ refusal 6 ∷ []

abbrev pub segment_later : List Later
segment_later =
    -- a grant, into which its holder writes, and releases of yesterday, one with another S
    calls (on_whole segment_memory (allocate 1 3)) ∷ writes in_arena 1 9
    ∷ calls (on_whole segment_memory (release (row 1 1 3 1)))
    ∷ calls (other_arena segment_memory 2 (all_of in_arena segment_memory) (all_of in_index segment_memory)
    (release (row 1 1 3 1)))
    -- a list with a release of yesterday and one of today
    ∷ calls (on_whole segment_memory (list 1
    (other_words (2 ∷ 1 ∷ 1 ∷ 3 ∷ 2 ∷ 100 ∷ 1 ∷ 3 ∷ [])) (other_words (replicate 8 8))))
    -- formats that are refused: by 6, and by 8 for S 3
    ∷ calls (on_whole segment_memory (format 0))
    ∷ calls (other_arena segment_memory 3 (all_of in_arena segment_memory) (all_of in_index segment_memory) (format 200))
    -- accepted on another arena of 8 words, with S 1 and another index: a grant and its release
    ∷ calls (other_arena segment_memory 1 (other_words (8 ∷ 0 ∷ 0 ∷ 0 ∷ 0 ∷ 0 ∷ 0 ∷ 0 ∷ [])) (other_words (0 ∷ 8 ∷ 0 ∷ []))
    (list 1 (other_words (1 ∷ 3 ∷ 0 ∷ 0 ∷ 2 ∷ 101 ∷ 1 ∷ 3 ∷ [])) (other_words (replicate 8 8))))
    ∷ calls (on_whole segment_memory (allocate 1 4)) ∷ calls (on_whole segment_memory (look (row 99 1 4 1) [])) ∷ []

abbrev pub segment_answers : List Answer
segment_answers =
    success (row 100 1 3 1) ∷ refusal 6 ∷ refusal 8 ∷ zero_answer ∷ refusal 6 ∷ refusal 8 ∷ zero_answer
    ∷ success (row 102 1 4 1) ∷ refusal 6 ∷ []
