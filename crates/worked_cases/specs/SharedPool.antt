-- A pool of several parties for each engine (02, ticket 6): what each of them is answered, and a sequence of demand 3.
-- Assumes nothing.
use Rattle.std.specs.Prelude.{ℕ, List, [], ◌∷◌, map, replicate}
use Rattle.words.specs.Lists.{Words}
use Rattle.ledger.specs.Records.{row, Member, vacate, member}
use Rattle.calls.specs.Pool.{Pool, with_table, Engine}
use Rattle.calls.specs.Step.{Call, allocate, release, find, look, list, step}
use Rattle.calls.specs.Lent.{Event, on_whole}
use Rattle.worked_cases.specs.Sequences.{tree_start, segment_start, other_words}

-- the blocks of T4 held by parties 1, 2 and 255, and those of T14 by 1 and 2
abbrev pub shared_tree : Pool
shared_tree = with_table (1 ∷ 0 ∷ 5 ∷ 1 ∷ 2 ∷ 6 ∷ 4 ∷ 2 ∷ 3 ∷ 10 ∷ 6 ∷ 255 ∷ 0 ∷ 0 ∷ 0 ∷ 0 ∷ []) tree_start

abbrev pub shared_segments : Pool
shared_segments = with_table (1 ∷ 1 ∷ 3 ∷ 1 ∷ 2 ∷ 5 ∷ 11 ∷ 2 ∷ replicate 8 0) segment_start

-- the numbers of some calls, each on the same pool
abbrev pub numbers : Engine → Pool → List (Call Words) → List ℕ
numbers E p cs = map (λ (c : Call Words). (step E c p).answer.number) cs

-- ---- each party's view: its own tickets, others' rightly and wrongly named, and one that was never given

abbrev pub tree_views : ℕ → List (Call Words)
tree_views c =
    find (row 1 0 5 c) ∷ find (row 2 6 4 c) ∷ find (row 3 10 6 c) ∷ release (row 2 6 5 c) ∷ look (row 2 7 4 c) []
    ∷ release (row 9 0 5 c) ∷ []

abbrev pub segment_views : ℕ → List (Call Words)
segment_views c =
    find (row 1 1 3 c) ∷ find (row 2 5 11 c) ∷ release (row 1 1 4 c) ∷ look (row 1 2 3 c) [] ∷ release (row 9 1 3 c) ∷ []

-- ---- demand 3 with several parties

abbrev pub shared_set : List Member
shared_set = member 1 vacate ∷ member 3 vacate ∷ []

abbrev pub shared_events : List Event
shared_events =
    -- another's live ticket, and with a party that is none
    on_whole shared_tree (release (row 3 10 6 1)) ∷ on_whole shared_tree (release (row 3 10 6 0))
    -- a release of the set by the ticket's own party, and replays by it, by another, and by none
    ∷ on_whole shared_tree (release (row 3 10 6 255)) ∷ on_whole shared_tree (release (row 3 10 6 255))
    ∷ on_whole shared_tree (release (row 3 10 6 2)) ∷ on_whole shared_tree (release (row 3 10 6 256))
    -- a list of party 2, which may do nothing to the set, and one of party 1 with a release of it
    ∷ on_whole shared_tree (list 2 (other_words (2 ∷ 1 ∷ 0 ∷ 5 ∷ 2 ∷ 3 ∷ 10 ∷ 6 ∷ [])) (other_words (replicate 8 8)))
    ∷ on_whole shared_tree (list 1 (other_words (2 ∷ 1 ∷ 0 ∷ 5 ∷ [])) (other_words (replicate 4 8)))
    -- finds and looks by anyone; a list and an allocation of a party that is none
    ∷ on_whole shared_tree (find (row 2 6 4 2)) ∷ on_whole shared_tree (look (row 2 6 4 1) [])
    ∷ on_whole shared_tree (list 0 [] []) ∷ on_whole shared_tree (allocate 256 1) ∷ []
