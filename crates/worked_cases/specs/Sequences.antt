-- A sequence of demand 3 for each engine, with everything mixed in that 01 allows, a short one of form 2, and one for each
-- engine whose set has releases and trims (02, ticket 13).
-- Assumes nothing.
use Rattle.std.specs.Prelude.{ℕ, List, [], ◌∷◌, ◌++◌, map, take, replicate}
use Rattle.std.proofs.Math.Option.{none, some}
use Rattle.words.specs.Lists.{Words}
use Rattle.ledger.specs.Records.{row, Member, vacate, keep, member}
use Rattle.calls.specs.Pool.{Head, Pool, Engine}
use Rattle.calls.specs.Step.{Call, format, allocate, release, find, trim, look, list, answers_of}
use Rattle.calls.specs.Lent.{in_arena, in_table, in_index, own, other, Buffer, all_of, Event, on_whole, outcome, after}

-- ---- the tree pool of T4, of form 1: tickets 1, 2 and 3 are live

abbrev pub tree_start : Pool
tree_start = record {
  head = record { own = 9 ∷ 1 ∷ []; next = 4 };
  shape = 1;
  arena = 1 ∷ 2 ∷ 3 ∷ 4 ∷ 5 ∷ 6 ∷ 7 ∷ 8 ∷ 9 ∷ 10 ∷ 11 ∷ 12 ∷ 13 ∷ 14 ∷ 15 ∷ 16 ∷ 4 ∷ 0 ∷ 0 ∷ 0 ∷ 0 ∷ 0 ∷ 0 ∷ 0 ∷ [];
  table = 1 ∷ 0 ∷ 5 ∷ 1 ∷ 2 ∷ 6 ∷ 4 ∷ 1 ∷ 3 ∷ 10 ∷ 6 ∷ 1 ∷ 0 ∷ 0 ∷ 0 ∷ 0 ∷ [];
  index = [];
}

abbrev pub tree_set : List Member
tree_set = member 1 vacate ∷ member 3 vacate ∷ []

-- a buffer of other memory, with these words
abbrev pub other_words : Words → Buffer
other_words x = map other x

-- a call with the pool's memory, but another head; the shape is the head's form in the tree pool
abbrev pub other_head : Pool → ℕ → Head → Call Buffer → Event
other_head p s h c = record {
  head = some h;
  shape = s;
  arena = all_of in_arena p;
  table = all_of in_table p;
  index = all_of in_index p;
  call = c;
}

-- a call with the pool's head and table, but other buffers
abbrev pub other_arena : Pool → ℕ → Buffer → Buffer → Call Buffer → Event
other_arena p s a i c = record { head = none; shape = s; arena = a; table = all_of in_table p; index = i; call = c }

-- the pool's arena after both releases, as a copy
abbrev pub tree_copy : Words
tree_copy = 3 ∷ 0 ∷ 0 ∷ 0 ∷ 0 ∷ 0 ∷ 7 ∷ 8 ∷ 9 ∷ 10 ∷ 7 ∷ 1 ∷ 0 ∷ 0 ∷ 0 ∷ 0 ∷ 0 ∷ 0 ∷ 0 ∷ 0 ∷ 0 ∷ 0 ∷ 0 ∷ 0 ∷ []

abbrev pub tree_events : List Event
tree_events =
    -- a release of the set, and its replay
    on_whole tree_start (release (row 3 10 6 1)) ∷ on_whole tree_start (release (row 3 10 6 1))
    -- finds and a look, which may show a part of the arena as its placeholder
    ∷ on_whole tree_start (find (row 2 6 4 1)) ∷ on_whole tree_start (find (row 3 10 6 1))
    ∷ on_whole tree_start (look (row 2 6 4 1) (own in_arena 3 ∷ own in_arena 4 ∷ []))
    -- refused where they stand: no room; a list one word long; a live ticket wrongly named
    ∷ on_whole tree_start (allocate 1 25) ∷ on_whole tree_start (list 1 (other 1 ∷ []) [])
    ∷ on_whole tree_start (release (row 1 0 6 1))
    -- a rightly named release with a wrong head, and a replay with one; both with a wrong form, known and unknown
    ∷ other_head tree_start 1 (record { own = 9 ∷ 1 ∷ []; next = 1 }) (release (row 1 0 5 1))
    ∷ other_head tree_start 1 (record { own = 77 ∷ 1 ∷ []; next = 4 }) (release (row 3 10 6 1))
    ∷ other_head tree_start 2 (record { own = 9 ∷ 2 ∷ []; next = 4 }) (release (row 1 0 5 1))
    ∷ other_head tree_start 0 (record { own = 9 ∷ 0 ∷ []; next = 4 }) (release (row 3 10 6 1))
    -- formats that are refused: by 6 on the pool whole, by 11 for its form, by 8 with a word beside its arena; a replay
    -- with half of it
    ∷ on_whole tree_start (format 0)
    ∷ other_arena tree_start 0 (all_of in_arena tree_start) (all_of in_index tree_start) (format 5)
    ∷ other_arena tree_start 1 (all_of in_arena tree_start ++ (other 5 ∷ [])) (all_of in_index tree_start) (format 5)
    ∷ other_arena tree_start 1 (take 12 (all_of in_arena tree_start)) (all_of in_index tree_start) (release (row 3 10 6 1))
    -- a list with a refusal, a release of the set, its replay and a wrong name, and words beyond it
    ∷ on_whole tree_start (list 1
    (other_words (1 ∷ 0 ∷ 0 ∷ 0 ∷ 2 ∷ 1 ∷ 0 ∷ 5 ∷ 2 ∷ 1 ∷ 0 ∷ 5 ∷ 2 ∷ 2 ∷ 6 ∷ 5 ∷ [])) (other_words (replicate 20 8)))
    ∷ on_whole tree_start (release (row 1 0 5 1))
    -- a list whose answer is written elsewhere, and the words beyond it are the pool's; an empty list
    ∷ on_whole tree_start (list 1 (other_words (2 ∷ 1 ∷ 0 ∷ 5 ∷ []))
    (other_words (replicate 4 8) ++ all_of in_arena tree_start))
    ∷ on_whole tree_start (list 1 [] (all_of in_table tree_start))
    -- a list on a copy of the arena that runs, every request refused
    ∷ other_arena tree_start 1 (other_words tree_copy) (all_of in_index tree_start)
    (list 1 (other_words (2 ∷ 3 ∷ 10 ∷ 6 ∷ 7 ∷ 0 ∷ 0 ∷ 0 ∷ [])) (other_words (replicate 8 8)))
    ∷ []

-- the numbers of a sequence's acts, one call after another
abbrev pub numbers_of : Engine → Pool → List Event → List ℕ
numbers_of E q [] = []
numbers_of E q (e ∷ es) =
    map (λ x. x.number) (answers_of (outcome E q e).counted) ++ numbers_of E (after E q e) es

-- ticket 1 is trimmed to 2 of its 5 words, ticket 2 is released, ticket 3 is trimmed within its last cell
abbrev pub tree_trim_set : List Member
tree_trim_set = member 1 (keep 2) ∷ member 2 vacate ∷ member 3 (keep 5) ∷ []

abbrev pub tree_trims : List Event
tree_trims =
    -- refused where they stand: to no word, to more words than asked, by another party, with a wrong length
    on_whole tree_start (trim (row 3 10 6 1) 0) ∷ on_whole tree_start (trim (row 3 10 6 1) 7)
    ∷ on_whole tree_start (trim (row 3 10 6 2) 5) ∷ on_whole tree_start (trim (row 3 10 5 1) 5)
    -- a trim of the set; then the old release, the old trim, and one to other words: 7
    ∷ on_whole tree_start (trim (row 1 0 5 1) 2) ∷ on_whole tree_start (release (row 1 0 5 1))
    ∷ on_whole tree_start (trim (row 1 0 5 1) 2) ∷ on_whole tree_start (trim (row 1 0 5 1) 5)
    ∷ on_whole tree_start (find (row 1 0 2 1)) ∷ on_whole tree_start (look (row 1 0 2 1) [])
    -- a list, which knows no trim (9): a release of the set, its replay (6), and the old release (7)
    ∷ on_whole tree_start (list 1
    (other_words (3 ∷ 3 ∷ 10 ∷ 6 ∷ 2 ∷ 2 ∷ 6 ∷ 4 ∷ 2 ∷ 2 ∷ 6 ∷ 4 ∷ 2 ∷ 1 ∷ 0 ∷ 5 ∷ [])) (other_words (replicate 16 8)))
    -- a replay of the released ticket as a trim: 6; an old release with a wrong head, and with half of the arena
    ∷ on_whole tree_start (trim (row 2 6 4 1) 1)
    ∷ other_head tree_start 1 (record { own = 9 ∷ 1 ∷ []; next = 4 }) (release (row 1 0 5 1))
    ∷ other_arena tree_start 1 (take 12 (all_of in_arena tree_start)) [] (release (row 1 0 5 1))
    -- no unit is given back, yet the old release and the old trim are 7
    ∷ on_whole tree_start (trim (row 3 10 6 1) 5) ∷ on_whole tree_start (release (row 3 10 6 1))
    ∷ on_whole tree_start (trim (row 3 10 6 1) 5) ∷ on_whole tree_start (find (row 3 10 5 1)) ∷ []

-- ---- a tree pool of form 2, 24 words: 1, 5 and 2 words are held in 4, 8 and 4 under tickets 1, 2 and 3

abbrev pub wide_start : Pool
wide_start = record {
  head = record { own = 5 ∷ 2 ∷ []; next = 4 };
  shape = 2;
  arena = 1 ∷ 2 ∷ 3 ∷ 4 ∷ 5 ∷ 6 ∷ 7 ∷ 8 ∷ 9 ∷ 10 ∷ 11 ∷ 12 ∷ 13 ∷ 14 ∷ 15 ∷ 16 ∷ 2 ∷ 0 ∷ 0 ∷ 0 ∷ 0 ∷ 0 ∷ 0 ∷ 0 ∷ [];
  table = 1 ∷ 0 ∷ 1 ∷ 1 ∷ 2 ∷ 4 ∷ 5 ∷ 1 ∷ 3 ∷ 12 ∷ 2 ∷ 1 ∷ 0 ∷ 0 ∷ 0 ∷ 0 ∷ [];
  index = [];
}

abbrev pub wide_set : List Member
wide_set = member 1 vacate ∷ member 3 vacate ∷ []

abbrev pub wide_events : List Event
wide_events =
    -- both releases of the set, one of them in a list, and a replay; a request for which there is no room
    on_whole wide_start (release (row 1 0 1 1)) ∷ on_whole wide_start (allocate 1 9)
    ∷ on_whole wide_start (list 1
    (other_words (2 ∷ 3 ∷ 12 ∷ 2 ∷ 2 ∷ 1 ∷ 0 ∷ 1 ∷ 1 ∷ 13 ∷ 0 ∷ 0 ∷ [])) (other_words (replicate 12 8)))
    -- with form 1 in the head, with half of the arena, and a format with two words beside the arena
    ∷ other_head wide_start 1 (record { own = 4 ∷ 1 ∷ []; next = 4 }) (release (row 3 12 2 1))
    ∷ other_arena wide_start 2 (take 12 (all_of in_arena wide_start)) [] (release (row 3 12 2 1))
    ∷ other_arena wide_start 2 (all_of in_arena wide_start ++ (other 0 ∷ other 0 ∷ [])) [] (format 5)
    ∷ on_whole wide_start (look (row 2 4 5 1) []) ∷ []

-- ---- the segment pool of T14: tickets 1 and 2 are live, W 16, S 4

abbrev pub segment_start : Pool
segment_start = record {
  head = record { own = []; next = 3 };
  shape = 4;
  arena = 4294967292 ∷ 1 ∷ 2 ∷ 3 ∷ 4294967284 ∷ 5 ∷ 6 ∷ 7 ∷ 8 ∷ 9 ∷ 10 ∷ 11 ∷ 12 ∷ 13 ∷ 14 ∷ 15 ∷ [];
  table = 1 ∷ 1 ∷ 3 ∷ 1 ∷ 2 ∷ 5 ∷ 11 ∷ 1 ∷ 0 ∷ 0 ∷ 0 ∷ 0 ∷ 0 ∷ 0 ∷ 0 ∷ 0 ∷ [];
  index = 0 ∷ 1 ∷ 1 ∷ 0 ∷ 1 ∷ 1 ∷ 0 ∷ 0 ∷ 0 ∷ 4 ∷ 16 ∷ 16 ∷ [];
}

abbrev pub segment_set : List Member
segment_set = member 2 vacate ∷ []

abbrev pub segment_events : List Event
segment_events =
    -- a rightly named release with a wrong S and the pool's own parts; formats with a wrong S, and with first ticket 0
    other_arena segment_start 8 (all_of in_arena segment_start) (all_of in_index segment_start) (release (row 2 5 11 1))
    ∷ other_arena segment_start 3 (all_of in_arena segment_start) (all_of in_index segment_start) (format 1)
    ∷ on_whole segment_start (format 0)
    ∷ on_whole segment_start (look (row 1 1 3 1) (other_words (9 ∷ [])))
    -- a list with a release of the set, its replay, and a request for which there is no room
    ∷ on_whole segment_start (list 1
    (other_words (2 ∷ 2 ∷ 5 ∷ 11 ∷ 2 ∷ 2 ∷ 5 ∷ 11 ∷ 1 ∷ 12 ∷ 0 ∷ 0 ∷ [])) (other_words (replicate 13 8)))
    ∷ on_whole segment_start (release (row 2 5 11 1)) ∷ on_whole segment_start (find (row 2 5 11 1))
    -- replays with a wrong S, and with other words for the index; ticket 0
    ∷ other_arena segment_start 2 (all_of in_arena segment_start) (all_of in_index segment_start) (release (row 2 5 11 1))
    ∷ other_arena segment_start 4 (all_of in_arena segment_start) (other_words (replicate 12 0)) (release (row 2 5 11 1))
    ∷ on_whole segment_start (release (row 0 0 0 1))
    -- a list on a copy of the index that runs, every request refused
    ∷ other_arena segment_start 4 (all_of in_arena segment_start)
    (other_words (0 ∷ 12 ∷ 12 ∷ 0 ∷ 1 ∷ 12 ∷ 0 ∷ 0 ∷ 0 ∷ 4 ∷ 16 ∷ 16 ∷ []))
    (list 1 (other_words (1 ∷ 12 ∷ 0 ∷ 0 ∷ 3 ∷ 0 ∷ 0 ∷ 0 ∷ [])) (other_words (replicate 8 8)))
    ∷ []

-- ticket 1 is released, and ticket 2 trimmed by its last word
abbrev pub segment_trim_set : List Member
segment_trim_set = member 1 vacate ∷ member 2 (keep 10) ∷ []

abbrev pub segment_trims : List Event
segment_trims =
    -- refused where they stand: to no word, to more words than asked, by another party, with a wrong S
    on_whole segment_start (trim (row 2 5 11 1) 0) ∷ on_whole segment_start (trim (row 2 5 11 1) 12)
    ∷ on_whole segment_start (trim (row 2 5 11 2) 10)
    ∷ other_arena segment_start 8 (all_of in_arena segment_start) (all_of in_index segment_start) (trim (row 2 5 11 1) 10)
    -- a trim of the set; then the old release and the old trim: 7
    ∷ on_whole segment_start (trim (row 2 5 11 1) 10) ∷ on_whole segment_start (release (row 2 5 11 1))
    ∷ on_whole segment_start (trim (row 2 5 11 1) 10) ∷ on_whole segment_start (look (row 2 5 10 1) [])
    -- a release of the set, and its replays: 6
    ∷ on_whole segment_start (release (row 1 1 3 1)) ∷ on_whole segment_start (release (row 1 1 3 1))
    ∷ on_whole segment_start (trim (row 1 1 3 1) 3)
    -- the old release in a list (7), and with a wrong S
    ∷ on_whole segment_start (list 1 (other_words (2 ∷ 2 ∷ 5 ∷ 11 ∷ [])) (other_words (replicate 4 8)))
    ∷ other_arena segment_start 2 (all_of in_arena segment_start) (all_of in_index segment_start) (release (row 2 5 11 1))
    ∷ []
