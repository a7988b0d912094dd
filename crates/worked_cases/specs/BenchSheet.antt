-- The bench sheet of document 01: the calls of T1 to T14, and every answer, head, arena, table and index along the
-- way. Between T13 and T14 stands the sheet's A 12, which is refused. The first ticket is 1, and the party. Assumes nothing.
use Rattle.std.specs.Prelude.{ℕ, List, [], ◌∷◌, replicate}
use Rattle.words.specs.Lists.{Words}
use Rattle.ledger.specs.Records.{row}
use Rattle.calls.specs.declared.Answer.{Answer}
use Rattle.calls.specs.Pool.{Pool, Engine}
use Rattle.calls.specs.Step.{Call, format, allocate, release, Outcome, success, zero_answer, refusal, step}
use Rattle.calls.specs.Engines.{segment_engine}
use Rattle.calls.specs.Search.{places_of}

-- An answer, and the pool after it; `own` is root link and form in the tree pool.
pub record State : Type 0 where
  pub answer : Answer
  pub own : Words
  pub next : ℕ
  pub arena : Words
  pub table : Words
  pub index : Words

abbrev pub state : Answer → Words → ℕ → Words → Words → Words → State
state x r n a t i = record { answer = x; own = r; next = n; arena = a; table = t; index = i }

abbrev pub state_of : Outcome → State
state_of o = state o.answer o.pool.head.own o.pool.head.next o.pool.arena o.pool.table
    o.pool.index

-- the states of a run of calls, each on the pool that the one before left
abbrev pub trace : Engine → Pool → List (Call Words) → List State
trace E p [] = []
trace E p (c ∷ cs) = let o = step E c p in state_of o ∷ trace E o.pool cs

-- the places that allocations report, each on the pool that the one before left (02, ticket 5)
abbrev pub places_reported : Pool → List ℕ → List ℕ
places_reported p [] = []
places_reported p (n ∷ ns) = places_of p 1 n ∷ places_reported (step segment_engine (allocate 1 n) p).pool ns

-- memory before the format, with any contents: 24 words of form 1, or 16 and S 4; 4 records
abbrev pub tree_memory : Pool
tree_memory = record {
  head = record { own = 0 ∷ 1 ∷ []; next = 0 };
  shape = 1;
  arena = replicate 24 7;
  table = replicate 16 9;
  index = [];
}

abbrev pub segment_memory : Pool
segment_memory = record {
  head = record { own = []; next = 0 };
  shape = 4;
  arena = replicate 16 7;
  table = replicate 16 9;
  index = replicate 12 5;
}

-- T1 to T11, and T12 to T14
abbrev pub tree_calls : List (Call Words)
tree_calls =
    format 1 ∷ allocate 1 5 ∷ allocate 1 4 ∷ allocate 1 6 ∷ release (row 1 0 5 1) ∷ release (row 1 0 5 1) ∷ allocate 1 7
    ∷ release (row 3 10 6 1) ∷ allocate 1 8 ∷ release (row 2 6 5 1) ∷ release (row 2 6 4 1) ∷ []

abbrev pub segment_calls : List (Call Words)
segment_calls = format 1 ∷ allocate 1 3 ∷ allocate 1 12 ∷ allocate 1 11 ∷ []

abbrev pub tree_states : List State
tree_states =
    (state (zero_answer) (1 ∷ 1 ∷ []) 1
    (12 ∷ 0 ∷ 0 ∷ 0 ∷ 0 ∷ 0 ∷ 0 ∷ 0 ∷ 0 ∷ 0 ∷ 0 ∷ 0 ∷ 0 ∷ 0 ∷ 0 ∷ 0 ∷ 0 ∷ 0 ∷ 0 ∷ 0 ∷ 0 ∷ 0 ∷ 0 ∷ 0 ∷ [])
    (0 ∷ 0 ∷ 0 ∷ 0 ∷ 0 ∷ 0 ∷ 0 ∷ 0 ∷ 0 ∷ 0 ∷ 0 ∷ 0 ∷ 0 ∷ 0 ∷ 0 ∷ 0 ∷ []) ([])) ∷
    (state (success (row 1 0 5 1)) (4 ∷ 1 ∷ []) 2
    (0 ∷ 0 ∷ 0 ∷ 0 ∷ 0 ∷ 0 ∷ 9 ∷ 0 ∷ 0 ∷ 0 ∷ 0 ∷ 0 ∷ 0 ∷ 0 ∷ 0 ∷ 0 ∷ 0 ∷ 0 ∷ 0 ∷ 0 ∷ 0 ∷ 0 ∷ 0 ∷ 0 ∷ [])
    (1 ∷ 0 ∷ 5 ∷ 1 ∷ 0 ∷ 0 ∷ 0 ∷ 0 ∷ 0 ∷ 0 ∷ 0 ∷ 0 ∷ 0 ∷ 0 ∷ 0 ∷ 0 ∷ []) ([])) ∷
    (state (success (row 2 6 4 1)) (6 ∷ 1 ∷ []) 3
    (0 ∷ 0 ∷ 0 ∷ 0 ∷ 0 ∷ 0 ∷ 0 ∷ 0 ∷ 0 ∷ 0 ∷ 7 ∷ 0 ∷ 0 ∷ 0 ∷ 0 ∷ 0 ∷ 0 ∷ 0 ∷ 0 ∷ 0 ∷ 0 ∷ 0 ∷ 0 ∷ 0 ∷ [])
    (1 ∷ 0 ∷ 5 ∷ 1 ∷ 2 ∷ 6 ∷ 4 ∷ 1 ∷ 0 ∷ 0 ∷ 0 ∷ 0 ∷ 0 ∷ 0 ∷ 0 ∷ 0 ∷ []) ([])) ∷
    (state (success (row 3 10 6 1)) (9 ∷ 1 ∷ []) 4
    (0 ∷ 0 ∷ 0 ∷ 0 ∷ 0 ∷ 0 ∷ 0 ∷ 0 ∷ 0 ∷ 0 ∷ 0 ∷ 0 ∷ 0 ∷ 0 ∷ 0 ∷ 0 ∷ 4 ∷ 0 ∷ 0 ∷ 0 ∷ 0 ∷ 0 ∷ 0 ∷ 0 ∷ [])
    (1 ∷ 0 ∷ 5 ∷ 1 ∷ 2 ∷ 6 ∷ 4 ∷ 1 ∷ 3 ∷ 10 ∷ 6 ∷ 1 ∷ 0 ∷ 0 ∷ 0 ∷ 0 ∷ []) ([])) ∷
    (state (success (row 1 0 5 1)) (9 ∷ 1 ∷ []) 4
    (3 ∷ 0 ∷ 0 ∷ 0 ∷ 0 ∷ 0 ∷ 0 ∷ 0 ∷ 0 ∷ 0 ∷ 0 ∷ 0 ∷ 0 ∷ 0 ∷ 0 ∷ 0 ∷ 4 ∷ 1 ∷ 0 ∷ 0 ∷ 0 ∷ 0 ∷ 0 ∷ 0 ∷ [])
    (0 ∷ 0 ∷ 0 ∷ 0 ∷ 2 ∷ 6 ∷ 4 ∷ 1 ∷ 3 ∷ 10 ∷ 6 ∷ 1 ∷ 0 ∷ 0 ∷ 0 ∷ 0 ∷ []) ([])) ∷
    (state (refusal 6) (9 ∷ 1 ∷ []) 4
    (3 ∷ 0 ∷ 0 ∷ 0 ∷ 0 ∷ 0 ∷ 0 ∷ 0 ∷ 0 ∷ 0 ∷ 0 ∷ 0 ∷ 0 ∷ 0 ∷ 0 ∷ 0 ∷ 4 ∷ 1 ∷ 0 ∷ 0 ∷ 0 ∷ 0 ∷ 0 ∷ 0 ∷ [])
    (0 ∷ 0 ∷ 0 ∷ 0 ∷ 2 ∷ 6 ∷ 4 ∷ 1 ∷ 3 ∷ 10 ∷ 6 ∷ 1 ∷ 0 ∷ 0 ∷ 0 ∷ 0 ∷ []) ([])) ∷
    (state (success (row 4 16 7 1)) (1 ∷ 1 ∷ []) 5
    (3 ∷ 0 ∷ 0 ∷ 0 ∷ 0 ∷ 0 ∷ 0 ∷ 0 ∷ 0 ∷ 0 ∷ 0 ∷ 0 ∷ 0 ∷ 0 ∷ 0 ∷ 0 ∷ 0 ∷ 0 ∷ 0 ∷ 0 ∷ 0 ∷ 0 ∷ 0 ∷ 0 ∷ [])
    (4 ∷ 16 ∷ 7 ∷ 1 ∷ 2 ∷ 6 ∷ 4 ∷ 1 ∷ 3 ∷ 10 ∷ 6 ∷ 1 ∷ 0 ∷ 0 ∷ 0 ∷ 0 ∷ []) ([])) ∷
    (state (success (row 3 10 6 1)) (1 ∷ 1 ∷ []) 5
    (3 ∷ 393216 ∷ 0 ∷ 0 ∷ 0 ∷ 0 ∷ 0 ∷ 0 ∷ 0 ∷ 0 ∷ 3 ∷ 0 ∷ 0 ∷ 0 ∷ 0 ∷ 0 ∷ 0 ∷ 0 ∷ 0 ∷ 0 ∷ 0 ∷ 0 ∷ 0 ∷ 0 ∷ [])
    (4 ∷ 16 ∷ 7 ∷ 1 ∷ 2 ∷ 6 ∷ 4 ∷ 1 ∷ 0 ∷ 0 ∷ 0 ∷ 0 ∷ 0 ∷ 0 ∷ 0 ∷ 0 ∷ []) ([])) ∷
    (state (refusal 5) (1 ∷ 1 ∷ []) 5
    (3 ∷ 393216 ∷ 0 ∷ 0 ∷ 0 ∷ 0 ∷ 0 ∷ 0 ∷ 0 ∷ 0 ∷ 3 ∷ 0 ∷ 0 ∷ 0 ∷ 0 ∷ 0 ∷ 0 ∷ 0 ∷ 0 ∷ 0 ∷ 0 ∷ 0 ∷ 0 ∷ 0 ∷ [])
    (4 ∷ 16 ∷ 7 ∷ 1 ∷ 2 ∷ 6 ∷ 4 ∷ 1 ∷ 0 ∷ 0 ∷ 0 ∷ 0 ∷ 0 ∷ 0 ∷ 0 ∷ 0 ∷ []) ([])) ∷
    (state (refusal 7) (1 ∷ 1 ∷ []) 5
    (3 ∷ 393216 ∷ 0 ∷ 0 ∷ 0 ∷ 0 ∷ 0 ∷ 0 ∷ 0 ∷ 0 ∷ 3 ∷ 0 ∷ 0 ∷ 0 ∷ 0 ∷ 0 ∷ 0 ∷ 0 ∷ 0 ∷ 0 ∷ 0 ∷ 0 ∷ 0 ∷ 0 ∷ [])
    (4 ∷ 16 ∷ 7 ∷ 1 ∷ 2 ∷ 6 ∷ 4 ∷ 1 ∷ 0 ∷ 0 ∷ 0 ∷ 0 ∷ 0 ∷ 0 ∷ 0 ∷ 0 ∷ []) ([])) ∷
    (state (success (row 2 6 4 1)) (1 ∷ 1 ∷ []) 5
    (8 ∷ 0 ∷ 0 ∷ 0 ∷ 0 ∷ 0 ∷ 0 ∷ 0 ∷ 0 ∷ 0 ∷ 0 ∷ 0 ∷ 0 ∷ 0 ∷ 0 ∷ 0 ∷ 0 ∷ 0 ∷ 0 ∷ 0 ∷ 0 ∷ 0 ∷ 0 ∷ 0 ∷ [])
    (4 ∷ 16 ∷ 7 ∷ 1 ∷ 0 ∷ 0 ∷ 0 ∷ 0 ∷ 0 ∷ 0 ∷ 0 ∷ 0 ∷ 0 ∷ 0 ∷ 0 ∷ 0 ∷ []) ([]))
    ∷ []

abbrev pub segment_states : List State
segment_states =
    (state (zero_answer) ([]) 1
    (16 ∷ 0 ∷ 0 ∷ 0 ∷ 0 ∷ 0 ∷ 0 ∷ 0 ∷ 0 ∷ 0 ∷ 0 ∷ 0 ∷ 0 ∷ 0 ∷ 0 ∷ 0 ∷ [])
    (0 ∷ 0 ∷ 0 ∷ 0 ∷ 0 ∷ 0 ∷ 0 ∷ 0 ∷ 0 ∷ 0 ∷ 0 ∷ 0 ∷ 0 ∷ 0 ∷ 0 ∷ 0 ∷ []) (0 ∷ 16 ∷ 16 ∷ 0 ∷ 16 ∷ 0 ∷ 0 ∷ 0 ∷ 0 ∷ 16 ∷ 16 ∷ 16 ∷ [])) ∷
    (state (success (row 1 1 3 1)) ([]) 2
    (4294967292 ∷ 0 ∷ 0 ∷ 0 ∷ 12 ∷ 0 ∷ 0 ∷ 0 ∷ 0 ∷ 0 ∷ 0 ∷ 0 ∷ 0 ∷ 0 ∷ 0 ∷ 0 ∷ [])
    (1 ∷ 1 ∷ 3 ∷ 1 ∷ 0 ∷ 0 ∷ 0 ∷ 0 ∷ 0 ∷ 0 ∷ 0 ∷ 0 ∷ 0 ∷ 0 ∷ 0 ∷ 0 ∷ []) (0 ∷ 12 ∷ 12 ∷ 0 ∷ 1 ∷ 12 ∷ 0 ∷ 0 ∷ 0 ∷ 4 ∷ 16 ∷ 16 ∷ [])) ∷
    (state (refusal 5) ([]) 2
    (4294967292 ∷ 0 ∷ 0 ∷ 0 ∷ 12 ∷ 0 ∷ 0 ∷ 0 ∷ 0 ∷ 0 ∷ 0 ∷ 0 ∷ 0 ∷ 0 ∷ 0 ∷ 0 ∷ [])
    (1 ∷ 1 ∷ 3 ∷ 1 ∷ 0 ∷ 0 ∷ 0 ∷ 0 ∷ 0 ∷ 0 ∷ 0 ∷ 0 ∷ 0 ∷ 0 ∷ 0 ∷ 0 ∷ []) (0 ∷ 12 ∷ 12 ∷ 0 ∷ 1 ∷ 12 ∷ 0 ∷ 0 ∷ 0 ∷ 4 ∷ 16 ∷ 16 ∷ [])) ∷
    (state (success (row 2 5 11 1)) ([]) 3
    (4294967292 ∷ 0 ∷ 0 ∷ 0 ∷ 4294967284 ∷ 0 ∷ 0 ∷ 0 ∷ 0 ∷ 0 ∷ 0 ∷ 0 ∷ 0 ∷ 0 ∷ 0 ∷ 0 ∷ [])
    (1 ∷ 1 ∷ 3 ∷ 1 ∷ 2 ∷ 5 ∷ 11 ∷ 1 ∷ 0 ∷ 0 ∷ 0 ∷ 0 ∷ 0 ∷ 0 ∷ 0 ∷ 0 ∷ []) (0 ∷ 1 ∷ 1 ∷ 0 ∷ 1 ∷ 1 ∷ 0 ∷ 0 ∷ 0 ∷ 4 ∷ 16 ∷ 16 ∷ []))
    ∷ []

-- T13, the refused A 12, and T14
abbrev pub segment_places : List ℕ
segment_places = 4 ∷ 1 ∷ 4 ∷ []
