-- What a call hands back and leaves, of the code and of the machine, in one form for every engine. Assumes nothing.
--
-- A pool says of its own outcome and lent slices what they are here, and nothing else:
--   handed : Outcome Head → .. → List Words → Result,   handed r arena .. buffers = result r.answer (POOL) buffers
-- where POOL is the pool of the head handed back and of the lent memory as it was left, every word a natural number.
-- Each of its calls then promises `handed r .. ≡ result_of (step E call POOL)`, with POOL as the call was lent it.
use Rattle.std.specs.Prelude.{ℕ, ◌+◌, ◌*◌, List, [], ◌++◌, length, take, drop}
use Rattle.std.specs.Borrow.{Bor}
use Rattle.words.specs.Lists.{Words}
use Rattle.calls.specs.declared.Answer.{Answer}
use Rattle.calls.specs.Pool.{Pool, Engine}
use Rattle.calls.specs.Step.{Outcome, Act, answer_to, pool_after, requests, answer_words, answers_of, counted_of}
use Rattle.calls.specs.Step.{pool_after_all, Slice, arena_part, placeholder, nothing, refusal}
use Rattle.call_parts.specs.declared.Outcome as code

-- All that a call hands back and leaves: its answer; the pool, which is head, arena, table and index; and the answer
-- buffer of a list call.
pub record Result : Type 0 where
  pub answer : Answer
  pub pool : Pool
  pub buffers : List Words

abbrev pub result : Answer → Pool → List Words → Result
result x p buffers = record { answer = x; pool = p; buffers = buffers }

-- what the code hands back of a refusal: the head as it came
abbrev pub refused_with : {H : Type 0} → H → ℕ → code.Outcome H
refused_with h n = record { head = h; answer = refusal n }

-- of the machine's outcome
abbrev pub result_of : Outcome → Result
result_of o = result o.answer o.pool o.buffers

module _ (E : Engine) where
  -- of one act on a sound pool
  abbrev pub acted : Act → Pool → Result
  acted a p = result (answer_to E p a) (pool_after E p a) []

  -- of the requests of party c's list on a sound pool: the pool, and the answer buffer
  abbrev pub ran : ℕ → Words → Words → Pool → Pool × Words
  ran c rs bs p = (
    pool_after_all E p (requests c rs),
    answer_words (answers_of (counted_of E p (requests c rs))) ++ drop (length rs) bs,
  )

-- ---- slices, over what a word is to the code

-- a lent slice, as where it begins, a block and an offset in bytes, and its words
abbrev pub LentSlice : Type 0 → Type 0
LentSlice A = (ℕ × ℕ) × List A

module _ {A : Type 0} where
  abbrev pub whole_slice : Bor (List A) → LentSlice A
  whole_slice s = (s.ref_ptr, s.now)

  -- the n words from word a on; a word has four bytes
  abbrev pub slice_part : Bor (List A) → ℕ → ℕ → LentSlice A
  slice_part s a n = ((s.ref_ptr.0, a * 4 + s.ref_ptr.1), take n (drop a s.now))

  -- the slice that look shows: place and content
  abbrev pub slice_of : Slice → Bor (List A) → Bor (List A) → LentSlice A
  slice_of (arena_part a n) arena hold = slice_part arena a n
  slice_of placeholder arena hold = whole_slice hold
  slice_of nothing arena hold = whole_slice hold
