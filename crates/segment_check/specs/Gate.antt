-- The segment pool as a call is lent it. 01, "Calls and numbers", rows 8 and 1. Assumes nothing.
use Rattle.std.specs.Prelude.{ℕ, ◌<◌, ◌^◌, ◌≡◌, Bool, List, [], map, ℤ, pos, get_or}
use Rattle.std.specs.Int.Signed.{mag}
use Rattle.std.specs.Int.{w32}
use Rattle.std.proofs.Common.{of_z}
use Rattle.words.specs.Lists.{Words}
use Rattle.calls.specs.Pool.{Pool, lengths}
use Rattle.calls.specs.Engines.{segment_engine}
use Rattle.segment_check.specs.declared.Head.{Head}

-- signed words by their 32 bits, as the machine has them; two signed words with the same bits are one
abbrev pub as_words : List ℤ → Words
as_words v = map (of_z w32) v

-- S and head, with the lent arena, table and index
abbrev pub segment_pool : ℕ → Head → List ℤ → Words → Words → Pool
segment_pool S h arena table index = record {
  head = record { own = []; next = h.next };
  shape = S;
  arena = as_words arena;
  table = table;
  index = index;
}

-- "Format takes no head": a zero in its place
abbrev pub no_head : Head
no_head = record { next = 0 }

-- the flag says that S and the lent lengths are right, whatever the head
abbrev pub RightLengths : ℕ → List ℤ → Words → Words → Bool → Type 0
RightLengths S arena table index b = (h : Head) → b ≡ lengths segment_engine (segment_pool S h arena table index)

-- every word is one of 32 bits with a sign
abbrev pub Ranged : List ℤ → Type 0
Ranged v = (i : ℕ) → mag (get_or v i (pos 0)) < 2 ^ 31
