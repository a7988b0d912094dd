-- What the segment pool's calls hand back and leave. Assumes nothing.
use Rattle.std.specs.Prelude.{ℕ, ◌/◌, ◌%◌, cond, List, eqb, ℤ}
use Rattle.words.specs.Lists.{Words}
use Rattle.ledger.specs.declared.Row.{Row}
use Rattle.ledger.specs.Records.{row}
use Rattle.calls.specs.Pool.{Pool, next_after}
use Rattle.calls.specs.Step.{success, allocate, ask, answer_to, step}
use Rattle.calls.specs.Engines.{segment_engine}
use Rattle.calls.specs.Search.{places_by, places_of}
use Rattle.call_parts.specs.Results as parts
use Rattle.call_parts.specs.declared.Outcome.{Outcome}
use Rattle.call_parts.specs.Results.{Result, result, result_of}
use Rattle.segment_check.specs.Gate.{segment_pool}
use Rattle.segment_check.specs.declared.Head.{Head}
use Rattle.segment_requests.specs.declared.Allocation.{Allocation}

-- all that a call with S segments hands back and leaves: answer, head, arena, table, index, and the answer buffer of a
-- list call
abbrev pub handed : ℕ → Outcome Head → List ℤ → Words → Words → List Words → Result
handed S r arena table index buffers = result r.answer (segment_pool S r.head arena table index) buffers

-- the head as it came, with a refusal
abbrev pub refused_with : Head → ℕ → Outcome Head
refused_with h n = parts.refused_with h n

-- what an allocation of n words comes to by its effect: a refusal with the number in the upper half, or, if that is 0,
-- the next ticket at the address in the lower half; an answer gives no party
abbrev pub grant_outcome : Head → ℕ → ℕ → Outcome Head
grant_outcome h n e =
    cond (eqb (e / 65536) 0)
    (record {
      head = record { next = next_after h.next };
      answer = success (row h.next (e % 65536) n 0);
    })
    (refused_with h (e / 65536))

-- the two parts of a number that has both: the effect in the lower 32 bits, and above them the places looked at
abbrev pub effect_in : ℕ → ℕ
effect_in e = e % 4294967296

abbrev pub places_in : ℕ → ℕ
places_in e = e / 4294967296

-- the places that an allocation of n words for party c on a sound pool reports
abbrev pub places_asked : Pool → ℕ → ℕ → ℕ
places_asked p c n = places_by p (answer_to segment_engine p (ask c n))

-- an allocation's outcome, apart from its places
abbrev pub outcome_of : Allocation → Outcome Head
outcome_of r = record { head = r.head; answer = r.answer }

-- what an allocation of n words for party c on p comes to: the machine's result, and the places of 02's ticket 5
abbrev pub allocated : Pool → ℕ → ℕ → Result × ℕ
allocated p c n = (result_of (step segment_engine (allocate c n) p), places_of p c n)

-- what a release or a trim comes to by its number: a refusal, or the record r that it answers; no ticket is used up
abbrev pub release_outcome : Head → Row → ℕ → Outcome Head
release_outcome h r n = cond (eqb n 0) (record { head = h; answer = success r }) (refused_with h n)
