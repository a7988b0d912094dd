-- What a request comes to, as an answer. Assumes nothing.
use Rattle.std.specs.Prelude.{Result, Ok, Err}
use Rattle.ledger.specs.declared.Row.{Row}
use Rattle.calls.specs.declared.Answer.{Answer}
use Rattle.calls.specs.declared.Refusal.{Refusal}
use Rattle.calls.specs.Step.{success, refusal}
use Rattle.calls.specs.Refusals.{refusal_number}

-- a record, or why there is none
abbrev pub answer_in : Result Row Refusal → Answer
answer_in (Ok r) = success r
answer_in (Err e) = refusal (refusal_number e)
