-- A formatted segment pool: one free block of all words, no record. Assumes nothing.
use Prim.Native.Nat.{ℕ}
use mathlib.Core.Path.{◌≡◌, refl, ap, ◌∙◌}
use mathlib.Core.Logic.{◌≢◌}
use mathlib.Core.Bool.{Bool, true}
use mathlib.Core.List.{List, []}
use lib.IntN.{ℤ}
use lib.ListN.{length, replicate}
use Rattle.words.specs.Lists.{Words}
use Rattle.ledger.specs.Records.{Ledger, empty_row, slots}
use Rattle.segment_cores.specs.Stores.{Unheld, Becomes}
use Rattle.segment_cores.proofs.BlankLaws.{blank_unheld}
use Rattle.calls.specs.declared.Answer.{Answer}
use Rattle.calls.specs.Pool.{Pool, lengths, store}
use Rattle.calls.specs.Step.{refusal, blank, format, step}
use Rattle.calls.specs.Engines.{segment_engine}
use Rattle.call_parts.specs.Parts.{format_number}
use Rattle.call_parts.specs.Results.{result_of}
use Rattle.call_parts.proofs.FormatLaws.{zero_table, format_refused, format_right}
use Rattle.segment_check.specs.Gate.{segment_pool, no_head}
use Rattle.segment_check.proofs.GateLaws.{InRange, in_range}
use Rattle.segment_requests.specs.Outcomes.{handed}
use Rattle.segment_requests.proofs.StoredLaws.{stored_pool}

abbrev lent : ℕ → List ℤ → Words → Words → Pool
lent S v t x = segment_pool S no_head v t x

module _ (S : ℕ) (v : List ℤ) (t x : Words) (first : ℕ) (r : Bool) (right : r ≡ lengths segment_engine (lent S v t x))
    (n : ℕ) (is : n ≡ format_number true r first) where
  pub head_refused : (w : Answer) → n ≢ 0 → w ≡ refusal n
      → handed S (record { head = record { next = 0 }; answer = w }) v t x []
      ≡ result_of (step segment_engine (format first) (lent S v t x))
  unfolding segment_engine
  head_refused w z h =
      ap (λ (y : Answer). handed S (record { head = record { next = 0 }; answer = y }) v t x []) h
      ∙ format_refused segment_engine (lent S v t x) first true refl r right n is z

  module _ (z : n ≡ 0) where
    pub fit : InRange S v t x
    unfolding segment_engine
    fit = in_range S no_head v t x (format_right segment_engine (lent S v t x) first true refl r right n is z)

    pub blank_pool_lem : (b : List ℤ) (u y : Words) → ((L : Ledger) → Unheld L (length v) → Becomes L v S b y)
        → u ≡ replicate (length t) 0
        → segment_pool S (record { next = first }) b u y ≡ store segment_engine (blank segment_engine (lent S v t x)) first (lent S v t x)
    blank_pool_lem b u y laid e =
        let L = replicate (slots t) empty_row in
        stored_pool (lent S v t x) L first v b u y refl (laid L (blank_unheld (slots t) (length v)))
        (e ∙ zero_table t fit.whole)
