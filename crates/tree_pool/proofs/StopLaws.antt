-- What stops a call, and what is known past the tests before it. Assumes nothing.
use Prim.Native.Nat.{ℕ}
use mathlib.Core.Path.{◌≡◌, refl, ap, ◌∙◌}
use mathlib.Core.Bool.{true, false}
use mathlib.Core.Option.{some}
use Rattle.words.specs.Lists.{Words}
use Rattle.ledger.specs.Records.{is_party}
use Rattle.calls.specs.declared.Refusal.{Refusal}
use Rattle.calls.specs.Refusals.{refusal_number}
use Rattle.calls.specs.Pool.{Pool, sound}
use Rattle.calls.specs.Step.{Call, fills, suits, buffers_of, party_given, pool_number, step}
use Rattle.calls.specs.Engines.{tree_engine}
use Rattle.calls.proofs.RefusalLaws.{number_nonzero}
use Rattle.call_parts.specs.Parts.{with_party}
use Rattle.call_parts.specs.Results.{result_of}
use Rattle.call_parts.proofs.ResultLaws.{gate_result, gate_passed}
use Rattle.tree_check.specs.declared.Head.{Head}
use Rattle.tree_check.specs.Gate.{tree_pool}
use Rattle.call_parts.specs.declared.Outcome.{Outcome}
use Rattle.tree_requests.specs.Outcomes.{handed, refused_with}

module _ (h : Head) (a t : Words) (c : ℕ) where
  abbrev p : Pool
  p = tree_pool h a t

  -- a sound pool, and a party
  pub passes : 0 ≡ with_party (pool_number tree_engine p) c → (sound tree_engine p ≡ true) × (is_party c ≡ true)
  passes e = gate_passed tree_engine p (pool_number tree_engine p) c 0 refl e refl

  -- a refusal, and nothing changes
  pub stops : {o : Outcome Head} {n : ℕ} (why : Refusal) → o ≡ refused_with h n → n ≡ refusal_number why
      → refusal_number why ≡ with_party (pool_number tree_engine p) c → (call : Call Words) → fills call ≡ false
      → suits call p ≡ true → party_given call ≡ some c
      → handed o a t (buffers_of call) ≡ result_of (step tree_engine call p)
  stops why is number e call f s g =
      ap (λ (x : Outcome Head). handed x a t (buffers_of call)) (is ∙ ap (refused_with h) number)
      ∙ gate_result tree_engine p (pool_number tree_engine p) c (refusal_number why) refl e (number_nonzero why) call f s g
