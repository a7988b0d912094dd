-- What the tests before a call say of it: refused, it is the machine's refused call; passed, the pool is sound and the
-- party is one. Assumes nothing.
use Prim.Native.Nat.{ℕ}
use mathlib.Core.Path.{◌≡◌, refl, sym, ap, ◌∙◌}
use mathlib.Core.Bool.{true, false}
use mathlib.Core.List.{List}
use mathlib.Core.Option.{some}
use lib.IntN.{ℤ}
use Rattle.std.specs.Prelude.{Result, Ok, Err}
use Rattle.words.specs.Lists.{Words}
use Rattle.ledger.specs.Records.{is_party}
use Rattle.calls.specs.declared.Refusal.{Refusal}
use Rattle.calls.specs.Refusals.{refusal_number, number_in}
use Rattle.calls.proofs.RefusalLaws.{number_nonzero}
use Rattle.calls.specs.Pool.{Pool, sound}
use Rattle.calls.specs.Engines.{segment_engine}
use Rattle.calls.specs.Step.{Call, fills, suits, party_given, buffers_of, pool_number, refused_by, step}
use Rattle.call_parts.specs.Parts.{with_party}
use Rattle.call_parts.specs.Results.{result_of}
use Rattle.call_parts.proofs.ResultLaws.{gate_result, gate_passed, stopped_step}
use Rattle.segment_check.specs.Gate.{segment_pool}
use Rattle.segment_check.specs.declared.Head.{Head}
use Rattle.call_parts.specs.declared.Outcome.{Outcome}
use Rattle.segment_requests.specs.Outcomes.{handed, refused_with}

module _ (S : ℕ) (h : Head) (v : List ℤ) (t x : Words) (c : ℕ) {A : Type 0} (r : Result A Refusal)
    (is : number_in r ≡ with_party (pool_number segment_engine (segment_pool S h v t x)) c) where
  abbrev p : Pool
  p = segment_pool S h v t x

  module _ (y : Refusal) (e : r ≡ Err y) where
    pub number_is : refusal_number y ≡ with_party (pool_number segment_engine p) c
    number_is = sym (ap number_in e) ∙ is

    pub stopped : (call : Call Words) → fills call ≡ false → suits call p ≡ true → party_given call ≡ some c
        → step segment_engine call p ≡ refused_by segment_engine call p (refusal_number y)
    stopped call f s g =
        stopped_step segment_engine p (pool_number segment_engine p) c (refusal_number y) refl number_is (number_nonzero y) call f s g

    -- what the code hands back then
    pub stopped_result : (o : Outcome Head) (n : ℕ) → o ≡ refused_with h n → n ≡ refusal_number y
        → (call : Call Words) → fills call ≡ false → suits call p ≡ true → party_given call ≡ some c
        → handed S o v t x (buffers_of call) ≡ result_of (step segment_engine call p)
    stopped_result o n told number call f s g =
        ap (λ (q : Outcome Head). handed S q v t x (buffers_of call)) (told ∙ ap (refused_with h) number)
        ∙ gate_result segment_engine p (pool_number segment_engine p) c (refusal_number y) refl number_is (number_nonzero y) call
        f s g

  pub passed : (u : A) → r ≡ Ok u → (sound segment_engine p ≡ true) × (is_party c ≡ true)
  passed u e =
      gate_passed segment_engine p (pool_number segment_engine p) c (number_in r) refl is (ap number_in e)
