-- What a call hands back and leaves, for any engine: one act, a call that the gate refuses, a call of one act, and a
-- list call. Assumes nothing.
use Prim.Native.Nat.{ℕ}
use native.Mathlib.Omega.{arith}
use native.Mathlib.Decide.{ℕ_discrete}
use mathlib.Core.Path.{◌≡◌, refl, sym, ap, ◌∙◌}
use mathlib.Core.Logic.{◌≢◌}
use mathlib.Core.Bool.{Bool, true, false}
use mathlib.Core.List.{[], ◌∷◌}
use mathlib.Core.Option.{some}
use Rattle.words.specs.Lists.{Words}
use Rattle.words.proofs.Tests.{eqb_ne, false_of}
use Rattle.ledger.specs.Records.{is_party}
use Rattle.calls.specs.declared.Answer.{Answer}
use Rattle.calls.specs.Pool.{Pool, Engine, Laws, sound}
use Rattle.calls.specs.Step.{Call, single, list, refusal, zero_answer, Act, answer_to, pool_after, list_suits, fills, suits}
use Rattle.calls.specs.Step.{buffers_of, party_given, right_party, partied, GateIs, refused_by, acts_done, step}
use Rattle.calls.proofs.CallLaws.{refused_pool}
use Rattle.calls.proofs.Demand2.{act_sound}
use Rattle.calls.proofs.GateLaws.{step_stops, gate_partied, gate_opens, gate_refuses, step_sound}
use Rattle.call_parts.specs.Parts.{with_party}
use Rattle.call_parts.specs.Results.{result, result_of, acted, ran}
use Rattle.call_parts.proofs.AskLaws.{RefusedBy}
use Rattle.call_parts.proofs.WholeLists.{unknown_list, unsuited_list}

module _ (E : Engine) where
  -- ---- one act

  pub acted_by : (a : Act) (p : Pool) (x : Answer) (q : Pool) → x ≡ answer_to E p a → q ≡ pool_after E p a
      → result x q [] ≡ acted E a p
  acted_by a p x q answer pool = λ i. result (answer i) (pool i) []

  pub acted_refused : (a : Act) (p : Pool) (n : ℕ) → RefusedBy E p a n → result (refusal n) p [] ≡ acted E a p
  acted_refused a p n r = acted_by a p (refusal n) p (sym r.0) (sym r.1)

  -- the pool stays sound
  pub acted_sound : Laws E → (p : Pool) (a : Act) (q : Pool) → q ≡ pool_after E p a → sound E p ≡ true → sound E q ≡ true
  acted_sound laws p a q e ok = ap (sound E) e ∙ act_sound E laws p a ok

  -- ---- whole calls

  -- refused by the pool's own number or by the party
  pub stopped_step : (p : Pool) (x c n : ℕ) → GateIs E p x → n ≡ with_party x c → n ≢ 0
      → (call : Call Words) → fills call ≡ false → suits call p ≡ true → party_given call ≡ some c
      → step E call p ≡ refused_by E call p n
  stopped_step p x c n is e z call f s g = go (ℕ_discrete x 0)
    where
      go : Dec (x ≡ 0) → step E call p ≡ refused_by E call p n
      go (yes y) =
          let none_is : is_party c ≡ false = false_of (is_party c) (λ h. z (e ∙ rw (y, h))) in
          let twelve : n ≡ 12 = e ∙ rw (y, none_is) in
          step_stops E call p n
          (gate_partied E call p f s (gate_opens E p x is y) (ap right_party g ∙ none_is) ∙ sym twelve) z
      go (no y) =
          let same : n ≡ x = e ∙ rw (eqb_ne x 0 y) in
          rw same (gate_refuses E p x is y call f s)

  -- nothing changes
  pub gate_result : (p : Pool) (x c n : ℕ) → GateIs E p x → n ≡ with_party x c → n ≢ 0
      → (call : Call Words) → fills call ≡ false → suits call p ≡ true → party_given call ≡ some c
      → result (refusal n) p (buffers_of call) ≡ result_of (step E call p)
  gate_result p x c n is e z call f s g =
      ap (λ (q : Pool). result (refusal n) q (buffers_of call)) (sym (refused_pool E call p n f))
      ∙ ap result_of (sym (stopped_step p x c n is e z call f s g))

  -- passed by both: a sound pool, and a party
  pub gate_passed : (p : Pool) (x c n : ℕ) → GateIs E p x → n ≡ with_party x c → n ≡ 0
      → (sound E p ≡ true) × (is_party c ≡ true)
  gate_passed p x c n is e z = go (ℕ_discrete x 0) (is_party c) refl
    where
      go : Dec (x ≡ 0) → (b : Bool) → is_party c ≡ b → (sound E p ≡ true) × (is_party c ≡ true)
      go (yes y) true h = (gate_opens E p x is y, h)
      go (yes y) false h = let twelve : n ≡ 12 = e ∙ rw (y, h) in absurd (omega arith)
      go (no y) b h = let same : n ≡ x = e ∙ rw (eqb_ne x 0 y) in absurd (y (sym same ∙ z))

  -- a call of one act
  pub single_result : (a : Act) (p : Pool) → sound E p ≡ true → partied a ≡ true
      → acted E a p ≡ result_of (step E (single a) p)
  unfolding acts_done
  single_result a p ok h = ap result_of (sym (step_sound E (single a) p refl refl ok h))

  module _ (p : Pool) (c : ℕ) (rs bs : Words) where
    pub unknown_result : E.known p.shape ≡ false
        → result (refusal 11) p (bs ∷ []) ≡ result_of (step E (list c rs bs) p)
    unknown_result k = ap result_of (sym (unknown_list E p c rs bs k))

    pub unsuited_result : E.known p.shape ≡ true → list_suits rs bs ≡ false
        → result (refusal 8) p (bs ∷ []) ≡ result_of (step E (list c rs bs) p)
    unsuited_result k e = ap result_of (sym (unsuited_list E p c rs bs k e))

    pub list_result : list_suits rs bs ≡ true → sound E p ≡ true → is_party c ≡ true
        → (x : Answer) (q : Pool) (b : Words) → x ≡ zero_answer
        → (q, b) ≡ ran E c rs bs p → result x q (b ∷ []) ≡ result_of (step E (list c rs bs) p)
    unfolding acts_done
    list_result s ok h x q b answer e =
        (λ i. result (answer i) (e i).0 ((e i).1 ∷ []))
        ∙ ap result_of (sym (step_sound E (list c rs bs) p refl s ok h))
