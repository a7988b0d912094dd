-- A request refused in its effect alone: the outcome that the effect comes to is the refusal. Assumes nothing.
use mathlib.Core.Path.{◌≡◌, sym, ap, ◌∙◌}
use mathlib.Core.Bool.{false, cond}
use mathlib.Core.List.{List, []}
use lib.IntN.{ℤ}
use lib.Dec.{eqb}
use Prim.Native.Nat.{ℕ, ◌/◌}
use Rattle.words.specs.Lists.{Words}
use Rattle.ledger.specs.declared.Row.{Row}
use Rattle.calls.specs.Pool.{Pool}
use Rattle.calls.specs.Step.{Act, ask}
use Rattle.calls.specs.Engines.{segment_engine}
use Rattle.calls.specs.Search.{places_by}
use Rattle.call_parts.specs.Results.{acted}
use Rattle.call_parts.proofs.AskLaws.{RefusedBy}
use Rattle.call_parts.proofs.ResultLaws.{acted_refused}
use Rattle.segment_check.specs.Gate.{segment_pool}
use Rattle.segment_check.specs.declared.Head.{Head}
use Rattle.call_parts.specs.declared.Outcome.{Outcome}
use Rattle.segment_requests.specs.Outcomes.{handed, refused_with, grant_outcome, release_outcome, effect_in, places_in}
use Rattle.segment_requests.specs.Outcomes.{places_asked}

module _ (h : Head) (S : ℕ) (v : List ℤ) (t x : Words) where
  abbrev p : Pool
  p = segment_pool S h v t x

  pub refused_acted : (act : Act) (o : Outcome Head) (n : ℕ) → o ≡ refused_with h n → RefusedBy segment_engine p act n
      → handed S o v t x [] ≡ acted segment_engine act p
  refused_acted act o n e r =
      ap (λ (y : Outcome Head). handed S y v t x []) e ∙ acted_refused segment_engine act p n r

  granted_refused : (e n : ℕ) → e / 65536 ≡ n → eqb n 0 ≡ false → (c k : ℕ) → RefusedBy segment_engine p (ask c k) n
      → handed S (grant_outcome h k e) v t x [] ≡ acted segment_engine (ask c k) p
  granted_refused e n is some c k =
      let refuses : eqb (e / 65536) 0 ≡ false = ap (λ (m : ℕ). eqb m 0) is ∙ some in
      refused_acted (ask c k) (grant_outcome h k e) n (rw refuses (ap (refused_with h) is))

  -- and its places: 1 for 5, else 0
  pub grant_refused : (r e m n : ℕ) → (effect_in r ≡ e) × (places_in r ≡ m) → e / 65536 ≡ n → eqb n 0 ≡ false
      → m ≡ cond (eqb n 5) 1 0 → (c k : ℕ) → RefusedBy segment_engine p (ask c k) n
      → (handed S (grant_outcome h k (effect_in r)) v t x [] ≡ acted segment_engine (ask c k) p)
      × (places_in r ≡ places_asked p c k)
  grant_refused r e m n (low, high) is some places c k refused = (
    ap (λ (y : ℕ). handed S (grant_outcome h k y) v t x []) low ∙ granted_refused e n is some c k refused,
    high ∙ places ∙ sym (ap (places_by p) refused.0 ∙ rw some),
  )

  -- a release or trim, whatever it would have answered
  pub named_refusal : (act : Act) (r : Row) (n : ℕ) → eqb n 0 ≡ false → RefusedBy segment_engine p act n
      → handed S (release_outcome h r n) v t x [] ≡ acted segment_engine act p
  named_refusal act r n some = refused_acted act (release_outcome h r n) n (rw some)
