-- A list call as a whole, over any engine: what a list that suits has, a list that does not, and the shape that no act
-- changes. Assumes nothing.
use Prim.Native.Nat.{ℕ, ◌%◌, ◌≤◌}
use native.Mathlib.Omega.{arith}
use mathlib.Core.Path.{◌≡◌, refl, sym, ◌∙◌}
use mathlib.Core.Bool.{true, false, ◌&&◌, false≢true}
use lib.Dec.{eqb, leb}
use lib.ListN.{length}
use Rattle.words.specs.Lists.{Words}
use Rattle.words.proofs.Tests.{and_l, and_r, eqb_eq, le_of, false_of}
use Rattle.calls.specs.Pool.{Pool, Engine, lengths}
use Rattle.calls.specs.Step.{bad, list, number_of, list_suits, refused_by, step}
use Rattle.calls.proofs.GateLaws.{gate_number, step_stops}
use Rattle.call_parts.proofs.AskLaws.{RefusedBy, refused_by_lem}

pub suited_lengths : (rs bs : Words) → list_suits rs bs ≡ true → (length rs % 4 ≡ 0) × (length rs ≤ length bs)
suited_lengths rs bs e =
    let four = eqb (length rs % 4) 0 in
    let few = leb (length rs) 4096 in
    let room = leb (length rs) (length bs) in (
      eqb_eq (length rs % 4) 0 (and_l four few (and_l (four && few) room e)),
      le_of (length rs) (length bs) (and_r (four && few) room e),
    )

module _ (E : Engine) where
  pub bad_refused : (p : Pool) → RefusedBy E p bad 9
  unfolding number_of
  bad_refused p = refused_by_lem E p bad 9 refl refl

  pub unsuited_list : (p : Pool) (c : ℕ) (rs bs : Words) → E.known p.shape ≡ true → list_suits rs bs ≡ false
      → step E (list c rs bs) p ≡ refused_by E (list c rs bs) p 8
  unsuited_list p c rs bs k e =
      step_stops E (list c rs bs) p 8
      ((gate_number E (list c rs bs) p).eight.1
      (k, false_of (lengths E p && list_suits rs bs) (λ h. false≢true (sym e ∙ and_r (lengths E p) (list_suits rs bs) h))))
      (λ z. omega arith)

  pub unknown_list : (p : Pool) (c : ℕ) (rs bs : Words) → E.known p.shape ≡ false
      → step E (list c rs bs) p ≡ refused_by E (list c rs bs) p 11
  unknown_list p c rs bs k =
      step_stops E (list c rs bs) p 11 ((gate_number E (list c rs bs) p).eleven.1 k) (λ z. omega arith)
