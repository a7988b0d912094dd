-- What an effect comes to: the refusal of a request that is refused in its effect alone, or the record. Assumes nothing.
use mathlib.Core.Path.{◌≡◌, ap, ◌∙◌}
use mathlib.Core.Bool.{false}
use mathlib.Core.List.{[]}
use Prim.Native.Nat.{ℕ}
use lib.Dec.{eqb}
use Rattle.words.specs.Lists.{Words}
use Rattle.ledger.specs.declared.Row.{Row}
use Rattle.calls.specs.Pool.{next_after}
use Rattle.calls.specs.Step.{Act, ask, success}
use Rattle.calls.specs.Engines.{tree_engine}
use Rattle.call_parts.specs.Results.{acted}
use Rattle.call_parts.proofs.AskLaws.{RefusedBy}
use Rattle.call_parts.proofs.ResultLaws.{acted_refused}
use Rattle.tree_check.specs.declared.Head.{Head}
use Rattle.call_parts.specs.declared.Outcome.{Outcome}
use Rattle.tree_check.specs.Gate.{tree_pool}
use Rattle.tree_requests.specs.Outcomes.{handed, refused_with, grant_outcome, release_outcome}
use Rattle.tree_requests.specs.Outcomes.{effect_number, effect_root, effect_address}

-- the effect of a request that was served
module _ (h : Head) (e root : ℕ) (number : effect_number e ≡ 0) (rooted : effect_root e ≡ root) where
  pub granted : (n address : ℕ) → effect_address e ≡ address
      → grant_outcome h n e
      ≡ record {
        head = record { root = root; next = next_after h.next; form = h.form };
        answer = record { number = 0; ticket = h.next; address = address; words = n };
      }
  granted n address at = rw (number, rooted, at)

  pub released : (r : Row)
      → release_outcome h r e
      ≡ record { head = record { root = root; next = h.next; form = h.form }; answer = success r }
  released r = rw (number, rooted)

module _ (h : Head) (a t : Words) where
  pub refused_acted : (act : Act) (o : Outcome Head) (x : ℕ) → o ≡ refused_with h x → RefusedBy tree_engine (tree_pool h a t) act x
      → handed o a t [] ≡ acted tree_engine act (tree_pool h a t)
  refused_acted act o x e r =
      ap (λ (y : Outcome Head). handed y a t []) e ∙ acted_refused tree_engine act (tree_pool h a t) x r

  module _ (e x : ℕ) (is : effect_number e ≡ x) (some : eqb x 0 ≡ false) where
    refuses : eqb (effect_number e) 0 ≡ false
    refuses = ap (λ (k : ℕ). eqb k 0) is ∙ some

    pub grant_refused : (c n : ℕ) → RefusedBy tree_engine (tree_pool h a t) (ask c n) x
        → handed (grant_outcome h n e) a t [] ≡ acted tree_engine (ask c n) (tree_pool h a t)
    grant_refused c n = refused_acted (ask c n) (grant_outcome h n e) x (rw refuses (ap (refused_with h) is))

    -- a release or trim, whatever it would have answered
    pub named_refusal : (act : Act) (r : Row) → RefusedBy tree_engine (tree_pool h a t) act x
        → handed (release_outcome h r e) a t [] ≡ acted tree_engine act (tree_pool h a t)
    named_refusal act r = refused_acted act (release_outcome h r e) x (rw refuses (ap (refused_with h) is))
