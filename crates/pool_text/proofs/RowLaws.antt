-- What a release and a trim are answered, by the record that the code finds. Assumes nothing.
use Rattle.std.proofs.Common.{ℕ, ◌≡◌, sym, ap, ◌∙◌, true, false}
use Rattle.std.specs.Prelude.{Ok, Err}
use Rattle.words.specs.Lists.{Words}
use Rattle.ledger.specs.declared.Row.{Row}
use Rattle.ledger.specs.Records.{records_of, keepable, shortened}
use Rattle.calls.specs.declared.Refusal.{Refusal}
use Rattle.calls.specs.Refusals.{refusal_number}
use Rattle.calls.specs.Refusals.{number_in}
use Rattle.calls.specs.Step.{success, refusal, named, number_of, answer_done, answer_to, give, cut}
use Rattle.calls.specs.Engines.{tree_engine}
use Rattle.calls.proofs.RefusalLaws.{number_no_zero}
use Rattle.call_parts.specs.Parts.{named_in}
use Rattle.call_parts.proofs.NamedLaws.{named_number}
use Rattle.tree_check.specs.Gate.{tree_pool}
use Rattle.tree_check.specs.declared.Head.{Head}

module _ (t : Words) (r : Row) where
  found : (i : ℕ) → Ok i ≡ named_in t r → named (records_of t) r ≡ 0
  found i e = sym (named_number t r) ∙ ap number_in (sym e)

  missing : (x : Refusal) → Err x ≡ named_in t r → named (records_of t) r ≡ refusal_number x
  missing x e = sym (named_number t r) ∙ ap number_in (sym e)

  module _ (h : Head) (a : Words) where
    pub give_done : (i : ℕ) → Ok i ≡ named_in t r → success r ≡ answer_to tree_engine (tree_pool h a t) (give r)
    unfolding answer_to number_of answer_done
    give_done i e = rw (found i e)

    pub give_refused : (x : Refusal) → Err x ≡ named_in t r
        → refusal (refusal_number x) ≡ answer_to tree_engine (tree_pool h a t) (give r)
    unfolding answer_to number_of answer_done
    give_refused x e = rw (missing x e, number_no_zero x)

    module _ (keep : ℕ) where
      pub cut_done : (i : ℕ) → Ok i ≡ named_in t r → keepable keep r ≡ true
          → success (shortened keep r) ≡ answer_to tree_engine (tree_pool h a t) (cut r keep)
      unfolding answer_to number_of answer_done
      cut_done i e k = rw (found i e, k)

      pub cut_small : (i : ℕ) → Ok i ≡ named_in t r → keepable keep r ≡ false
          → refusal 2 ≡ answer_to tree_engine (tree_pool h a t) (cut r keep)
      unfolding answer_to number_of answer_done
      cut_small i e k = rw (found i e, k)

      pub cut_refused : (x : Refusal) → Err x ≡ named_in t r
          → refusal (refusal_number x) ≡ answer_to tree_engine (tree_pool h a t) (cut r keep)
      unfolding answer_to number_of answer_done
      cut_refused x e = rw (missing x e, number_no_zero x, number_no_zero x)
