-- A party's allocation on a sound pool, test by test, for any engine: 2, 3, 4, 5. Assumes nothing.
use Prim.Native.Nat.{ℕ}
use mathlib.Core.Path.{◌≡◌, refl, sym, ap, ◌∙◌}
use mathlib.Core.Bool.{true, false, ◌||◌, true≢false}
use mathlib.Core.Option.{none}
use lib.Dec.{eqb, ltb}
use Rattle.ledger.specs.Records.{is_party, full}
use Rattle.calls.specs.Pool.{Pool, ledger, Engine}
use Rattle.calls.specs.Step.{refusal, Act, ask, fit_of, number_of, answer_to, pool_after}
use Rattle.calls.proofs.ActLaws.{act_refused, number_two, number_three, number_four, number_five}

-- refused by x: the answer, and the pool as it was
abbrev pub RefusedBy : Engine → Pool → Act → ℕ → Type 0
RefusedBy E p a x = (answer_to E p a ≡ refusal x) × (pool_after E p a ≡ p)

module _ (E : Engine) (p : Pool) where
  pub refused_by_lem : (a : Act) (x : ℕ) → number_of E p a ≡ x → eqb x 0 ≡ false → RefusedBy E p a x
  refused_by_lem a x e z =
      let r = act_refused E p a (λ y. true≢false (sym (ap (λ k. eqb k 0) (sym e ∙ y)) ∙ z)) in
      (r.0 ∙ ap refusal e, r.1)

  module _ (c n : ℕ) (party : is_party c ≡ true) where
    pub ask_two : (eqb n 0 || ltb (E.limit p.shape) n) ≡ true → RefusedBy E p (ask c n) 2
    ask_two size = refused_by_lem (ask c n) 2 (number_two E p c n party size) refl

    module _ (size : (eqb n 0 || ltb (E.limit p.shape) n) ≡ false) where
      pub ask_three : full (ledger p) ≡ true → RefusedBy E p (ask c n) 3
      ask_three slot = refused_by_lem (ask c n) 3 (number_three E p c n party size slot) refl

      module _ (slot : full (ledger p) ≡ false) where
        pub ask_four : eqb p.head.next 0 ≡ true → RefusedBy E p (ask c n) 4
        ask_four ticket = refused_by_lem (ask c n) 4 (number_four E p c n party size slot ticket) refl

        pub ask_five : eqb p.head.next 0 ≡ false → fit_of E p n ≡ none → RefusedBy E p (ask c n) 5
        ask_five ticket fit = refused_by_lem (ask c n) 5 (number_five E p c n party size slot ticket fit) refl
