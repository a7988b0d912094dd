-- What a line is read as. Assumes nothing.
use Rattle.std.proofs.Common.{ℕ, ◌≡◌, true, false, [], ◌∷◌, List, get_or, drop, sym, ap, ◌∙◌}
use Rattle.std.specs.Prelude.{Some, None, option_map}
use Rattle.std.proofs.lemmas.Option.{same_Some}
use Rattle.ledger.specs.Records.{row}
use Rattle.text.specs.Numbers.{Bytes, value_of}
use Rattle.text.specs.Fields.{numbers_of}
use Rattle.text.proofs.FieldLaws.{pair_list, triple_list, pair_is, triple_is, pair_none, pair_some, triple_none, triple_some, quad_none, quad_some}
use Rattle.session.specs.declared.LineRequest.TheVariants as request
use Rattle.session.specs.Meaning.{begins, bad_first, first_line, opened, request_of, ask_of, text_party}

module _ (s : Bytes) where
  pub first_bad : begins s 80 ≡ false → first_line s ≡ bad_first
  unfolding first_line
  first_bad b = rw b

  pub bad_line : begins s 65 ≡ false → begins s 82 ≡ false → begins s 84 ≡ false → request_of s ≡ None
  unfolding request_of
  bad_line a b t = rw (a, b, t)

  module _ (f : Bytes) (e : f ≡ drop 2 s) where
    module _ (b : begins s 80 ≡ true) where
      pub first_two : (ns : List ℕ) → Some ns ≡ numbers_of 2 f → first_line s ≡ opened (get_or ns 0 0) (get_or ns 1 0) 1 ns
      unfolding first_line
      first_two ns q =
          let p = pair_some f ns q in
          let is : ns ≡ get_or ns 0 0 ∷ get_or ns 1 0 ∷ [] = same_Some _ _ (q ∙ pair_is f ∙ ap (option_map pair_list) p) in
          rw (b, ← e, p) (ap (opened (get_or ns 0 0) (get_or ns 1 0) 1) (sym is))

      pub first_three : (ns : List ℕ) → None ≡ numbers_of 2 f → Some ns ≡ numbers_of 3 f
          → first_line s ≡ opened (get_or ns 0 0) (get_or ns 1 0) (get_or ns 2 0) ns
      unfolding first_line
      first_three ns n q =
          let p = triple_some f ns q in
          let is : ns ≡ get_or ns 0 0 ∷ get_or ns 1 0 ∷ get_or ns 2 0 ∷ [] = same_Some _ _ (q ∙ triple_is f ∙ ap (option_map triple_list) p) in
          rw (b, ← e, pair_none f n, p) (ap (opened (get_or ns 0 0) (get_or ns 1 0) (get_or ns 2 0)) (sym is))

      pub first_none : None ≡ numbers_of 2 f → None ≡ numbers_of 3 f → first_line s ≡ bad_first
      unfolding first_line
      first_none n m = rw (b, ← e, pair_none f n, triple_none f m)

    pub ask_line : begins s 65 ≡ true → request_of s ≡ ask_of (value_of f)
    unfolding request_of
    ask_line b = rw (b, ← e)

    module _ (a : begins s 65 ≡ false) (b : begins s 82 ≡ true) where
      pub give_line : (ns : List ℕ) → Some ns ≡ numbers_of 3 f
          → request_of s ≡ Some (request.Give (row (get_or ns 0 0) (get_or ns 1 0) (get_or ns 2 0) text_party))
      unfolding request_of
      give_line ns q = rw (a, b, ← e, triple_some f ns q)

      pub give_none : None ≡ numbers_of 3 f → request_of s ≡ None
      unfolding request_of
      give_none q = rw (a, b, ← e, triple_none f q)

    module _ (a : begins s 65 ≡ false) (b : begins s 82 ≡ false) (t : begins s 84 ≡ true) where
      pub cut_line : (ns : List ℕ) → Some ns ≡ numbers_of 4 f
          → request_of s ≡ Some (request.Cut (row (get_or ns 0 0) (get_or ns 1 0) (get_or ns 2 0) text_party) (get_or ns 3 0))
      unfolding request_of
      cut_line ns q = rw (a, b, t, ← e, quad_some f ns q)

      pub cut_none : None ≡ numbers_of 4 f → request_of s ≡ None
      unfolding request_of
      cut_none q = rw (a, b, t, ← e, quad_none f q)
