-- A formatted pool does not depend on what lay there, so the pool that P opens is the meaning's. Assumes nothing.
use Prim.Native.Nat.{ℕ, suc, ◌*◌, ◌≤◌, ◌<◌}
use mathlib.Core.Path.{◌≡◌, refl, sym, ap, ◌∙◌}
use mathlib.Core.Logic.{◌≢◌}
use mathlib.Core.Bool.{Bool, true, false, cond, ◌||◌}
use mathlib.Core.List.{List, [], ◌∷◌}
use native.Mathlib.Omega.{arith}
use lib.Dec.{eqb, leb, ltb}
use lib.ListN.{length, get_or, replicate, length-replicate}
use Rattle.words.specs.Lists.{Words}
use Rattle.words.specs.Places.{stamp_from}
use Rattle.words.proofs.Tests.{eqb_ne, false_of, lt_of, of_le, of_gt}
use Rattle.ledger.specs.Records.{empty_row, table_of, record_words, slots}
use Rattle.ledger.specs.Units.{owned}
use Rattle.stored_forms.specs.Tree.{form_of, form_rule}
use Rattle.calls.specs.Pool.{Pool, lengths, store, sound}
use Rattle.calls.specs.Step as machine
use Rattle.calls.specs.Step.{format, step, blank, accepted}
use Rattle.calls.specs.Engines.{tree_engine}
use Rattle.calls.proofs.GateLaws.{format_done_lem}
use Rattle.calls.proofs.Engines.{tree_demand2}
use Rattle.call_parts.specs.Parts.{format_number}
use Rattle.call_parts.proofs.FormatLaws.{format_answers}
use Rattle.tree_check.specs.Gate.{tree_pool, no_head}
use Rattle.tree_check.proofs.GateLaws.{in_range}
use Rattle.call_parts.specs.declared.Outcome.{Outcome}
use Rattle.tree_check.specs.declared.Head.{Head}
use Rattle.call_parts.specs.Results.{Result, result_of}
use Rattle.tree_requests.specs.Outcomes.{in_form, formatted}
use Rattle.tree_pool.proofs.FormatLaws.{blank_owned}
use Rattle.text.specs.Fields.{line_of}
use Rattle.session.specs.Meaning.{serving, stopped, served, text_form, fresh, opening, opened, refusal_line}
use Rattle.session.specs.Meaning.{most_text_words}

abbrev zero_words : ℕ → Words
zero_words n = replicate n 0

-- a stamp that keeps nothing depends on the length alone
stamp_none : {A : Type 0} (o : ℕ → Bool) (v : ℕ → A) → ((i : ℕ) → o i ≡ false) → (i : ℕ) (a b : List A)
    → length a ≡ length b → stamp_from o v i a ≡ stamp_from o v i b
stamp_none o v h i [] [] e = refl
stamp_none o v h i [] (y ∷ b) e = absurd (omega arith)
stamp_none o v h i (x ∷ a) [] e = absurd (omega arith)
stamp_none {A} o v h i (x ∷ a) (y ∷ b) e =
    rw (h i) (ap (λ (l : List A). v i ∷ l) (stamp_none o v h (suc i) a b (omega arith)))

abbrev at : Words → Words → Pool
at a t = tree_pool (no_head text_form) a t

module _ (a b t u : Words) (ea : length a ≡ length b) (et : length t ≡ length u) where
  same_lengths : lengths tree_engine (at a t) ≡ lengths tree_engine (at b u)
  unfolding lengths tree_engine
  same_lengths = rw (ea, et)

  same_store : (first : ℕ) → store tree_engine (blank tree_engine (at a t)) first (at a t)
      ≡ store tree_engine (blank tree_engine (at b u)) first (at b u)
  unfolding store tree_engine
  same_store first =
      let W = length b in
      let L = replicate (slots u) empty_row in
      rw (ea, et)
      (ap
      (λ (x : Words). record {
        head = record { own = tree_engine.own text_form W L; next = first };
        shape = text_form;
        arena = x;
        table = table_of L;
        index = tree_engine.index text_form W L;
      })
      (stamp_none (owned (form_rule (form_of text_form)) L) (tree_engine.word text_form W L)
      (blank_owned (form_rule (form_of text_form)) (slots u)) 0 a b ea))

-- a format's number goes by the lengths and the first ticket, for its form is known
number_of : (a t : Words) (first : ℕ)
    → (step tree_engine (format first) (at a t)).answer.number ≡ format_number true (lengths tree_engine (at a t)) first
unfolding tree_engine
number_of a t first =
    let right = lengths tree_engine (at a t) in
    format_answers tree_engine (at a t) first true refl right refl (format_number true right first) refl

-- the meaning's fresh pool
abbrev zeros : ℕ → ℕ → Pool
zeros w s = at (replicate w 0) (replicate (record_words * s) 0)

-- P with more than 8,192 words or more than 256 slots
module _ (w s first : ℕ) (ns : List ℕ) where
  refused_opening : (n : ℕ) → (fresh w s first).answer.number ≡ n → n ≢ 0
      → opening (fresh w s first) ns ≡ served stopped (refusal_line n)
  refused_opening n e z = rw (e, eqb_ne n 0 z)

  many_slots : 256 < s → opening (fresh w s first) ns ≡ served stopped (refusal_line 8)
  unfolding fresh
  many_slots l =
      let wrong : lengths tree_engine (zeros w s) ≡ false = false_of (lengths tree_engine (zeros w s)) (λ t.
      let few = (in_range (no_head text_form) (zero_words w) (zero_words (record_words * s)) t).few in
      let long = length-replicate {A = ℕ} (record_words * s) 0 in
      absurd (omega (arith, few, long, l))) in
      refused_opening 8
      (number_of (zero_words w) (zero_words (record_words * s)) first ∙ ap (λ (b : Bool). format_number true b first) wrong)
      (λ z. omega arith)

  pub too_large : (ltb 8192 w || ltb 256 s) ≡ true → opened w s first ns ≡ served stopped (refusal_line 8)
  unfolding opened
  too_large h = by_words (ltb 8192 w) refl h
    where
      either : (b : Bool) → opening (fresh w s first) ns ≡ served stopped (refusal_line 8)
          → cond b (opening (fresh w s first) ns) (served stopped (refusal_line 8)) ≡ served stopped (refusal_line 8)
      either true e = e
      either false e = refl

      by_words : (b : Bool) → ltb 8192 w ≡ b → (b || ltb 256 s) ≡ true
          → opened w s first ns ≡ served stopped (refusal_line 8)
      by_words true e t = rw (of_gt w 8192 (lt_of 8192 w e))
      by_words false e t = either (leb w most_text_words) (many_slots (lt_of 256 s t))

-- the code's format of words that lay anywhere
module _ (a t : Words) (w s first : ℕ) (ns : List ℕ) (ea : length a ≡ w) (et : length t ≡ record_words * s) (d : Outcome Head)
    (b u : Words) (e : formatted text_form d b u ≡ result_of (step tree_engine (format first) (at a t))) (h : w ≤ 8192) where
  arena_length : length a ≡ length (zero_words w)
  arena_length = ea ∙ sym (length-replicate {A = ℕ} w 0)

  table_length : length t ≡ length (zero_words (record_words * s))
  table_length = et ∙ sym (length-replicate {A = ℕ} (record_words * s) 0)

  same_as_zeros : lengths tree_engine (at a t) ≡ lengths tree_engine (zeros w s)
  same_as_zeros = same_lengths a (zero_words w) t (zero_words (record_words * s)) arena_length table_length

  number_is : (fresh w s first).answer.number ≡ d.answer.number
  unfolding fresh
  number_is =
      number_of (zero_words w) (zero_words (record_words * s)) first
      ∙ ap (λ (b : Bool). format_number true b first) (sym same_as_zeros) ∙ sym (number_of a t first) ∙ sym (ap (λ (x : Result). x.answer.number) e)

  pub opens_not : d.answer.number ≢ 0 → opened w s first ns ≡ served stopped (refusal_line d.answer.number)
  unfolding opened
  opens_not n = rw (of_le w 8192 h) (refused_opening w s first ns d.answer.number number_is n)

  module _ (z : d.answer.number ≡ 0) where
    accepts : accepted (fresh w s first).answer ≡ true
    accepts = ap (λ (k : ℕ). eqb k 0) (number_is ∙ z)

    there : accepted (step tree_engine (format first) (at a t)).answer ≡ true
    there = ap (λ (x : Result). accepted x.answer) (sym e) ∙ ap (λ (k : ℕ). eqb k 0) z

    in_form_lem : in_form text_form (tree_pool d.head b u) ≡ store tree_engine (blank tree_engine (at a t)) first (at a t)
    in_form_lem = ap (λ (x : Result). x.pool) (e ∙ ap result_of (format_done_lem tree_engine (at a t) first there).1)

    -- the head has the form that it was given
    form_is : d.head.form ≡ text_form
    unfolding store tree_engine
    form_is = ap (λ (p : Pool). get_or p.head.own 1 0) in_form_lem

    stored_there : tree_pool d.head b u ≡ store tree_engine (blank tree_engine (at a t)) first (at a t)
    stored_there = ap (λ (f : ℕ). in_form f (tree_pool d.head b u)) form_is ∙ in_form_lem

    pool_is : tree_pool d.head b u ≡ (fresh w s first).pool
    unfolding fresh
    pool_is =
        stored_there
        ∙ same_store a (zero_words w) t (zero_words (record_words * s)) arena_length table_length first
        ∙ sym (ap (λ (o : machine.Outcome). o.pool) (format_done_lem tree_engine (zeros w s) first accepts).1)

    pub opens : opened w s first ns ≡ served (serving (tree_pool d.head b u)) (line_of 80 ns)
    unfolding opened
    opens =
        rw (of_le w 8192 h, accepts) (ap (λ (q : Pool). served (serving q) (line_of 80 ns)) (sym pool_is))

    pub opens_sound : sound tree_engine (tree_pool d.head b u) ≡ true
    unfolding fresh
    opens_sound =
        ap (sound tree_engine) pool_is ∙ (tree_demand2.formats (zeros w s) first accepts).0
