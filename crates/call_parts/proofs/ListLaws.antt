-- A list call as a loop over its requests: what holds after the first i of them, for any engine. Assumes nothing.
use Prim.Native.Nat.{ℕ, suc, ◌+◌, ◌*◌, ◌<◌}
use native.Mathlib.Numerals.{add-one, add-two, add-three}
use native.Mathlib.Omega.{arith}
use mathlib.Core.Path.{◌≡◌, refl, sym, ap, ap₂, ◌∙◌}
use mathlib.Core.Bool.{true}
use mathlib.Core.List.{List, [], ◌∷◌, ◌++◌, append_assoc, append-nil}
use lib.ListN.{length, get_or, take, drop, length-set, take-append-drop, drop_of_length-le, length-take, length-append}
use lib.Seq.{drop-cons, drop-drop, sets, sets-eq, take_at, drop_at}
use Rattle.words.specs.Lists.{Words}
use Rattle.ledger.specs.Records.{is_party}
use Rattle.calls.specs.declared.Answer.{Answer}
use Rattle.calls.specs.Pool.{Pool, Engine}
use Rattle.calls.specs.Step.{Act, requests, answer_words, answers_of, answer_to, pool_after, counted_of, pool_after_all, partied}
use Rattle.calls.proofs.CallLaws.{request_partied}
use Rattle.call_parts.specs.Parts.{request_at, with_answer}

-- ---- the words of a request and of an answer

requests_from : (c : ℕ) (rs : Words) (i : ℕ) → 4 * i + 3 < length rs
    → requests c (drop (4 * i) rs) ≡ request_at c rs i ∷ requests c (drop (4 * (i + 1)) rs)
requests_from c rs i h =
    let e : 4 * (i + 1) ≡ suc (suc (suc (suc (4 * i)))) = omega arith in
    rw (
      e,
      add-one,
      add-two,
      add-three,
      drop-cons rs (4 * i) 0 (omega arith),
      drop-cons rs (suc (4 * i)) 0 (omega arith),
      drop-cons rs (suc (suc (4 * i))) 0 (omega arith),
      drop-cons rs (suc (suc (suc (4 * i)))) 0 (omega arith),
    )

pub listed_partied : (c : ℕ) (rs : Words) (i : ℕ) → is_party c ≡ true → partied (request_at c rs i) ≡ true
listed_partied c rs i h =
    request_partied c (get_or rs (4 * i) 0) (get_or rs (4 * i + 1) 0) (get_or rs (4 * i + 2) 0) (get_or rs (4 * i + 3) 0) h

abbrev four_words : Answer → Words
four_words x = x.number ∷ x.ticket ∷ x.address ∷ x.words ∷ []

answer_sets : (b : Words) (i : ℕ) (x : Answer) → with_answer b i x ≡ sets b (4 * i) (four_words x)
answer_sets b i x = rw (add-one (4 * i), add-two (4 * i), add-three (4 * i))

module _ (b : Words) (i : ℕ) (x : Answer) (h : 4 * i + 3 < length b) where
  answer_parts : with_answer b i x ≡ take (4 * i) b ++ four_words x ++ drop (4 * i + 4) b
  answer_parts = answer_sets b i x ∙ sets-eq (four_words x) b (4 * i) (omega arith)

  front : length (take (4 * i) b ++ four_words x) ≡ 4 * (i + 1)
  front = simp (length-append, length-take) (omega arith)

  answer_before : take (4 * (i + 1)) (with_answer b i x) ≡ take (4 * i) b ++ four_words x
  answer_before =
      ap (take (4 * (i + 1))) answer_parts
      ∙ take_at (take (4 * i) b ++ four_words x) (drop (4 * i + 4) b) (4 * (i + 1)) front

  answer_beyond : drop (4 * (i + 1)) (with_answer b i x) ≡ drop (4 * (i + 1)) b
  answer_beyond =
      let e : 4 * i + 4 ≡ 4 * (i + 1) = omega arith in
      ap (drop (4 * (i + 1))) answer_parts
      ∙ drop_at (take (4 * i) b ++ four_words x) (drop (4 * i + 4) b) (4 * (i + 1)) front
      ∙ ap (λ (n : ℕ). drop n b) e

  answer_length : length (with_answer b i x) ≡ length b
  answer_length = simp length-set

-- ---- the loop

-- After the first i requests of rs, party c's list, from the pool p and the buffer bs, the pool is q and the buffer b: what the rest
-- does makes what the whole list does.
pub record Running (E : Engine) (p : Pool) (c : ℕ) (rs bs : Words) (i : ℕ) (q : Pool) (b : Words) : Type 0 where
  pub pool : pool_after_all E q (requests c (drop (4 * i) rs)) ≡ pool_after_all E p (requests c rs)
  pub answers : take (4 * i) b ++ answer_words (answers_of (counted_of E q (requests c (drop (4 * i) rs))))
      ≡ answer_words (answers_of (counted_of E p (requests c rs)))
  pub beyond : drop (4 * i) b ≡ drop (4 * i) bs
  pub size : length b ≡ length bs

module _ (E : Engine) (p : Pool) (c : ℕ) (rs bs : Words) where
  pub list_start : Running E p c rs bs 0 p bs
  list_start = record { pool = refl; answers = refl; beyond = refl; size = refl }

  pub list_next : (i : ℕ) (q q' : Pool) (b b' : Words) → 4 * i + 3 < length rs → 4 * i + 3 < length b
      → q' ≡ pool_after E q (request_at c rs i) → b' ≡ with_answer b i (answer_to E q (request_at c rs i))
      → Running E p c rs bs i q b → Running E p c rs bs (i + 1) q' b'
  list_next i q q' b b' h k e d v =
      let a = request_at c rs i in
      let x = answer_to E q a in
      let from = requests_from c rs i h in
      let later = requests c (drop (4 * (i + 1)) rs) in
      let seam : 4 * i + 4 ≡ 4 * (i + 1) = omega arith in
      record {
        pool = ap (λ (z : Pool). pool_after_all E z later) e ∙ ap (pool_after_all E q) (sym from) ∙ v.pool;
        answers =
            ap₂ (λ (z : Pool) (y : Words). take (4 * (i + 1)) y ++ answer_words (answers_of (counted_of E z later))) e d
            ∙ ap (λ (y : Words). y ++ answer_words (answers_of (counted_of E (pool_after E q a) later)))
            (answer_before b i x k)
            ∙ append_assoc (take (4 * i) b) (four_words x)
            (answer_words (answers_of (counted_of E (pool_after E q a) later)))
            ∙ ap (λ (l : List Act). take (4 * i) b ++ answer_words (answers_of (counted_of E q l))) (sym from)
            ∙ v.answers;
        beyond =
            ap (drop (4 * (i + 1))) d ∙ answer_beyond b i x k
            ∙ further b i ∙ ap (drop 4) v.beyond ∙ sym (further bs i);
        size = ap length d ∙ answer_length b i x k ∙ v.size;
      }
    where
      further : (y : Words) (i : ℕ) → drop (4 * (i + 1)) y ≡ drop 4 (drop (4 * i) y)
      further y i =
          let e : 4 * (i + 1) ≡ 4 * i + 4 = omega arith in ap (λ (n : ℕ). drop n y) e ∙ sym (drop-drop 4 (4 * i) y)

  pub list_end : (i : ℕ) (q : Pool) (b : Words) → length rs ≡ 4 * i → Running E p c rs bs i q b
      → (q ≡ pool_after_all E p (requests c rs))
      × (b ≡ answer_words (answers_of (counted_of E p (requests c rs))) ++ drop (length rs) bs)
  list_end i q b h v =
      let gone : drop (4 * i) rs ≡ [] = drop_of_length-le rs {i = 4 * i} (omega arith) in
      let none : requests c (drop (4 * i) rs) ≡ [] = ap (requests c) gone in (
        ap (pool_after_all E q) (sym none) ∙ v.pool,
        sym (take-append-drop (4 * i) b)
            ∙ ap₂ (λ (x y : Words). x ++ y)
            (sym (append-nil (take (4 * i) b))
            ∙ ap (λ (l : List Act). take (4 * i) b ++ answer_words (answers_of (counted_of E q l))) (sym none)
            ∙ v.answers)
            (v.beyond ∙ ap (λ (n : ℕ). drop n bs) (sym h)),
      )
