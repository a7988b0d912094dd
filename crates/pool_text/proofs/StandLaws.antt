-- The session after a line, as the meaning has it. Assumes nothing.
use Prim.Native.Nat.{ℕ, ◌*◌, ◌≤◌}
use native.Mathlib.Omega.{arith}
use mathlib.Core.Path.{◌≡◌, sym, ap, subst}
use mathlib.Core.Bool.{true, ◌&&◌}
use mathlib.Core.List.{[]}
use lib.Dec.{leb}
use lib.ListN.{length, take}
use Rattle.std.specs.Prelude.{Option}
use Rattle.words.specs.Lists.{Words}
use Rattle.words.proofs.Tests.{and_l, and_r, and_i, le_of, of_le}
use Rattle.ledger.specs.Records.{record_words}
use Rattle.calls.specs.Pool.{most_records, sound}
use Rattle.calls.specs.Step.{pool_after}
use Rattle.calls.specs.Engines.{tree_engine}
use Rattle.calls.proofs.Engines.{tree_laws}
use Rattle.call_parts.specs.Results.{Result, acted}
use Rattle.call_parts.proofs.ResultLaws.{acted_sound}
use Rattle.call_parts.specs.declared.Outcome.{Outcome}
use Rattle.tree_check.specs.declared.Head.{Head}
use Rattle.tree_requests.specs.Outcomes.{handed}
use Rattle.text.specs.Numbers.{Bytes}
use Rattle.text.specs.Fields.{Wrote}
use Rattle.text.specs.Lines.{Served}
use Rattle.session.specs.declared.LineRequest.{LineRequest}
use Rattle.pool_text.specs.declared.Own.{Own}
use Rattle.pool_text.specs.declared.Stage.{Stage}
use Rattle.pool_text.specs.declared.Stage.TheVariants.{Before, Serving, Stopped}
use Rattle.session.specs.Meaning.{Standing, serving, stopped, served, serve, act_line}
use Rattle.session.specs.Meaning.{act_of, request_of, answer_line, refusal_line}
use Rattle.pool_text.specs.Session.{own_pool, standing_of, ready, Lent, Became, Came}

-- what is known of a session with a pool
module _ (o : Own) (a t : Words) (l : Lent (Serving o) a t) where
  pub arena_lies : o.words ≤ length a
  arena_lies = le_of o.words (length a) (and_l _ _ (and_l _ _ l.2))

  pub table_lies : record_words * o.slots ≤ length t
  table_lies = le_of (record_words * o.slots) (length t) (and_r (leb o.words (length a)) _ (and_l _ _ l.2))

  pub own_sound : sound tree_engine (own_pool o a t) ≡ true
  own_sound = and_r (leb o.words (length a) && leb (record_words * o.slots) (length t)) _ l.2

-- before P there is room for the largest pool
module _ (a t : Words) (l : Lent Before a t) where
  pub lent_whole : (length a ≡ 8192) × (length t ≡ most_records * record_words)
  lent_whole =
      let low = le_of 8192 (length a) (and_l _ _ l.2) in
      let few = le_of (most_records * record_words) (length t) (and_r (leb 8192 (length a)) _ l.2) in
      (omega (arith, l.0), omega (arith, l.1))

  pub lent_same : (b u : Words) → length b ≡ length a → length u ≡ length t → Lent Before b u
  lent_same b u lb lu = rw (lb, lu) l

pub lent_own : (o : Own) (a t : Words) → length a ≤ 8192 → length t ≤ most_records * record_words → o.words ≤ length a
    → record_words * o.slots ≤ length t → sound tree_engine (own_pool o a t) ≡ true → Lent (Serving o) a t
lent_own o a t la lt ha ht ok = (
  la,
  lt,
  and_i (leb o.words (length a) && leb (record_words * o.slots) (length t)) _
      (and_i _ _ (of_le o.words (length a) ha) (of_le (record_words * o.slots) (length t) ht)) ok,
)

-- what came of a line, where its meaning is said otherwise
pub became_as : {m n : Served Standing} → m ≡ n → (s : Stage) (a t : Words) (out left : Bytes) (at r : ℕ)
    → Became s a t m out left at r → Became s a t n out left at r
became_as e s a t out left at r b = subst (λ (x : Served Standing). Became s a t x out left at r) e b

pub came_as : {m n : Served Standing} → m ≡ n → (s : Stage) (a t : Words) (said : Bytes) → Came s a t m said → Came s a t n said
came_as e s a t said b = subst (λ (x : Served Standing). Came s a t x said) e b

-- stopped, with N and a number
pub came_stopped : (s : Stage) (a t : Words) (said : Bytes) (n : ℕ) → s ≡ Stopped → length a ≤ 8192
    → length t ≤ most_records * record_words → said ≡ refusal_line n → Came s a t (served stopped (refusal_line n)) said
came_stopped s a t said n e la lt w =
    ((la, lt, ap (λ (x : Stage). ready x a t) e), ap (λ (x : Stage). standing_of x a t) e, w)

-- a request served: what was asked of the pool before, and the words before and after
module _ (o : Own) (a t b u line : Bytes) (q : Option LineRequest) (d : Outcome Head) (asked : q ≡ request_of line)
    (e : handed d (take o.words b) (take (record_words * o.slots) u) [] ≡ acted tree_engine (act_of q) (own_pool o a t)) where
  abbrev own : Own
  own = record { head = d.head; words = o.words; slots = o.slots }

  pool_after_lem : own_pool own b u ≡ pool_after tree_engine (own_pool o a t) (act_of q)
  pool_after_lem = ap (λ (x : Result). x.pool) e

  request_lent : Lent (Serving o) a t → length b ≡ length a → length u ≡ length t → Lent (Serving own) b u
  request_lent l lb lu =
      lent_own own b u (omega (arith, lb, l.0)) (omega (arith, lu, l.1))
      (subst (λ (n : ℕ). o.words ≤ n) (sym lb) (arena_lies o a t l))
      (subst (λ (n : ℕ). record_words * o.slots ≤ n) (sym lu) (table_lies o a t l))
      (acted_sound tree_engine tree_laws (own_pool o a t) (act_of q) (own_pool own b u) pool_after_lem (own_sound o a t l))

  asked_line : act_line (own_pool o a t) (act_of q) ≡ serve (standing_of (Serving o) a t) line
  unfolding serve
  asked_line = ap (λ (r : Option LineRequest). act_line (own_pool o a t) (act_of r)) asked

  pub became_served : (out left : Bytes) (at r : ℕ) → Lent (Serving o) a t → length b ≡ length a → length u ≡ length t
      → Wrote out left at r (answer_line d.answer)
      → Became (Serving own) b u (serve (standing_of (Serving o) a t) line) out left at r
  became_served out left at r l lb lu w =
      became_as asked_line (Serving own) b u out left at r (
        request_lent l lb lu,
        ap serving pool_after_lem,
        subst (λ (x : Result). Wrote out left at r (answer_line x.answer)) e w,
      )
