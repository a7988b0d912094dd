-- What one act and one call leave, as far as a sequence of calls needs it. Assumes nothing.
use Prim.Native.Nat.{ℕ}
use mathlib.Core.Path.{◌≡◌, refl, sym, ap, ◌∙◌}
use mathlib.Core.Logic.{◌≢◌}
use mathlib.Core.Bool.{Bool, true, false, cond, ◌&&◌, true≢false, false≢true}
use mathlib.Core.List.{List, [], ◌∷◌}
use lib.Dec.{eqb}
use Rattle.words.specs.Lists.{Words, all}
use Rattle.words.proofs.Tests.{and_i, eqb_false, eqb_ne}
use Rattle.ledger.specs.declared.Row.{Row}
use Rattle.ledger.specs.Records.{row, is_party, Plan, vacate, keep}
use Rattle.calls.specs.Pool.{Pool, ledger, Engine}
use Rattle.calls.specs.Step.{Call, format, copy, single, look, list, refusal, accepted, Act, ask, give, query, cut}
use Rattle.calls.specs.Step.{bad, Kind, plans, reads, others, kind_of, Counted, named, number_of, pool_done, answer_to}
use Rattle.calls.specs.Step.{pool_after, counted_of, pool_after_all, acts_of, buffers_of, fills, own_answer}
use Rattle.calls.specs.Step.{buffers_after, request, requests, party_of, party_given, right_party, partied, refused_by}
use Rattle.calls.proofs.ActLaws.{planned, act_refused, act_accepted, kind_plans}

module _ (E : Engine) where
  -- a refused act leaves the pool as it was
  pub act_kept : (q : Pool) (a : Act) → accepted (answer_to E q a) ≡ false → pool_after E q a ≡ q
  act_kept q a f = (act_refused E q a (eqb_false (number_of E q a) 0 (sym (act_accepted E q a) ∙ f))).1

  -- an act that reads leaves the pool
  pub reads_kept : (q : Pool) (a : Act) → kind_of a ≡ reads → pool_after E q a ≡ q
  unfolding pool_after pool_done
  reads_kept q a k = go a (ap is_reading k)
    where
      is_reading : Kind → Bool
      is_reading (plans x r) = false
      is_reading reads = true
      is_reading others = false

      same : (b : Bool) → cond b q q ≡ q
      same true = refl
      same false = refl

      go : (a : Act) → is_reading (kind_of a) ≡ true → pool_after E q a ≡ q
      go (ask c n) k = absurd (false≢true k)
      go (give r) k = absurd (false≢true k)
      go (query r) k = same (eqb (number_of E q (query r)) 0)
      go (cut r n) k = absurd (false≢true k)
      go bad k = absurd (false≢true k)

  -- a plan for a record that is not there: refused by the number of its name
  pub plan_refused : (q : Pool) (a : Act) (x : Plan) (r : Row) → kind_of a ≡ plans x r → (n : ℕ)
      → named (ledger q) r ≡ n → n ≢ 0 → answer_to E q a ≡ refusal n
  unfolding number_of
  plan_refused q a x r k n e d = ap (answer_to E q) (kind_plans a x r k) ∙ by x
    where
      by : (x : Plan) → answer_to E q (planned x r) ≡ refusal n
      by vacate = (act_refused E q (give r) (λ z. d (sym e ∙ z))).0 ∙ ap refusal e
      by (keep m) =
          let i : number_of E q (cut r m) ≡ n = rw (e, eqb_ne n 0 d) in
          (act_refused E q (cut r m) (λ z. d (sym i ∙ z))).0 ∙ ap refusal i

-- a call that the gate refuses leaves the pool, unless it fills memory anew
pub refused_pool : (E : Engine) (c : Call Words) (q : Pool) (n : ℕ) → fills c ≡ false → (refused_by E c q n).pool ≡ q
refused_pool E (format first) q n f = absurd (true≢false f)
refused_pool E (copy old) q n f = absurd (true≢false f)
refused_pool E (single a) q n f = refl
refused_pool E (look r hold) q n f = refl
refused_pool E (list c rs bs) q n f = refl

-- a call that is refused by its own answer left the pool, if it did its acts
pub own_refused : (E : Engine) (c : Call Words) (q : Pool) → fills c ≡ false
    → accepted (own_answer c (counted_of E q (acts_of c))) ≡ false
    → pool_after_all E q (acts_of c) ≡ q
own_refused E (format first) q h f = absurd (true≢false h)
own_refused E (copy old) q h f = absurd (true≢false h)
own_refused E (single a) q h f = act_kept E q a f
own_refused E (look r hold) q h f = act_kept E q (query r) f
own_refused E (list c rs bs) q h f = absurd (true≢false f)

-- where the call did its acts unaccepted, there was no buffer to write
pub own_buffers : (c : Call Words) (cs : List Counted) → accepted (own_answer c cs) ≡ false
    → buffers_after c cs ≡ buffers_of c
own_buffers (format first) cs f = refl
own_buffers (copy old) cs f = refl
own_buffers (single a) cs f = refl
own_buffers (look r hold) cs f = refl
own_buffers (list c rs bs) cs f = absurd (true≢false f)

-- ---- the party of an act

-- of one that carries out a plan: the party that names the record
pub plan_party : (a : Act) (x : Plan) (r : Row) → kind_of a ≡ plans x r → right_party (party_of a) ≡ is_party r.party
plan_party a x r k = ap (λ (z : Act). right_party (party_of z)) (kind_plans a x r k) ∙ by x
  where
    by : (x : Plan) → right_party (party_of (planned x r)) ≡ is_party r.party
    by vacate = refl
    by (keep n) = refl

-- a party's list asks for that party
pub request_partied : (c k x y z : ℕ) → is_party c ≡ true → partied (request c k x y z) ≡ true
request_partied c k x y z h = go (eqb k 1 && eqb y 0 && eqb z 0) (eqb k 2)
  where
    go : (a b : Bool) → partied (cond a (ask c x) (cond b (give (row x y z c)) bad)) ≡ true
    go true b = h
    go false true = h
    go false false = refl

-- all acts of a call that gives a party have it
pub acts_partied : (c : Call Words) → right_party (party_given c) ≡ true → all partied (acts_of c) ≡ true
acts_partied (format first) h = refl
acts_partied (copy old) h = refl
acts_partied (single a) h = and_i (partied a) true h refl
acts_partied (look r hold) h = and_i (is_party r.party) true h refl
acts_partied (list c rs bs) h = go rs
  where
    go : (rs : Words) → all partied (requests c rs) ≡ true
    go [] = refl
    go (k ∷ []) = refl
    go (k ∷ x ∷ []) = refl
    go (k ∷ x ∷ y ∷ []) = refl
    go (k ∷ x ∷ y ∷ z ∷ more) =
        and_i (partied (request c k x y z)) (all partied (requests c more)) (request_partied c k x y z h) (go more)
