-- Demand 2, proved over any engine that keeps the laws. Assumes nothing.
use Prim.Native.Nat.{ℕ, ◌/◌}
use native.Mathlib.Omega.{arith}
use mathlib.Core.Path.{◌≡◌, refl, sym, ap, ◌∙◌, subst}
use mathlib.Core.Logic.{◌≢◌}
use mathlib.Core.Bool.{true, false, not, ◌&&◌, ◌||◌, and-true}
use mathlib.Core.List.{List, [], ◌∷◌}
use mathlib.Core.Option.{Option, none, some}
use lib.Dec.{eqb, ltb}
use lib.ListN.{get_or}
use Rattle.words.specs.Lists.{Words}
use Rattle.words.proofs.Tests.{eqb_ne, false_of}
use Rattle.ledger.specs.declared.Row.{Row}
use Rattle.ledger.specs.Records.{Ledger, is_party, empty_row, record_of, full, Plan, vacate, keep, Member, member}
use Rattle.ledger.specs.Records.{plan_for, settle}
use Rattle.ledger.specs.Units.{covers, free}
use Rattle.ledger.specs.Runs.{free_runs}
use Rattle.ledger.proofs.RecordLaws.{record_kept}
use Rattle.ledger.proofs.UnitLaws.{covers_empty, free_enter, free_settle, valid_settle}
use Rattle.ledger.proofs.RunLaws.{runs_are}
use Rattle.calls.specs.Pool.{store, Pool, ledger, word_count, Engine, Laws, next_after, rule_of}
use Rattle.calls.specs.Pool.{sound}
use Rattle.calls.specs.Step.{Call, format, success, zero_answer, refusal, accepted, Act, ask, give, query}
use Rattle.calls.specs.Step.{Outcome, fit_of, number_of, new_row, grant, carry, answer_done, answer_to}
use Rattle.calls.specs.Step.{pool_after, pool_after_all, acts_of, fills, blank, acts_done}
use Rattle.calls.specs.Step.{step}
use Rattle.calls.specs.Demand1.{BadSize, NoRecord, NoTicket, NoRoom}
use Rattle.calls.specs.Demand2.{LowestFit, Granted, Released, Names, Spares, Untouched, Throughout, Demand2}
use Rattle.calls.proofs.StoreLaws.{ledger_store, next_store, words_store, sound_valid, settled_sound}
use Rattle.calls.proofs.StoreLaws.{blank_sound}
use Rattle.calls.proofs.RowLaws.{size_test, record_test, ticket_test, fit_found, found_fit, room_test}
use Rattle.calls.proofs.ActLaws.{named_right, named_zero, Asked, act_done, act_refused, ask_done, plan_done}
use Rattle.calls.proofs.ActLaws.{planned, act_accepted, act_by}
use Rattle.calls.proofs.GateLaws.{Way, stops, runs, way, perform_acts, format_done_lem}
use Rattle.calls.proofs.CallLaws.{reads_kept, refused_pool}
use Rattle.calls.proofs.GrantLaws.{entered, on_arena, zeroed, length_zeroed, grant_store, grant_valid, grant_sound}
use Rattle.calls.proofs.GrantLaws.{grant_zeros, zeroed_keeps, grant_holds}
use Rattle.calls.proofs.HeldLaws.{block_kept}
use Rattle.calls.proofs.TrimLaws.{trims_at, trims_only, keeps_all_lem}
use Rattle.calls.proofs.Demand1.{act_numbers}

-- r is a live record of p
abbrev Held : Pool → Row → Type 0
Held p r = record_of r.ticket (ledger p) ≡ some r

module _ (E : Engine) (laws : Laws E) where
  -- ---- a grant

  grants_at : (p : Pool) → sound E p ≡ true → (c n k : ℕ) → Asked E p c n k → Granted E p c n k
  grants_at p ok c n k asked =
      let ρ = rule_of E p in
      let L = entered E p c n k in
      let next = next_after p.head.next in
      let below = on_arena p (zeroed E p c n k) in
      let (x, y) = ask_done E p c n k asked in
      let done = y ∙ grant_store E p c n k in
      let holds = ap (λ (q : Pool). ledger q) done ∙ ledger_store E L next below in
      record {
        answer = x;
        holds = holds;
        next = ap (λ (q : Pool). q.head.next) done ∙ next_store E L next below;
        units = λ u.
            ap (λ (M : Ledger). free ρ M u) holds ∙ free_enter ρ (new_row E p c n k) (ledger p) asked.slot u;
        zeros = λ i a b. ap (λ (q : Pool). get_or q.arena i 0) y ∙ grant_zeros E laws p ok c n k asked i a b;
      }

  -- every test of the rows fails
  asked_of : (p : Pool) (c n k : ℕ) → is_party c ≡ true → (BadSize E p n → ⊥) → (NoRecord p → ⊥) → (NoTicket p → ⊥)
      → LowestFit E p n k → Asked E p c n k
  asked_of p c n k party size slot ticket fit =
      record {
        party = party;
        size = false_of (eqb n 0 || ltb (E.limit p.shape) n) (λ h. size ((size_test E p n).0 h));
        slot = false_of (full (ledger p)) (λ h. slot ((record_test p).0 h));
        ticket = false_of (eqb p.head.next 0) (λ h. ticket ((ticket_test p).0 h));
        fit = found_fit E p n k fit;
      }

  fit_some : (p : Pool) (n : ℕ) → (NoRoom E p n → ⊥) → (k : ℕ) × LowestFit E p n k
  fit_some p n h = go (fit_of E p n) refl
    where
      go : (o : Option ℕ) → fit_of E p n ≡ o → (k : ℕ) × LowestFit E p n k
      go none e = absurd (h ((room_test E p n).0 e))
      go (some k) e = (k, fit_found E p n k e)

  no_room_lem : (p : Pool) → sound E p ≡ true → (c n : ℕ) → is_party c ≡ true
      → (BadSize E p n → ⊥) → (NoRecord p → ⊥) → (NoTicket p → ⊥)
      → NoRoom E p n → answer_to E p (ask c n) ≡ refusal 5
  no_room_lem p ok c n party size slot ticket room =
      let five = ((act_numbers E laws p (ask c n) ok).1 party).five.1 (size, slot, ticket, room) in
      (act_refused E p (ask c n) (λ z. omega arith)).0 ∙ ap refusal five

  -- ---- a release

  releases_at : (p : Pool) → sound E p ≡ true → (r : Row) → Held p r → Released E p r
  releases_at p ok r e =
      let ρ = rule_of E p in
      let L = settle (member r.ticket vacate ∷ []) (ledger p) in
      let next = p.head.next in
      let good = sound_valid E laws p ok in
      let (x, y) = plan_done E p vacate r e refl in
      let none_kept : (u : ℕ) → covers ρ u empty_row ≡ false = λ u. covers_empty ρ u empty_row refl in
      let holds = ap (λ (q : Pool). ledger q) y ∙ ledger_store E L next p in
      record {
        answer = x;
        holds = holds;
        next = ap (λ (q : Pool). q.head.next) y ∙ next_store E L next p;
        units = λ u.
            ap (λ (M : Ledger). free ρ M u) holds
            ∙ free_settle ρ (laws.unit p.shape) (word_count p) next (ledger p) good r.ticket vacate r e u
            ∙ ap (λ b. free ρ (ledger p) u || (covers ρ u r && not b)) (none_kept u)
            ∙ ap (λ b. free ρ (ledger p) u || b) (and-true (covers ρ u r));
      }

  releases_only : (p : Pool) (r : Row) → (Held p r → ⊥)
      → accepted (answer_to E p (give r)) ≡ false
  unfolding number_of
  releases_only p r h =
      act_accepted E p (give r)
      ∙ eqb_ne (number_of E p (give r)) 0 (λ z. h (named_zero (ledger p) r z))

  finds_at : (p : Pool) → sound E p ≡ true → (r : Row) → Held p r
      → (answer_to E p (query r) ≡ success r) × (pool_after E p (query r) ≡ p)
  unfolding number_of answer_done
  finds_at p ok r e = ((act_done E p (query r) (named_right (ledger p) r e)).0, reads_kept E p (query r) refl)

  -- ---- an act, and every pool that it leaves

  pub act_sound : (p : Pool) (a : Act) → sound E p ≡ true → sound E (pool_after E p a) ≡ true
  act_sound =
      act_by E (λ p a q. sound E p ≡ true → sound E q ≡ true)
      (λ p a ok. ok)
      (λ p c n k asked ok. grant_sound E laws p ok c n k asked)
      (λ p x r e h ok. settled_sound E laws p ok (member r.ticket x ∷ []))

  acts_sound : (acts : List Act) (p : Pool) → sound E p ≡ true → Throughout E p acts
  acts_sound [] p ok = ok
  acts_sound (a ∷ more) p ok = (ok, acts_sound more (pool_after E p a) (act_sound p a ok))

  pub act_shape : (p : Pool) (a : Act) → (pool_after E p a).shape ≡ p.shape
  unfolding grant store
  act_shape = act_by E (λ p a q. q.shape ≡ p.shape) (λ p a. refl) (λ p c n k asked. refl)
      (λ p x r e h. refl)

  format_sound : (p : Pool) (first : ℕ) → accepted (step E (format first) p).answer ≡ true
      → sound E (step E (format first) p).pool ≡ true
  format_sound p first h =
      let (right, made) = format_done_lem E p first h in
      ap (λ (o : Outcome). sound E o.pool) made ∙ blank_sound E laws p first right

  -- ---- a held block

  untouched_same : (p : Pool) (r : Row) → Held p r → Untouched E p p r
  untouched_same p r e = record { holds = e; words = λ i a b. refl }

  untouched_then : (p q s : Pool) (r : Row) → q.shape ≡ p.shape → Untouched E p q r → Untouched E q s r
      → Untouched E p s r
  untouched_then p q s r e u v =
      record { holds = v.holds; words = λ i a b. v.words i (rw e a) (rw e b) ∙ u.words i a b }

  grant_spares : (p : Pool) → sound E p ≡ true → (c n k : ℕ) → Asked E p c n k
      → (r : Row) → Held p r → Untouched E p (grant E p c n k) r
  grant_spares p ok c n k asked r e =
      subst (λ (q : Pool). Untouched E p q r) (sym (grant_store E p c n k))
      (block_kept E laws p ok (zeroed E p c n k) (length_zeroed E p c n k) (entered E p c n k) (next_after p.head.next)
      (grant_valid E laws p ok c n k asked) r e (grant_holds E laws p ok c n k asked r e)
      (zeroed_keeps E laws p ok c n k asked))

  plan_spares : (p : Pool) → sound E p ≡ true → (t : ℕ) (x : Plan) (r : Row) → Held p r
      → t ≢ r.ticket → Untouched E p (carry E p t x) r
  plan_spares p ok t x r e d =
      let ms : List Member = member t x ∷ [] in
      let other : plan_for r.ticket ms ≡ none = rw (eqb_ne t r.ticket d) in
      block_kept E laws p ok p.arena refl (settle ms (ledger p)) p.head.next
      (valid_settle (rule_of E p) (laws.unit p.shape) (word_count p) p.head.next ms (ledger p) (sound_valid E laws p ok)) r e
      (record_kept r.ticket ms other (ledger p) ∙ e) (λ i h. refl)

  act_spares : (p : Pool) (a : Act) → sound E p ≡ true → (r : Row) → Held p r
      → (Names r a → ⊥) → Untouched E p (pool_after E p a) r
  act_spares p a ok r e =
      act_by E (λ p a q. sound E p ≡ true → Held p r → (Names r a → ⊥) → Untouched E p q r)
      (λ p a ok e names. untouched_same p r e)
      (λ p c n k asked ok e names. grant_spares p ok c n k asked r e)
      (λ p x s f h ok e names. plan_spares p ok s.ticket x r e (λ t. names (named_so x s (one_record p s f e t))))
      p a ok e
    where
      named_so : (x : Plan) (s : Row) → s ≡ r → Names r (planned x s)
      named_so vacate s e = e
      named_so (keep n) s e = e

      -- a ticket has one record
      one_record : (p : Pool) (s : Row) → Held p s → Held p r → s.ticket ≡ r.ticket → s ≡ r
      one_record p s f e t = let g = ap (λ k. record_of k (ledger p)) t in cc

  acts_spare : (acts : List Act) (p : Pool) → sound E p ≡ true → (r : Row) → Held p r
      → Spares r acts → Untouched E p (pool_after_all E p acts) r
  acts_spare [] p ok r e s = untouched_same p r e
  acts_spare (a ∷ more) p ok r e s =
      let q = pool_after E p a in
      let u = act_spares p a ok r e s.0 in
      untouched_then p q (pool_after_all E q more) r (act_shape p a) u
      (acts_spare more q (act_sound p a ok) r u.holds s.1)

  call_spares : (p : Pool) (c : Call Words) → sound E p ≡ true → fills c ≡ false → (r : Row)
      → Held p r → Spares r (acts_of c) → Untouched E p (step E c p).pool r
  unfolding acts_done
  call_spares p c ok f r e s = go (step E c p) (way E c p)
    where
      left : (q z : Pool) → q ≡ z → Untouched E p z r → Untouched E p q r
      left q z x u = subst (λ (y : Pool). Untouched E p y r) (sym x) u

      go : (o : Outcome) → Way E c p o → Untouched E p o.pool r
      go o (stops n g y q) =
          left o.pool p (ap (λ (z : Outcome). z.pool) q ∙ refused_pool E c p n f) (untouched_same p r e)
      go o (runs g q) =
          left o.pool (pool_after_all E p (acts_of c)) (ap (λ (z : Outcome). z.pool) (q ∙ perform_acts E c p f))
          (acts_spare (acts_of c) p ok r e s)

module _ (E : Engine) (laws : Laws E) where
  format_blank : (p : Pool) (first : ℕ) → accepted (step E (format first) p).answer ≡ true
      → (ledger (step E (format first) p).pool ≡ blank E p) × ((step E (format first) p).pool.head.next ≡ first)
      × ((step E (format first) p).answer ≡ zero_answer)
  format_blank p first h =
      let made = (format_done_lem E p first h).1 in (
        ap (λ (o : Outcome). ledger o.pool) made ∙ ledger_store E (blank E p) first p,
        ap (λ (o : Outcome). o.pool.head.next) made ∙ next_store E (blank E p) first p,
        ap (λ (o : Outcome). o.answer) made,
      )

  count_kept : (p : Pool) (a : Act) → word_count (pool_after E p a) ≡ word_count p
  count_kept =
      act_by E (λ p a q. word_count q ≡ word_count p) (λ p a. refl)
      (λ p c n k asked. ap (λ (q : Pool). word_count q) (grant_store E p c n k)
      ∙ words_store E (entered E p c n k) (next_after p.head.next) (on_arena p (zeroed E p c n k)) ∙ length_zeroed E p c n k)
      (λ p x r e h. words_store E (settle (member r.ticket x ∷ []) (ledger p)) p.head.next p)

pub demand2 : (E : Engine) → Laws E → Demand2 E
unfolding free_runs
demand2 E laws =
    record {
      grants = λ p ok c n party size slot ticket k fit.
          grants_at E laws p ok c n k (asked_of E laws p c n k party size slot ticket fit);
      fit = fit_some E laws;
      refuses = no_room_lem E laws;
      releases = releases_at E laws;
      others = releases_only E laws;
      trims = λ p ok r n e h. trims_at E laws p ok r e n h;
      other_trims = trims_only E;
      keeps_all = keeps_all_lem E laws;
      finds = finds_at E laws;
      stays = act_sound E laws;
      throughout = λ p c. acts_sound E laws (acts_of c) p;
      formats = λ p first h. let (holds, next, answer) = format_blank E laws p first h in
          (format_sound E laws p first h, holds, next, answer);
      keeps = λ p a. (count_kept E laws p a, act_shape E laws p a);
      merged = λ p. runs_are (free (rule_of E p) (ledger p)) (word_count p / (rule_of E p).unit);
      spares = act_spares E laws;
      spares_call = call_spares E laws;
    }
