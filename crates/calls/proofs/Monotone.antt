-- 02, ticket 14, for any engine: the lowest fit is no higher where more units are free, and for fewer units. Assumes
-- nothing.
use Prim.Native.Nat.{ℕ, ◌/◌, ◌≤◌}
use native.Mathlib.Omega.{arith}
use mathlib.Core.Path.{◌≡◌, refl, sym, ap, ◌∙◌}
use mathlib.Core.Bool.{true, false, ◌||◌, true≢false}
use lib.Dec.{eqb, ltb}
use Rattle.words.proofs.Tests.{false_of, or_l, or_r, eqb_eq, eqb_ne, eqb_false, not_lt, of_ge}
use Rattle.ledger.specs.declared.Rule.{Rule}
use Rattle.ledger.specs.Records.{is_party, full}
use Rattle.ledger.specs.Units.{span, address_at, free, lowest_fit}
use Rattle.ledger.proofs.FitLaws.{fit_mono}
use Rattle.ledger.proofs.UnitLaws.{units_mono, span_mono, address_mono}
use Rattle.calls.specs.declared.Answer.{Answer}
use Rattle.calls.specs.Pool.{Pool, ledger, word_count, Engine, Laws, rule_of, sound}
use Rattle.calls.specs.Step.{allocate, ask, success, accepted, fit_of, new_row, number_of, Outcome, acts_done, step}
use Rattle.calls.specs.Monotone.{Freer, NoHigher, Monotone}
use Rattle.calls.proofs.ActLaws.{Asked, ask_zero, ask_done, act_accepted}
use Rattle.calls.proofs.GateLaws.{Way, stops, runs, way, perform_acts, sound_gate, step_sound}
use Rattle.calls.proofs.RowLaws.{record_test, ticket_test}

module _ (E : Engine) where
  -- a grant says that the pool is sound, and that the request passed every test of its rows
  record GrantedAt (p : Pool) (c n k : ℕ) (x : Answer) : Type 0 where
    is_sound : sound E p ≡ true
    asked : Asked E p c n k
    address : x.address ≡ address_at (rule_of E p) k

  granted_at : (p : Pool) (c n : ℕ) → accepted (step E (allocate c n) p).answer ≡ true
      → (k : ℕ) × GrantedAt p c n k (step E (allocate c n) p).answer
  unfolding acts_done
  granted_at p c n h = go (step E (allocate c n) p) (way E (allocate c n) p) h
    where
      go : (o : Outcome) → Way E (allocate c n) p o → accepted o.answer ≡ true
          → (k : ℕ) × GrantedAt p c n k o.answer
      go o (stops x e z is) h = absurd (z (eqb_eq x 0 (ap (λ (o : Outcome). accepted o.answer) (sym is) ∙ h)))
      go o (runs g is) h =
          let done : o ≡ acts_done E (allocate c n) p = is ∙ perform_acts E (allocate c n) p refl in
          let zero = eqb_eq (number_of E p (ask c n)) 0
          (sym (act_accepted E p (ask c n)) ∙ ap (λ (o : Outcome). accepted o.answer) (sym done) ∙ h) in
          let (k, asked) = ask_zero E p c n zero in (
            k,
            record {
              is_sound = (sound_gate E (allocate c n) p refl g).0;
              asked = asked;
              address = ap (λ (o : Outcome). o.answer.address) done
                  ∙ ap (λ (x : Answer). x.address) (ask_done E p c n k asked).0;
            },
          )

  asked_granted : (q : Pool) → sound E q ≡ true → (c n k : ℕ) → Asked E q c n k
      → (step E (allocate c n) q).answer ≡ success (new_row E q c n k)
  unfolding acts_done
  asked_granted q ok c n k asked =
      ap (λ (o : Outcome). o.answer) (step_sound E (allocate c n) q refl refl ok asked.party) ∙ (ask_done E q c n k asked).0

  -- a size that passes, and a smaller one
  size_less : (l n m : ℕ) → 1 ≤ m → m ≤ n → (eqb n 0 || ltb l n) ≡ false → (eqb m 0 || ltb l m) ≡ false
  size_less l n m one less h =
      let top = not_lt l n (or_r (eqb n 0) (ltb l n) h) in
      rw (eqb_ne m 0 (omega arith), of_ge l m (omega arith))

  freer_self : (p : Pool) (c n k : ℕ) → sound E p ≡ true → Asked E p c n k → Freer E p p
  freer_self p c n k ok asked = record {
    is_sound = ok;
    slot = λ h. true≢false (sym ((record_test p).1 h) ∙ asked.slot);
    ticket = λ h. true≢false (sym ((ticket_test p).1 h) ∙ asked.ticket);
    form = refl;
    size = omega arith;
    units = λ u l h. h;
  }

  module _ (laws : Laws E) (p q : Pool) (freer : Freer E p q) (c d n m : ℕ) (party : is_party d ≡ true)
      (one : 1 ≤ m) (less : m ≤ n) where
    rule : rule_of E p ≡ rule_of E q
    rule = ap (λ (f : Rule × ℕ). f.0) freer.form

    -- no more words than p grants pass the tests in q, at no higher unit
    asked_there : (k : ℕ) → Asked E p c n k → (j : ℕ) × (j ≤ k) × Asked E q d m j
    unfolding fit_of
    asked_there k asked =
        let ρ = rule_of E p in
        let there = free (rule_of E q) (ledger q) in
        let limit = ap (λ (f : Rule × ℕ). f.1) freer.form in
        let (j, low, fit) =
        fit_mono (free ρ (ledger p)) there (word_count p / ρ.unit) (word_count q / ρ.unit) (span ρ n) (span ρ m) k
        freer.units
        (units_mono ρ (laws.unit p.shape) (word_count p) (word_count q) freer.size)
        (span_mono ρ (laws.unit p.shape) m n less) asked.fit in (
          j,
          low,
          record {
            party = party;
            size = ap (λ (l : ℕ). eqb m 0 || ltb l m) (sym limit)
                ∙ size_less (E.limit p.shape) n m one less asked.size;
            slot = false_of (full (ledger q)) (λ h. freer.slot ((record_test q).0 h));
            ticket = false_of (eqb q.head.next 0) (λ h. freer.ticket ((ticket_test q).0 h));
            fit = ap (λ (r : Rule). lowest_fit there (word_count q / r.unit) (span r m)) (sym rule) ∙ fit;
          },
        )

    no_higher : NoHigher (step E (allocate c n) p).answer (step E (allocate d m) q).answer
    no_higher h =
        let (k, g) = granted_at p c n h in
        let (j, low, asked) = asked_there k g.asked in
        let answer = asked_granted q freer.is_sound d m j asked in
        let there : (step E (allocate d m) q).answer.address ≡ address_at (rule_of E p) j =
        ap (λ (x : Answer). x.address) answer ∙ ap (λ (r : Rule). address_at r j) (sym rule) in (
          ap accepted answer,
          omega (arith, address_mono (rule_of E p) j k low, g.address, there),
        )

pub monotone : (E : Engine) → Laws E → Monotone E
monotone E laws = record {
  more_free = λ p q freer c d n party h.
      let size = (granted_at E p c n h).1.asked.size in
      let some_words = eqb_false n 0 (or_l (eqb n 0) (ltb (E.limit p.shape) n) size) in
      no_higher E laws p q freer c d n n party (omega arith) (omega arith) h;
  fewer_words = λ p c d n m party one less h.
      let (k, g) = granted_at E p c n h in
      no_higher E laws p p (freer_self E p c n k g.is_sound g.asked) c d n m party one less h;
}
