-- What a trim leaves (02, ticket 13): exactly the units beyond the kept words' rounding become free, and the kept words
-- stay. Assumes nothing.
use Prim.Native.Nat.{ℕ, zero, suc, ◌+◌, ◌≤◌, ◌<◌}
use native.Mathlib.Nat.{le_of_suc-le-suc}
use native.Mathlib.Omega.{arith}
use native.Mathlib.Decide.{ℕ_discrete}
use mathlib.Core.Path.{◌≡◌, refl, sym, ap, ◌∙◌}
use mathlib.Core.Logic.{◌≢◌}
use mathlib.Core.Bool.{Bool, true, false, ◌||◌}
use mathlib.Core.List.{List, [], ◌∷◌}
use mathlib.Core.Option.{some}
use lib.ListN.{length, get_or, set}
use Rattle.words.specs.Counted.{within}
use Rattle.words.proofs.Tests.{of_le, eqb_same, eqb_ne}
use Rattle.ledger.specs.declared.Row.{Row}
use Rattle.ledger.specs.declared.Rule.{Rule}
use Rattle.ledger.specs.Records.{Ledger, empty_row, record_of, keep, keepable, shortened, carry_out, member, settle}
use Rattle.ledger.specs.Units.{span, first, past, free, valid}
use Rattle.ledger.proofs.RecordLaws.{record_slot, record_ticket, settle_slot, record_settled}
use Rattle.ledger.proofs.UnitLaws.{Fitted, valid_apart, valid_record, free_settle, owned_in}
use Rattle.ledger.proofs.RunLaws.{freed_tail, kept_few}
use Rattle.calls.specs.Pool.{Pool, ledger, word_count, Engine, Laws, rule_of, store, sound}
use Rattle.calls.specs.Step.{success, told, refusal, accepted, query, cut, named, number_of, carry, answer_done}
use Rattle.calls.specs.Step.{pool_done, answer_to, pool_after}
use Rattle.calls.specs.Demand2.{Trimmed}
use Rattle.calls.proofs.StoreLaws.{ledger_store, next_store, store_keeps, sound_valid, is_store}
use Rattle.calls.proofs.ActLaws.{named_right, named_zero, act_done, act_refused, act_accepted, plan_done, cut_zero}

same_slot : (L : Ledger) (i : ℕ) → i < length L → set L i (get_or L i empty_row) ≡ L
same_slot [] i h = refl
same_slot (r ∷ L) zero h = refl
same_slot (r ∷ L) (suc i) h = ap (λ (M : Ledger). r ∷ M) (same_slot L i (le_of_suc-le-suc h))

module _ (E : Engine) (laws : Laws E) (p : Pool) (ok : sound E p ≡ true) (r : Row)
    (held : record_of r.ticket (ledger p) ≡ some r) where
  abbrev ρ : Rule
  ρ = rule_of E p

  good : valid ρ (word_count p) p.head.next (ledger p) ≡ true
  good = sound_valid E laws p ok

  facts : Fitted ρ (word_count p) p.head.next r
  facts = valid_record ρ (laws.unit p.shape) (word_count p) p.head.next (ledger p) good r.ticket r held

  all_keepable : keepable r.words r ≡ true
  all_keepable = rw (of_le 1 r.words facts.asked, of_le r.words r.words (omega arith))

  keep_same : settle (member r.ticket (keep r.words) ∷ []) (ledger p) ≡ ledger p
  keep_same =
      let (i, l, q) = record_slot r.ticket (ledger p) r held in
      let (z, e) = record_ticket r.ticket (ledger p) r held in
      settle_slot ρ (ledger p) i r.ticket (keep r.words)
      (valid_apart ρ (word_count p) p.head.next (ledger p) good) l z (ap (λ (s : Row). s.ticket) q)
      ∙ ap (λ (s : Row). set (ledger p) i (carry_out (keep r.words) s)) q
      ∙ rw all_keepable (ap (set (ledger p) i) (sym q) ∙ same_slot (ledger p) i l)

  keeps_held : (answer_to E p (cut r r.words) ≡ success r) × (pool_after E p (cut r r.words) ≡ p)
  keeps_held =
      let (x, y) = plan_done E p (keep r.words) r held all_keepable in
      (x, y ∙ ap (λ (L : Ledger). store E L p.head.next p) keep_same ∙ sym (is_store E laws p ok))

  module _ (n : ℕ) (suit : keepable n r ≡ true) where
    did : (answer_to E p (cut r n) ≡ told (keep n) r) × (pool_after E p (cut r n) ≡ carry E p r.ticket (keep n))
    did = plan_done E p (keep n) r held suit

    abbrev rest : Ledger
    rest = settle (member r.ticket (keep n) ∷ []) (ledger p)

    holds : ledger (pool_after E p (cut r n)) ≡ rest
    holds = ap (λ (q : Pool). ledger q) did.1 ∙ ledger_store E rest p.head.next p

    now_reads : record_of r.ticket rest ≡ some (shortened n r)
    now_reads =
        record_settled r.ticket (member r.ticket (keep n) ∷ []) (ledger p)
        ∙ rw (eqb_same r.ticket, held, suit)

    pub trims_at : Trimmed E p r n
    unfolding past first
    trims_at =
        let pos = laws.unit p.shape in
        let few = kept_few ρ pos (keep n) r suit in
        record {
          answer = did.0;
          holds = holds;
          reads = ap (λ (L : Ledger). record_of r.ticket L) holds ∙ now_reads;
          next = ap (λ (q : Pool). q.head.next) did.1 ∙ next_store E rest p.head.next p;
          units = λ u.
              ap (λ (L : Ledger). free ρ L u) holds
              ∙ free_settle ρ pos (word_count p) p.head.next (ledger p) good r.ticket (keep n) r held u
              ∙ ap (λ b. free ρ (ledger p) u || b)
              (freed_tail ρ pos (keep n) r suit facts.ticket u
              ∙ ap (λ e. within (first ρ r + span ρ n) e u) (omega arith));
          words = λ i a b.
              ap (λ (q : Pool). get_or q.arena i 0) did.1
              ∙ store_keeps E rest p.head.next p i (owned_in ρ rest (shortened n r) now_reads i a b);
        }

-- it is accepted only so
pub trims_only : (E : Engine) (p : Pool) (r : Row) (n : ℕ)
    → (record_of r.ticket (ledger p) ≡ some r → keepable n r ≡ true → ⊥) → accepted (answer_to E p (cut r n)) ≡ false
trims_only E p r n h =
    act_accepted E p (cut r n)
    ∙ eqb_ne (number_of E p (cut r n)) 0 (λ z. let (e, k) = cut_zero E p r n z in h e k)

-- "Keeping everything changes nothing": it answers what a find does
pub keeps_all_lem : (E : Engine) → Laws E → (p : Pool) → sound E p ≡ true → (r : Row)
    → (answer_to E p (cut r r.words) ≡ answer_to E p (query r)) × (pool_after E p (cut r r.words) ≡ p)
unfolding number_of answer_done
keeps_all_lem E laws p ok r = go (ℕ_discrete (named (ledger p) r) 0)
  where
    go : Dec (named (ledger p) r ≡ 0)
        → (answer_to E p (cut r r.words) ≡ answer_to E p (query r)) × (pool_after E p (cut r r.words) ≡ p)
    go (yes z) =
        let (x, y) = keeps_held E laws p ok r (named_zero (ledger p) r z) in
        (x ∙ sym (act_done E p (query r) z).0, y)
    go (no d) =
        let same : number_of E p (cut r r.words) ≡ named (ledger p) r = rw (eqb_ne (named (ledger p) r) 0 d) in
        let (x, y) = act_refused E p (cut r r.words) (λ z. d (sym same ∙ z)) in
        (x ∙ ap refusal same ∙ sym (act_refused E p (query r) d).0, y)
