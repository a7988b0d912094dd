-- What the tests of rows 2 to 7 say of records, units and words. 01, "Calls and numbers". Assumes nothing.
use Prim.Native.Nat.{ℕ, zero, suc, ◌/◌, ◌<◌}
use native.Mathlib.Nat.{le_of_suc-le-suc}
use native.Mathlib.Omega.{arith}
use native.Mathlib.Decide.{ℕ_discrete}
use mathlib.Core.Path.{◌≡◌, refl, sym, ap, ◌∙◌, subst}
use mathlib.Core.Logic.{◌≢◌, ◌↔◌, inl, inr, ⊎_elim}
use mathlib.Core.Bool.{and-false, cond, Bool, true, false, not, ◌||◌, true≢false, or-true}
use mathlib.Core.List.{[], ◌∷◌}
use mathlib.Core.Option.{none, some}
use lib.Dec.{eqb, ltb}
use lib.ListN.{length, get_or}
use Rattle.words.specs.Flags.{Says}
use Rattle.words.proofs.ByPlace.{all_of}
use Rattle.words.specs.Lists.{Words, all, pairwise}
use Rattle.words.proofs.Tests.{eqb_ne, absurd_some, and_r, not_true, of_not, eqb_eq, eqb_same, lt_of, of_lt}
use Rattle.words.proofs.ListLaws.{all_get_d, first_that_none}
use Rattle.words.proofs.CountedLaws.{every_at, every_of, every_fails, every_breaks}
use Rattle.ledger.specs.declared.Row.{Row}
use Rattle.ledger.specs.declared.Rule.{Rule}
use Rattle.ledger.specs.Records.{member, vacate, Ledger, record_at, slots, records_of, empty_row, is_empty, is_live}
use Rattle.ledger.specs.Records.{has_ticket, record_of, full}
use Rattle.ledger.specs.Units.{span, apart, valid, free}
use Rattle.ledger.proofs.FitLaws.{fit_lowest, fit_none, fit_is, fit_nothing}
use Rattle.ledger.proofs.RecordLaws.{settle_slot, record_gone, length_records, record_at_lem, has_ticket_lem, record_ticket}
use Rattle.ledger.proofs.RecordLaws.{record_slot}
use Rattle.ledger.proofs.UnitLaws.{valid_apart}
use Rattle.calls.specs.Pool.{Pool, ledger, word_count, Engine, rule_of}
use Rattle.calls.specs.Step.{fit_of}
use Rattle.calls.specs.Demand1.{BadSize, NoRecord, NoTicket, NoRoom, Unknown, Same}
use Rattle.calls.specs.Demand2.{LowestFit}

-- ---- 2, 3 and 4

pub size_test : (E : Engine) (p : Pool) (n : ℕ) → Says (eqb n 0 || ltb (E.limit p.shape) n) (BadSize E p n)
size_test E p n = (
  go (eqb n 0) refl,
  ⊎_elim (λ z. rw z) (λ l. rw (of_lt (E.limit p.shape) n l) (or-true (eqb n 0))),
)
  where
    go : (b : Bool) → eqb n 0 ≡ b → (b || ltb (E.limit p.shape) n) ≡ true → BadSize E p n
    go true e h = inl (eqb_eq n 0 e)
    go false e h = inr (lt_of (E.limit p.shape) n h)

pub record_test : (p : Pool) → Says (full (ledger p)) (NoRecord p)
record_test p = (
  (λ h i l. not_true (is_empty (record_at t i))
      (ap is_live (sym (record_at_lem t i l)) ∙ all_get_d is_live empty_row (ledger p) h i (inside i l))),
  (λ h. all_of is_live empty_row (ledger p)
      (λ i l. ap is_live (record_at_lem t i (below i l)) ∙ of_not (is_empty (record_at t i)) (h i (below i l)))),
)
  where
    t : Words
    t = p.table

    inside : (i : ℕ) → i < slots t → i < length (records_of t)
    inside i l = rw length_records l

    below : (i : ℕ) → i < length (records_of t) → i < slots t
    below i l = rw length_records at l

pub ticket_test : (p : Pool) → Says (eqb p.head.next 0) (NoTicket p)
ticket_test p = (eqb_eq p.head.next 0, λ z. rw z)

-- ---- 5

-- a run of units of which not every one passes has one that does not
module _ (E : Engine) (p : Pool) (n : ℕ) where
  passes : ℕ → Bool
  passes = free (rule_of E p) (ledger p)

  count : ℕ
  count = word_count p / (rule_of E p).unit

  need : ℕ
  need = span (rule_of E p) n

  -- what fit_of finds is the lowest fit, and nothing else is
  pub fit_found : (k : ℕ) → fit_of E p n ≡ some k → LowestFit E p n k
  unfolding fit_of passes count need
  fit_found k e =
      let a = fit_lowest passes count need k e in
      record {
        inside = a.room;
        enough = every_at passes k need a.passes;
        lowest = λ j h. every_fails passes j need (a.least j h);
      }

  pub found_fit : (k : ℕ) → LowestFit E p n k → fit_of E p n ≡ some k
  unfolding fit_of passes count need
  found_fit k l =
      fit_is passes count need k
      (record {
        room = l.inside;
        passes = every_of passes k need l.enough;
        least = λ j h. let (u, b, c, d) = l.lowest j h in every_breaks passes j need u b c d;
      })

  pub room_test : (fit_of E p n ≡ none) ↔ NoRoom E p n
  unfolding fit_of passes count need
  room_test = (
    (λ e k h. every_fails passes k need (fit_none passes count need e k h)),
    (λ h. fit_nothing passes count need (λ k l. let (u, b, c, d) = h k l in every_breaks passes k need u b c d)),
  )

-- ---- 6 and 7

pub unknown_none : (p : Pool) (r : Row) → record_of r.ticket (ledger p) ≡ none → Unknown p r
unknown_none p r e = go (ℕ_discrete r.ticket 0)
  where
    other : r.ticket ≢ 0 → (i : ℕ) → i < slots p.table → (record_at p.table i).ticket ≢ r.ticket
    other z i l q =
        let has : Row → Bool = has_ticket r.ticket in
        let s = get_or (ledger p) i empty_row in
        let none_has = first_that_none has (ledger p) e in
        let not-here = all_get_d (λ s. not (has s)) empty_row (ledger p) none_has i (rw length_records l) in
        let here = (has_ticket_lem r.ticket s).1 (z, ap (λ (s : Row). s.ticket) (record_at_lem p.table i l) ∙ q) in
        true≢false (sym here ∙ not_true (has s) not-here)

    go : Dec (r.ticket ≡ 0) → Unknown p r
    go (yes z) = inl z
    go (no z) = inr (λ i l q. absurd (other z i l q))

-- a ticket with a record of the party that names it
pub known_own : (p : Pool) (r s : Row) → record_of r.ticket (ledger p) ≡ some s → s.party ≡ r.party → Unknown p r → ⊥
known_own p r s e c =
    let (z, q) = record_ticket r.ticket (ledger p) s e in
    let (i, l, x) = record_slot r.ticket (ledger p) s e in
    let below : i < slots p.table = rw length_records at l in
    let here : record_at p.table i ≡ s = sym (record_at_lem p.table i below) ∙ x in
    ⊎_elim z (λ h. h i below (ap (λ (v : Row). v.ticket) here ∙ q) (ap (λ (v : Row). v.party) here ∙ c))

pub record_same : (p : Pool) (r : Row) → record_of r.ticket (ledger p) ≡ some r → Same p r
record_same p r e =
    let (i, l, x) = record_slot r.ticket (ledger p) r e in
    let below : i < slots p.table = rw length_records at l in
    (i, below, sym (record_at_lem p.table i below) ∙ x)

-- no two slots of a valid ledger have the same ticket, so the record of a slot's ticket is the slot's
record_first : (ρ : Rule) (L : Ledger) → pairwise (apart ρ) L ≡ true → (i : ℕ) → i < length L
    → (get_or L i empty_row).ticket ≢ 0 → record_of (get_or L i empty_row).ticket L ≡ some (get_or L i empty_row)
record_first ρ [] h i l z = absurd (omega arith)
record_first ρ (r ∷ L) h zero l z = rw ((has_ticket_lem r.ticket r).1 (z, refl))
record_first ρ (r ∷ L) h (suc i) l z =
    let rest = and_r (all (apart ρ r) L) (pairwise (apart ρ) L) h in
    go (has_ticket t r) refl (record_first ρ L rest i (le_of_suc-le-suc l) z)
  where
    t : ℕ
    t = (get_or L i empty_row).ticket

    -- with r's slot emptied no record has its ticket
    gone : r.ticket ≡ t → record_of t L ≡ none
    gone e =
        let emptied = settle_slot ρ (r ∷ L) 0 t vacate h (omega arith) z e in
        let none_left = record_gone t (member t vacate ∷ []) (rw (eqb_same t)) (r ∷ L) in
        rw (eqb_ne 0 t (λ q. z (sym q)), and-false (not (eqb t 0))) at (ap (record_of t) (sym emptied) ∙ none_left)

    go : (b : Bool) → has_ticket t r ≡ b → record_of t L ≡ some (get_or L i empty_row)
        → cond b (some r) (record_of t L) ≡ some (get_or L i empty_row)
    go false e ih = ih
    go true e ih = absurd (absurd_some (sym (gone ((has_ticket_lem t r).0 e).1) ∙ ih))

pub same_record : (ρ : Rule) (W next : ℕ) (p : Pool) → valid ρ W next (ledger p) ≡ true
    → (r : Row) → r.ticket ≢ 0 → Same p r → record_of r.ticket (ledger p) ≡ some r
same_record ρ W next p good r z (i, l, e) =
    let x : get_or (ledger p) i empty_row ≡ r = record_at_lem p.table i l ∙ e in
    let inside : i < length (ledger p) = rw length_records l in
    let some-ticket : (get_or (ledger p) i empty_row).ticket ≢ 0 = λ y. z (ap (λ (s : Row). s.ticket) (sym x) ∙ y) in
    subst (λ (s : Row). record_of s.ticket (ledger p) ≡ some s) x
    (record_first ρ (ledger p) (valid_apart ρ W next (ledger p) good) i inside some-ticket)

-- so a ticket whose record is another party's is none of the party's own
pub unknown_other : (ρ : Rule) (W next : ℕ) (p : Pool) → valid ρ W next (ledger p) ≡ true
    → (r s : Row) → record_of r.ticket (ledger p) ≡ some s → s.party ≢ r.party → Unknown p r
unknown_other ρ W next p good r s e d =
    inr (λ i l t c.
    let at = record_at p.table i in
    let z : at.ticket ≢ 0 = λ y. (record_ticket r.ticket (ledger p) s e).0 (sym t ∙ y) in
    let here = same_record ρ W next p good at z (i, l, refl) in
    let found : record_of r.ticket (ledger p) ≡ some at = ap (λ k. record_of k (ledger p)) (sym t) ∙ here in
    let same : s ≡ at = cc in
    d (ap (λ (v : Row). v.party) same ∙ c))
