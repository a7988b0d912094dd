-- What a party is answered does not depend on the others (02, ticket 6), proved over any engine. Assumes nothing.
use Prim.Native.Nat.{ℕ, ◌+◌, ◌-◌, ◌<◌, min}
use native.Mathlib.Omega.{arith}
use mathlib.Core.Path.{◌≡◌, refl, sym, ap, ap₂, ◌∙◌}
use mathlib.Core.Bool.{Bool, true, false, cond, ◌&&◌}
use mathlib.Core.Option.{Option, none, some}
use lib.Dec.{eqb}
use lib.ListN.{length, get_or, take, drop, length-take, length-drop}
use lib.Seq.{ext_get_or, get_or-take, get_or-drop}
use Rattle.words.specs.Lists.{Words}
use Rattle.words.proofs.Tests.{eqb_eq, eqb_false, absurd_some}
use Rattle.ledger.specs.declared.Row.{Row}
use Rattle.ledger.specs.Records.{record_of}
use Rattle.ledger.proofs.RecordLaws.{record_ticket}
use Rattle.calls.specs.Pool.{Pool, ledger, Engine, lengths, stored, sound}
use Rattle.calls.specs.Step.{find, look, single, give, query, Act, success, refusal, accepted, named, number_of}
use Rattle.calls.specs.Step.{answer_done, answer_to, Outcome, behind, gate, party_of}
use Rattle.calls.specs.Step.{right_party, refused_by, acts_done, perform, step}
use Rattle.calls.specs.Private.{Holds, SameFor, shown_in, Private}
use Rattle.calls.proofs.ActLaws.{named_none, named_some, named_zero, act_accepted}
use Rattle.calls.proofs.GateLaws.{Way, stops, runs, way}
use Rattle.calls.proofs.Demand1.{looks_at}

-- ---- the number that a name gets

-- 6 where no record of that ticket is the party's
named_own : (p : Pool) (r : Row) → ((x : Row) → x.party ≡ r.party → x.ticket ≡ r.ticket → Holds p x → ⊥)
    → named (ledger p) r ≡ 6
named_own p r no_own = go (record_of r.ticket (ledger p)) refl
  where
    party : (x : Row) → record_of r.ticket (ledger p) ≡ some x → (b : Bool) → eqb x.party r.party ≡ b
        → named (ledger p) r ≡ 6
    party x e true h =
        let t = (record_ticket r.ticket (ledger p) x e).1 in
        absurd (no_own x (eqb_eq x.party r.party h) t (ap (λ k. record_of k (ledger p)) t ∙ e))
    party x e false h = named_some (ledger p) r x e ∙ rw h

    go : (o : Option Row) → record_of r.ticket (ledger p) ≡ o → named (ledger p) r ≡ 6
    go none e = named_none (ledger p) r e
    go (some x) e = party x e (eqb x.party r.party) refl

module _ (E : Engine) (r : Row) (p q : Pool) (s : SameFor E r.party p q) where
  same_named : named (ledger p) r ≡ named (ledger q) r
  same_named = go (record_of r.ticket (ledger p)) refl
    where
      not_own : ((x : Row) → x.party ≡ r.party → x.ticket ≡ r.ticket → Holds p x → ⊥)
          → named (ledger p) r ≡ named (ledger q) r
      not_own h = named_own p r h ∙ sym (named_own q r (λ x c t e. h x c t ((s.records x c).1 e)))

      party : (x : Row) → record_of r.ticket (ledger p) ≡ some x → (b : Bool) → eqb x.party r.party ≡ b
          → named (ledger p) r ≡ named (ledger q) r
      party x e true h =
          let t = (record_ticket r.ticket (ledger p) x e).1 in
          let held = (s.records x (eqb_eq x.party r.party h)).0 (ap (λ k. record_of k (ledger p)) t ∙ e) in
          named_some (ledger p) r x e
          ∙ sym (named_some (ledger q) r x (ap (λ k. record_of k (ledger q)) (sym t) ∙ held))
      party x e false h =
          not_own (λ y c t d.
          let at : record_of r.ticket (ledger p) ≡ some y = ap (λ k. record_of k (ledger p)) (sym t) ∙ d in
          let same : x ≡ y = cc in
          eqb_false x.party r.party h (ap (λ (z : Row). z.party) same ∙ c))

      go : (o : Option Row) → record_of r.ticket (ledger p) ≡ o → named (ledger p) r ≡ named (ledger q) r
      go none e = not_own (λ y c t d. absurd_some (sym (ap (λ k. record_of k (ledger p)) t ∙ e) ∙ d))
      go (some x) e = party x e (eqb x.party r.party) refl

  -- ---- the same way through the gate

  same_lengths : lengths E p ≡ lengths E q
  unfolding lengths
  same_lengths = rw (s.shape, s.arena, s.table, s.index)

  same_stored : lengths E p ≡ true → stored E p ≡ stored E q
  unfolding sound
  same_stored h =
      ap (λ (b : Bool). b && stored E p) (sym h) ∙ s.is_sound
      ∙ ap (λ (b : Bool). b && stored E q) (sym same_lengths ∙ h)

  same_gate : (a : Act) → gate E (single a) p ≡ gate E (single a) q
  unfolding gate behind
  same_gate a = ap (λ k. by k (lengths E p) (stored E p)) s.shape ∙ go (lengths E p) refl
    where
      by : ℕ → Bool → Bool → ℕ
      by k l t = cond (E.known k) (cond (l && true) (cond t (cond (right_party (party_of a)) 0 12) 1) 8) 11

      go : (b : Bool) → lengths E p ≡ b
          → by q.shape (lengths E p) (stored E p) ≡ by q.shape (lengths E q) (stored E q)
      go true e = ap₂ (by q.shape) same_lengths (same_stored e)
      go false e =
          ap (λ (b : Bool). by q.shape b (stored E p)) e
          ∙ ap (λ (b : Bool). by q.shape b (stored E q)) (sym (sym same_lengths ∙ e))

  same_answer : (a : Act) → answer_to E p a ≡ answer_to E q a → (step E (single a) p).answer ≡ (step E (single a) q).answer
  unfolding step perform acts_done
  same_answer a e = rw (same_gate a) (go (eqb (gate E (single a) q) 0))
    where
      out : Pool → Bool → Outcome
      out z b = cond b (perform E (single a) z) (refused_by E (single a) z (gate E (single a) q))

      go : (b : Bool) → (out p b).answer ≡ (out q b).answer
      go true = e
      go false = refl

  pub same_give : (step E (single (give r)) p).answer ≡ (step E (single (give r)) q).answer
  unfolding answer_to number_of answer_done
  same_give = same_answer (give r) (ap (λ (n : ℕ). cond (eqb n 0) (success r) (refusal n)) same_named)

  pub same_query : (step E (find r) p).answer ≡ (step E (find r) q).answer
  unfolding answer_to number_of answer_done
  same_query = same_answer (query r) (ap (λ (n : ℕ). cond (eqb n 0) (success r) (refusal n)) same_named)

  -- ---- look

  -- an accepted find names a record of its party
  found_held : accepted (step E (find r) p).answer ≡ true → Holds p r
  unfolding perform acts_done number_of
  found_held h = by (step E (find r) p) (way E (find r) p) h
    where
      by : (o : Outcome) → Way E (find r) p o → accepted o.answer ≡ true → Holds p r
      by o (stops n g z e) h = absurd (z (eqb_eq n 0 (ap (λ (o : Outcome). accepted o.answer) (sym e) ∙ h)))
      by o (runs g e) h =
          named_zero (ledger p) r (eqb_eq (named (ledger p) r) 0
          (sym (act_accepted E p (query r)) ∙ ap (λ (o : Outcome). accepted o.answer) (sym e) ∙ h))

  same_words_lem : Holds p r → take r.words (drop r.address p.arena) ≡ take r.words (drop r.address q.arena)
  same_words_lem h =
      ext_get_or 0 (take r.words (drop r.address p.arena)) (take r.words (drop r.address q.arena))
      (long p.arena ∙ ap (λ (n : ℕ). min r.words (n - r.address)) s.arena ∙ sym (long q.arena))
      (λ i l.
      let below : i < r.words = omega (arith, long p.arena) in
      at p.arena i below ∙ s.words r refl h (r.address + i) (omega arith) (omega arith)
      ∙ sym (at q.arena i below))
    where
      long : (x : Words) → length (take r.words (drop r.address x)) ≡ min r.words (length x - r.address)
      long x = length-take r.words (drop r.address x) ∙ ap (λ n. min r.words n) (length-drop r.address x)

      at : (x : Words) (i : ℕ) → i < r.words
          → get_or (take r.words (drop r.address x)) i 0 ≡ get_or x (r.address + i) 0
      at x i l = get_or-take r.words (drop r.address x) i 0 l ∙ get_or-drop r.address x i 0

  pub same_look : (hold : Words)
      → ((step E (look r hold) p).answer ≡ (step E (look r hold) q).answer)
      × ((step E (look r hold) p).shown ≡ (step E (look r hold) q).shown)
      × (shown_in p hold (step E (look r hold) p).shown ≡ shown_in q hold (step E (look r hold) q).shown)
  same_look hold =
      let (place, content) = go (accepted (step E (find r) p).answer) refl in
      ((looks_at E p r hold).0 ∙ same_query ∙ sym (looks_at E q r hold).0, place, content)
    where
      go : (b : Bool) → accepted (step E (find r) p).answer ≡ b
          → ((step E (look r hold) p).shown ≡ (step E (look r hold) q).shown)
          × (shown_in p hold (step E (look r hold) p).shown ≡ shown_in q hold (step E (look r hold) q).shown)
      go true e =
          let x = (looks_at E p r hold).2 e in
          let y = (looks_at E q r hold).2 (ap accepted (sym same_query) ∙ e) in (
            x ∙ sym y,
            ap (shown_in p hold) x ∙ same_words_lem (found_held e) ∙ sym (ap (shown_in q hold) y),
          )
      go false e =
          let x = (looks_at E p r hold).3 e in
          let y = (looks_at E q r hold).3 (ap accepted (sym same_query) ∙ e) in
          (x ∙ sym y, ap (shown_in p hold) x ∙ sym (ap (shown_in q hold) y))

pub private : (E : Engine) → Private E
private E = record {
  releases = λ r p q s. same_give E r p q s;
  finds = λ r p q s. same_query E r p q s;
  looks = λ r hold p q s. same_look E r p q s hold;
}
