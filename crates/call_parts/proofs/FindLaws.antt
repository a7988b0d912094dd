-- The calls that name a record, for any engine: find, look, and a refused release or trim. Assumes nothing.
use Prim.Native.Nat.{ℕ, ◌+◌, ◌*◌, ◌-◌, ◌≤◌, ◌<◌}
use native.Mathlib.Nat.{lt-mul-div-succ}
use native.Mathlib.Omega.{arith}
use mathlib.Core.Path.{◌≡◌, refl, sym, ap, ◌∙◌}
use mathlib.Core.Bool.{Bool, true, false, cond}
use Rattle.words.specs.Lists.{Words}
use Rattle.ledger.specs.declared.Row.{Row}
use Rattle.ledger.specs.declared.Rule.{Rule}
use Rattle.ledger.specs.Records.{is_party, record_of, keepable}
use Rattle.calls.specs.Pool.{Pool, ledger, word_count, Engine, Laws, rule_of, sound}
use Rattle.calls.specs.Step.{find, look, success, refusal, accepted, give, query, cut, Outcome}
use Rattle.calls.specs.Step.{arena_part, placeholder, named, number_of, answer_done, answer_to}
use Rattle.calls.specs.Step.{acts_done, perform, step}
use Rattle.calls.proofs.StoreLaws.{sound_valid}
use Rattle.ledger.specs.Units.{span, first, past, address_at}
use Rattle.ledger.proofs.UnitLaws.{valid_record}
use mathlib.Core.Option.{some}
use Rattle.calls.proofs.ActLaws.{named_zero, act_done, act_refused, answer_number}
use Rattle.calls.proofs.GateLaws.{Way, stops, runs, way, sound_gate, step_sound}
use Rattle.calls.proofs.Demand1.{looks_at}
use Rattle.calls.specs.declared.Refusal.{Refusal}
use Rattle.calls.specs.Refusals.{refusal_number, number_in}
use Rattle.calls.proofs.RefusalLaws.{number_no_zero, number_nonzero}
use Rattle.std.specs.Prelude.{Ok, Err}
use Rattle.call_parts.specs.Parts.{named_in}
use Rattle.call_parts.proofs.NamedLaws.{named_number}
use Rattle.call_parts.proofs.AskLaws.{RefusedBy, refused_by_lem}

-- ---- the record that a call names

module _ (p : Pool) (r : Row) where
  pub slot_number : (i : ℕ) → named_in p.table r ≡ Ok i → named (ledger p) r ≡ 0
  slot_number i e = sym (named_number p.table r) ∙ ap number_in e

  pub refused_number : (x : Refusal) → named_in p.table r ≡ Err x → named (ledger p) r ≡ refusal_number x
  refused_number x e = sym (named_number p.table r) ∙ ap number_in e

module _ (E : Engine) (p : Pool) (r : Row) (ok : sound E p ≡ true) (party : is_party r.party ≡ true) where
  find_answer : (step E (find r) p).answer ≡ answer_to E p (query r)
  unfolding acts_done
  find_answer = ap (λ (o : Outcome). o.answer) (step_sound E (find r) p refl refl ok party)

  pub find_slot : (i : ℕ) → named_in p.table r ≡ Ok i → (step E (find r) p).answer ≡ success r
  unfolding number_of answer_done
  find_slot i e = find_answer ∙ (act_done E p (query r) (slot_number p r i e)).0

  pub find_refused : (x : Refusal) → named_in p.table r ≡ Err x → (step E (find r) p).answer ≡ refusal (refusal_number x)
  unfolding number_of
  find_refused x e =
      let k : named (ledger p) r ≡ refusal_number x = refused_number p r x e in
      find_answer ∙ (act_refused E p (query r) (λ z. number_nonzero x (sym k ∙ z))).0 ∙ ap refusal k

-- a release that names no record, or names it wrongly
pub give_refused : (E : Engine) (p : Pool) (r : Row) (x : Refusal) → named_in p.table r ≡ Err x
    → RefusedBy E p (give r) (refusal_number x)
unfolding number_of
give_refused E p r x e = refused_by_lem E p (give r) (refusal_number x) (refused_number p r x e) (number_no_zero x)

-- a trim likewise; and one that names its record, but not words to keep
pub cut_refused : (E : Engine) (p : Pool) (r : Row) (k : ℕ) (x : Refusal) → named_in p.table r ≡ Err x
    → RefusedBy E p (cut r k) (refusal_number x)
unfolding number_of
cut_refused E p r k x e =
    refused_by_lem E p (cut r k) (refusal_number x) (rw (refused_number p r x e, number_no_zero x)) (number_no_zero x)

pub cut_two : (E : Engine) (p : Pool) (r : Row) (k i : ℕ) → named_in p.table r ≡ Ok i → keepable k r ≡ false
    → RefusedBy E p (cut r k) 2
unfolding number_of
cut_two E p r k i e h = refused_by_lem E p (cut r k) 2 (rw (slot_number p r i e, h)) refl

-- ---- look

-- the units of a block have room for the words asked and those before the address
span_holds : (ρ : Rule) → 0 < ρ.unit → (n : ℕ) → n + ρ.lead ≤ ρ.unit * span ρ n
unfolding span
span_holds ρ pos n =
    let m = n + ρ.lead + (ρ.unit - 1) in
    omega (arith, lt-mul-div-succ m pos)

-- look's slice goes by find's answer
pub look_shows : (E : Engine) (p : Pool) (r : Row) (hold : Words)
    → (step E (look r hold) p).shown
    ≡ cond (accepted (step E (find r) p).answer) (arena_part r.address r.words) placeholder
look_shows E p r hold = go (accepted (step E (find r) p).answer) refl
  where
    go : (b : Bool) → accepted (step E (find r) p).answer ≡ b
        → (step E (look r hold) p).shown ≡ cond b (arena_part r.address r.words) placeholder
    go true e = (looks_at E p r hold).2 e
    go false e = (looks_at E p r hold).3 e

module _ (E : Engine) (laws : Laws E) (p : Pool) (r : Row) where
  found_record : (step E (find r) p).answer.number ≡ 0 → (sound E p ≡ true) × (record_of r.ticket (ledger p) ≡ some r)
  unfolding perform acts_done number_of
  found_record z = go (step E (find r) p) (way E (find r) p) z
    where
      go : (o : Outcome) → Way E (find r) p o → o.answer.number ≡ 0
          → (sound E p ≡ true) × (record_of r.ticket (ledger p) ≡ some r)
      go o (stops n g y e) z = absurd (y (sym (ap (λ (k : Outcome). k.answer.number) e) ∙ z))
      go o (runs g e) z = (
        (sound_gate E (find r) p refl g).0,
        named_zero (ledger p) r (sym (answer_number E p (query r)) ∙ ap (λ (k : Outcome). k.answer.number) (sym e)
            ∙ z),
      )

  -- a record that find accepts lies in the arena, words asked and all
  pub found_inside : (step E (find r) p).answer.number ≡ 0 → r.address + r.words ≤ word_count p
  unfolding past address_at
  found_inside z =
      let (ok, held) = found_record z in
      let ρ = rule_of E p in
      let pos = laws.unit p.shape in
      let f =
      valid_record ρ pos (word_count p) p.head.next (ledger p) (sound_valid E laws p ok) r.ticket r held in
      let in-units : ρ.unit * (first ρ r + span ρ r.words) ≤ word_count p = f.inside in
      let at : r.address ≡ ρ.unit * first ρ r + ρ.lead = f.place in
      omega (arith, span_holds ρ pos r.words)
