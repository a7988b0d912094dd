-- The record that a call names, by what the search of the table found; and its number, which is `named`. Assumes
-- nothing.
use Prim.Native.Nat.{ℕ, ◌<◌}
use native.Mathlib.Omega.{arith}
use mathlib.Core.Path.{◌≡◌, refl, sym, ap, ◌∙◌}
use mathlib.Core.Bool.{Bool, true, false, cond}
use lib.Dec.{eqb}
use Rattle.words.specs.Lists.{Words}
use Rattle.ledger.specs.declared.Row.{Row}
use Rattle.ledger.specs.Records.{record_at, records_of, slots, same_block}
use Rattle.calls.specs.Step.{named}
use Rattle.calls.proofs.ActLaws.{named_none, named_some}
use Rattle.std.specs.Prelude.{Option, None, Some, Ok, Err}
use Rattle.calls.specs.declared.Refusal.TheVariants.{UnknownTicket, Mismatch}
use Rattle.calls.specs.Refusals.{number_in}
use Rattle.record_table.specs.Slots.{ticket_slot}
use Rattle.record_table.proofs.SlotLaws.{ticket_found, ticket_missing}
use Rattle.call_parts.specs.Parts.{named_at, named_in}

module _ (t : Words) (r : Row) where
  pub named_missing : None ≡ ticket_slot r.ticket (records_of t) → Err UnknownTicket ≡ named_in t r
  unfolding named_in
  named_missing e = ap (named_at t r) e

  module _ (i : ℕ) (e : Some i ≡ ticket_slot r.ticket (records_of t)) where
    pub named_below : i < slots t
    named_below = (ticket_found r.ticket t i (sym e)).0

    pub named_foreign : eqb (record_at t i).party r.party ≡ false → Err UnknownTicket ≡ named_in t r
    unfolding named_in
    named_foreign c = sym (rw c) ∙ ap (named_at t r) e

    module _ (c : eqb (record_at t i).party r.party ≡ true) where
      pub named_same : same_block (record_at t i) r ≡ true → Ok i ≡ named_in t r
      unfolding named_in
      named_same h = sym (rw (c, h)) ∙ ap (named_at t r) e

      pub named_other : same_block (record_at t i) r ≡ false → Err Mismatch ≡ named_in t r
      unfolding named_in
      named_other h = sym (rw (c, h)) ∙ ap (named_at t r) e

  -- a slot is the one that the search found
  pub named_at_lem : (i : ℕ) → named_in t r ≡ Ok i → ticket_slot r.ticket (records_of t) ≡ Some i
  unfolding named_in
  named_at_lem i e = go (ticket_slot r.ticket (records_of t)) e
    where
      same : (j : ℕ) (a b : Bool) → cond a (cond b (Ok j) (Err Mismatch)) (Err UnknownTicket) ≡ Ok i → Some j ≡ Some i
      same j true true h = let y : j ≡ i = cc in ap Some y
      same j true false h = let y : ◌≡◌ {A = ℕ} 0 1 = cc in absurd (omega arith)
      same j false b h = let y : ◌≡◌ {A = ℕ} 0 1 = cc in absurd (omega arith)

      go : (f : Option ℕ) → named_at t r f ≡ Ok i → f ≡ Some i
      go None h = let y : ◌≡◌ {A = ℕ} 0 1 = cc in absurd (omega arith)
      go (Some j) h = same j (eqb (record_at t j).party r.party) (same_block (record_at t j) r) h

  -- 01's number of what is answered
  pub named_number : number_in (named_in t r) ≡ named (records_of t) r
  unfolding named_in
  named_number = go (ticket_slot r.ticket (records_of t)) refl
    where
      same : (i : ℕ) (a b : Bool)
          → ◌≡◌ {A = ℕ} (number_in (cond a (cond b (Ok i) (Err Mismatch)) (Err UnknownTicket))) (cond a (cond b 0 7) 6)
      same i true true = refl
      same i true false = refl
      same i false b = refl

      go : (f : Option ℕ) → ticket_slot r.ticket (records_of t) ≡ f → number_in (named_at t r f) ≡ named (records_of t) r
      go None e = sym (named_none (records_of t) r (ticket_missing r.ticket t e))
      go (Some i) e =
          same i (eqb (record_at t i).party r.party) (same_block (record_at t i) r)
          ∙ sym (named_some (records_of t) r (record_at t i) (ticket_found r.ticket t i e).1)
