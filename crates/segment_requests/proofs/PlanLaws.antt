-- A release or trim on a sound segment pool: the words given back leave the stored form of the ledger with the plan
-- carried out. Assumes nothing.
use Prim.Native.Nat.{ℕ, ◌-◌, ◌<◌}
use native.Mathlib.Omega.{arith}
use mathlib.Core.Path.{◌≡◌, refl, sym, ap, ◌∙◌}
use mathlib.Core.Logic.{◌≢◌}
use mathlib.Core.Bool.{true}
use mathlib.Core.List.{List, [], ◌∷◌}
use mathlib.Core.Option.{some}
use lib.Dec.{leb}
use lib.IntN.{ℤ}
use lib.ListN.{length, set}
use Rattle.words.specs.Lists.{Words}
use Rattle.words.proofs.Tests.{and_r, le_of}
use Rattle.ledger.specs.declared.Row.{Row}
use Rattle.ledger.specs.Records.{Ledger, record_at, slots, records_of, record_of, table_of, Plan, vacate, keep, keepable}
use Rattle.ledger.specs.Records.{carry_out, feasible, member, settle}
use Rattle.ledger.specs.Units.{span, first}
use Rattle.stored_forms.specs.Segments.{segment_rule}
use Rattle.segment_index.specs.declared.Segments.{Segments}
use Rattle.segment_index.specs.Index.{Divided}
use Rattle.segment_cores.specs.Stores.{Releasing, Trimming, Becomes}
use Rattle.segment_cores.proofs.CallLaws.{releasing, trimming}
use Rattle.segment_cores.proofs.UnitLaws.{span_words}
use Rattle.calls.specs.Pool.{Pool, sound}
use Rattle.calls.specs.Step.{cut, told, answer_to, pool_after}
use Rattle.calls.specs.Engines.{segment_engine}
use Rattle.calls.proofs.ActLaws.{named_zero, planned, plan_done}
use Rattle.calls.proofs.Engines.{segment_laws}
use Rattle.calls.proofs.TrimLaws.{keeps_all_lem}
use Rattle.record_table.proofs.SlotLaws.{ticket_found, ticket_settle}
use Rattle.std.specs.Prelude.{Ok}
use Rattle.call_parts.specs.Parts.{named_in}
use Rattle.call_parts.proofs.NamedLaws.{named_at_lem}
use Rattle.call_parts.proofs.FindLaws.{slot_number}
use Rattle.segment_check.specs.declared.Head.{Head}
use Rattle.segment_check.specs.Gate.{segment_pool, Ranged}
use Rattle.segment_check.proofs.GateLaws.{InRange}
use Rattle.segment_requests.proofs.StoredLaws.{sound_range, sound_good, sound_form, stored_pool}

module _ (h : Head) (S : ℕ) (v : List ℤ) (t x : Words) (r : Row) (slot : ℕ)
    (ok : sound segment_engine (segment_pool S h v t x) ≡ true) (found : named_in t r ≡ Ok slot) where
  abbrev lent : Pool
  lent = segment_pool S h v t x

  abbrev L : Ledger
  L = records_of t

  held : record_of r.ticket L ≡ some r
  held = named_zero L r (slot_number lent r slot found)

  pub plan_range : InRange S v t x
  plan_range = sound_range S h v t x ok

  pub plan_slot : slot < slots t
  plan_slot = (ticket_found r.ticket t slot (named_at_lem t r slot found)).0

  -- it is the slot's record that is named
  at_slot : record_at t slot ≡ r
  at_slot = let e = (ticket_found r.ticket t slot (named_at_lem t r slot found)).1 in let k = held in cc

  pub release_releasing : Ranged v → {s : Segments} → Divided S (length v) s
      → Releasing L (settle (member r.ticket vacate ∷ []) L) v x s.count s.log s.size
      (first segment_rule r) (span segment_rule r.words)
  release_releasing fits {s} d =
      releasing L v x s.count s.size (sound_form S h v t x ok fits d) s.log r.ticket r
      (d.count ∙ d.power) d.few held

  pub trim_trimming : (n : ℕ) → keepable n r ≡ true → n ≢ r.words → Ranged v → {s : Segments} → Divided S (length v) s
      → Trimming L (settle (member r.ticket (keep n) ∷ []) L) v x s.count s.size (first segment_rule r)
      (span segment_rule n) (span segment_rule r.words - span segment_rule n)
  trim_trimming n suit other fits {s} d =
      let most = le_of n r.words (and_r (leb 1 n) (leb n r.words) suit) in
      trimming L v x s.count s.size (sound_form S h v t x ok fits d) r.ticket n r held suit
      (omega (arith, span_words n, span_words r.words))

  -- "Keeping everything changes nothing"
  pub whole_pool : (n : ℕ) → n ≡ r.words
      → segment_pool S h v t x ≡ pool_after segment_engine (segment_pool S h v t x) (cut r n)
  whole_pool n e =
      sym (ap (λ (k : ℕ). pool_after segment_engine lent (cut r k)) e
      ∙ (keeps_all_lem segment_engine segment_laws lent ok r).1)

  module _ (q : Plan) (can : feasible q r ≡ true) where
    abbrev rest : Ledger
    rest = settle (member r.ticket q ∷ []) L

    pub plan_answer : told q r ≡ answer_to segment_engine (segment_pool S h v t x) (planned q r)
    plan_answer = sym (plan_done segment_engine lent q r held can).0

    pub plan_pool : (b : List ℤ) (u y : Words) → Becomes rest v S b y
        → u ≡ table_of (set (records_of t) slot (carry_out q r))
        → segment_pool S h b u y ≡ pool_after segment_engine (segment_pool S h v t x) (planned q r)
    plan_pool b u y becomes e =
        stored_pool lent rest h.next v b u y refl becomes
        (e ∙ ap (λ (s : Row). table_of (set L slot (carry_out q s))) (sym at_slot)
        ∙ ap table_of (sym (ticket_settle r.ticket t q segment_rule (length v) h.next
        (sound_good S h v t x ok) slot (named_at_lem t r slot found))))
        ∙ sym (plan_done segment_engine lent q r held can).1
