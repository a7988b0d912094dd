-- A grant on a sound segment pool: the search finds the lowest fit, and the words taken from its block leave the stored
-- form of the ledger with the new record. Assumes nothing.
use Prim.Native.Nat.{ℕ, ◌+◌, ◌-◌, ◌*◌, ◌≤◌, ◌<◌}
use native.Mathlib.Nat.{div-one}
use native.Mathlib.Decide.{ℕ_discrete}
use native.Mathlib.Omega.{arith}
use mathlib.Core.Path.{◌≡◌, refl, sym, subst, ap, ap₂, ◌∙◌}
use mathlib.Core.Logic.{◌≢◌}
use mathlib.Core.Bool.{true, false, ◌||◌}
use mathlib.Core.List.{List}
use mathlib.Core.Option.{Option, none, some}
use lib.Dec.{eqb, ltb}
use lib.IntN.{ℤ, pos}
use lib.ListN.{length, length-map, set}
use mir.Syntax.{w32}
use mir.Val.{of_z}
use Rattle.words.specs.Lists.{Words}
use Rattle.words.specs.Places.{wiped}
use Rattle.words.proofs.PlaceLaws.{map_wiped}
use Rattle.words.proofs.Tests.{or_l, eqb_ne, eqb_false}
use Rattle.ledger.specs.declared.Row.{Row}
use Rattle.ledger.specs.Records.{Ledger, row, slots, records_of, table_of, enter}
use Rattle.ledger.specs.Units.{span, address_at, past, free, lowest_fit}
use Rattle.ledger.proofs.FitLaws.{fit_lowest}
use Rattle.ledger.proofs.UnitLaws.{past_new}
use Rattle.stored_forms.specs.declared.Steps.{Steps}
use Rattle.stored_forms.specs.Segments.{segment_rule, is_power, depth, most_words}
use Rattle.stored_forms.specs.Search.{places_to, steps_to}
use Rattle.stored_forms.proofs.SegmentLaws.{power_range}
use Rattle.stored_forms.proofs.SearchLaws.{places_most, most_small}
use Rattle.segment_index.proofs.SizeLaws.{size_pos}
use Rattle.segment_index.specs.declared.Segments.{Segments}
use Rattle.segment_index.specs.Index.{Divided}
use Rattle.segment_cores.specs.Cores.{Searching}
use Rattle.segment_cores.specs.Stores.{Sound, Granting, Becomes}
use Rattle.segment_cores.proofs.CallLaws.{granting}
use Rattle.segment_cores.proofs.UnitLaws.{span_words, address_after}
use Rattle.calls.specs.Pool.{Pool, next_after, sound}
use Rattle.calls.specs.Step.{ask, success, fit_of, answer_to, pool_after}
use Rattle.calls.specs.Engines.{segment_engine}
use Rattle.calls.specs.Search.{places_by}
use Rattle.calls.proofs.ActLaws.{Asked, ask_done}
use Rattle.calls.proofs.GrantLaws.{on_arena, zeroed, grant_store, next_above}
use Rattle.record_table.proofs.SlotLaws.{empty_found}
use Rattle.segment_check.specs.declared.Head.{Head}
use Rattle.segment_requests.specs.Granting.{Grantable}
use Rattle.segment_requests.specs.Outcomes.{places_asked}
use Rattle.segment_check.specs.Gate.{as_words, segment_pool, Ranged}
use Rattle.segment_check.proofs.GateLaws.{InRange}
use Rattle.segment_requests.proofs.StoredLaws.{sound_range, sound_form, stored_pool}

-- the machine's fit, by the arena's own length
pub fit_is : (S : ℕ) (h : Head) (n : ℕ) (v : List ℤ) (t x : Words)
    → fit_of segment_engine (segment_pool S h v t x) n
    ≡ lowest_fit (free segment_rule (records_of t)) (length v) (span segment_rule n)
unfolding fit_of segment_engine
fit_is S h n v t x = rw (length-map v (of_z w32), div-one (length v))

-- ---- what the search says

module _ (S W : ℕ) (L : Ledger) (n : ℕ) (some_units : 1 ≤ n) (r : Steps)
    (is : r ≡ steps_to S W L (lowest_fit (free segment_rule L) W n)) where
  abbrev fit : Option ℕ
  fit = lowest_fit (free segment_rule L) W n

  pub none_fits : r.at ≡ W → (fit ≡ none) × (r.places ≡ 1)
  none_fits e = go fit refl is
    where
      go : (o : Option ℕ) → fit ≡ o → r ≡ steps_to S W L o → (o ≡ none) × (r.places ≡ 1)
      go none l h = (refl, ap (λ (q : Steps). q.places) h)
      go (some k) l h =
          let at = ap (λ (q : Steps). q.at) h in
          absurd (omega (arith, (fit_lowest (free segment_rule L) W n k l).room))

  pub one_fits : r.at ≢ W → (fit ≡ some r.at) × (r.places ≡ places_to S W L r.at)
  one_fits e = go fit refl is
    where
      go : (o : Option ℕ) → fit ≡ o → r ≡ steps_to S W L o → (o ≡ some r.at) × (r.places ≡ places_to S W L r.at)
      go none l h = absurd (e (ap (λ (q : Steps). q.at) h))
      go (some k) l h =
          let at = ap (λ (q : Steps). q.at) h in
          (ap some (sym at), ap (λ (q : Steps). q.places) h ∙ ap (places_to S W L) (sym at))

  pub few_places : is_power S depth ≡ true → 0 < W → W ≤ most_words → r.places < 65536
  few_places power some_words few = go (ℕ_discrete r.at W)
    where
      go : Dec (r.at ≡ W) → r.places < 65536
      go (yes e) = omega (arith, (none_fits e).1)
      go (no e) =
          let (one, segments) = power_range S depth power in
          omega (
            arith,
            (one_fits e).1,
            places_most S W L r.at (size_pos W S one some_words),
            most_small S W segments few,
          )

pub some_words : (n : ℕ) → (eqb n 0 || ltb 16384 n) ≡ false → 1 ≤ n
some_words n size = let z = eqb_false n 0 (or_l (eqb n 0) (ltb 16384 n) size) in omega arith

-- the search is asked on a sound pool, and what it finds, in the ledger's units
module _ (S : ℕ) (h : Head) (v : List ℤ) (t x : Words) (n : ℕ) {r : Segments} (d : Divided S (length v) r) where
  pub searching : sound segment_engine (segment_pool S h v t x) ≡ true → Ranged v → (eqb n 0 || ltb 16384 n) ≡ false
      → Searching (records_of t) v x r.count r.log (n + 1)
  searching ok ranged size =
      let form = sound_form S h v t x ok ranged d in
      record {
        sound = subst (Sound (records_of t) v x r.count) form.sizes.each form;
        power = d.count ∙ d.power;
        few = d.few;
        two = omega (arith, some_words n size);
      }

  pub search_found : (y : Steps)
      → y ≡ steps_to r.count (length v) (records_of t) (lowest_fit (free segment_rule (records_of t)) (length v) (n + 1))
      → y ≡ steps_to S (length v) (records_of t)
      (lowest_fit (free segment_rule (records_of t)) (length v) (span segment_rule n))
  search_found y e =
      let L = records_of t in
      e ∙ ap₂ (λ (m k : ℕ). steps_to m (length v) L (lowest_fit (free segment_rule L) (length v) k)) d.count
      (sym (span_words n))

-- ---- the grant

module _ (h : Head) (S : ℕ) (v : List ℤ) (t x : Words) (c n slot at : ℕ) (f : Grantable h S v t x c n slot at) where
  abbrev lent : Pool
  lent = segment_pool S h v t x

  abbrev L : Ledger
  L = records_of t

  abbrev new : Row
  new = row h.next (address_at segment_rule at) n c

  pub place_range : InRange S v t x
  place_range = sound_range S h v t x f.ok

  pub place_slot : slot < slots t
  place_slot = (empty_found t slot f.empty).0

  pub place_inside : at < length v
  place_inside =
      omega (arith, (fit_lowest (free segment_rule L) (length v) (span segment_rule n) at f.fit).room, span_words n)

  asked : Asked segment_engine lent c n at
  unfolding segment_engine
  asked = record {
    party = f.party;
    size = f.size;
    slot = (empty_found t slot f.empty).1;
    ticket = eqb_ne h.next 0 f.ticket;
    fit = fit_is S h n v t x ∙ f.fit;
  }

  pub place_granting : {r : Segments} → Divided S (length v) r
      → Granting L (enter new L) v x r.count r.size at (span segment_rule n)
  unfolding sound_form
  place_granting {r} d =
      granting L v x r.count r.size (sound_form S h v t x f.ok f.ranged d) (next_after h.next) n
      c at asked.slot f.ticket (next_above h.next) (some_words n f.size) f.party f.fit

  pub place_answer : success (row h.next (at + 1) n c) ≡ answer_to segment_engine lent (ask c n)
  unfolding segment_engine
  place_answer =
      ap (λ (y : ℕ). success (row h.next y n c)) (sym (address_after at))
      ∙ sym (ask_done segment_engine lent c n at asked).0

  pub place_places : places_to S (length v) L at ≡ places_asked lent c n
  place_places =
      let size : at ≡ at + 1 - 1 = omega arith in
      ap₂ (λ (m k : ℕ). places_to S m L k) (sym (length-map v (of_z w32))) size
      ∙ ap (places_by lent) place_answer

  -- the words that a grant zeroes
  abbrev ground : List ℤ
  ground = wiped (pos 0) (at + 1) (at + span segment_rule n) v

  ground_words : zeroed segment_engine lent c n at ≡ as_words ground
  unfolding zeroed segment_engine
  ground_words =
      let e = past_new segment_rule (omega arith) h.next at n c in
      let hi : 1 * past segment_rule new ≡ at + span segment_rule n = omega arith in
      ap₂ (λ (a b : ℕ). wiped 0 a b (as_words v)) (address_after at) hi
      ∙ sym (map_wiped (of_z w32) (pos 0) (at + 1) (at + span segment_rule n) v)

  pub place_pool : (b : List ℤ) (u y : Words) → Becomes (enter new L) ground S b y
      → u ≡ table_of (set L slot (row h.next (at + 1) n c))
      → segment_pool S (record { next = next_after h.next }) b u y ≡ pool_after segment_engine lent (ask c n)
  place_pool b u y becomes e =
      stored_pool (on_arena lent (zeroed segment_engine lent c n at)) (enter new L) (next_after h.next) ground b u y
      ground_words becomes
      (e ∙ ap (λ (z : ℕ). table_of (set L slot (row h.next z n c))) (sym (address_after at))
      ∙ ap table_of (sym ((empty_found t slot f.empty).2 new)))
      ∙ unfold segment_engine in sym ((ask_done segment_engine lent c n at asked).1 ∙ grant_store segment_engine lent c n at)
