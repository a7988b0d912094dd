-- 02, ticket 5: the places that an allocation reports are the steps of 01's search, and bounded. Assumes nothing.
use Prim.Native.Nat.{ℕ, ◌+◌, ◌-◌, ◌≤◌}
use native.Mathlib.Nat.{div-one}
use native.Mathlib.Omega.{arith}
use mathlib.Core.Path.{◌≡◌, refl, sym, ap, ap₂, subst, ◌∙◌}
use mathlib.Core.Logic.{◌≢◌}
use mathlib.Core.Bool.{Bool, true, false, cond, ◌&&◌, ◌||◌}
use mathlib.Core.List.{List, map}
use mathlib.Core.Option.{Option, none, some}
use lib.Dec.{eqb, leb, ltb}
use lib.IntN.{ℤ}
use lib.ListN.{length, length-map, get_or-map}
use mir.Facts.{to_z-of_z}
use mir.Syntax.{w32}
use mir.Val.{to_z}
use Rattle.words.proofs.Tests.{and_l, and_r, eqb_eq, eqb_ne, eqb_false, or_l, le_of}
use Rattle.words.proofs.PlaceLaws.{map_stamp, stamp_same}
use Rattle.ledger.specs.Records.{Ledger, is_party, full}
use Rattle.ledger.specs.Units.{span, valid, free, owned, lowest_fit}
use Rattle.stored_forms.specs.Segments.{segment_rule, segment_range, segment_size, segment_word, segment_index}
use Rattle.stored_forms.specs.Segments.{control_word, is_power, depth, most_words}
use Rattle.stored_forms.specs.Search.{places_to, most_places, steps, searched, steps_to}
use Rattle.stored_forms.proofs.SegmentLaws.{control_fits, power_is, power_range}
use Rattle.stored_forms.proofs.SearchLaws.{places_most, most_seventy_three}
use Rattle.segment_index.proofs.SizeLaws.{size_pos}
use Rattle.segment_cores.specs.Cores.{Searching}
use Rattle.segment_cores.specs.Stores.{Sound, arena_of}
use Rattle.segment_cores.proofs.SearchLaws.{search_steps}
use Rattle.segment_cores.proofs.UnitLaws.{span_words, address_after}
use Rattle.calls.specs.Pool.{Pool, ledger, word_count, store, lengths, stored, sound}
use Rattle.calls.specs.Step.{ask, allocate, accepted, refusal, answer_to, fit_of, number_of, pool_number, GateIs, refused_by}
use Rattle.calls.specs.Step.{acts_done, step}
use Rattle.calls.specs.Engines.{segment_engine}
use Rattle.calls.specs.Search.{places_by, places_of, search_of, PlacesCounted}
use Rattle.calls.specs.declared.Answer.{Answer}
use Rattle.calls.proofs.ActLaws.{Asked, act_refused, ask_zero, ask_done, answer_number}
use Rattle.calls.proofs.Engines.{segment_laws}
use Rattle.calls.proofs.GateLaws.{is_eight, is_one, step_stops, gate_partied, gate_refuses, step_sound}
use Rattle.call_parts.specs.Parts.{with_party}
use Rattle.call_parts.proofs.ResultLaws.{stopped_step}
use Rattle.segment_requests.specs.Outcomes.{places_asked}
use Rattle.calls.proofs.StoreLaws.{sound_lengths, sound_valid, is_store}

-- ---- a sound pool, by the signed words of its arena

module _ (p : Pool) (ok : sound segment_engine p ≡ true) where
  abbrev W : ℕ
  W = word_count p

  abbrev S : ℕ
  S = p.shape

  abbrev L : Ledger
  L = ledger p

  abbrev v : List ℤ
  v = map (to_z w32) p.arena

  long : length v ≡ W
  long = length-map p.arena (to_z w32)

  range : (leb 2 W && leb W most_words && is_power S depth) ≡ true
  unfolding lengths segment_engine segment_range
  range = let l = sound_lengths segment_engine segment_laws p ok in search (and_l, and_r)

  good : valid segment_rule W p.head.next L ≡ true
  unfolding segment_engine
  good = sound_valid segment_engine segment_laws p ok

  power : is_power S depth ≡ true
  power = let r = range in search (and_l, and_r)

  few : W ≤ most_words
  few = let r = range in le_of W most_words (search (and_l, and_r))

  some_words : 2 ≤ W
  some_words = let r = range in le_of 2 W (search (and_l, and_r))

  arena : v ≡ arena_of L v
  unfolding arena_of segment_engine store segment_word
  arena =
      ap (λ (q : Pool). map (to_z w32) q.arena) (is_store segment_engine segment_laws p ok)
      ∙ map_stamp (to_z w32) (owned segment_rule L) (segment_word W L) p.arena
      ∙ stamp_same (owned segment_rule L) (owned segment_rule L) (λ k. to_z w32 (segment_word W L k))
      (control_word (length v) L) v (λ k l. refl)
      (λ k l. to_z-of_z (control_fits W p.head.next L good k few) ∙ ap (λ (m : ℕ). control_word m L k) (sym long))

  form : Sound L v p.index S (segment_size (length v) S)
  unfolding segment_engine store
  form = record {
    sizes = record {
      power = power;
      words = omega (arith, some_words, long);
      most = omega (arith, few, long);
      each = refl;
    };
    next = p.head.next;
    good = rw long good;
    arena = arena;
    index = ap (λ (q : Pool). q.index) (is_store segment_engine segment_laws p ok)
        ∙ ap (λ (m : ℕ). segment_index S m L) (sym long);
  }

  searching : (n : ℕ) → 2 ≤ n → (d : ℕ) × Searching L v p.index S d n
  unfolding form
  searching n two =
      let (d, l, e) = (power_is S depth).0 power in
      (d, record { sound = form; power = e; few = l; two = two })

  -- 01's search on the lent memory comes to the lowest fit
  search_is : (n : ℕ) → 1 ≤ n → search_of p n ≡ steps_to S W L (fit_of segment_engine p n)
  unfolding search_of fit_of segment_engine
  search_is n one =
      let m = span segment_rule n in
      let (d, K) = searching m (omega (arith, span_words n)) in
      (λ i. searched (λ u. sym (get_or-map (to_z w32) p.arena u 0) i) (sym long i) S p.index m)
      ∙ search_steps L v p.index S d m K
      ∙ ap (λ (k : ℕ). steps_to S k L (lowest_fit (free segment_rule L) k m)) long
      ∙ ap (λ (k : ℕ). steps_to S W L (lowest_fit (free segment_rule L) k m)) (sym (div-one W))

  -- the call's answer is the act's, also where the party is none
  answer_is : (c n : ℕ) → (step segment_engine (allocate c n) p).answer ≡ answer_to segment_engine p (ask c n)
  unfolding acts_done number_of
  answer_is c n = go (is_party c) refl
    where
      go : (b : Bool) → is_party c ≡ b → (step segment_engine (allocate c n) p).answer ≡ answer_to segment_engine p (ask c n)
      go true h = ap (λ o. o.answer) (step_sound segment_engine (allocate c n) p refl refl ok h)
      go false h =
          let twelve : number_of segment_engine p (ask c n) ≡ 12 = rw h in
          ap (λ o. o.answer) (step_stops segment_engine (allocate c n) p 12
          (gate_partied segment_engine (allocate c n) p refl refl ok h) (λ z. omega arith))
          ∙ sym ((act_refused segment_engine p (ask c n) (λ z. omega arith)).0 ∙ ap refusal twelve)

  -- a grant of the block at k
  module _ (c n k : ℕ) (asked : Asked segment_engine p c n k) where
    begins_at_lem : (step segment_engine (allocate c n) p).answer.address - 1 ≡ k
    unfolding segment_engine
    begins_at_lem =
        let e = ap (λ (x : Answer). x.address) (answer_is c n ∙ (ask_done segment_engine p c n k asked).0) in
        let a : (step segment_engine (allocate c n) p).answer.address ≡ k + 1 = e ∙ address_after k in
        omega arith

    places_are : places_of p c n ≡ places_to S W L k
    unfolding places_of
    places_are =
        let e = ap accepted (answer_is c n ∙ (ask_done segment_engine p c n k asked).0) in
        rw (e, begins_at_lem)

    grant_steps : search_of p n ≡ steps ((step segment_engine (allocate c n) p).answer.address - 1) (places_of p c n)
    unfolding segment_engine
    grant_steps =
        let one = eqb_false n 0 (or_l (eqb n 0) (ltb 16384 n) asked.size) in
        search_is n (omega arith) ∙ ap (steps_to S W L) asked.fit ∙ ap₂ steps (sym begins_at_lem) (sym places_are)

  -- a request that gets 5 has a good size, and no room
  none_ask : (c n : ℕ) → number_of segment_engine p (ask c n) ≡ 5 → (1 ≤ n) × (fit_of segment_engine p n ≡ none)
  unfolding number_of segment_engine
  none_ask c n e =
      go (is_party c) (eqb n 0 || ltb most_words n) refl (full L) (eqb p.head.next 0) (fit_of segment_engine p n) refl e
    where
      go : (x a : Bool) → (eqb n 0 || ltb most_words n) ≡ a → (b d : Bool) (o : Option ℕ) → fit_of segment_engine p n ≡ o
          → ◌≡◌ {A = ℕ} (cond x (cond a 2 (cond b 3 (cond d 4 (elim o [ none ↦ 5 | some k ↦ 0 ])))) 12) 5
          → (1 ≤ n) × (fit_of segment_engine p n ≡ none)
      go false a s b d o f h = absurd (omega arith)
      go true true s b d o f h = absurd (omega arith)
      go true false s true d o f h = absurd (omega arith)
      go true false s false true o f h = absurd (omega arith)
      go true false s false false (some k) f h = absurd (omega arith)
      go true false s false false none f h =
          let z = eqb_false n 0 (or_l (eqb n 0) (ltb most_words n) s) in
          (omega arith, f)

-- the places of an act are those of its call
pub act_places : (p : Pool) (c n : ℕ) → sound segment_engine p ≡ true → places_asked p c n ≡ places_of p c n
unfolding places_of
act_places p c n ok = ap (places_by p) (sym (answer_is p ok c n))

-- a call that the gate does not refuse is one on a sound pool
reached : (p : Pool) (c n k : ℕ) → k ≢ 8 → k ≢ 1 → (step segment_engine (allocate c n) p).answer.number ≡ k
    → sound segment_engine p ≡ true
unfolding sound segment_engine
reached p c n k a b e = go (lengths segment_engine p) refl (stored segment_engine p) refl
  where
    other : (x : ℕ) → GateIs segment_engine p x → x ≢ 0 → k ≢ x → ⊥
    other x is z differs =
        let o = gate_refuses segment_engine p x is z (allocate c n) refl refl in
        differs (sym e ∙ ap (λ o. o.answer.number) o)

    go : (l : Bool) → lengths segment_engine p ≡ l → (s : Bool) → stored segment_engine p ≡ s
        → (lengths segment_engine p && stored segment_engine p) ≡ true
    go false l s t = absurd (other 8 (is_eight segment_engine p refl l) (omega arith) a)
    go true l false t = absurd (other 1 (is_one segment_engine p l t) (omega arith) b)
    go true l true t = rw (l, t)

-- one that is refused before its act, by the pool's number or the party, has looked at no place
pub gate_places : (p : Pool) (c n x k : ℕ) → GateIs segment_engine p x → k ≡ with_party x c → k ≢ 0 → 0 ≡ places_of p c n
unfolding places_of pool_number
gate_places p c n x k is e z =
    sym (ap (λ o. places_by p o.answer) refuses ∙ rw (eqb_ne k 0 z, eqb_ne k 5 other))
  where
    refuses : step segment_engine (allocate c n) p ≡ refused_by segment_engine (allocate c n) p k
    refuses = stopped_step segment_engine p x c k is e z (allocate c n) refl refl refl

    -- no such number is 5
    go : (b d f h : Bool) → with_party (cond b (cond d (cond f 0 1) 8) 11) c ≡ 5 → is_party c ≡ h → ⊥
    go true true true true q y = let w = rw y at q in omega arith
    go true true true false q y = let w = rw y at q in omega arith
    go true true false h q y = omega arith
    go true false f h q y = omega arith
    go false d f h q y = omega arith

    other : k ≢ 5
    other q =
        go (segment_engine.known p.shape) (lengths segment_engine p) (stored segment_engine p) (is_party c)
        (ap (λ y. with_party y c) (sym is) ∙ sym e ∙ q) refl

module _ (p : Pool) (c n : ℕ) where
  abbrev x : Answer
  x = (step segment_engine (allocate c n) p).answer

  numbered : (k : ℕ) → sound segment_engine p ≡ true → x.number ≡ k → number_of segment_engine p (ask c n) ≡ k
  numbered k ok e =
      sym (answer_number segment_engine p (ask c n)) ∙ sym (ap (λ (y : Answer). y.number) (answer_is p ok c n)) ∙ e

  granted_at : accepted x ≡ true → (sound segment_engine p ≡ true) × ((k : ℕ) × Asked segment_engine p c n k)
  granted_at h =
      let e = eqb_eq x.number 0 h in
      let ok = reached p c n 0 (omega arith) (omega arith) e in
      (ok, ask_zero segment_engine p c n (numbered 0 ok e))

  places_few : places_of p c n ≤ most_places p.shape (word_count p)
  unfolding places_of most_places
  places_few = go (accepted x) refl (eqb x.number 5)
    where
      at : ℕ
      at = places_to p.shape (word_count p) (ledger p) (x.address - 1)

      go : (b : Bool) → accepted x ≡ b → (c : Bool) → cond b at (cond c 1 0) ≤ most_places p.shape (word_count p)
      go false e true = omega arith
      go false e false = omega arith
      go true e c =
          let ok = (granted_at e).0 in
          places_most p.shape (word_count p) (ledger p) (x.address - 1)
          (size_pos (word_count p) p.shape (power_range p.shape depth (power p ok)).0
          (omega (arith, some_words p ok)))

pub places_counted : PlacesCounted
unfolding places_of
places_counted = record {
  granted = λ p c n h. let (ok, (k, asked)) = granted_at p c n h in grant_steps p ok c n k asked;
  no_room = λ p c n e.
      let ok = reached p c n 5 (omega arith) (omega arith) e in
      let (one, fit) = none_ask p ok c n (numbered p c n 5 ok e) in
      let five : places_of p c n ≡ 1 = rw e in
      search_is p ok n one ∙ ap (steps_to p.shape (word_count p) (ledger p)) fit ∙ ap (steps (word_count p)) (sym five);
  most = places_few;
  largest = λ p c n s w.
      subst (λ (m : ℕ). places_of p c n ≤ m) (ap₂ most_places s w ∙ most_seventy_three) (places_few p c n);
}
