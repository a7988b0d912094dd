-- Laws of records that are entered with the first words of their blocks set in a map; and of the blocks that lie side
-- by side then: they are a valid ledger, stored in arena and index. Assumes nothing.
use Prim.Native.Nat.{ℕ, ◌+◌, ◌-◌, ◌≤◌, ◌<◌}
use native.Mathlib.Decide.{ℕ_discrete}
use native.Mathlib.Nat.{div-one}
use native.Mathlib.Omega.{arith}
use mathlib.Core.Bool.{Bool, true, false, cond, ◌&&◌, ◌||◌, or-true, true≢false}
use mathlib.Core.List.{List}
use mathlib.Core.Logic.{◌≢◌}
use Rattle.std.specs.Prelude.{Option, IsSomeAnd}
use mathlib.Core.Path.{◌≡◌, refl, sym, ap, ◌∙◌, subst}
use lib.Dec.{eqb}
use lib.IntN.{ℤ, pos, neg_ℤ, nat_abs}
use lib.ListN.{length, get_or}
use Rattle.words.specs.Lists.{Words}
use Rattle.words.specs.Counted.{every}
use Rattle.words.proofs.Tests.{and_l, and_r, and_i, eqb_eq, eqb_ne, eqb_same, of_not}
use Rattle.ledger.specs.declared.Row.{Row}
use Rattle.ledger.specs.Records.{Ledger, record_at, records_of, slots, is_empty}
use Rattle.ledger.specs.Units.{first, past, valid, free}
use Rattle.ledger.proofs.UnitLaws.{fits_facts, covers_in}
use Rattle.stored_forms.specs.Segments.{segment_rule}
use Rattle.segment_index.specs.Control.{free_size}
use Rattle.record_table.proofs.PairLaws.{every_last}
use Rattle.record_table.proofs.CheckLaws.{all_slots}
use Rattle.segment_cores.specs.Stores.{arena_of}
use Rattle.segment_cores.proofs.UnitLaws.{span_words, address_after}
use Rattle.segment_cores.proofs.ChangeLaws.{controls}
use Rattle.segment_check.specs.Right.{held_right, tree_right, segment_right, Measured}
use Rattle.segment_check.proofs.IndexLaws.{stored_ground, index_stored}
use Rattle.record_table.specs.Partition.{Noted, Joins}
use Rattle.record_table.proofs.EnterLaws.{enter_next}
use Rattle.record_table.proofs.PartitionLaws.{held_by, partition_valid, valid_count}
use Rattle.segment_check.specs.BitMaps.{bit_at}
use Rattle.segment_check.specs.Adjoining.{held_from, Adjoining, Matched, Heads, Sets, Good, Joined, Headed, Shown, WalksAll}
use Rattle.segment_check.proofs.ArenaLaws.{held_is, arena_partitioned, arena_kept, arena_good}
use Rattle.segment_check.proofs.KeptLaws.{passing}

-- ---- a slot

module _ (v : List ℤ) (next : ℕ) (t : Words) (i u : ℕ) (J : Joins segment_rule (length v) next t i u) where
  abbrev r : Row
  r = record_at t i

  units : is_empty r ≡ false → u ≡ r.words + 1
  units e = J.2 ∙ rw e (span_words r.words)

  empty_none : u ≡ 0 → is_empty r ≡ true
  empty_none z = go (is_empty r) refl
    where
      go : (b : Bool) → is_empty r ≡ b → is_empty r ≡ true
      go true e = e
      go false e = absurd (omega (arith, units e))

  live_some : u ≢ 0 → is_empty r ≡ false
  live_some z = go (is_empty r) refl
    where
      go : (b : Bool) → is_empty r ≡ b → is_empty r ≡ false
      go true e = absurd (z (J.2 ∙ rw e))
      go false e = e

  -- where a live record's control word lies
  pub head_inside : u ≢ 0 → (1 ≤ r.address) × (r.address ≤ length v) × (first segment_rule r ≡ r.address - 1)
  head_inside z =
      let facts = fits_facts segment_rule (omega arith) (length v) next r (rw (live_some z) at J.0) in
      let place = facts.place ∙ address_after (first segment_rule r) in
      let some = facts.nonempty in
      let inside = facts.inside in
      (omega arith, omega arith, omega arith)

  heads_more : (map : Words) → Heads v t map i → Heads v t map (i + 1)
  heads_more map H k z = let (j, l, e, f, n) = H k z in (j, omega arith, e, f, n)

  sets_more : (map map' : Words) → Sets t map i → ((k : ℕ) → bit_at map k ≡ true → bit_at map' k ≡ true)
      → (is_empty r ≡ false → bit_at map' (first segment_rule r) ≡ true) → Sets t map' (i + 1)
  sets_more map map' S keeps own j l live = go (ℕ_discrete j i)
    where
      go : Dec (j ≡ i) → bit_at map' (first segment_rule (record_at t j)) ≡ true
      go (yes q) =
          subst (λ k. bit_at map' (first segment_rule (record_at t k)) ≡ true) (sym q)
          (own (subst (λ k. is_empty (record_at t k) ≡ false) q live))
      go (no q) = keeps (first segment_rule (record_at t j)) (S j (omega arith) live)

  -- an empty slot
  pub joined_none : (map seen : Words) (m : ℕ) → Noted m seen t (i + 1) → Heads v t map i → Sets t map i → u ≡ 0
      → Joined v next t map seen m i 0
  joined_none map seen m noted H S z = record {
    joins = (J.0, J.1, sym z ∙ J.2);
    right = rw (empty_none z);
    noted = noted;
    heads = heads_more map H;
    sets = sets_more map map S (λ k h. h) (λ e. absurd (true≢false (sym (empty_none z) ∙ e)));
  }

  -- what a right control word is
  pub held_word : u ≢ 0 → held_right v r ≡ true → get_or v (r.address - 1) (pos 0) ≡ neg_ℤ (pos u)
  held_word z h =
      let w = get_or v (r.address - 1) (pos 0) in
      let size = eqb (nat_abs w) (r.words + 1) in
      let both : (size && eqb (free_size w) 0) ≡ true = rw (live_some z) at h in
      let n = units (live_some z) in
      held_is w u (omega (arith, n)) (eqb_eq (nat_abs w) (r.words + 1) (and_l size (eqb (free_size w) 0) both) ∙ sym n)
      (eqb_eq (free_size w) 0 (and_r size (eqb (free_size w) 0) both))

  -- a live record, whose control word has its size and is no free block's
  pub joined_live : (map map' seen : Words) (m at : ℕ) → Noted m seen t (i + 1) → Heads v t map i → Sets t map i
      → u ≢ 0 → at ≡ r.address - 1 → nat_abs (get_or v at (pos 0)) ≡ u → free_size (get_or v at (pos 0)) ≡ 0
      → ((k : ℕ) → bit_at map' k ≡ (eqb k at || bit_at map k)) → Joined v next t map' seen m i u
  joined_live map map' seen m at noted H S z is size held put = record {
    joins = J;
    right =
        rw (live_some z, sym is, size ∙ units (live_some z), held)
        (and_i (eqb (r.words + 1) (r.words + 1)) true (eqb_same (r.words + 1)) refl);
    noted = noted;
    heads = λ k e. go k e (ℕ_discrete k at);
    sets =
        sets_more map map' S (λ k h. put k ∙ ap (λ b. eqb k at || b) h ∙ or-true (eqb k at))
        (λ e. subst (λ k. bit_at map' k ≡ true) (is ∙ sym (head_inside z).2)
        (put at ∙ ap (λ (b : Bool). b || bit_at map at) (eqb_same at)));
  }
    where
      go : (k : ℕ) → bit_at map' k ≡ true → Dec (k ≡ at)
          → (j : ℕ) × (j < i + 1) × (is_empty (record_at t j) ≡ false) × (first segment_rule (record_at t j) ≡ k)
          × (nat_abs (get_or v k (pos 0)) ≡ (record_at t j).words + 1)
      go k e (yes q) =
          let (a, b, f) = head_inside z in (
            i,
            omega arith,
            live_some z,
            f ∙ sym is ∙ sym q,
            ap (λ n. nat_abs (get_or v n (pos 0))) q ∙ size ∙ units (live_some z),
          )
      go k e (no q) =
          heads_more map H k (sym (ap (λ (b : Bool). b || bit_at map k) (eqb_ne k at q)) ∙ sym (put k) ∙ e)

-- ---- slot after slot

module _ (v : List ℤ) (next : ℕ) (t : Words) (m : ℕ) where
  pub headed_next : (map seen map' seen' : Words) (i held u : ℕ) → Headed v next t map seen m i held
      → Joined v next t map' seen' m i u → Headed v next t map' seen' m (i + 1) (held + u)
  headed_next map seen map' seen' i held u H J = record {
    entered = enter_next segment_rule (length v) next t i held u H.entered J.joins;
    right =
        every_last (λ j. held_right v (record_at t j)) i
        ∙ and_i (every (λ j. held_right v (record_at t j)) 0 i) (held_right v (record_at t i)) H.right J.right;
    noted = J.noted;
    heads = J.heads;
    sets = J.sets;
  }

  -- what the map says is held is held
  head_spans : (map : Words) → Heads v t map (slots t)
      → (k u : ℕ) → k ≤ u → u < k + held_from v map k → free segment_rule (records_of t) u ≡ false
  unfolding past
  head_spans map H k u a b = go (bit_at map k) refl b
    where
      go : (z : Bool) → bit_at map k ≡ z → u < k + cond z (nat_abs (get_or v k (pos 0))) 0
          → free segment_rule (records_of t) u ≡ false
      go false e l = absurd (omega arith)
      go true e l =
          let (j, h, live, start, size) = H k e in
          let r = record_at t j in
          held_by segment_rule t j u h
          (covers_in segment_rule u r (of_not (is_empty r) live) (omega arith)
          (omega (arith, span_words r.words)))

-- ---- side by side

blocks_right : (v : List ℤ) (next : ℕ) (t map seen : Words) (m held free' : ℕ) (after : Bool)
    → Headed v next t map seen m (slots t) held → Adjoining v map (length v) free' after → free' + held ≡ length v
    → (valid segment_rule (length v) next (records_of t) ≡ true) × (v ≡ arena_of (records_of t) v)
blocks_right v next t map seen m held free' after H L exact =
    let (good, runs) = partition_valid segment_rule (omega arith) (length v) next held t L.runs H.entered
    (record {
      gapped = rw (div-one (length v)) L.gapped;
      held = λ u h e.
          let (k, a, b) = L.rest u (rw (div-one (length v)) at h) e in
          head_spans v next t m map H.heads k u a b;
    }) (rw (div-one (length v)) (ap (λ s. s + held) L.sum ∙ exact)) in
    (good, arena_partitioned v next t good L.runs (all_slots (held_right v) t ∙ H.right) runs L.words)

-- and the index is theirs, if the words above the segments' are right too
pub blocks_stored : (v : List ℤ) (next : ℕ) (t x map seen : Words) (m held free' s g : ℕ) → Measured v t x s g
    → Headed v next t map seen m (slots t) held → Matched v map x s g free' → free' + held ≡ length v → (b : Bool)
    → b ≡ tree_right x s → b ≡ true → Shown next v t x s
blocks_stored v next t x map seen m held free' s g Z H M exact b is ok =
    let (good, arena) = blocks_right v next t map seen m held free' M.after H M.adjoining exact in
    let L = records_of t in
    let c = controls L (length v) in
    let segments = every (segment_right c (length v) s x) 0 s in (
      good,
      arena,
      (index_stored v x s g Z.sizes L next good arena Z.long).0
          (and_i (tree_right x s) segments (sym is ∙ ok)
          (M.right c (stored_ground v x s g Z.sizes L next good arena))),
    )

-- ---- the other way: a pool that is stored passes

module _ (v : List ℤ) (next : ℕ) (t x : Words) (s g : ℕ) (Z : Measured v t x s g) (P : Shown next v t x s) where
  abbrev L : Ledger
  L = records_of t

  abbrev c : ℕ → ℤ
  c = controls L (length v)

  index_right : (tree_right x s && every (segment_right c (length v) s x) 0 s) ≡ true
  index_right = (index_stored v x s g Z.sizes L next P.0 P.1 Z.long).1 P.2

  pub stored_good : (i : ℕ) → i < slots t → Good v next t i
  stored_good = arena_good v next t P.0 P.1

  pub stored_tree : tree_right x s ≡ true
  stored_tree = and_l (tree_right x s) (every (segment_right c (length v) s x) 0 s) index_right

  module _ (map seen : Words) (m held : ℕ) (H : Headed v next t map seen m (slots t) held) where
    count : passing (free segment_rule L) (length v) + held ≡ length v
    count =
        rw (div-one (length v)) at
        (valid_count segment_rule (omega arith) (length v) next t P.0 held H.entered)

    pub stored_held : held ≤ length v
    stored_held = omega (arith, count)

    -- the words that were walked over, and those of the records, are all
    pub stored_exact : (free' : Option ℕ) → WalksAll v map x s g free' → IsSomeAnd free' (λ n. n + held ≡ length v)
    stored_exact free' walks =
        subst (λ o. IsSomeAnd o (λ n. n + held ≡ length v))
        (sym (walks c (passing (free segment_rule L)) (arena_kept v next t P.0 P.1 map H.sets) refl
        (stored_ground v x s g Z.sizes L next P.0 P.1)
        (and_r (tree_right x s) (every (segment_right c (length v) s x) 0 s) index_right)))
        count
