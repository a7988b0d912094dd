-- The gate: the lent lengths, and when table, arena and index together are a stored pool. Assumes nothing.
use Prim.Native.Nat.{ℕ, ◌*◌, ◌%◌, ◌≤◌}
use native.Mathlib.Omega.{arith}
use mathlib.Core.Path.{◌≡◌, refl, sym, ap, ◌∙◌}
use mathlib.Core.Bool.{Bool, true, false, ◌&&◌, true≢false}
use mathlib.Core.List.{List, []}
use lib.Dec.{eqb, leb}
use lib.IntN.{ℤ}
use lib.ListN.{length, length-map}
use mir.Syntax.{w32}
use mir.Val.{of_z}
use Rattle.words.specs.Lists.{Words}
use Rattle.words.specs.Places.{stamp}
use Rattle.words.proofs.Tests.{bool_iff, false_of, and_l, and_r, eqb_eq, le_of}
use Rattle.ledger.specs.Records.{Ledger, slots, records_of}
use Rattle.ledger.specs.Units.{valid, owned}
use Rattle.ledger.proofs.RecordLaws.{table_records}
use Rattle.stored_forms.specs.Segments.{segment_rule, segment_range, segment_word, segment_index, segment_size}
use Rattle.stored_forms.specs.Segments.{is_power, depth}
use Rattle.segment_index.specs.declared.Segments.{Segments}
use Rattle.segment_index.specs.Index.{Divided}
use Rattle.segment_blocks.specs.Upkeep.{Sizes}
use Rattle.segment_cores.specs.Stores.{arena_of}
use Rattle.segment_cores.proofs.BitLaws.{arena_words, words_arena}
use Rattle.words.specs.Flags.{Says}
use Rattle.segment_check.specs.Right.{Measured}
use Rattle.segment_check.specs.Adjoining.{Shown}
use Rattle.calls.specs.Pool.{Pool, store, lengths, same_pool, stored}
use Rattle.calls.specs.Engines.{segment_engine}
use Rattle.calls.proofs.StoreLaws.{same_pool_eq, same_pool_same}
use Rattle.segment_check.specs.Gate.{as_words, segment_pool, Ranged}
use Rattle.segment_check.specs.declared.Head.{Head}

-- ---- the lent lengths

-- what the tests of row 8 say
pub record InRange (S : ℕ) (v : List ℤ) (t x : Words) : Type 0 where
  pub some : 2 ≤ length v
  pub most : length v ≤ 16384
  pub power : is_power S depth ≡ true
  pub whole : length t % 4 ≡ 0
  pub few : slots t ≤ 256
  pub indexed : length x ≡ 3 * S

module _ (S : ℕ) (h : Head) (v : List ℤ) (t x : Words) where
  pub lengths_are : ((((((leb 2 (length v) && leb (length v) 16384) && is_power S depth) && eqb (length t % 4) 0)
      && leb 1 (slots t)) && leb (slots t) 256) && eqb (length x) (3 * S))
      ≡ lengths segment_engine (segment_pool S h v t x)
  unfolding lengths segment_engine segment_range
  lengths_are = rw (length-map v)

  pub in_range : lengths segment_engine (segment_pool S h v t x) ≡ true → InRange S v t x
  in_range h =
      let e = lengths_are ∙ h in
      record {
        some = le_of 2 (length v) (search (and_l, and_r));
        most = le_of (length v) 16384 (search (and_l, and_r));
        power = search (and_l, and_r);
        whole = eqb_eq (length t % 4) 0 (search (and_l, and_r));
        few = le_of (slots t) 256 (search (and_l, and_r));
        indexed = eqb_eq (length x) (3 * S) (search (and_l, and_r));
      }

-- and of the segments of the arena
module _ {S : ℕ} {v : List ℤ} {t x : Words} (fit : InRange S v t x) {r : Segments} (d : Divided S (length v) r) where
  pub sized : Sizes (length v) r.count r.size
  sized = record {
    power = rw d.count fit.power;
    words = omega (arith, fit.some);
    most = fit.most;
    each = d.size ∙ ap (segment_size (length v)) (sym d.count);
  }

  pub measured : Measured v t x r.count r.size
  measured = record { sizes = sized; few = fit.few; long = fit.indexed ∙ ap (λ (s : ℕ). 3 * s) (sym d.count) }

-- ---- the pool

-- b is what the check of the table says
not_stored : (S : ℕ) (h : Head) (v : List ℤ) (t x : Words) (b : Bool)
    → b ≡ valid segment_rule (length v) h.next (records_of t) → b ≡ false
    → false ≡ stored segment_engine (segment_pool S h v t x)
unfolding stored segment_engine
not_stored S h v t x b e off = let bad = sym e ∙ off in sym (rw (length-map v, bad))

-- right lengths and a valid table
record Valid (S : ℕ) (h : Head) (v : List ℤ) (t x : Words) : Type 0 where
  pub fit : InRange S v t x
  pub good : valid segment_rule (length v) h.next (records_of t) ≡ true

module _ {S : ℕ} {h : Head} {v : List ℤ} {t x : Words} (k : Valid S h v t x) where
  abbrev L : Ledger
  L = records_of t

  abbrev p : Pool
  p = segment_pool S h v t x

  -- arena and index of the ledger
  abbrev Right : Type 0
  Right = (v ≡ arena_of L v) × (x ≡ segment_index S (length v) L)

  right_store : Right → p ≡ store segment_engine L h.next p
  unfolding store segment_engine
  right_store same =
      let n : length (as_words v) ≡ length v = length-map v (of_z w32) in
      let arena : as_words v ≡ stamp (owned segment_rule L) (segment_word (length (as_words v)) L) (as_words v) =
      ap as_words same.0 ∙ arena_words L v
      ∙ ap (λ m. stamp (owned segment_rule L) (segment_word m L) (as_words v)) (sym n) in
      let table = table_records t k.fit.whole in
      let index : x ≡ segment_index S (length (as_words v)) L = same.1 ∙ ap (λ m. segment_index S m L) (sym n) in
      λ i. record {
        head = record { own = []; next = h.next };
        shape = S;
        arena = arena i;
        table = sym table i;
        index = index i;
      }

  store_right : Ranged v → p ≡ store segment_engine L h.next p → Right
  unfolding store segment_engine
  store_right fits e =
      let n : length (as_words v) ≡ length v = length-map v (of_z w32) in (
        words_arena h.next L v k.good k.fit.most fits
            (ap (λ (q : Pool). q.arena) e
            ∙ ap (λ m. stamp (owned segment_rule L) (segment_word m L) (as_words v)) n),
        ap (λ (q : Pool). q.index) e ∙ ap (λ m. segment_index S m L) n,
      )

  stored_same : stored segment_engine p ≡ same_pool p (store segment_engine L h.next p)
  unfolding stored segment_engine
  stored_same =
      let good : valid segment_rule (length (as_words v)) h.next L ≡ true = rw (length-map v) k.good in
      rw good

  stored_by : (r : Bool) → (r ≡ true → Right) → (p ≡ store segment_engine L h.next p → r ≡ true)
      → r ≡ stored segment_engine (segment_pool S h v t x)
  stored_by r from to =
      let q = store segment_engine L h.next p in
      bool_iff r (stored segment_engine p)
      (λ e. stored_same ∙ ap (same_pool p) (sym (right_store (from e))) ∙ same_pool_same p)
      (λ e. to (same_pool_eq p q (sym stored_same ∙ e)))

  stored_is : Ranged v → (r : Bool) → Says r Right → r ≡ stored segment_engine (segment_pool S h v t x)
  stored_is fits r says = stored_by r says.0 (λ e. says.1 (store_right fits e))

-- what the check says of the lent memory is what `stored` says of the pool
pub stored_says : {S : ℕ} (h : Head) {v : List ℤ} {t x : Words} → InRange S v t x → Ranged v → (r : Bool)
    → Says r (Shown h.next v t x S) → r ≡ stored segment_engine (segment_pool S h v t x)
stored_says {S} h {v} {t} {x} fit fits r says = go (valid segment_rule (length v) h.next (records_of t)) refl
  where
    go : (b : Bool) → b ≡ valid segment_rule (length v) h.next (records_of t)
        → r ≡ stored segment_engine (segment_pool S h v t x)
    go false e =
        false_of r (λ h. true≢false (sym (says.0 h).0 ∙ sym e)) ∙ not_stored S h v t x false e refl
    go true e =
        stored_is (record { fit = fit; good = sym e }) fits r
        ((λ h. ((says.0 h).1, (says.0 h).2)), (λ (arena, index). says.1 (sym e, arena, index)))
