-- A sound segment pool by its signed words, and when head, arena, table and index are the stored form of a ledger.
-- Assumes nothing.
use Prim.Native.Nat.{ℕ}
use mathlib.Core.Path.{◌≡◌, sym, ap, ap₂, ◌∙◌, subst}
use mathlib.Core.Bool.{true}
use mathlib.Core.List.{List, []}
use lib.IntN.{ℤ}
use lib.ListN.{length, length-map}
use mir.Syntax.{w32}
use mir.Val.{of_z}
use Rattle.words.specs.Lists.{Words}
use Rattle.words.specs.Places.{stamp}
use Rattle.ledger.specs.Records.{Ledger, records_of, table_of}
use Rattle.ledger.specs.Units.{valid, owned}
use Rattle.stored_forms.specs.Segments.{segment_rule, segment_word, segment_index}
use Rattle.segment_index.specs.declared.Segments.{Segments}
use Rattle.segment_index.specs.Index.{Divided}
use Rattle.segment_cores.specs.Stores.{Sound, Becomes}
use Rattle.segment_cores.proofs.BitLaws.{arena_words, words_arena}
use Rattle.calls.specs.Pool.{Pool, store, sound}
use Rattle.calls.specs.Engines.{segment_engine}
use Rattle.calls.proofs.StoreLaws.{sound_lengths, sound_valid, is_store}
use Rattle.calls.proofs.Engines.{segment_laws}
use Rattle.segment_check.specs.declared.Head.{Head}
use Rattle.segment_check.specs.Gate.{as_words, segment_pool, Ranged}
use Rattle.segment_check.proofs.GateLaws.{InRange, in_range, sized}

-- ---- a sound pool

module _ (S : ℕ) (h : Head) (v : List ℤ) (t x : Words) (ok : sound segment_engine (segment_pool S h v t x) ≡ true) where
  abbrev L : Ledger
  L = records_of t

  abbrev p : Pool
  p = segment_pool S h v t x

  long : length (as_words v) ≡ length v
  long = length-map v (of_z w32)

  pub sound_range : InRange S v t x
  sound_range = in_range S h v t x (sound_lengths segment_engine segment_laws p ok)

  pub sound_good : valid segment_rule (length v) h.next L ≡ true
  unfolding segment_engine
  sound_good =
      subst (λ (m : ℕ). valid segment_rule m h.next L ≡ true) long (sound_valid segment_engine segment_laws p ok)

  unfoldable pub sound_form : Ranged v → {r : Segments} → Divided S (length v) r → Sound L v x r.count r.size
  unfolding segment_engine store long
  sound_form fits d =
      let e = is_store segment_engine segment_laws p ok in
      record {
        sizes = sized sound_range d;
        next = h.next;
        good = sound_good;
        arena = words_arena h.next L v sound_good sound_range.most fits
            (ap (λ (q : Pool). q.arena) e
            ∙ ap (λ (m : ℕ). stamp (owned segment_rule L) (segment_word m L) (as_words v)) long);
        index = ap (λ (q : Pool). q.index) e ∙ ap₂ (λ (s m : ℕ). segment_index s m L) (sym d.count) long;
      }

-- ---- what is stored

pub stored_pool : (p : Pool) (L : Ledger) (n : ℕ) (v v' : List ℤ) (t x : Words) → p.arena ≡ as_words v
    → Becomes L v p.shape v' x → t ≡ table_of L → segment_pool p.shape (record { next = n }) v' t x ≡ store segment_engine L n p
unfolding segment_engine store
stored_pool p L n v v' t x e b table =
    let long : length (as_words v) ≡ length v = length-map v (of_z w32) in
    let arena : as_words v' ≡ stamp (owned segment_rule L) (segment_word (length p.arena) L) p.arena =
    ap as_words b.arena ∙ arena_words L v
    ∙ ap (λ (m : ℕ). stamp (owned segment_rule L) (segment_word m L) (as_words v)) (sym long)
    ∙ ap (λ (ws : Words). stamp (owned segment_rule L) (segment_word (length ws) L) ws) (sym e) in
    let index : x ≡ segment_index p.shape (length p.arena) L =
    b.index ∙ ap (λ (m : ℕ). segment_index p.shape m L) (sym long)
    ∙ ap (λ (ws : Words). segment_index p.shape (length ws) L) (sym e) in
    λ i. record {
      head = record { own = []; next = n };
      shape = p.shape;
      arena = arena i;
      table = table i;
      index = index i;
    }
