-- The index by its tree and its segments: a tree of maxima over the right leaves, with the right first blocks, is the
-- index. Assumes nothing.
use Prim.Native.Nat.{ℕ, zero, suc, ◌+◌, ◌-◌, ◌*◌, ◌^◌, ◌<◌, ◌≤◌, max}
use native.Mathlib.Decide.{dec_lt, ℕ_discrete}
use native.Mathlib.Nat.{zero-add, mul-one}
use native.Mathlib.Omega.{arith}
use mathlib.Core.Bool.{true}
use mathlib.Core.Path.{◌≡◌, sym, ap₂, ◌∙◌}
use lib.IntN.{ℤ}
use lib.ListN.{length, get_or}
use lib.Seq.{ext_get_or}
use Rattle.words.specs.Lists.{Words}
use Rattle.words.proofs.ListLaws.{length_list_from, get_d_list_from}
use Rattle.stored_forms.specs.Segments.{segment_size, index_word, is_power, depth}
use Rattle.stored_forms.proofs.SegmentLaws.{zero_word, tree_word_lem, leaf_word, first_word, power_range}
use Rattle.segment_index.specs.Index.{index_of, Agree}
use Rattle.segment_index.specs.Tree.{Heap}
use Rattle.segment_index.proofs.RangeLaws.{Alike, largest_same, first_same}
use Rattle.segment_index.proofs.WayLaws.{low, mid}

module _ (c : ℕ → ℤ) (W S : ℕ) where
  pub length_index_of : length (index_of c W S) ≡ 3 * S
  length_index_of = length_list_from (index_word c W S) 0 (3 * S)

  word_at_lem : (i : ℕ) → i < 3 * S → get_or (index_of c W S) i 0 ≡ index_word c W S i
  word_at_lem i h = get_d_list_from (index_word c W S) 0 (3 * S) i 0 h ∙ rw zero-add

  pub index_zero : 0 < S → get_or (index_of c W S) 0 0 ≡ 0
  index_zero h = word_at_lem 0 (omega arith) ∙ zero_word c W S

  pub index_agrees : (k : ℕ) → k < S → Agree c W S (index_of c W S) k
  index_agrees k h = record {
    leaf = word_at_lem (S + k) (omega arith) ∙ leaf_word c W S k h;
    first = word_at_lem (2 * S + k) (omega arith) ∙ first_word c W S k h;
  }

  module _ (power : is_power S depth ≡ true) where
    pub index_heap : Heap S (index_of c W S)
    index_heap = record {
      long = rw length_index_of (omega arith);
      node = λ i p q.
          word_at_lem i (omega arith) ∙ tree_word_lem c W S power i p q
          ∙ sym (ap₂ max (word_at_lem (2 * i) (omega arith)) (word_at_lem (2 * i + 1) (omega arith)));
    }

    module _ (t : Words) (long : length t ≡ 3 * S) (first : get_or t 0 0 ≡ 0) (heap : Heap S t)
        (each : (k : ℕ) → k < S → Agree c W S t k) where
      leaf_is : (j : ℕ) → S ≤ j → j < 2 * S → get_or t j 0 ≡ index_word c W S j
      leaf_is j a b =
          let e : S + (j - S) ≡ j = omega arith in
          rw e at ((each (j - S) (omega arith)).leaf ∙ sym (leaf_word c W S (j - S) (omega arith)))

      tree_is : (d i : ℕ) → 0 < i → i < 2 * S → S ≤ i * 2 ^ d → get_or t i 0 ≡ index_word c W S i
      tree_is zero i p q e = leaf_is i (omega (arith, mul-one i)) q
      tree_is (suc d) i p q e =
          go (dec_lt i S) (λ r. tree_is d (2 * i) (omega arith) (omega arith) (omega (arith, low i d)))
          (λ r. tree_is d (2 * i + 1) (omega arith) (omega arith) (omega (arith, low i d, mid i d)))
        where
          go : Dec (i < S) → (i < S → get_or t (2 * i) 0 ≡ index_word c W S (2 * i))
              → (i < S → get_or t (2 * i + 1) 0 ≡ index_word c W S (2 * i + 1)) → get_or t i 0 ≡ index_word c W S i
          go (yes r) x y = heap.node i p r ∙ ap₂ max (x r) (y r) ∙ sym (tree_word_lem c W S power i p r)
          go (no r) x y = leaf_is i (omega arith) q

      word_is : (i : ℕ) → i < 3 * S → get_or t i 0 ≡ index_word c W S i
      word_is i h = go (ℕ_discrete i 0) (dec_lt i (2 * S))
        where
          go : Dec (i ≡ 0) → Dec (i < 2 * S) → get_or t i 0 ≡ index_word c W S i
          go (yes e) d = rw e (first ∙ sym (zero_word c W S))
          go (no e) (yes d) = tree_is depth i (omega arith) d (omega (arith, (power_range S depth power).1))
          go (no e) (no d) =
              let k : 2 * S + (i - 2 * S) ≡ i = omega arith in
              rw k at ((each (i - 2 * S) (omega arith)).first ∙ sym (first_word c W S (i - 2 * S) (omega arith)))

      pub index_is : t ≡ index_of c W S
      index_is =
          ext_get_or 0 t (index_of c W S) (long ∙ sym length_index_of)
          (λ i h. word_is i (rw long at h) ∙ sym (word_at_lem i (rw long at h)))

-- ---- one segment

-- the words of the segment have the same weights in both
pub agree_moves : (c d : ℕ → ℤ) (W S : ℕ) (t : Words) (k : ℕ)
    → Alike c d (k * segment_size W S) (k * segment_size W S + segment_size W S)
    → Agree c W S t k → Agree d W S t k
agree_moves c d W S t k h a = record {
  leaf = a.leaf ∙ largest_same c d (k * segment_size W S) (segment_size W S) h;
  first = a.first ∙ first_same c d W (k * segment_size W S) (segment_size W S) h;
}
