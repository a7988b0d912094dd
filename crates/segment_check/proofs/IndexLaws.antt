-- The index by its parts: word 0, the inner words, and the segments. Assumes nothing.
use Prim.Native.Nat.{ℕ, ◌+◌, ◌-◌, ◌*◌, ◌<◌, max}
use native.Mathlib.Omega.{arith}
use mathlib.Core.Bool.{true, ◌&&◌}
use mathlib.Core.List.{List}
use mathlib.Core.Path.{◌≡◌, refl, sym, ◌∙◌}
use lib.Dec.{eqb}
use lib.IntN.{ℤ}
use lib.ListN.{length, get_or}
use Rattle.words.specs.Counted.{every}
use Rattle.words.specs.Lists.{Words}
use Rattle.words.proofs.CountedLaws.{every_at, every_of}
use Rattle.words.proofs.Tests.{and_l, and_r, and_i, eqb_eq, eqb_same}
use Rattle.stored_forms.specs.Segments.{segment_rule, segment_index, largest, first_block, segment_size}
use Rattle.ledger.specs.Records.{Ledger}
use Rattle.ledger.specs.Units.{valid}
use Rattle.segment_cores.specs.Stores.{arena_of}
use Rattle.segment_cores.proofs.ChangeLaws.{controls, index_view, stored_blocks}
use Rattle.segment_index.specs.Index.{index_of, Agree}
use Rattle.segment_index.specs.Tree.{Heap}
use Rattle.segment_index.proofs.IndexLaws.{index_is, index_zero, index_heap, index_agrees}
use Rattle.segment_blocks.specs.Upkeep.{Sizes, Ground}
use Rattle.segment_blocks.proofs.UpkeepLaws.{sizes_some}
use Rattle.words.specs.Flags.{Says}
use Rattle.segment_check.specs.Right.{node_right, tree_right, segment_right}

-- a segment's test
segment_from : (c : ℕ → ℤ) (W s : ℕ) (t : Words) (k : ℕ) → segment_right c W s t k ≡ true → Agree c W s t k
unfolding segment_right
segment_from c W s t k h =
    let x = largest c (k * segment_size W s) (segment_size W s) in
    let y = first_block c W (k * segment_size W s) (segment_size W s) in
    let a = eqb x (get_or t (s + k) 0) in
    let b = eqb y (get_or t (2 * s + k) 0) in
    record {
      leaf = sym (eqb_eq x (get_or t (s + k) 0) (and_l a b h));
      first = sym (eqb_eq y (get_or t (2 * s + k) 0) (and_r a b h));
    }

segment_to : (c : ℕ → ℤ) (W s : ℕ) (t : Words) (k : ℕ) → Agree c W s t k → segment_right c W s t k ≡ true
unfolding segment_right
segment_to c W s t k A =
    rw (
      A.leaf,
      A.first,
      eqb_same (largest c (k * segment_size W s) (segment_size W s)),
      eqb_same (first_block c W (k * segment_size W s) (segment_size W s)),
    )

module _ (v : List ℤ) (c : ℕ → ℤ) (s g : ℕ) (t : Words) (G : Ground v c s g) (long : length t ≡ 3 * s) where
  abbrev W : ℕ
  W = length v

  some : 0 < s
  some = sizes_some W s g G.sizes

  index_says : Says (tree_right t s && every (segment_right c W s t) 0 s) (t ≡ index_of c W s)
  index_says = (from, to)
    where
      from : (tree_right t s && every (segment_right c W s t) 0 s) ≡ true → t ≡ index_of c W s
      from h =
          let a = eqb (get_or t 0 0) 0 in
          let b = every (node_right t) 1 (s - 1) in
          let d = every (segment_right c W s t) 0 s in
          let front = and_l (a && b) d h in
          let at = every_at (node_right t) 1 (s - 1) (and_r a b front) in
          let seg = every_at (segment_right c W s t) 0 s (and_r (a && b) d h) in
          index_is c W s G.sizes.power t long (eqb_eq (get_or t 0 0) 0 (and_l a b front))
          (record {
            long = omega arith;
            node = λ i l m. eqb_eq (get_or t i 0) (max (get_or t (2 * i) 0) (get_or t (2 * i + 1) 0)) (at i l (omega arith));
          })
          (λ k l. segment_from c W s t k (seg k (omega arith) (omega arith)))

      to : t ≡ index_of c W s → (tree_right t s && every (segment_right c W s t) 0 s) ≡ true
      to e =
          let heap : Heap s t = rw e (index_heap c W s G.sizes.power) in
          let first : get_or t 0 0 ≡ 0 = rw e (index_zero c W s some) in
          and_i (tree_right t s) (every (segment_right c W s t) 0 s)
          (and_i (eqb (get_or t 0 0) 0) (every (node_right t) 1 (s - 1)) (rw first)
          (every_of (node_right t) 1 (s - 1)
          (λ i a b. rw (heap.node i a (omega arith)) (eqb_same (max (get_or t (2 * i) 0) (get_or t (2 * i + 1) 0))))))
          (every_of (segment_right c W s t) 0 s (λ k a b. segment_to c W s t k (agrees e k (omega arith))))
        where
          agrees : t ≡ index_of c W s → (k : ℕ) → k < s → Agree c W s t k
          agrees e k l = rw e (index_agrees c W s k l)

-- where the arena is the stored form of a valid ledger, its blocks are the ledger's, and so is their index
module _ (v : List ℤ) (t : Words) (s g : ℕ) (Z : Sizes (length v) s g) (L : Ledger) (next : ℕ)
    (good : valid segment_rule (length v) next L ≡ true) (arena : v ≡ arena_of L v) where
  abbrev c : ℕ → ℤ
  c = controls L (length v)

  pub stored_ground : Ground v c s g
  stored_ground = record { sizes = Z; blocks = stored_blocks next L v good v v refl arena }

  pub index_stored : length t ≡ 3 * s
      → Says (tree_right t s && every (segment_right c (length v) s t) 0 s) (t ≡ segment_index s (length v) L)
  index_stored long =
      let says = index_says v c s g t stored_ground long in (
        (λ h. says.0 h ∙ sym (index_view s (length v) L)),
        (λ q. says.1 (q ∙ index_view s (length v) L)),
      )
