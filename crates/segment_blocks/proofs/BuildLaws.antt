-- The way from segment to segment, and the index of one block: its first segment is stored, and no block begins in the
-- others. Assumes nothing.
use Prim.Native.Nat.{ℕ, ◌+◌, ◌-◌, ◌*◌, ◌<◌, ◌≤◌, min}
use native.Mathlib.Decide.{dec_lt}
use native.Mathlib.Nat.{add-zero, zero-mul, add-mul, one-mul, mul-le-mul_right}
use native.Mathlib.Omega.{arith}
use mathlib.Core.Bool.{true, true≢false}
use mathlib.Core.List.{List}
use mathlib.Core.Path.{◌≡◌, refl, sym, ap, ◌∙◌}
use lib.IntN.{ℤ, pos, nat_abs}
use lib.ListN.{length, get_or, set}
use Rattle.words.specs.Lists.{Words}
use Rattle.words.specs.Places.{wiped}
use Rattle.words.proofs.PlaceLaws.{length_wiped, wiped_in, wiped_out}
use Rattle.words.proofs.Tests.{within_low, of_lt, of_ge}
use Rattle.stored_forms.specs.Segments.{largest, weight}
use Rattle.segment_index.specs.Index.{index_of, Agree}
use Rattle.segment_index.specs.Tree.{Raised}
use Rattle.segment_index.proofs.IndexLaws.{index_is}
use Rattle.segment_index.proofs.RangeLaws.{largest_on}
use Rattle.segment_blocks.specs.Blocks.{Scan, Reaches}
use Rattle.segment_blocks.specs.Upkeep.{Ground, OneBlock, Facing, Ready, Refreshed, first_from}
use Rattle.segment_blocks.proofs.TouchLaws.{Pending, step}
use Rattle.segment_blocks.proofs.UpkeepLaws.{sizes_some, sizes_each, leaf_right, first_right, refreshed}

-- the first block of segment k, or of a later one, is at `from`
pub record Passing (v : List ℤ) (c : ℕ → ℤ) (g k from : ℕ) : Type 0 where
  pub low : min (k * g) (length v) ≤ from
  pub scan : Scan v c from
  pub quiet : (u : ℕ) → k * g ≤ u → u < from → c u ≡ pos 0

module _ (v : List ℤ) (c : ℕ → ℤ) (s g : ℕ) (G : Ground v c s g) where
  pub pass_start : Passing v c g 0 0
  pass_start = record {
    low = omega (arith, zero-mul g);
    scan = record { blocks = G.blocks; inside = omega arith; begins = λ h. G.blocks.start h };
    quiet = λ u a b. absurd (omega arith);
  }

  pub pass_facing : (k from : ℕ) → Passing v c g k from → k < s → Facing v c s g k from
  pass_facing k from P h = record { sizes = G.sizes; is = h; low = P.low; scan = P.scan; quiet = P.quiet }

  pub pass_on : (k from hi r : ℕ) → Passing v c g k from → hi ≡ min ((k + 1) * g) (length v) → Reaches v c from hi r
      → Passing v c g (k + 1) r
  pass_on k from hi r P is R = record {
    low = omega (arith, R.high);
    scan = R.scan;
    quiet = λ u a b. go u a b (dec_lt u from);
  }
    where
      up : (k + 1) * g ≡ k * g + g
      up = rw (add-mul k 1 g, one-mul g)

      go : (u : ℕ) → (k + 1) * g ≤ u → u < r → Dec (u < from) → c u ≡ pos 0
      go u a b (yes l) = P.quiet u (omega (arith, up)) l
      go u a b (no l) = R.quiet u (omega arith) (omega arith) b

-- the segments from k on
abbrev pub From : ℕ → ℕ → Type 0
From k j = k ≤ j

-- the index says of them that no block begins there
pub record Blank (W s : ℕ) (t : Words) (k : ℕ) : Type 0 where
  pub leaf : (j : ℕ) → k ≤ j → j < s → get_or t (s + j) 0 ≡ 0
  pub first : (j : ℕ) → k ≤ j → j < s → get_or t (2 * s + j) 0 ≡ W

-- the segments before k are right, no block is known from there on, and the next one is at `from`
pub record Built (v : List ℤ) (c : ℕ → ℤ) (s g : ℕ) (t : Words) (k from : ℕ) : Type 0 where
  pub pending : Pending c (length v) s t (From k)
  pub blank : Blank (length v) s t k
  pub passing : Passing v c g k from

module _ (v : List ℤ) (c : ℕ → ℤ) (s g : ℕ) (G : Ground v c s g) where
  abbrev W : ℕ
  W = length v

  some : 0 < s
  some = sizes_some W s g G.sizes

  module _ (t u w : Words) (long : length t ≡ 3 * s) (p : u ≡ wiped 0 0 (2 * s) t)
      (q : w ≡ wiped W (2 * s) (3 * s) u) where
    long_u : length u ≡ 3 * s
    long_u = ap length p ∙ length_wiped 0 0 (2 * s) t ∙ long

    pub zero_at_lem : (i : ℕ) → i < 2 * s → get_or w i 0 ≡ 0
    zero_at_lem i h =
        ap (λ (x : Words). get_or x i 0) q ∙ wiped_out W (2 * s) (3 * s) u i 0 (within_low (2 * s) (3 * s) i h)
        ∙ ap (λ (x : Words). get_or x i 0) p ∙ wiped_in 0 0 (2 * s) t i 0 (omega arith) h (omega arith)

    pub build_start : Built v c s g w 0 0
    build_start = record {
      pending = record {
        heap = record {
          long = omega (arith, long_w);
          node = λ i x y.
              rw (
                zero_at_lem i (omega arith),
                zero_at_lem (2 * i) (omega arith),
                zero_at_lem (2 * i + 1) (omega arith),
              );
        };
        long = long_w;
        first = zero_at_lem 0 (omega (arith, some));
        agree = λ k h n. absurd (n (omega arith));
      };
      blank = record {
        leaf = λ j x y. zero_at_lem (s + j) (omega arith);
        first = λ j x y.
            let in-u : 2 * s + j < length u = omega (arith, long_u) in
            rw q (wiped_in W (2 * s) (3 * s) u (2 * s + j) 0 (omega arith) (omega arith) in-u);
      };
      passing = pass_start v c s g G;
    }
      where
        long_w : length w ≡ 3 * s
        long_w = ap length q ∙ length_wiped W (2 * s) (3 * s) u ∙ long_u

  pub build_on : (t u : Words) (k from hi r : ℕ) → Built v c s g t k from → k < s → Refreshed c W s k t u
      → hi ≡ min ((k + 1) * g) W → Reaches v c from hi r → Built v c s g u (k + 1) r
  build_on t u k from hi r B h R is N =
      let P = step c W s t u (From k) true k (λ i. h) B.pending
      (record { done = λ i. R; kept = λ i. absurd (true≢false i) }) (λ i. absurd (true≢false i)) in
      record {
        pending = record {
          heap = P.heap;
          long = P.long;
          first = P.first;
          agree = λ j i n. P.agree j i (λ d. n (omega (arith, d.0)));
        };
        blank = record {
          leaf = λ j x y. R.rest (s + j) (omega arith) (omega arith) (omega arith) ∙ B.blank.leaf j (omega arith) y;
          first = λ j x y.
              R.rest (2 * s + j) (omega arith) (omega arith) (omega arith) ∙ B.blank.first j (omega arith) y;
        };
        passing = pass_on v c s g G k from hi r B.passing is N;
      }

  -- no block is left, so none begins in the segments that are
  pub build_end : (t : Words) (k from : ℕ) → Built v c s g t k from → W ≤ from → t ≡ index_of c W s
  build_end t k from B h =
      index_is c W s G.sizes.power t B.pending.long B.pending.first B.pending.heap
      (λ j i. go j i (dec_lt j k))
    where
      facing : (j : ℕ) → k ≤ j → j < s → Facing v c s g j from
      facing j x i = record {
        sizes = G.sizes;
        is = i;
        low = omega arith;
        scan = B.passing.scan;
        quiet = λ u y z. B.passing.quiet u (omega (arith, mul-le-mul_right g x)) z;
      }

      go : (j : ℕ) → j < s → Dec (j < k) → Agree c W s t j
      go j i (yes l) = B.pending.agree j i (λ d. omega arith)
      go j i (no l) =
          let x : k ≤ j = omega arith in
          let hi = min ((j + 1) * g) W in
          let none : hi - from ≡ 0 = omega arith in
          let past : first_from from hi W ≡ W = rw (of_ge from hi (omega arith)) in
          record {
            leaf =
                B.blank.leaf j x i ∙ sym (ap (largest c from) none)
                ∙ leaf_right v c s g j from (facing j x i) hi refl;
            first =
                B.blank.first j x i ∙ sym past ∙ first_right v c s g j from (facing j x i) hi refl;
          }

module _ (v : List ℤ) (c : ℕ → ℤ) (s g : ℕ) (O : OneBlock v c s g) (t : Words) (B : Built v c s g t 0 0) where
  abbrev G : Ground v c s g
  G = O.ground

  abbrev hi : ℕ
  hi = min ((0 + 1) * g) (length v)

  quiet : (u : ℕ) → 0 < u → u < length v → c u ≡ pos 0
  quiet u a b = G.blocks.quiet 0 u a (omega (arith, ap nat_abs O.whole))

  high : 0 < hi
  high = omega (arith, G.sizes.words, sizes_each (length v) s g G.sizes)

  leaf : length v ≡ largest c 0 (hi - 0)
  leaf =
      let past : hi - (0 + length v) ≡ 0 = omega arith in
      let weighs : weight (c 0) ≡ length v = ap weight O.whole in
      sym
      (largest_on c 0 (length v) hi high G.sizes.words (λ u a b. quiet u a (omega arith))
      ∙ omega (arith, weighs, ap (largest c (0 + length v)) past))

  reaches : Reaches v c 0 hi (length v)
  reaches = record {
    scan = record { blocks = G.blocks; inside = omega arith; begins = λ l. absurd (omega arith) };
    high = omega arith;
    quiet = λ u a b l. quiet u (omega (arith, high)) l;
  }

  ready : Ready v c t s g 0 0
  ready = record {
    facing = pass_facing v c s g G 0 0 B.passing (some v c s g G);
    heap = B.pending.heap;
    long = B.pending.long;
  }

  -- the first segment's words are stored, and the others have none
  pub build_one : (u : Words) → Raised s t s (length v) u → set u (2 * s) 0 ≡ index_of c (length v) s
  build_one u r =
      let first : 0 ≡ first_from 0 hi (length v) = rw (of_lt 0 hi high) in
      let R = refreshed v c t s g 0 0 ready hi refl (length v) 0 u leaf first (rw (add-zero s) r) in
      rw (add-zero (2 * s)) at (build_end v c s g G _ 1 (length v)
      (build_on v c s g G t _ 0 0 hi (length v) B (some v c s g G) R refl reaches) (omega arith))
