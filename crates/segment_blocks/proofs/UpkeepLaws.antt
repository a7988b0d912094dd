-- One segment of the index brought up to date. Assumes nothing.
use Prim.Native.Nat.{ℕ, ◌+◌, ◌-◌, ◌*◌, ◌^◌, ◌<◌, ◌≤◌, min}
use native.Mathlib.Decide.{dec_lt}
use native.Mathlib.Nat.{mul-le-mul_left, mul-le-mul_right, add-mul, one-mul}
use native.Mathlib.Omega.{arith}
use mathlib.Core.Bool.{Bool, true, false, true≢false}
use mathlib.Core.List.{List}
use mathlib.Core.Path.{◌≡◌, refl, sym, ◌∙◌}
use lib.IntN.{ℤ}
use lib.ListN.{length, set, length-set}
use lib.Seq.{get_or-set_same, get_or-set_other}
use Rattle.words.specs.Lists.{Words}
use Rattle.words.proofs.Tests.{of_lt, of_ge}
use Rattle.stored_forms.specs.Segments.{largest, first_block, segment_size, depth}
use Rattle.stored_forms.proofs.SegmentLaws.{power_range}
use Rattle.segment_index.specs.Tree.{Raised}
use Rattle.segment_index.proofs.RangeLaws.{leaf_is, first_in, first_past}
use Rattle.segment_index.proofs.SizeLaws.{size_pos, size_le}
use Rattle.segment_blocks.specs.Upkeep.{Sizes, Facing, Ready, Refreshed, RefreshedIf, first_from}

module _ (W s g : ℕ) (Z : Sizes W s g) where
  pub sizes_some : 0 < s
  sizes_some = (power_range s depth Z.power).0

  pub sizes_few : s ≤ 256
  sizes_few = (power_range s depth Z.power).1

  pub sizes_each : 0 < g
  sizes_each = rw Z.each (size_pos W s sizes_some Z.words)

  small : g ≤ 16640
  small = omega (arith, Z.each, size_le W s, sizes_few, Z.most)

  -- no product of a segment's number and a segment's size is large
  pub sizes_top : (k : ℕ) → k < s → (k + 1) * g ≤ 256 * 16640
  sizes_top k h = omega (arith, mul-le-mul_right g below, mul-le-mul_left 256 small)
    where
      below : k + 1 ≤ 256
      below = omega (arith, sizes_few)

  -- a word's segment can be found in 32 bits
  pub sizes_narrow : (u : ℕ) → u ≤ W → (0 < g) × (u < 2 ^ 32) × (g < 2 ^ 32)
  sizes_narrow u h = (sizes_each, omega (arith, Z.most), omega (arith, small))

module _ (v : List ℤ) (c : ℕ → ℤ) (s g k from : ℕ) (F : Facing v c s g k from) where
  module _ (hi : ℕ) (is : hi ≡ min ((k + 1) * g) (length v)) where
    top_is : hi ≡ min (k * g + g) (length v)
    top_is = is ∙ rw (add-mul k 1 g, one-mul g)

    pub leaf_right : largest c from (hi - from) ≡ largest c (k * segment_size (length v) s) (segment_size (length v) s)
    leaf_right =
        leaf_is c (length v) (k * g) g from hi top_is F.low F.scan.inside F.quiet F.scan.blocks.past
        ∙ rw F.sizes.each

    pub first_right : first_from from hi (length v)
        ≡ first_block c (length v) (k * segment_size (length v) s) (segment_size (length v) s)
    first_right = go (dec_lt from hi) ∙ rw F.sizes.each
      where
        go : Dec (from < hi) → first_from from hi (length v) ≡ first_block c (length v) (k * g) g
        go (yes h) =
            rw (of_lt from hi h)
            (sym (first_in c (length v) (k * g) g from hi top_is F.low F.scan.inside F.quiet
            F.scan.blocks.past h (F.scan.begins (omega arith))))
        go (no h) =
            rw (of_ge from hi (omega arith))
            (sym (first_past c (length v) (k * g) g from hi top_is F.low F.scan.inside F.quiet
            F.scan.blocks.past (omega arith)))

module _ (v : List ℤ) (c : ℕ → ℤ) (t : Words) (s g k from : ℕ) (R : Ready v c t s g k from) (hi : ℕ)
    (top : hi ≡ min ((k + 1) * g) (length v)) where
  -- the leaf is raised, and the first-block word is stored
  pub refreshed : (x y : ℕ) (u : Words) → x ≡ largest c from (hi - from) → y ≡ first_from from hi (length v)
      → Raised s t (s + k) x u → Refreshed c (length v) s k t (set u (2 * s + k) y)
  refreshed x y u a b r = record {
    heap = record {
      long = rw (length-set u (2 * s + k) y) r.heap.long;
      node = λ i p q.
          rw (
            get_or-set_other u (2 * s + k) i y 0 (omega arith),
            get_or-set_other u (2 * s + k) (2 * i) y 0 (omega arith),
            get_or-set_other u (2 * s + k) (2 * i + 1) y 0 (omega arith),
          ) (r.heap.node i p q);
    };
    same = length-set u (2 * s + k) y ∙ r.same;
    zero = get_or-set_other u (2 * s + k) 0 y 0 (omega (arith, R.facing.is)) ∙ r.first;
    here = record {
      leaf =
          get_or-set_other u (2 * s + k) (s + k) y 0 (omega (arith, R.facing.is)) ∙ r.leaves (s + k) (omega arith)
          ∙ get_or-set_same t (s + k) x 0 (omega (arith, R.facing.is, R.long)) ∙ a
          ∙ leaf_right v c s g k from R.facing hi top;
      first =
          get_or-set_same u (2 * s + k) y 0 (omega (arith, R.facing.is, R.long, r.same)) ∙ b
          ∙ first_right v c s g k from R.facing hi top;
    };
    rest = λ j p q z. get_or-set_other u (2 * s + k) j y 0 z ∙ r.leaves j p ∙ get_or-set_other t (s + k) j x 0 q;
  }

pub not_refreshed : (on : Bool) (c : ℕ → ℤ) (W s k : ℕ) (t : Words) → on ≡ false → RefreshedIf on c W s k t t
not_refreshed on c W s k t e = record { done = λ i. absurd (true≢false (sym i ∙ e)); kept = λ i. refl }

pub is_refreshed : (on : Bool) (c : ℕ → ℤ) (W s k : ℕ) (t u : Words) → on ≡ true → Refreshed c W s k t u
    → RefreshedIf on c W s k t u
is_refreshed on c W s k t u e r = record { done = λ i. r; kept = λ i. absurd (true≢false (sym e ∙ i)) }
