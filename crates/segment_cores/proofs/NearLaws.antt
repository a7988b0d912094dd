-- The blocks beside a block, found through the index and seen in the ledger. Assumes nothing.
use Prim.Native.Nat.{ℕ, zero, suc, ◌+◌, ◌-◌, ◌*◌, ◌/◌, ◌^◌, ◌<◌, ◌≤◌}
use native.Mathlib.Decide.{dec_lt}
use native.Mathlib.Nat.{add-mul, one-mul, mul-le-mul_right, zero-mul}
use native.Mathlib.Omega.{arith}
use mathlib.Core.Bool.{Bool, not}
use mathlib.Core.List.{List}
use mathlib.Core.Path.{◌≡◌, refl, sym, ap, subst, ◌∙◌}
use lib.IntN.{ℤ, pos, nat_abs}
use lib.ListN.{length, get_or}
use Rattle.words.specs.Lists.{Words}
use Rattle.words.proofs.Tests.{of_lt, of_ge}
use Rattle.ledger.specs.Records.{Ledger}
use Rattle.ledger.specs.Units.{free}
use Rattle.stored_forms.specs.Segments.{segment_rule, largest, first_block, starts_at, opens}
use Rattle.stored_forms.proofs.SegmentLaws.{largest_at, largest_begun}
use Rattle.segment_index.specs.Control.{free_size}
use Rattle.segment_index.proofs.SignLaws.{abs_neg, free_neg}
use Rattle.segment_index.specs.Climb.{Later}
use Rattle.segment_index.specs.Tree.{Heap, LastIn}
use Rattle.segment_index.proofs.IndexLaws.{length_index_of, index_heap, index_agrees}
use Rattle.segment_index.proofs.RangeLaws.{weight_size, begins_not, FirstIn, first_found}
use Rattle.segment_index.proofs.SizeLaws.{segment_low, segment_high, segment_in}
use Rattle.segment_blocks.specs.Blocks.{Blocks, Chain, EndsAt}
use Rattle.segment_blocks.proofs.UpkeepLaws.{sizes_some, sizes_each, sizes_narrow}
use Rattle.segment_cores.specs.Stores.{Sound, Releasing, Trimming}
use Rattle.segment_cores.specs.Views.{Whole, RunOf, Rest}
use Rattle.segment_cores.proofs.ChangeLaws.{controls, sound_whole, sound_blocks, sound_index}
use Rattle.segment_cores.proofs.WholeLaws.{Kind, held, free as free-kind, none, kind}
use Rattle.segment_cores.proofs.WordLaws.{run_moves, opens_before, word_held}
use Rattle.segment_cores.specs.Cores.{LaterBlock, Begun, HeldAt, Beneath, rest_at}

-- ---- a block below p

module _ {c : ℕ → ℤ} {W : ℕ} {t : Words} {s d g p : ℕ} (S : LaterBlock c W t s d g p) where
  some_segments : 0 < s
  some_segments = sizes_some W s g S.sizes

  later_each : 0 < g
  later_each = sizes_each W s g S.sizes

  pub later_narrow : (0 < g) × (p < 2 ^ 32) × (g < 2 ^ 32)
  later_narrow = sizes_narrow W s g S.sizes p (omega (arith, S.inside))

  pub later_long : length t ≡ 3 * s
  later_long = ap length S.was ∙ length_index_of c W s

  leaf : (k : ℕ) → k < s → get_or t (s + k) 0 ≡ largest c (k * g) g
  leaf k h = ap (λ (u : Words). get_or u (s + k) 0) S.was ∙ (index_agrees c W s k h).leaf ∙ rw S.sizes.each

  first : (k : ℕ) → k < s → get_or t (2 * s + k) 0 ≡ first_block c W (k * g) g
  first k h = ap (λ (u : Words). get_or u (2 * s + k) 0) S.was ∙ (index_agrees c W s k h).first ∙ rw S.sizes.each

  -- p's segment
  module _ {k : ℕ} (is : k ≡ p / g) where
    pub later_segment : k < s
    later_segment = rw (is, S.sizes.each) (segment_in W s p some_segments S.inside)

    low : k * g ≤ p
    low = rw is (segment_low p g)

    own : (get_or t (2 * s + k) 0 ≤ p) × FirstIn c (k * g) g (get_or t (2 * s + k) 0)
    own =
        rw (first k later_segment)
        (first_found c W (k * g) g p low (rw is (segment_high p g later_each)) S.here)

    pub begun_own : get_or t (2 * s + k) 0 < p → Begun c p (get_or t (2 * s + k) 0)
    begun_own h = record { below = h; begins = own.1.begins }

    -- it has no earlier block: it is not the first segment
    module _ (none_here : p ≤ get_or t (2 * s + k) 0) where
      not_first : 0 < k
      not_first = go (dec_lt 0 k)
        where
          go : Dec (0 < k) → 0 < k
          go (yes h) = h
          go (no h) =
              let e : k ≡ 0 = omega arith in
              let z : k * g ≡ 0 = ap (λ (k : ℕ). k * g) e ∙ zero-mul g in
              absurd (omega (arith, ap nat_abs (own.1.quiet 0 (omega arith) (omega (arith, S.later))), S.start))

      pub later_index : Later d t (s + k)
      later_index = record {
        few = S.few;
        heap = subst (λ (k : ℕ). Heap k t) S.power (rw S.was (index_heap c W s S.sizes.power));
        first = subst (λ (k : ℕ). 0 < get_or t k 0) S.power first_leaf;
        after = omega (arith, S.power, not_first);
        inside = omega (arith, S.power, later_segment);
      }
        where
          first_leaf : 0 < get_or t s 0
          first_leaf =
              let e : s + 0 ≡ s = omega arith in
              let z : 0 * g ≡ 0 = zero-mul g in
              let some =
              largest_begun c (0 * g) g 0 (omega arith) (omega (arith, later_each)) (begins_not (c 0) S.start) in
              omega (arith, ap (λ (k : ℕ). get_or t k 0) e, leaf 0 some_segments)

      module _ {j : ℕ} (l : LastIn t (2 ^ d) (s + k) j) where
        pub last_low : s ≤ j
        last_low = omega (arith, l.above, S.power)

        pub last_inside : j - s < s
        last_inside = omega (arith, l.below, later_segment, last_low)

        pub begun_last : Begun c p (get_or t (2 * s + (j - s)) 0)
        begun_last =
            let i = j - s in
            let e : s + (j - s) ≡ j = omega (arith, last_low) in
            let full = sym (ap (λ (k : ℕ). get_or t k 0) e) ∙ leaf (j - s) last_inside in
            let (u, a, b, w) = largest_at c (i * g) g (omega (arith, l.full)) in
            let (x, f) = first_found c W (i * g) g u a b (omega (arith, weight_size (c u), l.full)) in
            let up : (j - s + 1) * g ≤ k * g = mul-le-mul_right g before in
            let sum : (j - s + 1) * g ≡ (j - s) * g + g = rw (add-mul (j - s) 1 g, one-mul g) in
            rw (first (j - s) last_inside)
            (record { below = omega (arith, f.high, low); begins = f.begins })
          where
            before : j - s + 1 ≤ k
            before = omega (arith, l.below, last_low)

-- ---- in a sound pool

module _ (L : Ledger) (v : List ℤ) (t : Words) (s d g p : ℕ) (K : HeldAt L v t s d g p) where
  abbrev U : ℕ
  U = length v

  abbrev f : ℕ → Bool
  f = free segment_rule L

  Q : Whole f (starts_at L) U
  Q = sound_whole L v t s g K.sound

  abbrev c : ℕ → ℤ
  c = controls L U

  blocks : Blocks v c
  blocks = sound_blocks L v t s g K.sound

  size_here : nat_abs (c p) ≡ starts_at L p
  size_here = ap nat_abs (word_held f (starts_at L) U p (starts_at L p) refl K.here) ∙ abs_neg (pos (starts_at L p))

  held_inside : p < length v
  held_inside = omega (arith, Q.fits p K.here, K.here)

  pub later_block : 0 < p → LaterBlock c U t s d g p
  later_block h = record {
    sizes = K.sound.sizes;
    power = K.power;
    few = K.few;
    was = sound_index L v t s g K.sound;
    start = blocks.start (omega (arith, held_inside));
    later = h;
    inside = held_inside;
    here = omega (arith, size_here, K.here);
  }

  pub chain : (q : ℕ) → Begun c p q → Chain v c q p
  chain q B = record {
    scan = record { blocks = blocks; inside = omega (arith, B.below, held_inside); begins = λ h. B.begins };
    order = B.below;
    inside = held_inside;
    last = omega (arith, size_here, K.here);
  }

  pub before_inside : (q : ℕ) → EndsAt c p q → q < length v
  before_inside q E = omega (arith, E.begins, E.ends, held_inside)

  pub beneath : (q : ℕ) → EndsAt c p q → Beneath (free segment_rule L) p (free_size (get_or v q (pos 0)))
  beneath q E =
      rw (blocks.shown q (before_inside q E) E.begins) (go (kind f (starts_at L) U Q q (before_inside q E)))
    where
      go : Kind f (starts_at L) U Q q → Beneath f p (free_size (c q))
      go (held l e) =
          let none : free_size (c q) ≡ 0 =
          ap free_size (word_held f (starts_at L) U q (starts_at L q) refl l) ∙ free_neg (starts_at L q) in
          let last = Q.covers q (p - 1) (omega (arith, E.ends)) (omega (arith, E.ends)) in
          let z : p - 0 ≡ p = omega arith in
          rw none (record {
            fits = omega arith;
            rest = record {
              upto = omega arith;
              passes = λ u a b. absurd (omega arith);
              opened = ap (opens f) z ∙ opens_before f p (omega (arith, E.ends)) ∙ ap not last;
            };
          })
      go (free-kind z h r o e) =
          let ends : q + z ≡ p = omega (arith, E.ends, ap nat_abs e) in
          let back : p - z ≡ q = omega arith in
          rw e (record {
            fits = omega arith;
            rest = record {
              upto = omega arith;
              passes = λ u a b. r.passes u (omega arith) (omega arith);
              opened = ap (opens f) back ∙ o;
            };
          })
      go (none e) = absurd (omega (arith, E.begins, ap nat_abs e))

-- ---- above a block that a release or a trim changes

module _ (L M : Ledger) (v : List ℤ) (t : Words) (s g : ℕ) (S : Sound L v t s g) (p n : ℕ) (held-there : starts_at L p ≡ n)
    (some : 0 < n) (inside : p + n ≤ length v)
    (same : (u : ℕ) → p + n ≤ u → free segment_rule M u ≡ free segment_rule L u) where
  abbrev top : ℕ
  top = p + n

  pub rest_above : RunOf (free segment_rule M) (p + n) (length v - (p + n)) (rest_at v (p + n))
  rest_above = go (dec_lt (p + n) (length v))
    where
      X : Whole (free segment_rule L) (starts_at L) (length v)
      X = sound_whole L v t s g S

      walk : Blocks v (controls L (length v))
      walk = sound_blocks L v t s g S

      size : nat_abs (controls L (length v) p) ≡ n
      size =
          ap nat_abs (word_held (free segment_rule L) (starts_at L) (length v) p n held-there some)
          ∙ abs_neg (pos n)

      on : top < length v → Kind (free segment_rule L) (starts_at L) (length v) X top
          → 0 < nat_abs (controls L (length v) top)
          → RunOf (free segment_rule M) top (length v - top) (free_size (controls L (length v) top))
      on l (held h i) b =
          let none : free_size (controls L (length v) top) ≡ 0 =
          ap free_size (word_held (free segment_rule L) (starts_at L) (length v) top (starts_at L top) refl h)
          ∙ free_neg (starts_at L top) in
          let z : top + 0 ≡ top = omega arith in
          rw none (record {
            passes = λ k a c. absurd (omega arith);
            fits = omega arith;
            stops =
                λ c.
                ap (free segment_rule M) z ∙ same top (omega arith)
                ∙ X.covers top top (omega arith) (omega arith);
          })
      on l (free-kind z h r o i) b =
          rw i (run_moves (free segment_rule L) (free segment_rule M) top (length v - top) z r
          (λ k a c m. same k a))
      on l (none i) b = absurd (omega (arith, ap nat_abs i))

      go : Dec (top < length v) → RunOf (free segment_rule M) top (length v - top) (rest_at v top)
      go (no l) =
          rw (of_ge top (length v) (omega arith))
          (record { passes = λ k a c. absurd (omega arith); fits = omega arith; stops = λ c. absurd (omega arith) })
      go (yes l) =
          let here : p < length v = omega (arith, inside, some) in
          let begun : 0 < nat_abs (controls L (length v) top) =
          rw size at (walk.next p here (omega (arith, size, some)) (rw size l)) in
          rw (of_lt top (length v) l, walk.shown top l begun)
          (on l (kind (free segment_rule L) (starts_at L) (length v) X top l) begun)

-- ---- a release

module _ (L M : Ledger) (v : List ℤ) (t : Words) (s d g p n : ℕ) (F : Releasing L M v t s d g p n) where
  pub held_at : HeldAt L v t s d g p
  held_at = record {
    sound = F.sound;
    power = F.power;
    few = F.few;
    here = omega (arith, F.adds.head, F.adds.some);
  }

  -- below p the two ledgers agree
  pub rest_below : (x : ℕ) → Beneath (free segment_rule L) p x → Rest (free segment_rule M) (p - x) x p
  rest_below x B = record {
    upto = B.rest.upto;
    passes = λ u a b. sym (F.adds.below u b) ∙ B.rest.passes u a b;
    opened = sym (opening (p - x) (omega arith)) ∙ B.rest.opened;
  }
    where
      opening : (u : ℕ) → u ≤ p → opens (free segment_rule L) u ≡ opens (free segment_rule M) u
      opening zero h = refl
      opening (suc u) h = ap not (F.adds.below u (omega arith))

-- ---- a trim

module _ (L M : Ledger) (v : List ℤ) (t : Words) (s g p m k : ℕ) (T : Trimming L M v t s g p m k) where
  pub trim_above : RunOf (free segment_rule M) (p + m + k) (length v - (p + m + k)) (rest_at v (p + m + k))
  trim_above =
      let e : p + (m + k) ≡ p + m + k = omega arith in
      subst (λ (j : ℕ). RunOf (free segment_rule M) j (length v - j) (rest_at v j)) e
      (rest_above L M v t s g T.sound p (m + k) T.cuts.block (omega (arith, T.cuts.some))
      (omega (arith, T.cuts.inside)) (λ u h. T.cuts.above u (omega arith)))
