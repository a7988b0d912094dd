-- The two readings of a range of control words: the largest weight, and the first block. Assumes nothing.
use Prim.Native.Nat.{ℕ, zero, suc, ◌+◌, ◌-◌, ◌<◌, ◌≤◌, max, min}
use native.Mathlib.Decide.{dec_lt, ℕ_discrete}
use native.Mathlib.Nat.{add-zero, zero-add, suc-add}
use native.Mathlib.Omega.{arith}
use mathlib.Core.Bool.{Bool, true, false}
use mathlib.Core.Logic.{◌≢◌}
use mathlib.Core.Option.{Option, none, some}
use mathlib.Core.Path.{◌≡◌, refl, sym, ap, ap₂, ◌∙◌}
use lib.Dec.{ltb}
use lib.IntN.{ℤ, pos, negsuc, nat_abs}
use Rattle.words.specs.Counted.{lowest}
use Rattle.words.proofs.CountedLaws.{lowest_some}
use Rattle.words.proofs.Tests.{lt_of}
use Rattle.stored_forms.specs.Segments.{weight, largest, first_block}
use Rattle.stored_forms.proofs.SegmentLaws.{largest_zero, first_none, first_begun}

-- ---- a word that begins a block

pub begins_not : (z : ℤ) → 0 < nat_abs z → z ≢ pos 0
begins_not z h e = omega (arith, ap nat_abs e)

pub weight_size : (z : ℤ) → weight z ≤ nat_abs z
weight_size (pos n) = omega arith
weight_size (negsuc n) = omega arith

pub begins_weight : (z : ℤ) → 0 < nat_abs z → 0 < weight z
begins_weight (pos n) h = h
begins_weight (negsuc n) h = omega arith

weightless : (z : ℤ) → weight z ≡ 0 → z ≡ pos 0
weightless (pos n) e = ap pos e
weightless (negsuc n) e = absurd (omega arith)

-- ---- two ranges that agree in their weights

abbrev pub Alike : (ℕ → ℤ) → (ℕ → ℤ) → ℕ → ℕ → Type 0
Alike c d lo hi = (k : ℕ) → lo ≤ k → k < hi → weight (c k) ≡ weight (d k)

pub largest_same : (c d : ℕ → ℤ) (u n : ℕ) → Alike c d u (u + n) → largest c u n ≡ largest d u n
largest_same c d u zero h = refl
largest_same c d u (suc n) h =
    ap₂ max (h u (omega arith) (omega arith))
    (largest_same c d (suc u) n (λ k a b. h k (omega arith) (omega arith)))

abbrev or_else : ℕ → Option ℕ → ℕ
or_else W o = elim o [ none ↦ W | some k ↦ k ]

abbrev choose : ℕ → Option ℕ → Bool → Option ℕ
choose u o b = elim b [ true ↦ some u | false ↦ o ]

lowest_same : (c d : ℕ → ℤ) (u n : ℕ) → Alike c d u (u + n)
    → lowest (λ k. ltb 0 (weight (c k))) u n ≡ lowest (λ k. ltb 0 (weight (d k))) u n
lowest_same c d u zero h = refl
lowest_same c d u (suc n) h =
    ap₂ (choose u) (lowest_same c d (suc u) n (λ k a b. h k (omega arith) (omega arith)))
    (ap (ltb 0) (h u (omega arith) (omega arith)))

pub first_same : (c d : ℕ → ℤ) (W u n : ℕ) → Alike c d u (u + n)
    → first_block c W u n ≡ first_block d W u n
first_same c d W u n h = ap (or_else W) (lowest_same c d u n h)

-- ---- a range in parts

module _ (c : ℕ → ℤ) where
  abbrev pub Quiet : ℕ → ℕ → Type 0
  Quiet lo hi = (u : ℕ) → lo ≤ u → u < hi → c u ≡ pos 0

  largest_quiet : (u n : ℕ) → Quiet u (u + n) → largest c u n ≡ 0
  largest_quiet u n q = (largest_zero c u n).1 q

  largest_add : (u m n : ℕ) → largest c u (m + n) ≡ max (largest c u m) (largest c (u + m) n)
  largest_add u zero n = rw (zero-add n, add-zero u) (omega arith)
  largest_add u (suc m) n =
      let e : suc u + m ≡ u + suc m = omega arith in
      let ih : largest c (suc u) (m + n) ≡ max (largest c (suc u) m) (largest c (u + suc m) n) =
      largest_add (suc u) m n ∙ rw e in
      rw (suc-add m n) (omega (arith, ih))

  -- one block of m words, and the rest of the range
  pub largest_on : (at m hi : ℕ) → at < hi → 0 < m → Quiet (suc at) (at + m)
      → largest c at (hi - at) ≡ max (weight (c at)) (largest c (at + m) (hi - (at + m)))
  largest_on at m hi h p q = go (dec_lt hi (at + m))
    where
      go : Dec (hi < at + m) → largest c at (hi - at) ≡ max (weight (c at)) (largest c (at + m) (hi - (at + m)))
      go (yes l) =
          let parts : hi - at ≡ suc (hi - at - 1) = omega arith in
          let none : hi - (at + m) ≡ 0 = omega arith in
          ap (largest c at) parts
          ∙ ap (max (weight (c at))) (largest_quiet (suc at) (hi - at - 1) (λ u a b. q u a (omega arith)))
          ∙ ap (λ n. max (weight (c at)) (largest c (at + m) n)) (sym none)
      go (no l) =
          let parts : hi - at ≡ suc (m - 1 + (hi - (at + m))) = omega arith in
          let mid : suc at + (m - 1) ≡ at + m = omega arith in
          let head = largest_quiet (suc at) (m - 1) (λ u a b. q u a (omega arith)) in
          ap (largest c at) parts
          ∙ ap (max (weight (c at))) (largest_add (suc at) (m - 1) (hi - (at + m))
          ∙ rw (head, mid) (omega arith))

  -- a segment of g words from lo on, of which none before `from` begins a block; a segment past the arena has none
  -- at all
  module _ (W lo g from hi : ℕ) (is : hi ≡ min (lo + g) W) (low : min lo W ≤ from) (inside : from ≤ W)
      (q : Quiet lo from)
      (past : (u : ℕ) → W ≤ u → c u ≡ pos 0) where
    all_quiet : hi ≤ from → Quiet lo (lo + g)
    all_quiet h u a b = go (dec_lt u from)
      where
        go : Dec (u < from) → c u ≡ pos 0
        go (yes r) = q u a r
        go (no r) = past u (omega arith)

    pub leaf_is : largest c from (hi - from) ≡ largest c lo g
    leaf_is = go (dec_lt from hi)
      where
        go : Dec (from < hi) → largest c from (hi - from) ≡ largest c lo g
        go (yes h) =
            let parts : g ≡ from - lo + (hi - from + (lo + g - hi)) = omega arith in
            let mid : lo + (from - lo) ≡ from = omega arith in
            let end : from + (hi - from) ≡ hi = omega arith in
            let head = largest_quiet lo (from - lo) (λ u a b. q u a (omega arith)) in
            let tail = largest_quiet hi (lo + g - hi) (λ u a b. past u (omega arith)) in
            sym (ap (largest c lo) parts ∙ largest_add lo (from - lo) (hi - from + (lo + g - hi))
            ∙ rw (mid, head, largest_add from (hi - from) (lo + g - hi), end, tail) (omega arith))
        go (no h) =
            let e : hi - from ≡ 0 = omega arith in
            rw e (sym (largest_quiet lo g (all_quiet (omega arith))))

    pub first_in : from < hi → 0 < nat_abs (c from) → first_block c W lo g ≡ from
    first_in h b = first_begun c W lo g from (omega arith) (omega arith) (begins_not (c from) b) q

    pub first_past : hi ≤ from → first_block c W lo g ≡ W
    first_past h = first_none c W lo g (all_quiet h)

-- ---- the first block of a range in which one begins

pub record FirstIn (c : ℕ → ℤ) (lo n f : ℕ) : Type 0 where
  pub low : lo ≤ f
  pub high : f < lo + n
  pub begins : 0 < nat_abs (c f)
  pub quiet : (u : ℕ) → lo ≤ u → u < f → c u ≡ pos 0

first_here : (c : ℕ → ℤ) (lo n k : ℕ) → lo ≤ k → k < lo + n → 0 < nat_abs (c k) → (f : ℕ) × (f ≤ k) × FirstIn c lo n f
first_here c lo zero k a b h = absurd (omega arith)
first_here c lo (suc n) k a b h = go (ℕ_discrete (nat_abs (c lo)) 0) (λ l. first_here c (suc lo) n k l (omega arith) h)
  where
    none : (u : ℕ) → lo ≤ u → u < lo → c u ≡ pos 0
    none u x y = absurd (omega arith)

    zero_size : (z : ℤ) → nat_abs z ≡ 0 → z ≡ pos 0
    zero_size (pos n) e = ap pos e
    zero_size (negsuc n) e = absurd (omega arith)

    go : Dec (nat_abs (c lo) ≡ 0) → (suc lo ≤ k → (f : ℕ) × (f ≤ k) × FirstIn c (suc lo) n f)
        → (f : ℕ) × (f ≤ k) × FirstIn c lo (suc n) f
    go (no e) ih = (lo, a, record { low = omega arith; high = omega arith; begins = omega arith; quiet = none })
    go (yes e) ih =
        let other : k ≢ lo = λ j. omega (arith, ap (λ u. nat_abs (c u)) j) in
        let (f, l, r) = ih (omega (arith, other)) in (
          f,
          l,
          record {
            low = omega (arith, r.low);
            high = omega (arith, r.high);
            begins = r.begins;
            quiet = λ u x y. on u x y r (ℕ_discrete u lo);
          },
        )
      where
        on : {f : ℕ} (u : ℕ) → lo ≤ u → u < f → FirstIn c (suc lo) n f → Dec (u ≡ lo) → c u ≡ pos 0
        on u x y r (yes j) = rw j (zero_size (c lo) e)
        on u x y r (no j) = r.quiet u (omega arith) y

pub first_found : (c : ℕ → ℤ) (W lo n k : ℕ) → lo ≤ k → k < lo + n → 0 < nat_abs (c k)
    → (first_block c W lo n ≤ k) × FirstIn c lo n (first_block c W lo n)
first_found c W lo n k a b h =
    let (f, l, r) = first_here c lo n k a b h in
    let e = first_begun c W lo n f r.low r.high (begins_not (c f) r.begins) r.quiet in
    rw e (l, r)

-- ---- the first block after a change

-- no block begins before k
first_late : (c : ℕ → ℤ) (W lo n k : ℕ) → k ≤ W → Quiet c lo k → k ≤ first_block c W lo n
first_late c W lo n k h q = go (lowest begins lo n) refl
  where
    begins : ℕ → Bool
    begins u = ltb 0 (weight (c u))

    go : (o : Option ℕ) → lowest begins lo n ≡ o → k ≤ or_else W o
    go none e = h
    go (some f) e = at (dec_lt f k)
      where
        at : Dec (f < k) → k ≤ f
        at (yes l) =
            let r = lowest_some begins lo n f e in
            absurd (omega (arith, lt_of 0 (weight (c f)) r.passes, ap weight (q f r.above l)))
        at (no l) = omega arith

-- b has become c, in which a block begins at a; below a their weights agree: the first is the old one, or that at a
pub first_either : (b c : ℕ → ℤ) (W lo n a : ℕ) → lo ≤ a → a < lo + n → a ≤ W → 0 < nat_abs (c a) → Alike c b lo a
    → min (first_block b W lo n) a ≡ first_block c W lo n
first_either b c W lo n a low high inside here same =
    let (l, r) = first_found c W lo n a low high here in go l r (dec_lt (first_block c W lo n) a)
  where
    f : ℕ
    f = first_block c W lo n

    quiet : f ≤ a → FirstIn c lo n f → Quiet b lo f
    quiet l r u x y = weightless (b u) (sym (same u x (omega arith)) ∙ ap weight (r.quiet u x y))

    go : f ≤ a → FirstIn c lo n f → Dec (f < a) → min (first_block b W lo n) a ≡ f
    go l r (yes h) =
        let old : b f ≢ pos 0 =
        λ e. omega (arith, begins_weight (c f) r.begins, same f r.low h, ap weight e) in
        omega (arith, first_begun b W lo n f r.low r.high old (quiet l r))
    go l r (no h) =
        let e : f ≡ a = omega arith in
        omega (arith, first_late b W lo n f (omega arith) (quiet l r))
