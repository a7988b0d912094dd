-- The segment pool's index and control words, line by line as 01 states them: "Stored form of the segment pool".
-- Assumes nothing; the laws of control words are of valid ledgers.
use Prim.Native.Nat.{ℕ, zero, suc, ◌+◌, ◌-◌, ◌*◌, ◌/◌, ◌^◌, ◌≤◌, ◌<◌, max}
use native.Mathlib.Nat.{mul-one, mul_comm, mul_assoc, add-mul, pow-suc, pow-le-pow_right, add-sub_cancel_left}
use native.Mathlib.Nat.{add-zero, sub-zero, div-one}
use native.Mathlib.Nat.{suc-mul, lt-div-mul-add, div-lt_iff_lt-mul}
use native.Mathlib.Omega.{arith}
use native.Mathlib.Decide.{ℕ_discrete, dec_le}
use mathlib.Core.Path.{◌≡◌, refl, sym, ap, ap₂, ◌∙◌, subst}
use mathlib.Core.Logic.{◌≢◌, ◌↔◌}
use mathlib.Core.Bool.{Bool, true, false, cond, not, ◌&&◌, ◌||◌, true≢false, or-true}
use mathlib.Core.List.{List, [], ◌∷◌, ◌++◌}
use mathlib.Core.Option.{Option, none, some}
use lib.Dec.{eqb, leb, ltb}
use lib.IntN.{ℤ, pos, negsuc, neg_ℤ}
use lib.ListN.{length, get_or}
use lib.Signed.{mag}
use mir.Syntax.{w32}
use mir.Val.{SFits}
use Rattle.words.specs.Flags.{Says}
use Rattle.words.specs.Lists.{first_that}
use Rattle.words.proofs.Tests.{and_l, and_r, and_i, not_true, eqb_eq, eqb_same, eqb_ne, of_le, of_lt, of_gt, of_ge}
use Rattle.words.proofs.CountedLaws.{lowest_nothing, lowest_is}
use Rattle.words.proofs.ListLaws.{all_get_d, any_at, first_that_some, first_that_none}
use Rattle.ledger.specs.declared.Row.{Row}
use Rattle.ledger.specs.Records.{Ledger, empty_row, is_live, record_of}
use Rattle.ledger.specs.Units.{span, address_at, first, past, valid, covers, free}
use Rattle.ledger.specs.Runs.{Run, runs_from, free_runs}
use Rattle.words.proofs.ByPlace.{first_that_at}
use Rattle.ledger.proofs.RecordLaws.{record_slot}
use Rattle.ledger.proofs.UnitLaws.{Fitted, valid_at, valid_record, span_pos, covers_in, disjoint}
use Rattle.ledger.proofs.RunLaws.{runs_next}
use Rattle.stored_forms.specs.Segments.{segment_rule, most_words, starts_at, free_from, opens}
use Rattle.stored_forms.specs.Segments.{control_word, segment_word}
use Rattle.stored_forms.specs.Segments.{weight, largest, first_block, tree_word, segment_size, depth, index_word}
use Rattle.stored_forms.specs.Segments.{is_power}

-- ---- the number of segments

power_from : (S d : ℕ) → is_power S d ≡ true → (e : ℕ) × (e ≤ d) × (S ≡ 2 ^ e)
power_from S zero h = (0, omega arith, eqb_eq S 1 h)
power_from S (suc d) h = go (eqb S (2 ^ suc d)) refl h (power_from S d)
  where
    go : (b : Bool) → eqb S (2 ^ suc d) ≡ b → (b || is_power S d) ≡ true
        → (is_power S d ≡ true → (e : ℕ) × (e ≤ d) × (S ≡ 2 ^ e)) → (e : ℕ) × (e ≤ suc d) × (S ≡ 2 ^ e)
    go true q h ih = (suc d, omega arith, eqb_eq S (2 ^ suc d) q)
    go false q h ih = let (e, l, p) = ih h in (e, omega arith, p)

power_to : (S d e : ℕ) → e ≤ d → S ≡ 2 ^ e → is_power S d ≡ true
power_to S zero e h q = let z : e ≡ 0 = omega arith in rw (q, z)
power_to S (suc d) e h q = go (ℕ_discrete e (suc d)) (λ l. power_to S d e l q)
  where
    go : Dec (e ≡ suc d) → (e ≤ d → is_power S d ≡ true) → (eqb S (2 ^ suc d) || is_power S d) ≡ true
    go (yes z) ih = rw (q, z, eqb_same (2 ^ suc d))
    go (no z) ih = rw (ih (omega arith)) (or-true (eqb S (2 ^ suc d)))

-- the test of S says that it is one of 2 ^ 0 to 2 ^ 8
pub power_is : (S d : ℕ) → Says (is_power S d) ((e : ℕ) × (e ≤ d) × (S ≡ 2 ^ e))
power_is S d = (power_from S d, λ (e, h, q). power_to S d e h q)

pub power_range : (S d : ℕ) → is_power S d ≡ true → (1 ≤ S) × (S ≤ 2 ^ d)
power_range S d h =
    let (e, l, q) = power_from S d h in
    let two : 0 < 2 = omega arith in
    (rw q (pow-le-pow_right two {i = 0} (omega arith)), rw q (pow-le-pow_right two l))

-- "Each has W/S words, rounded up": S segments of so many words hold all W, and of fewer they do not.
pub segment_size_lem : (W S : ℕ) → 1 ≤ S → (W ≤ S * segment_size W S) × ((z : ℕ) → W ≤ S * z → segment_size W S ≤ z)
unfolding segment_size
segment_size_lem W S h = (
  rw (mul_comm S ((W + (S - 1)) / S)) (let up = lt-div-mul-add {a = W + (S - 1)} h in omega arith),
  (λ z l.
      let below : W + (S - 1) < suc z * S = rw (suc-mul z S, mul_comm z S) (omega arith) in
      let less = (div-lt_iff_lt-mul {k = S} {x = W + (S - 1)} {y = suc z} h).1 below in
      omega arith),
)

-- ---- the index by its words

-- what `tree_word` gives by the test of its place
abbrev leaf_or : ℕ → ℕ → Bool → ℕ
leaf_or x y b = elim b [ true ↦ x | false ↦ y ]

twice : (i d : ℕ) → i * 2 ^ suc d ≡ 2 * i * 2 ^ d
twice i d = rw (pow-suc 2 d, mul_comm (2 ^ d) 2) (sym (mul_assoc i 2 (2 ^ d)) ∙ rw (mul_comm i 2))

module _ (leaf : ℕ → ℕ) (S : ℕ) where
  -- an inner word is the larger of its two sons
  tree_word_step : (d i : ℕ) → i < S
      → tree_word leaf S (suc d) i ≡ max (tree_word leaf S d (2 * i)) (tree_word leaf S d (2 * i + 1))
  tree_word_step d i h =
      ap (leaf_or (leaf (i - S)) (max (tree_word leaf S d (2 * i)) (tree_word leaf S d (2 * i + 1)))) (of_gt S i h)

  tree_word_leaf : (d k : ℕ) → tree_word leaf S d (S + k) ≡ leaf k
  tree_word_leaf zero k = rw (add-sub_cancel_left S k)
  tree_word_leaf (suc d) k =
      let x = leaf (S + k - S) in
      let y = max (tree_word leaf S d (2 * (S + k))) (tree_word leaf S d (2 * (S + k) + 1)) in
      ap (leaf_or x y) (of_le S (S + k) (omega arith)) ∙ rw (add-sub_cancel_left S k)

  -- more levels than are needed change nothing
  tree_word_more : (d i : ℕ) → S ≤ i * 2 ^ d → tree_word leaf S d i ≡ tree_word leaf S (suc d) i
  tree_word_more zero i h =
      let y = max (tree_word leaf S 0 (2 * i)) (tree_word leaf S 0 (2 * i + 1)) in
      ap (leaf_or (leaf (i - S)) y) (sym (of_le S i (omega (arith, mul-one i))))
  tree_word_more (suc d) i h =
      ap₂ (λ (x y : ℕ). leaf_or (leaf (i - S)) (max x y) (leb S i)) (tree_word_more d (2 * i) (omega (arith, twice i d)))
      (tree_word_more d (2 * i + 1) (omega (arith, twice i d, add-mul (2 * i) 1 (2 ^ d))))

  tree_word_node : S ≤ 2 ^ depth → (i : ℕ) → 0 < i → i < S
      → tree_word leaf S depth i ≡ max (tree_word leaf S depth (2 * i)) (tree_word leaf S depth (2 * i + 1))
  tree_word_node few i l h =
      tree_word_step 7 i h
      ∙ ap₂ max (tree_word_more 7 (2 * i) (omega arith)) (tree_word_more 7 (2 * i + 1) (omega arith))

-- 01's lines, over control words c
module _ (c : ℕ → ℤ) (W S : ℕ) where
  -- "Word 0 is zero."
  pub zero_word : index_word c W S 0 ≡ 0
  unfolding index_word
  zero_word = refl

  abbrev leaf_at : ℕ → ℕ
  leaf_at k = largest c (k * segment_size W S) (segment_size W S)

  tree_part : (i : ℕ) → 0 < i → i < 2 * S → index_word c W S i ≡ tree_word leaf_at S depth i
  unfolding index_word
  tree_part i l h = rw (eqb_ne i 0 (omega arith), of_lt i (2 * S) h)

  -- "Words 1 to S - 1: word i is the larger of words 2i and 2i + 1."
  pub tree_word_lem : is_power S depth ≡ true → (i : ℕ) → 0 < i → i < S
      → index_word c W S i ≡ max (index_word c W S (2 * i)) (index_word c W S (2 * i + 1))
  tree_word_lem power i l h =
      let left = tree_part (2 * i) (omega arith) (omega arith) in
      let right = tree_part (2 * i + 1) (omega arith) (omega arith) in
      tree_part i l (omega arith) ∙ tree_word_node leaf_at S (power_range S depth power).1 i l h
      ∙ sym (ap₂ max left right)

  -- "Words S to 2S - 1 are the leaves."
  pub leaf_word : (k : ℕ) → k < S → index_word c W S (S + k) ≡ largest c (k * segment_size W S) (segment_size W S)
  leaf_word k h = tree_part (S + k) (omega arith) (omega arith) ∙ tree_word_leaf leaf_at S depth k

  -- "Words 2S to 3S - 1: address of the first control word in the segment, or W if none."
  pub first_word : (k : ℕ) → k < S
      → index_word c W S (2 * S + k) ≡ first_block c W (k * segment_size W S) (segment_size W S)
  unfolding index_word
  first_word k h =
      let i = 2 * S + k in
      rw (eqb_ne i 0 (omega arith), of_ge i (2 * S) (omega arith), add-sub_cancel_left (2 * S) k)

-- ---- leaves: "0 if no block begins in that segment, else the largest free block beginning there, and at least 1"

-- a word that is not 0 begins a block
pub weight_zero : (z : ℤ) → (weight z ≡ 0) ↔ (z ≡ pos 0)
weight_zero (pos n) = (λ e. ap pos e, λ e. ap weight e)
weight_zero (negsuc n) = (λ e. absurd (omega arith), λ e. ap weight e)

module _ (c : ℕ → ℤ) where
  pub largest_above : (u n k : ℕ) → u ≤ k → k < u + n → weight (c k) ≤ largest c u n
  largest_above u zero k a b = absurd (omega arith)
  largest_above u (suc n) k a b = go (ℕ_discrete k u) (λ l. largest_above (suc u) n k l (omega arith))
    where
      go : Dec (k ≡ u) → (suc u ≤ k → weight (c k) ≤ largest c (suc u) n)
          → weight (c k) ≤ max (weight (c u)) (largest c (suc u) n)
      go (yes e) ih = rw e (omega arith)
      go (no e) ih = let l = ih (omega arith) in omega arith

  pub largest_at : (u n : ℕ) → 1 ≤ largest c u n → (k : ℕ) × (u ≤ k) × (k < u + n) × (weight (c k) ≡ largest c u n)
  largest_at u zero h = absurd (omega arith)
  largest_at u (suc n) h = go (dec_le (largest c (suc u) n) (weight (c u))) (largest_at (suc u) n)
    where
      go : Dec (largest c (suc u) n ≤ weight (c u))
          → (1 ≤ largest c (suc u) n → (k : ℕ) × (suc u ≤ k) × (k < suc u + n) × (weight (c k) ≡ largest c (suc u) n))
          → (k : ℕ) × (u ≤ k) × (k < u + suc n) × (weight (c k) ≡ max (weight (c u)) (largest c (suc u) n))
      go (yes l) ih = (u, omega arith, omega arith, omega arith)
      go (no l) ih = let (k, a, b, e) = ih (omega arith) in (k, omega arith, omega arith, omega arith)

  -- 0 exactly if no block begins there, else at least 1
  pub largest_zero : (u n : ℕ) → (largest c u n ≡ 0) ↔ ((k : ℕ) → u ≤ k → k < u + n → c k ≡ pos 0)
  largest_zero u n = (
    (λ e k a b. (weight_zero (c k)).0 (omega (arith, largest_above u n k a b))),
    (λ h. go h (dec_le 1 (largest c u n))),
  )
    where
      go : ((k : ℕ) → u ≤ k → k < u + n → c k ≡ pos 0) → Dec (1 ≤ largest c u n) → largest c u n ≡ 0
      go h (yes l) = let (k, a, b, e) = largest_at u n l in sym e ∙ (weight_zero (c k)).1 (h k a b)
      go h (no l) = omega arith

  pub largest_begun : (u n k : ℕ) → u ≤ k → k < u + n → c k ≢ pos 0 → 1 ≤ largest c u n
  largest_begun u n k a b h = go (dec_le 1 (largest c u n))
    where
      go : Dec (1 ≤ largest c u n) → 1 ≤ largest c u n
      go (yes l) = l
      go (no l) = absurd (h ((largest_zero u n).0 (omega arith) k a b))

  -- ---- first blocks

  abbrev begins : ℕ → Bool
  begins k = ltb 0 (weight (c k))

  not_begun : (k : ℕ) → c k ≡ pos 0 → begins k ≡ false
  not_begun k e = of_ge 0 (weight (c k)) (omega (arith, (weight_zero (c k)).1 e))

  begun : (k : ℕ) → c k ≢ pos 0 → begins k ≡ true
  begun k h = of_lt 0 (weight (c k)) (go (dec_le 1 (weight (c k))))
    where
      go : Dec (1 ≤ weight (c k)) → 1 ≤ weight (c k)
      go (yes l) = l
      go (no l) = absurd (h ((weight_zero (c k)).0 (omega arith)))

  abbrev or_else : ℕ → Option ℕ → ℕ
  or_else W o = elim o [ none ↦ W | some k ↦ k ]

  pub first_none : (W u n : ℕ) → ((k : ℕ) → u ≤ k → k < u + n → c k ≡ pos 0) → first_block c W u n ≡ W
  first_none W u n h = ap (or_else W) (lowest_nothing begins u n (λ k a b. not_begun k (h k a b)))

  pub first_begun : (W u n k : ℕ) → u ≤ k → k < u + n → c k ≢ pos 0 → ((j : ℕ) → u ≤ j → j < k → c j ≡ pos 0)
      → first_block c W u n ≡ k
  first_begun W u n k a b h least =
      ap (or_else W) (lowest_is begins u n k
      (record { passes = begun k h; above = a; below = b; least = λ j x y. not_begun j (least j x y) }))

-- ---- the free runs by their units

-- r is a longest run of units, among the N, that pass
pub record MaximalRun (f : ℕ → Bool) (N : ℕ) (r : Run) : Type 0 where
  pub long : 1 ≤ r.size
  pub inside : r.start + r.size ≤ N
  pub opening : opens f r.start ≡ true
  pub passes : (u : ℕ) → r.start ≤ u → u < r.start + r.size → f u ≡ true
  pub after : r.start + r.size < N → f (r.start + r.size) ≡ false

-- from a unit k that is not inside a run, the next unit that passes begins one
opens_from : (f : ℕ → Bool) (k s : ℕ) → k ≤ s → (f k ≡ true → opens f k ≡ true)
    → ((u : ℕ) → k ≤ u → u < s → f u ≡ false) → f s ≡ true → opens f s ≡ true
opens_from f k zero l h before here = refl
opens_from f k (suc s) l h before here = go (ℕ_discrete k (suc s))
  where
    go : Dec (k ≡ suc s) → opens f (suc s) ≡ true
    go (yes e) = ap (opens f) (sym e) ∙ h (ap f e ∙ here)
    go (no e) = ap not (before s (omega arith) (omega arith))

run_maximal : (f : ℕ → Bool) (N k : ℕ) → k ≤ N → (k < N → f k ≡ true → opens f k ≡ true)
    → (xs : List Run) (r : Run) (ys : List Run) → runs_from f k (N - k) ≡ xs ++ r ∷ ys → MaximalRun f N r
run_maximal f N k l h [] r ys e =
    let next = runs_next f N k l r ys e in
    let inside : r.start < N = let a = next.long in let b = next.inside in omega arith in
    record {
      long = next.long;
      inside = next.inside;
      opening = opens_from f k r.start next.above (h (omega (arith, next.above))) next.before
          (next.passes r.start (omega arith) (let a = next.long in omega arith));
      passes = next.passes;
      after = next.after;
    }
run_maximal f N k l h (x ∷ xs) r ys e =
    let next = runs_next f N k l x (xs ++ r ∷ ys) e in
    run_maximal f N (x.start + x.size) next.inside (λ b p. absurd (true≢false (sym p ∙ next.after b))) xs r ys
    (sym next.rest)

pub free_run_maximal : (W : ℕ) (L : Ledger) (xs : List Run) (r : Run) (ys : List Run)
    → free_runs segment_rule W L ≡ xs ++ r ∷ ys → MaximalRun (free segment_rule L) W r
unfolding free_runs
free_run_maximal W L xs r ys e =
    run_maximal (free segment_rule L) W 0 (omega arith) (λ b p. refl) xs r ys
    (rw (sub-zero W) (rw (div-one W) at e))

free_from_is : (f : ℕ → Bool) (u z n : ℕ) → ((v : ℕ) → u ≤ v → v < u + z → f v ≡ true) → z ≤ n
    → (z < n → f (u + z) ≡ false) → free_from f u n ≡ z
free_from_is f u zero zero h l k = refl
free_from_is f u zero (suc n) h l k = rw (rw add-zero at (k (omega arith)))
free_from_is f u (suc z) zero h l k = absurd (omega arith)
free_from_is f u (suc z) (suc n) h l k =
    rw (h u (omega arith) (omega arith))
    (ap suc (free_from_is f (suc u) z n (λ v a b. h v (omega arith) (omega arith)) (omega arith)
    (λ m. let e : suc u + z ≡ u + suc z = omega arith in ap f e ∙ k (omega arith))))

-- ---- control words

-- live record r begins at unit u
abbrev begins_at : ℕ → Row → Bool
begins_at u r = is_live r && eqb (first segment_rule r) u

abbrev units_of : Option Row → ℕ
units_of none = 0
units_of (some r) = span segment_rule r.words

starts_is : (L : Ledger) (u : ℕ) → starts_at L u ≡ units_of (first_that (begins_at u) L)
starts_is [] u = refl
starts_is (r ∷ L) u = go (begins_at u r) (starts_is L u)
  where
    go : (b : Bool) → starts_at L u ≡ units_of (first_that (begins_at u) L)
        → cond b (span segment_rule r.words) (starts_at L u) ≡ units_of (cond b (some r) (first_that (begins_at u) L))
    go true ih = refl
    go false ih = ih

module _ (W next : ℕ) (L : Ledger) (good : valid segment_rule W next L ≡ true) where
  -- slot i has the record s, and it covers unit u
  record Covered (u : ℕ) (s : Row) : Type 0 where
    slot : ℕ
    inside : slot < length L
    is : get_or L slot empty_row ≡ s
    covered : covers segment_rule u (get_or L slot empty_row) ≡ true

  one_holder : (u : ℕ) (r s : Row) → Covered u r → Covered u s → r ≡ s
  one_holder u r s a b = sym a.is ∙ ap (λ i. get_or L i empty_row) (go (ℕ_discrete a.slot b.slot)) ∙ b.is
    where
      go : Dec (a.slot ≡ b.slot) → a.slot ≡ b.slot
      go (yes e) = e
      go (no e) =
          let off = disjoint segment_rule W next L good u a.slot b.slot a.inside b.inside e a.covered in
          absurd (true≢false (sym b.covered ∙ off))

  covered_held : (u : ℕ) (s : Row) → Covered u s → free segment_rule L u ≡ false
  unfolding free
  covered_held u s c = ap not (any_at (covers segment_rule u) empty_row L c.slot c.covered c.inside)

  -- the record that is found to begin at u
  module _ (u : ℕ) (s : Row) (found : first_that (begins_at u) L ≡ some s) where
    begun_first : first segment_rule s ≡ u
    begun_first =
        let h = first_that_some (begins_at u) L s found in
        eqb_eq (first segment_rule s) u (and_r (is_live s) (eqb (first segment_rule s) u) h)

    begun_fits : Fitted segment_rule W next s
    begun_fits =
        let h = first_that_some (begins_at u) L s found in
        let live = and_l (is_live s) (eqb (first segment_rule s) u) h in
        let (i, l, q) = first_that_at (begins_at u) empty_row L s found in
        subst (Fitted segment_rule W next) q (valid_at segment_rule (omega arith) W next L good i l (ap is_live q ∙ live))

    begun_covered : Covered u s
    begun_covered =
        let (i, l, q) = first_that_at (begins_at u) empty_row L s found in
        let some_units = begun_fits.nonempty in
        let at = begun_first in
        let here = covers_in segment_rule u s begun_fits.live (omega arith) (omega arith) in
        record { slot = i; inside = l; is = q; covered = ap (covers segment_rule u) q ∙ here }

  -- ---- a held block

  module _ (r : Row) (held : record_of r.ticket L ≡ some r) where
    held_fits : Fitted segment_rule W next r
    held_fits = valid_record segment_rule (omega arith) W next L good r.ticket r held

    held_covered : (u : ℕ) → first segment_rule r ≤ u → u < past segment_rule r → Covered u r
    held_covered u a b =
        let (i, l, q) = record_slot r.ticket L r held in
        let here = covers_in segment_rule u r held_fits.live a b in
        record { slot = i; inside = l; is = q; covered = ap (covers segment_rule u) q ∙ here }

    pub starts_held : starts_at L (first segment_rule r) ≡ span segment_rule r.words
    starts_held = starts_is L u ∙ go (first_that (begins_at u) L) refl
      where
        u : ℕ
        u = first segment_rule r

        here : Covered u r
        here = held_covered u (omega arith) held_fits.nonempty

        go : (o : Option Row) → first_that (begins_at u) L ≡ o → units_of o ≡ span segment_rule r.words
        go (some s) e = ap (λ (x : Row). span segment_rule x.words) (one_holder u s r (begun_covered u s e) here)
        go none e =
            let none-begins = first_that_none (begins_at u) L e in
            let none_there = all_get_d (λ s. not (begins_at u s)) empty_row L none-begins here.slot here.inside in
            let begins = and_i (is_live r) (eqb u u) held_fits.live (eqb_same u) in
            absurd (true≢false (sym begins ∙ not_true (begins_at u r) (rw here.is at none_there)))

    -- "negative if held"
    pub control_held : control_word W L (first segment_rule r) ≡ neg_ℤ (pos (span segment_rule r.words))
    unfolding control_word
    control_held =
        let some_units = span_pos segment_rule (omega arith) r.words held_fits.asked in
        rw (starts_held, of_lt 0 (span segment_rule r.words) some_units)

  -- ---- a free run

  starts_free : (u : ℕ) → free segment_rule L u ≡ true → starts_at L u ≡ 0
  starts_free u h = starts_is L u ∙ go (first_that (begins_at u) L) refl
    where
      go : (o : Option Row) → first_that (begins_at u) L ≡ o → units_of o ≡ 0
      go none e = refl
      go (some s) e = absurd (true≢false (sym h ∙ covered_held u s (begun_covered u s e)))

  module _ (r : Run) (free-run : MaximalRun (free segment_rule L) W r) where
    -- "positive if free"
    pub control_free : control_word W L r.start ≡ pos r.size
    unfolding control_word
    control_free =
        let k = r.start in
        let inside = free-run.inside in
        let here = free-run.passes k (omega arith) (let l = free-run.long in omega arith) in
        let size : free_from (free segment_rule L) k (W - k) ≡ r.size =
        free_from_is (free segment_rule L) k r.size (W - k) free-run.passes (omega arith)
        (λ l. free-run.after (omega arith)) in
        rw (starts_free k here, here, free-run.opening, size)

    -- "Other words of a free block are zero."
    pub control_free_inside : (u : ℕ) → r.start < u → u < r.start + r.size → control_word W L u ≡ pos 0
    unfolding control_word
    control_free_inside u a b =
        let here = free-run.passes u (omega arith) b in
        rw (starts_free u here, here, closed u a b)
      where
        closed : (u : ℕ) → r.start < u → u < r.start + r.size → opens (free segment_rule L) u ≡ false
        closed zero a b = absurd (omega arith)
        closed (suc u) a b = ap not (free-run.passes u (omega arith) (omega arith))

-- ---- the words before a held record's address: the same in every valid ledger that has the record

pub lead_segment : (W next₁ next₂ : ℕ) (L₁ L₂ : Ledger)
    → valid segment_rule W next₁ L₁ ≡ true → valid segment_rule W next₂ L₂ ≡ true
    → (r : Row) → record_of r.ticket L₁ ≡ some r → record_of r.ticket L₂ ≡ some r
    → (i : ℕ) → first segment_rule r ≤ i → i < r.address → segment_word W L₁ i ≡ segment_word W L₂ i
unfolding segment_word address_at
lead_segment W next₁ next₂ L₁ L₂ good₁ good₂ r held₁ held₂ i a b =
    let place = (valid_record segment_rule (omega arith) W next₁ L₁ good₁ r.ticket r held₁).place in
    let e : i ≡ first segment_rule r = omega arith in
    rw (e, control_held W next₁ L₁ good₁ r held₁, control_held W next₂ L₂ good₂ r held₂)

-- ---- 32 bits

free_from_le : (f : ℕ → Bool) (u n : ℕ) → free_from f u n ≤ n
free_from_le f u zero = omega arith
free_from_le f u (suc n) = go (f u) (free_from_le f (suc u) n)
  where
    go : (b : Bool) → free_from f (suc u) n ≤ n → cond b (suc (free_from f (suc u) n)) 0 ≤ suc n
    go true ih = omega arith
    go false ih = omega arith

mag_neg : (n : ℕ) → mag (neg_ℤ (pos n)) ≤ n
mag_neg zero = omega arith
mag_neg (suc n) = omega arith

module _ (W next : ℕ) (L : Ledger) (good : valid segment_rule W next L ≡ true) (u : ℕ) where
  starts_le : starts_at L u ≤ W
  unfolding past
  starts_le = rw (starts_is L u) (go (first_that (begins_at u) L) refl)
    where
      go : (o : Option Row) → first_that (begins_at u) L ≡ o → units_of o ≤ W
      go none e = omega arith
      go (some s) e = let inside = (begun_fits W next L good u s e).inside in omega arith

  control_le : mag (control_word W L u) ≤ W
  unfolding control_word
  control_le = go (ltb 0 (starts_at L u)) (free segment_rule L u && opens (free segment_rule L) u)
    where
      run : ℕ
      run = free_from (free segment_rule L) u (W - u)

      go : (a b : Bool) → mag (cond a (neg_ℤ (pos (starts_at L u))) (cond b (pos run) (pos 0))) ≤ W
      go true b = omega (arith, mag_neg (starts_at L u), starts_le)
      go false true = omega (arith, free_from_le (free segment_rule L) u (W - u))
      go false false = omega arith

  pub control_fits : W ≤ most_words → SFits w32 (control_word W L u)
  control_fits h = record { sfits = let l = control_le in omega arith }
