-- Laws of blocks that are walked over segment by segment, each with its two words in the index. Assumes nothing.
use Prim.Native.Nat.{ℕ, ◌+◌, ◌-◌, ◌*◌, ◌≤◌, ◌<◌, min}
use native.Mathlib.Omega.{arith}
use mathlib.Core.Bool.{Bool, true, false, not, ◌||◌}
use mathlib.Core.List.{List}
use mathlib.Core.Path.{◌≡◌, sym, ap, ap₂, ◌∙◌, subst}
use lib.IntN.{ℤ}
use lib.Dec.{eqb}
use lib.ListN.{length, get_or}
use Rattle.words.specs.Counted.{every}
use Rattle.words.specs.Lists.{Words}
use Rattle.words.proofs.CountedLaws.{every_at}
use Rattle.words.proofs.Tests.{and_l, and_r, and_i, or_l, or_r, not_false, eqb_eq, eqb_same, of_lt, of_ge}
use Rattle.stored_forms.specs.Segments.{largest}
use Rattle.stored_forms.proofs.SegmentLaws.{segment_size_lem}
use Rattle.record_table.proofs.PairLaws.{every_last}
use Rattle.segment_blocks.specs.Upkeep.{Sizes, Ground, first_from}
use Rattle.segment_blocks.proofs.ScanLaws.{come_start, come_end}
use Rattle.segment_blocks.proofs.BuildLaws.{Passing, pass_facing, pass_on}
use Rattle.segment_blocks.proofs.UpkeepLaws.{sizes_some, leaf_right, first_right}
use Rattle.segment_check.specs.Right.{two_right, segment_right}
use Rattle.segment_check.specs.Adjoining.{Adjoining, Walked, Matched}

-- no block begins from `at` up to hi, where blocks have led past that
pub walked_none : (v : List ℤ) (map : Words) (at hi free : ℕ) (after : Bool) → Adjoining v map at free after → free ≤ at
    → hi ≤ at → Walked v map at hi at free after 0
walked_none v map at hi free after adjoining few high = record {
  adjoining = adjoining;
  few = few;
  high = high;
  swept = λ c S. (sym (ap (largest c at) none), come_end v c at hi at (come_start v c at hi S) high);
}
  where
    none : hi - at ≡ 0
    none = omega arith

-- the index has the two words of a segment where a block begins, and of one where none does
module _ (t : Words) (s k at hi W : ℕ) where
  two_words_lem : (most first : ℕ) → get_or t (s + k) 0 ≡ most → get_or t (2 * s + k) 0 ≡ first
      → two_right t s k most first ≡ true
  two_words_lem most first a b =
      and_i (eqb most (get_or t (s + k) 0)) (eqb first (get_or t (2 * s + k) 0)) (ap (eqb most) a ∙ eqb_same most)
      (ap (eqb first) b ∙ eqb_same first)

  pub two_walked : (most : ℕ) → at < hi
      → (not (eqb (get_or t (2 * s + k) 0) at) || not (eqb (get_or t (s + k) 0) most)) ≡ false
      → two_right t s k most (first_from at hi W) ≡ true
  two_walked most below test =
      let first = not (eqb (get_or t (2 * s + k) 0) at) in
      let leaf = not (eqb (get_or t (s + k) 0) most) in
      rw (of_lt at hi below)
      (two_words_lem most at
      (eqb_eq (get_or t (s + k) 0) most (not_false (eqb (get_or t (s + k) 0) most) (or_r first leaf test)))
      (eqb_eq (get_or t (2 * s + k) 0) at (not_false (eqb (get_or t (2 * s + k) 0) at) (or_l first leaf test))))

  pub two_none : hi ≤ at → (not (eqb (get_or t (2 * s + k) 0) W) || not (eqb (get_or t (s + k) 0) 0)) ≡ false
      → two_right t s k 0 (first_from at hi W) ≡ true
  two_none past test =
      let first = not (eqb (get_or t (2 * s + k) 0) W) in
      let leaf = not (eqb (get_or t (s + k) 0) 0) in
      rw (of_ge at hi past)
      (two_words_lem 0 W (eqb_eq (get_or t (s + k) 0) 0 (not_false (eqb (get_or t (s + k) 0) 0) (or_r first leaf test)))
      (eqb_eq (get_or t (2 * s + k) 0) W (not_false (eqb (get_or t (2 * s + k) 0) W) (or_l first leaf test))))

  -- and the tests say no more than that
  words_of : (most first : ℕ) → two_right t s k most first ≡ true
      → (eqb (get_or t (s + k) 0) most ≡ true) × (eqb (get_or t (2 * s + k) 0) first ≡ true)
  words_of most first e =
      let x = get_or t (s + k) 0 in
      let y = get_or t (2 * s + k) 0 in
      let a = eqb_eq most x (and_l (eqb most x) (eqb first y) e) in
      let b = eqb_eq first y (and_r (eqb most x) (eqb first y) e) in
      (ap (eqb x) a ∙ eqb_same x, ap (eqb y) b ∙ eqb_same y)

  pub walked_two : (most : ℕ) → at < hi → two_right t s k most (first_from at hi W) ≡ true
      → (not (eqb (get_or t (2 * s + k) 0) at) || not (eqb (get_or t (s + k) 0) most)) ≡ false
  walked_two most below e =
      let (a, b) = words_of most at (rw (of_lt at hi below) at e) in
      rw (b, a)

  pub none_two : hi ≤ at → two_right t s k 0 (first_from at hi W) ≡ true
      → (not (eqb (get_or t (2 * s + k) 0) W) || not (eqb (get_or t (s + k) 0) 0)) ≡ false
  none_two past e =
      let (a, b) = words_of 0 W (rw (of_ge at hi past) at e) in
      rw (b, a)

-- The segments before k are walked over, and the next block begins at `at`. If the blocks are those with control words c, the
-- index has these segments' leaves and first blocks.
pub record Matching (v : List ℤ) (map t : Words) (s g k at free : ℕ) (after : Bool) : Type 0 where
  pub adjoining : Adjoining v map at free after
  pub few : free ≤ at
  pub inside : at ≤ length v
  pub high : min (k * g) (length v) ≤ at
  pub right : (c : ℕ → ℤ) → Ground v c s g
      → Passing v c g k at × (every (segment_right c (length v) s t) 0 k ≡ true)

module _ (v : List ℤ) (map t : Words) (s g : ℕ) where
  -- the two words of the next segment, where the index is that of the blocks
  pub match_two : (k at free hi next free' most : ℕ) (after after' : Bool) → Matching v map t s g k at free after
      → k < s → hi ≡ min ((k + 1) * g) (length v) → Walked v map at hi next free' after' most
      → (c : ℕ → ℤ) → Ground v c s g → every (segment_right c (length v) s t) 0 s ≡ true
      → two_right t s k most (first_from at hi (length v)) ≡ true
  unfolding segment_right
  match_two k at free hi next free' most after after' M below is S c G right =
      let pass = (M.right c G).0 in
      let facing = pass_facing v c s g G k at pass below in
      ap₂ (two_right t s k) ((S.swept c pass.scan).0 ∙ leaf_right v c s g k at facing hi is)
      (first_right v c s g k at facing hi is)
      ∙ every_at (segment_right c (length v) s t) 0 s right k (omega arith) (omega arith)

  pub match_on : (k at free hi next free' most : ℕ) (after after' : Bool) → Matching v map t s g k at free after
      → k < s → hi ≡ min ((k + 1) * g) (length v) → next ≤ length v → Walked v map at hi next free' after' most
      → two_right t s k most (first_from at hi (length v)) ≡ true → Matching v map t s g (k + 1) next free' after'
  unfolding segment_right
  match_on k at free hi next free' most after after' M below is inside S test = record {
    adjoining = S.adjoining;
    few = S.few;
    inside = inside;
    high = omega (arith, S.high);
    right = λ c G.
        let (pass, before) = M.right c G in
        let facing = pass_facing v c s g G k at pass below in
        let (leaf, reaches) = S.swept c pass.scan in
        let p = segment_right c (length v) s t in
        let here : p k ≡ true =
        sym (ap₂ (two_right t s k) (leaf ∙ leaf_right v c s g k at facing hi is)
        (first_right v c s g k at facing hi is)) ∙ test in
        (pass_on v c s g G k at hi next pass is reaches, every_last p k ∙ and_i (every p 0 k) (p k) before here);
  }

  -- after the last segment no word is left
  pub match_whole : Sizes (length v) s g → (k at free : ℕ) (after : Bool) → Matching v map t s g k at free after → k ≡ s
      → at ≡ length v
  match_whole Z k at free after M e = omega (arith, M.inside, high, reach)
    where
      high : min (s * g) (length v) ≤ at
      high = subst (λ n. min (n * g) (length v) ≤ at) e M.high

      reach : length v ≤ s * g
      reach =
          subst (λ n. length v ≤ s * n) (sym Z.each)
          (segment_size_lem (length v) s (sizes_some (length v) s g Z)).0

  pub match_end : Sizes (length v) s g → (k at free : ℕ) (after : Bool) → Matching v map t s g k at free after → k ≡ s
      → Matched v map t s g free
  match_end Z k at free after M e = record {
    after = after;
    adjoining = subst (λ n. Adjoining v map n free after) (match_whole Z k at free after M e) M.adjoining;
    right = λ c G. subst (λ n. every (segment_right c (length v) s t) 0 n ≡ true) e (M.right c G).1;
  }
