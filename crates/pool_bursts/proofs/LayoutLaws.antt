-- Bytes are the state of a good session exactly if they are laid out as one and their pool is right. Assumes nothing.
use Prim.Native.Nat.{ℕ, zero, suc, ◌+◌, ◌*◌, ◌-◌, ◌≤◌, ◌<◌}
use mathlib.Core.Path.{◌≡◌, refl, sym, ap, ap₂, ◌∙◌}
use mathlib.Core.Bool.{Bool, true, false, cond, ◌&&◌, ◌||◌}
use mathlib.Core.List.{[], ◌∷◌, ◌++◌}
use native.Mathlib.Omega.{arith}
use lib.Dec.{eqb, leb}
use lib.ListN.{length, get_or, take, drop, replicate, length-drop}
use lib.Seq.{length-take-le, take-add, drop-drop, drop-cons, drop_at}
use Rattle.words.proofs.ByPlace.{all_replicate}
use Rattle.words.specs.Lists.{all, is_zero, list_from}
use Rattle.words.proofs.Tests.{and_l, and_r, le_of, eqb_eq}
use Rattle.calls.specs.Pool.{most_records}
use Rattle.text.specs.Numbers.{Bytes}
use Rattle.word_bytes.specs.Little.{word_at, word_bytes, bytes_of_words, Small}
use Rattle.word_bytes.proofs.LittleLaws.{word_again}
use Rattle.session.specs.Meaning.{most_text_words}
use Rattle.session.specs.State.{padded}
use Rattle.pool_bursts.specs.declared.Fields.{Fields}
use Rattle.pool_bursts.specs.Layout.{is_sized}

-- ---- bytes had back from the words read there

cons4 : (l : Bytes) (j : ℕ) → j + 3 < length l
    → take 4 (drop j l) ≡ get_or l j 0 ∷ get_or l (j + 1) 0 ∷ get_or l (j + 2) 0 ∷ get_or l (j + 3) 0 ∷ []
cons4 l j h =
    let a : suc j ≡ j + 1 = omega arith in
    let b : suc (suc j) ≡ j + 2 = omega arith in
    let d : suc (suc (suc j)) ≡ j + 3 = omega arith in
    rw (
      drop-cons l j 0 (omega arith),
      drop-cons l (suc j) 0 (omega arith),
      drop-cons l (suc (suc j)) 0 (omega arith),
      drop-cons l (suc (suc (suc j))) 0 (omega arith),
      d,
      b,
      a,
    )

-- zeros
pub zeros_are : (l : Bytes) → all is_zero l ≡ true → l ≡ replicate (length l) 0
zeros_are [] h = refl
zeros_are (x ∷ l) h =
    ap₂ (λ (y : ℕ) (m : Bytes). y ∷ m) (eqb_eq x 0 (and_l (is_zero x) (all is_zero l) h))
    (zeros_are l (and_r (is_zero x) (all is_zero l) h))

module _ (b : Bytes) (small : Small b) where
  word_here : (i : ℕ) → 4 * i + 3 < length b → word_bytes (word_at b i) ≡ take 4 (drop (4 * i) b)
  word_here i h =
      word_again (get_or b (4 * i) 0) (get_or b (4 * i + 1) 0) (get_or b (4 * i + 2) 0) (get_or b (4 * i + 3) 0)
      (small (4 * i)) (small (4 * i + 1)) (small (4 * i + 2))
      ∙ sym (cons4 b (4 * i) h)

  pub words_here : (i n : ℕ) → 4 * (i + n) ≤ length b → bytes_of_words (list_from (word_at b) i n) ≡ take (4 * n) (drop (4 * i) b)
  words_here i zero h = refl
  words_here i (suc n) h =
      let e : 4 * suc n ≡ 4 + 4 * n = omega arith in
      let j : 4 * i + 4 ≡ 4 * suc i = omega arith in
      ap₂ (λ (x y : Bytes). x ++ y) (word_here i (omega arith)) (words_here (suc i) n (omega arith))
      ∙ sym (ap (λ (m : ℕ). take m (drop (4 * i) b)) e ∙ take-add 4 (4 * n) (drop (4 * i) b)
      ∙ ap (λ (l : Bytes). take 4 (drop (4 * i) b) ++ take (4 * n) l)
      (drop-drop 4 (4 * i) b ∙ ap (λ (m : ℕ). drop m b) j))

-- ---- a part that is used as far as its first bytes, with zeros behind

module _ (b : Bytes) (from n used : ℕ) (lies : from + n ≤ length b) (few : used ≤ n) where
  part_long : length (take used (drop from b)) ≡ used
  part_long = length-take-le used (drop from b) (omega (arith, length-drop from b))

  rest_long : length (take (n - used) (drop (from + used) b)) ≡ n - used
  rest_long = length-take-le (n - used) (drop (from + used) b) (omega (arith, length-drop (from + used) b))

  part_split : take n (drop from b) ≡ take used (drop from b) ++ take (n - used) (drop (from + used) b)
  part_split =
      let e : n ≡ used + (n - used) = omega arith in
      ap (λ (m : ℕ). take m (drop from b)) e ∙ take-add used (n - used) (drop from b)
      ∙ ap (λ (l : Bytes). take used (drop from b) ++ take (n - used) l) (drop-drop used from b)

  pub part_padded : (bs : Bytes) → bs ≡ take used (drop from b)
      → all is_zero (take (n - used) (drop (from + used) b)) ≡ true → padded n bs ≡ take n (drop from b)
  part_padded bs e z =
      let rest = take (n - used) (drop (from + used) b) in
      let m : n - length bs ≡ length rest = omega (arith, ap length e, part_long, rest_long) in
      ap₂ (λ (x : Bytes) (k : ℕ). x ++ replicate k 0) e m
      ∙ ap (λ (x : Bytes). take used (drop from b) ++ x) (sym (zeros_are rest z))
      ∙ sym part_split

  pub part_zeros : (bs : Bytes) → length bs ≡ used → padded n bs ≡ take n (drop from b)
      → all is_zero (take (n - used) (drop (from + used) b)) ≡ true
  part_zeros bs e p =
      let rest = take (n - used) (drop (from + used) b) in
      let same = p ∙ part_split in
      let behind : rest ≡ replicate (n - length bs) 0 =
      sym (drop_at (take used (drop from b)) rest used part_long) ∙ ap (drop used) (sym same)
      ∙ drop_at bs (replicate (n - length bs) 0) used e in
      ap (all is_zero) behind ∙ all_replicate is_zero 0 refl (n - length bs)

  -- what lies behind the used bytes
  pub part_clear : all is_zero (take (n - used) (drop (from + used) b)) ≡ true
      → drop used (take n (drop from b)) ≡ replicate (n - used) 0
  part_clear z =
      ap (drop used) part_split
      ∙ drop_at (take used (drop from b)) (take (n - used) (drop (from + used) b)) used part_long
      ∙ zeros_are (take (n - used) (drop (from + used) b)) z
      ∙ ap (λ (m : ℕ). replicate m 0) rest_long

-- ---- what the tests of the sizes say

module _ (f : Fields) (h : is_sized f ≡ true) where
  pub few_kept : f.kept ≤ 65
  few_kept = le_of f.kept 65 (and_l _ _ h)

  pub sized_stage : cond (eqb f.stage 2) (leb f.words most_text_words && leb f.slots most_records)
      ((eqb f.stage 1 || eqb f.stage 3) && is_zero f.words && is_zero f.slots && is_zero f.root
      && is_zero f.next) ≡ true
  sized_stage = and_r (leb f.kept 65) _ h

  pub few_both : (f.words ≤ most_text_words) × (f.slots ≤ most_records)
  few_both = go (eqb f.stage 2) sized_stage
    where
      go : (t : Bool) → cond t (leb f.words most_text_words && leb f.slots most_records)
          ((eqb f.stage 1 || eqb f.stage 3) && is_zero f.words && is_zero f.slots && is_zero f.root
          && is_zero f.next) ≡ true → (f.words ≤ most_text_words) × (f.slots ≤ most_records)
      go true e = (le_of f.words most_text_words (and_l _ _ e), le_of f.slots most_records (and_r (leb f.words most_text_words) _ e))
      go false e =
          let w = eqb_eq f.words 0 (search (and_l, and_r)) in
          let s = eqb_eq f.slots 0 (search (and_l, and_r)) in
          (omega arith, omega arith)

  pub few_words : f.words ≤ most_text_words
  few_words = few_both.0

  pub few_slots : f.slots ≤ most_records
  few_slots = few_both.1
