-- Bytes that are laid out as a state, with a right pool, are the state of the session that is read there. Assumes
-- nothing.
use Prim.Native.Nat.{ℕ, ◌+◌, ◌*◌, ◌-◌, ◌≤◌}
use mathlib.Core.Path.{◌≡◌, refl, sym, ap, ap₂, ◌∙◌}
use mathlib.Core.Bool.{Bool, true, false, cond, ◌&&◌, ◌||◌, or-false}
use mathlib.Core.List.{[], ◌∷◌, ◌++◌}
use native.Mathlib.Omega.{arith}
use lib.Dec.{eqb, leb}
use lib.ListN.{length, take, drop, length-drop}
use lib.Seq.{length-take-le, take-add, take_all}
use Rattle.words.specs.Lists.{Words, all, is_zero, list_from, same_words}
use Rattle.words.proofs.Tests.{and_l, and_r, and_i, eqb_eq, bool_iff}
use Rattle.words.proofs.ListLaws.{same_words_same, same_words_eq, length_list_from}
use Rattle.ledger.specs.Records.{record_words, slots}
use Rattle.calls.specs.Pool.{most_records}
use Rattle.text.specs.Numbers.{Bytes}
use Rattle.word_bytes.specs.Little.{word_at, bytes_of_words, is_other, Small}
use Rattle.session.specs.Meaning.{Standing, before, serving, stopped, most_text_words}
use Rattle.session.specs.State.{session, table_from, arena_from, state_bytes, stage_of, head_of, table_in, arena_in}
use Rattle.session.specs.State.{bytes_of, pool_in, standing_in, session_in, right_pool, good, is_state}
use Rattle.session.proofs.GoodLaws.{good_of, good_parts}
use Rattle.pool_bursts.specs.Layout.{fields_in, is_sized, between, is_clear, well_formed}
use Rattle.pool_bursts.proofs.FormedLaws.{state_formed}
use Rattle.pool_bursts.proofs.LayoutLaws.{words_here, part_padded, few_kept, few_words, few_slots, sized_stage}

module _ (b : Bytes) (small : Small b) (long : length b ≡ state_bytes) (size : is_sized (fields_in b) ≡ true)
    (clear : is_clear (fields_in b) b ≡ true) where
  abbrev T : ℕ
  T = 4 * (most_records * record_words)

  abbrev A : ℕ
  A = 4 * most_text_words

  abbrev kept : ℕ
  kept = word_at b 1

  abbrev line : Bytes
  line = take kept (drop 24 b)

  kept_few : kept ≤ 65
  kept_few = few_kept (fields_in b) size

  words_few : word_at b 2 ≤ most_text_words
  words_few = few_words (fields_in b) size

  slots_few : word_at b 3 ≤ most_records
  slots_few = few_slots (fields_in b) size

  line_long : length line ≡ kept
  line_long = length-take-le kept (drop 24 b) (omega (arith, length-drop 24 b, kept_few))

  -- the four tests
  abbrev w : Bool
  w = all (is_other 10) (between 24 (24 + kept) b)

  abbrev x : Bool
  x = all is_zero (between (24 + kept) (4 * table_from) b)

  abbrev y : Bool
  y = all is_zero (between (4 * (table_from + record_words * word_at b 3)) (4 * arena_from) b)

  abbrev z : Bool
  z = all is_zero (drop (4 * (arena_from + word_at b 2)) b)

  plain : all (is_other 10) line ≡ true
  plain =
      let e : 24 + kept - 24 ≡ kept = omega arith in
      ap (λ (n : ℕ). all (is_other 10) (take n (drop 24 b))) (sym e) ∙ and_l w x (and_l (w && x) y (and_l (w && x && y) z clear))

  line_zeros : all is_zero (take (68 - kept) (drop (24 + kept) b)) ≡ true
  line_zeros =
      let e : 68 - kept ≡ 4 * table_from - (24 + kept) = omega arith in
      ap (λ (n : ℕ). all is_zero (take n (drop (24 + kept) b))) e
      ∙ and_r w x (and_l (w && x) y (and_l (w && x && y) z clear))

  abbrev used : ℕ
  used = 4 * (record_words * word_at b 3)

  table_zeros : all is_zero (take (T - used) (drop (4 * table_from + used) b)) ≡ true
  table_zeros =
      let at : 4 * table_from + used ≡ 4 * (table_from + record_words * word_at b 3) = omega arith in
      let n : T - used ≡ 4 * arena_from - 4 * (table_from + record_words * word_at b 3) = omega arith in
      ap₂ (λ (m k : ℕ). all is_zero (take m (drop k b))) n at ∙ and_r (w && x) y (and_l (w && x && y) z clear)

  arena_zeros : all is_zero (take (A - 4 * word_at b 2) (drop (4 * arena_from + 4 * word_at b 2) b)) ≡ true
  arena_zeros =
      let at : 4 * arena_from + 4 * word_at b 2 ≡ 4 * (arena_from + word_at b 2) = omega arith in
      ap (all is_zero) (take_all (A - 4 * word_at b 2) (drop (4 * arena_from + 4 * word_at b 2) b)
      (omega (arith, length-drop (4 * arena_from + 4 * word_at b 2) b)))
      ∙ ap (λ (k : ℕ). all is_zero (drop k b)) at ∙ and_r (w && x && y) z clear

  -- the parts together
  together : take 24 b ++ take 68 (drop 24 b) ++ take T (drop (4 * table_from) b) ++ take A (drop (4 * arena_from) b) ≡ b
  together =
      let one = sym (take-add 24 68 b) in
      let two = sym (take-add (4 * table_from) T b) in
      let three = sym (take-add (4 * arena_from) A b) in
      ap (λ (x : Bytes). x ++ take T (drop (4 * table_from) b) ++ take A (drop (4 * arena_from) b)) one
      ∙ ap (λ (x : Bytes). x ++ take A (drop (4 * arena_from) b)) two
      ∙ three ∙ take_all (4 * arena_from + A) b (omega arith)

  assemble : (s : Standing) → (stage_of s ∷ length line ∷ head_of s) ≡ list_from (word_at b) 0 6
      → bytes_of_words (table_in s) ≡ take used (drop (4 * table_from) b)
      → bytes_of_words (arena_in s) ≡ take (4 * word_at b 2) (drop (4 * arena_from) b) → bytes_of (session s line) ≡ b
  unfolding bytes_of
  assemble s header table arena =
      let first = ap bytes_of_words header ∙ words_here b small 0 6 (omega arith) in
      let second = part_padded b 24 68 kept (omega arith) (omega (arith, kept_few)) line refl line_zeros in
      let third = part_padded b (4 * table_from) T used (omega arith) (omega (arith, slots_few)) (bytes_of_words (table_in s))
      table table_zeros in
      let fourth = part_padded b (4 * arena_from) A (4 * word_at b 2) (omega arith) (omega (arith, words_few))
      (bytes_of_words (arena_in s)) arena arena_zeros in
      ap₂ (λ (x y : Bytes). x ++ y) (ap₂ (λ (x y : Bytes). x ++ y) (ap₂ (λ (x y : Bytes). x ++ y) first second) third) fourth
      ∙ together

  -- ---- by the stage

  pool_there : word_at b 0 ≡ 2 → bytes_of (session (serving (pool_in b)) line) ≡ b
  pool_there two =
      let p = pool_in b in
      let n = record_words * word_at b 3 in
      let ts = length_list_from (word_at b) table_from n in
      let ws = length_list_from (word_at b) arena_from (word_at b 2) in
      let sl : slots p.table ≡ word_at b 3 = omega (arith, ts) in
      assemble (serving p)
      (λ i. sym two i ∷ line_long i ∷ ws i ∷ sl i ∷ word_at b 4 ∷ word_at b 5 ∷ [])
      (words_here b small table_from n (omega (arith, slots_few)))
      (words_here b small arena_from (word_at b 2) (omega (arith, words_few)))

  -- no sizes
  module _ (none : ((eqb (word_at b 0) 1 || eqb (word_at b 0) 3) && is_zero (word_at b 2) && is_zero (word_at b 3)
      && is_zero (word_at b 4) && is_zero (word_at b 5)) ≡ true) where
    words_zero : word_at b 2 ≡ 0
    words_zero = eqb_eq (word_at b 2) 0 (search (and_l, and_r))

    slots_zero : word_at b 3 ≡ 0
    slots_zero = eqb_eq (word_at b 3) 0 (search (and_l, and_r))

    root_zero : word_at b 4 ≡ 0
    root_zero = eqb_eq (word_at b 4) 0 (search (and_l, and_r))

    next_zero : word_at b 5 ≡ 0
    next_zero = eqb_eq (word_at b 5) 0 (search (and_l, and_r))

    nothing : (n at : ℕ) → n ≡ 0 → [] ≡ take n (drop at b)
    nothing n at e = sym (ap (λ (m : ℕ). take m (drop at b)) e)

    none_there : (s : Standing) → stage_of s ≡ word_at b 0 → head_of s ≡ 0 ∷ 0 ∷ 0 ∷ 0 ∷ [] → table_in s ≡ []
        → arena_in s ≡ [] → bytes_of (session s line) ≡ b
    none_there s stage head table arena =
        assemble s
        (ap (λ (l : Words). stage_of s ∷ length line ∷ l) head
        ∙ (λ i. stage i ∷ line_long i ∷ sym words_zero i ∷ sym slots_zero i ∷ sym root_zero i ∷ sym next_zero i ∷ []))
        (ap bytes_of_words table ∙ nothing used (4 * table_from) (omega (arith, slots_zero)))
        (ap bytes_of_words arena ∙ nothing (4 * word_at b 2) (4 * arena_from) (omega (arith, words_zero)))

  pub bytes_back : bytes_of (session_in b) ≡ b
  unfolding session_in
  bytes_back = go (eqb (word_at b 0) 2) refl (sized_stage (fields_in b) size)
    where
      one_of : (t : Bool) → eqb (word_at b 0) 3 ≡ t
          → (none : ((eqb (word_at b 0) 1 || t) && is_zero (word_at b 2) && is_zero (word_at b 3)
          && is_zero (word_at b 4) && is_zero (word_at b 5)) ≡ true)
          → bytes_of (session (cond t stopped before) line) ≡ b
      one_of true e none = none_there (rw e none) stopped (sym (eqb_eq (word_at b 0) 3 e)) refl refl refl
      one_of false e none =
          let one = eqb_eq (word_at b 0) 1 (sym (or-false (eqb (word_at b 0) 1)) ∙ and_l _ _ (and_l _ _ (and_l _ _ (and_l _ _ none)))) in
          none_there (rw e none) before (sym one) refl refl refl

      go : (t : Bool) → eqb (word_at b 0) 2 ≡ t
          → cond t (leb (word_at b 2) most_text_words && leb (word_at b 3) most_records)
          ((eqb (word_at b 0) 1 || eqb (word_at b 0) 3) && is_zero (word_at b 2) && is_zero (word_at b 3)
          && is_zero (word_at b 4) && is_zero (word_at b 5)) ≡ true
          → bytes_of (session (cond t (serving (pool_in b)) (cond (eqb (word_at b 0) 3) stopped before)) line) ≡ b
      go true e h = pool_there (eqb_eq (word_at b 0) 2 e)
      go false e h = one_of (eqb (word_at b 0) 3) refl h

  pub formed_state : right_pool (standing_in b) ≡ true → is_state b ≡ true
  unfolding is_state session_in
  formed_state h =
      and_i (good (session_in b)) (same_words b (bytes_of (session_in b)))
      (good_of (standing_in b) line (record { short = omega (arith, line_long, kept_few); plain = plain; right = h }))
      (ap (same_words b) bytes_back ∙ same_words_same b)

-- Bytes of a state's length are a state exactly if they are laid out as one and their pool is right.
pub state_is : (b : Bytes) → Small b → length b ≡ state_bytes → is_state b ≡ (well_formed b && right_pool (standing_in b))
unfolding is_state session_in well_formed
state_is b small long =
    bool_iff (is_state b) (well_formed b && right_pool (standing_in b)) there back
  where
    there : is_state b ≡ true → (well_formed b && right_pool (standing_in b)) ≡ true
    there h =
        let g = good_parts (standing_in b) (take (word_at b 1) (drop 24 b)) (and_l _ _ h) in
        let same = same_words_eq b (bytes_of (session_in b)) (and_r (good (session_in b)) _ h) in
        and_i (well_formed b) (right_pool (standing_in b)) (ap well_formed same ∙ state_formed (standing_in b) (take (word_at b 1) (drop 24 b)) g)
        g.right

    back : (well_formed b && right_pool (standing_in b)) ≡ true → is_state b ≡ true
    back h =
        let l = and_l (is_sized (fields_in b) && is_clear (fields_in b) b) (right_pool (standing_in b)) h in
        formed_state b small long (and_l (is_sized (fields_in b)) _ l) (and_r (is_sized (fields_in b)) _ l)
        (and_r (is_sized (fields_in b) && is_clear (fields_in b) b) _ h)
