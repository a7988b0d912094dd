-- The state of a good session is laid out as code tests it. Assumes nothing.
use Prim.Native.Nat.{ℕ, ◌+◌, ◌*◌, ◌-◌, ◌≤◌, ◌<◌}
use mathlib.Core.Path.{◌≡◌, refl, sym, ap, ap₂, ◌∙◌}
use mathlib.Core.Bool.{true, ◌&&◌}
use mathlib.Core.List.{[], ◌∷◌, ◌++◌, append_assoc}
use native.Mathlib.Nat.{zero-add}
use native.Mathlib.Omega.{arith}
use lib.ListN.{length, get_or, take, drop, replicate, length-append, length-drop}
use lib.Seq.{take_at, drop_at, take_all}
use Rattle.words.specs.Lists.{Words, all, is_zero}
use Rattle.words.proofs.Tests.{and_i, of_le}
use Rattle.ledger.specs.Records.{record_words, slots}
use Rattle.calls.specs.Pool.{word_count, most_records}
use Rattle.text.specs.Numbers.{Bytes}
use Rattle.word_bytes.specs.Little.{word_at, bytes_of_words, is_other}
use Rattle.word_bytes.proofs.LittleLaws.{length_bytes, word_there}
use Rattle.session.specs.Meaning.{Standing, before, serving, stopped, most_text_words}
use Rattle.session.specs.State.{session, table_from, arena_from, state_bytes, stage_of, head_of, table_in, arena_in}
use Rattle.session.specs.State.{padded, bytes_of, right_pool}
use Rattle.session.proofs.GoodLaws.{Good, right_words}
use Rattle.session.proofs.StateLaws.{length_padded, few_slots, all_slots, state_long}
use Rattle.pool_bursts.specs.declared.Fields.{Fields}
use Rattle.pool_bursts.specs.Layout.{fields_in, is_sized, between, is_clear, well_formed}
use Rattle.pool_bursts.proofs.LayoutLaws.{part_zeros}

-- the words that a standing's table and arena take
abbrev slots_of : Standing → ℕ
slots_of s = get_or (head_of s) 1 0

abbrev words_of : Standing → ℕ
words_of s = get_or (head_of s) 0 0

table_words : (s : Standing) → right_pool s ≡ true → length (table_in s) ≡ record_words * slots_of s
table_words before h = refl
table_words (serving p) h = sym (all_slots p h)
table_words stopped h = refl

arena_words : (s : Standing) → length (arena_in s) ≡ words_of s
arena_words before = refl
arena_words (serving p) = refl
arena_words stopped = refl

slots_in : (s : Standing) → right_pool s ≡ true → slots_of s ≤ most_records
slots_in before h = omega arith
slots_in (serving p) h = few_slots p h
slots_in stopped h = omega arith

words_in : (s : Standing) → right_pool s ≡ true → words_of s ≤ most_text_words
words_in before h = omega arith
words_in (serving p) h = right_words p h
words_in stopped h = omega arith

pub head_long : (s : Standing) → length (head_of s) ≡ 4
head_long before = refl
head_long (serving p) = refl
head_long stopped = refl

module _ (s : Standing) (k : Bytes) (g : Good s k) where
  abbrev T : ℕ
  T = 4 * (most_records * record_words)

  abbrev A : ℕ
  A = 4 * most_text_words

  abbrev header : Words
  header = stage_of s ∷ length k ∷ head_of s

  abbrev st : Bytes
  st = bytes_of (session s k)

  abbrev one : Bytes
  one = bytes_of_words header

  abbrev two : Bytes
  two = padded 68 k

  abbrev three : Bytes
  three = padded T (bytes_of_words (table_in s))

  abbrev four : Bytes
  four = padded A (bytes_of_words (arena_in s))

  table_used : length (bytes_of_words (table_in s)) ≡ 4 * (record_words * slots_of s)
  table_used = omega (arith, length_bytes (table_in s), table_words s g.right)

  arena_used : length (bytes_of_words (arena_in s)) ≡ 4 * words_of s
  arena_used = omega (arith, length_bytes (arena_in s), arena_words s)

  long₁ : length one ≡ 24
  long₁ = omega (arith, length_bytes header, head_long s)

  long₂ : length two ≡ 68
  long₂ = length_padded 68 k (omega (arith, g.short))

  long₃ : length three ≡ T
  long₃ = length_padded T (bytes_of_words (table_in s)) (omega (arith, table_used, slots_in s g.right))

  long₄ : length four ≡ A
  long₄ = length_padded A (bytes_of_words (arena_in s)) (omega (arith, arena_used, words_in s g.right))

  long₁₂ : length (one ++ two) ≡ 4 * table_from
  long₁₂ = omega (arith, long₁, long₂, length-append one two)

  long₁₂₃ : length (one ++ two ++ three) ≡ 4 * arena_from
  long₁₂₃ = omega (arith, long₁₂, long₃, length-append (one ++ two) three)

  -- the parts, where they lie
  in_line : two ≡ take 68 (drop 24 st)
  unfolding bytes_of
  in_line = sym (
      ap (λ (b : Bytes). take 68 (drop 24 b)) (append_assoc (one ++ two) three four ∙ append_assoc one two (three ++ four))
      ∙ ap (take 68) (drop_at one (two ++ (three ++ four)) 24 long₁)
      ∙ take_at two (three ++ four) 68 long₂)

  in_table : three ≡ take T (drop (4 * table_from) st)
  unfolding bytes_of
  in_table = sym (
      ap (λ (b : Bytes). take T (drop (4 * table_from) b)) (append_assoc (one ++ two) three four)
      ∙ ap (take T) (drop_at (one ++ two) (three ++ four) (4 * table_from) long₁₂)
      ∙ take_at three four T long₃)

  in_arena : four ≡ take A (drop (4 * arena_from) st)
  unfolding bytes_of
  in_arena = sym (
      ap (take A) (drop_at (one ++ two ++ three) four (4 * arena_from) long₁₂₃)
      ∙ take_all A four (omega (arith, long₄)))

  header_read : (i : ℕ) → i < 6 → word_at st i ≡ get_or header i 0
  unfolding bytes_of
  header_read i h =
      let rest = two ++ (three ++ four) in
      ap (λ (b : Bytes). word_at b i) (append_assoc (one ++ two) three four ∙ append_assoc one two (three ++ four))
      ∙ ap (word_at (one ++ rest)) (sym (zero-add i))
      ∙ word_there [] rest header 0 (omega arith) i (omega (arith, head_long s))

  whole : length st ≡ state_bytes
  whole = state_long s k g

  -- ---- the tests

  abbrev read : Fields
  read = record {
    stage = stage_of s;
    kept = length k;
    words = words_of s;
    slots = slots_of s;
    root = get_or (head_of s) 2 0;
    next = get_or (head_of s) 3 0;
  }

  fields_read : fields_in st ≡ read
  fields_read = λ i. record {
    stage = header_read 0 (omega arith) i;
    kept = header_read 1 (omega arith) i;
    words = header_read 2 (omega arith) i;
    slots = header_read 3 (omega arith) i;
    root = header_read 4 (omega arith) i;
    next = header_read 5 (omega arith) i;
  }

  kept_read : take (24 + length k - 24) (drop 24 st) ≡ k
  unfolding bytes_of
  kept_read =
      let e : 24 + length k - 24 ≡ length k = omega arith in
      let z : Bytes = replicate (68 - length k) 0 in
      ap (λ (n : ℕ). take n (drop 24 st)) e
      ∙ ap (λ (b : Bytes). take (length k) (drop 24 b))
      (append_assoc (one ++ two) three four ∙ append_assoc one two (three ++ four))
      ∙ ap (take (length k)) (drop_at one (two ++ (three ++ four)) 24 long₁ ∙ append_assoc k z (three ++ four))
      ∙ take_at k (z ++ (three ++ four)) (length k) refl

  line_clear : all is_zero (between (24 + length k) (4 * table_from) st) ≡ true
  line_clear =
      let e : 4 * table_from - (24 + length k) ≡ 68 - length k = omega arith in
      ap (λ (n : ℕ). all is_zero (take n (drop (24 + length k) st))) e
      ∙ part_zeros st 24 68 (length k) (omega (arith, whole)) (omega (arith, g.short)) k refl in_line

  table_clear : all is_zero (between (4 * (table_from + record_words * slots_of s)) (4 * arena_from) st) ≡ true
  table_clear =
      let used = 4 * (record_words * slots_of s) in
      let few = slots_in s g.right in
      let at : 4 * (table_from + record_words * slots_of s) ≡ 4 * table_from + used = omega arith in
      let n : 4 * arena_from - 4 * (table_from + record_words * slots_of s) ≡ T - used = omega arith in
      ap₂ (λ (m j : ℕ). all is_zero (take m (drop j st))) n at
      ∙ part_zeros st (4 * table_from) T used (omega (arith, whole)) (omega arith) (bytes_of_words (table_in s)) table_used
      in_table

  arena_clear : all is_zero (drop (4 * (arena_from + words_of s)) st) ≡ true
  arena_clear =
      let used = 4 * words_of s in
      let few = words_in s g.right in
      let at : 4 * (arena_from + words_of s) ≡ 4 * arena_from + used = omega arith in
      ap (λ (j : ℕ). all is_zero (drop j st)) at
      ∙ ap (all is_zero) (sym (take_all (A - used) (drop (4 * arena_from + used) st)
      (omega (arith, whole, length-drop (4 * arena_from + used) st))))
      ∙ part_zeros st (4 * arena_from) A used (omega (arith, whole)) (omega arith) (bytes_of_words (arena_in s)) arena_used
      in_arena

  clear_read : is_clear read st ≡ true
  clear_read =
      and_i _ _ (and_i _ _ (and_i _ _ (ap (all (is_other 10)) kept_read ∙ g.plain) line_clear) table_clear) arena_clear

sized_read : (s : Standing) (k : Bytes) (g : Good s k) → is_sized (read s k g) ≡ true
sized_read before k g = rw (of_le (length k) 65 g.short)
sized_read (serving p) k g =
    rw (
      of_le (length k) 65 g.short,
      of_le (word_count p) most_text_words (right_words p g.right),
      of_le (slots p.table) most_records (few_slots p g.right),
    )
sized_read stopped k g = rw (of_le (length k) 65 g.short)

pub state_formed : (s : Standing) (k : Bytes) → Good s k → well_formed (bytes_of (session s k)) ≡ true
unfolding well_formed
state_formed s k g =
    ap (λ (f : Fields). is_sized f && is_clear f (bytes_of (session s k))) (fields_read s k g)
    ∙ and_i (is_sized (read s k g)) (is_clear (read s k g) (bytes_of (session s k))) (sized_read s k g) (clear_read s k g)
