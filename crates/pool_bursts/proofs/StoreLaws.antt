-- A session's state, where code puts what is used over zeros. Assumes nothing.
use Prim.Native.Nat.{ℕ, ◌+◌, ◌*◌, ◌-◌, ◌≤◌}
use mathlib.Core.Path.{◌≡◌, refl, sym, ap, ap₂, ◌∙◌}
use mathlib.Core.Bool.{true, ◌&&◌}
use mathlib.Core.List.{[], ◌∷◌, ◌++◌, append_assoc, append-nil}
use native.Mathlib.Nat.{sub-zero}
use native.Mathlib.Omega.{arith}
use lib.ListN.{length, get_or, take, drop, replicate, length-append, length-drop, length-replicate, take-append-drop}
use lib.ListN.{replicate-append-replicate}
use lib.Seq.{sets, sets-eq, take_at, drop_at, drop-drop, drop-append-le, take_all, length-take-le}
use Rattle.words.specs.Lists.{Words, all, is_zero}
use Rattle.words.proofs.Tests.{and_l, and_r}
use Rattle.ledger.specs.Records.{record_words, slots}
use Rattle.calls.specs.Pool.{most_records}
use Rattle.text.specs.Numbers.{Bytes}
use Rattle.word_bytes.specs.Little.{bytes_of_words}
use Rattle.word_bytes.proofs.LittleLaws.{length_bytes}
use Rattle.session.specs.Meaning.{Standing, most_text_words}
use Rattle.session.specs.State.{session, table_from, arena_from, state_bytes, stage_of, head_of, table_in, arena_in, padded, bytes_of}
use Rattle.session.proofs.StateLaws.{length_padded}
use Rattle.pool_text.specs.declared.Own.{Own}
use Rattle.pool_text.specs.declared.Stage.{Stage}
use Rattle.pool_text.specs.declared.Stage.TheVariants.{Before, Serving, Stopped}
use Rattle.pool_text.specs.Session.{standing_of, Lent}
use Rattle.pool_text.proofs.StandLaws.{arena_lies, table_lies}
use Rattle.pool_bursts.specs.declared.Fields.{Fields}
use Rattle.pool_bursts.specs.Layout.{is_blank, field_words}
use Rattle.pool_bursts.proofs.LayoutLaws.{zeros_are, part_clear}
use Rattle.pool_bursts.proofs.FormedLaws.{head_long}
use Rattle.pool_bursts.proofs.ClearLaws.{all_take}

abbrev zeros : ℕ → Bytes
zeros n = replicate n 0

-- the bytes bs put at the front of a part that has zeros behind them
module _ (xs part ys bs : Bytes) (at n : ℕ) (here : length xs ≡ at) (size : length part ≡ n) (few : length bs ≤ n)
    (clear : drop (length bs) part ≡ zeros (n - length bs)) where
  abbrev whole : Bytes
  whole = xs ++ (part ++ ys)

  right_in_lem : at + length bs ≤ length whole
  right_in_lem = omega (arith, here, size, few, length-append xs (part ++ ys), length-append part ys)

  behind : drop (at + length bs) whole ≡ zeros (n - length bs) ++ ys
  behind =
      sym (drop-drop (length bs) at whole)
      ∙ ap (drop (length bs)) (drop_at xs (part ++ ys) at here)
      ∙ drop-append-le (length bs) part ys (omega (arith, size, few))
      ∙ ap (λ (l : Bytes). l ++ ys) clear

  fill : sets (xs ++ (part ++ ys)) at bs ≡ xs ++ (padded n bs ++ ys)
  fill =
      sets-eq bs whole at right_in_lem
      ∙ ap₂ (λ (x y : Bytes). x ++ bs ++ y) (take_at xs (part ++ ys) at here) behind
      ∙ append_assoc xs bs (zeros (n - length bs) ++ ys)
      ∙ ap (λ (l : Bytes). xs ++ l) (sym (append_assoc bs (zeros (n - length bs)) ys))

zeros_behind : (n j : ℕ) → j ≤ n → drop j (zeros n) ≡ zeros (n - j)
zeros_behind n j h =
    let e : n ≡ j + (n - j) = omega arith in
    ap (λ (m : ℕ). drop j (zeros m)) e
    ∙ ap (drop j) (sym (replicate-append-replicate j (n - j) 0))
    ∙ drop_at (zeros j) (zeros (n - j)) j (length-replicate {A = ℕ} j 0)

-- the four parts, one after another
module _ (s : Standing) (k b : Bytes) (f : Fields) (long : length b ≡ state_bytes) (short : length k ≤ 65)
    (table : length (table_in s) ≡ record_words * f.slots) (arena : length (arena_in s) ≡ f.words)
    (slots_few : f.slots ≤ most_records) (words_few : f.words ≤ most_text_words) (blank : is_blank f b ≡ true) where
  abbrev T : ℕ
  T = 4 * (most_records * record_words)

  abbrev A : ℕ
  A = 4 * most_text_words

  abbrev one : Bytes
  one = bytes_of_words (stage_of s ∷ length k ∷ head_of s)

  abbrev tb : Bytes
  tb = bytes_of_words (table_in s)

  abbrev ab : Bytes
  ab = bytes_of_words (arena_in s)

  -- what was there
  abbrev T₀ : Bytes
  T₀ = take T (drop (4 * table_from) b)

  abbrev A₀ : Bytes
  A₀ = take A (drop (4 * arena_from) b)

  table_used : length tb ≡ 4 * (record_words * f.slots)
  table_used = omega (arith, length_bytes (table_in s), table)

  arena_used : length ab ≡ 4 * f.words
  arena_used = omega (arith, length_bytes (arena_in s), arena)

  long₁ : length one ≡ 24
  long₁ = omega (arith, length_bytes (stage_of s ∷ length k ∷ head_of s), head_long s)

  long₂ : length (one ++ padded 68 k) ≡ 4 * table_from
  long₂ = omega (arith, long₁, length-append one (padded 68 k), length_padded 68 k (omega (arith, short)))

  long₃ : length (one ++ padded 68 k ++ padded T tb) ≡ 4 * arena_from
  long₃ =
      omega (
        arith,
        long₂,
        length-append (one ++ padded 68 k) (padded T tb),
        length_padded T tb (omega (arith, table_used, slots_few)),
      )

  table_clear : drop (length tb) T₀ ≡ zeros (T - length tb)
  table_clear =
      let used = 4 * (record_words * f.slots) in
      let at : 4 * (table_from + record_words * f.slots) ≡ 4 * table_from + used = omega arith in
      let n : 4 * arena_from - 4 * (table_from + record_words * f.slots) ≡ T - used = omega arith in
      let z = and_r (all is_zero (take (4 * table_from) b)) _ (and_l _ _ blank) in
      ap (λ (j : ℕ). drop j T₀) table_used
      ∙ part_clear b (4 * table_from) T used (omega (arith, long)) (omega (arith, slots_few))
      (ap₂ (λ (m j : ℕ). all is_zero (take m (drop j b))) (sym n) (sym at) ∙ z)
      ∙ ap (λ (j : ℕ). zeros (T - j)) (sym table_used)

  arena_clear : drop (length ab) A₀ ≡ zeros (A - length ab)
  arena_clear =
      let used = 4 * f.words in
      let at : 4 * (arena_from + f.words) ≡ 4 * arena_from + used = omega arith in
      let z = and_r (all is_zero (take (4 * table_from) b) && _) _ blank in
      ap (λ (j : ℕ). drop j A₀) arena_used
      ∙ part_clear b (4 * arena_from) A used (omega (arith, long)) (omega (arith, words_few))
      (all_take is_zero (A - used) (drop (4 * arena_from + used) b) (ap (λ (j : ℕ). all is_zero (drop j b)) (sym at) ∙ z))
      ∙ ap (λ (j : ℕ). zeros (A - j)) (sym arena_used)

  front : take (4 * table_from) b ≡ zeros 24 ++ zeros 68
  front =
      zeros_are (take (4 * table_from) b) (and_l _ _ (and_l _ _ blank))
      ∙ ap zeros (length-take-le (4 * table_from) b (omega (arith, long)))
      ∙ sym (replicate-append-replicate 24 68 0)

  parts : b ≡ zeros 24 ++ (zeros 68 ++ (T₀ ++ (A₀ ++ [])))
  parts =
      let d = drop (4 * table_from) b in
      let last : drop T d ≡ A₀ ++ [] =
      drop-drop T (4 * table_from) b
      ∙ sym (append-nil A₀ ∙ take_all A (drop (4 * arena_from) b) (omega (arith, long, length-drop (4 * arena_from) b))) in
      sym (take-append-drop (4 * table_from) b)
      ∙ ap₂ (λ (x y : Bytes). x ++ y) front (sym (take-append-drop T d) ∙ ap (λ (l : Bytes). T₀ ++ l) last)
      ∙ append_assoc (zeros 24) (zeros 68) (T₀ ++ (A₀ ++ []))

  abbrev P₂ : Bytes
  P₂ = padded 68 k

  abbrev P₃ : Bytes
  P₃ = padded T tb

  first : sets b 0 one ≡ one ++ (zeros 68 ++ (T₀ ++ (A₀ ++ [])))
  first =
      let rest = zeros 68 ++ (T₀ ++ (A₀ ++ [])) in
      ap (λ (l : Bytes). sets l 0 one) parts
      ∙ fill [] (zeros 24) rest one 0 24 refl (length-replicate {A = ℕ} 24 0) (omega (arith, long₁))
      (zeros_behind 24 (length one) (omega (arith, long₁)))
      ∙ ap (λ (j : ℕ). one ++ zeros (24 - j) ++ rest) long₁
      ∙ ap (λ (l : Bytes). l ++ rest) (append-nil one)

  second : sets (one ++ (zeros 68 ++ (T₀ ++ (A₀ ++ [])))) 24 k ≡ one ++ P₂ ++ (T₀ ++ (A₀ ++ []))
  second =
      fill one (zeros 68) (T₀ ++ (A₀ ++ [])) k 24 68 long₁ (length-replicate {A = ℕ} 68 0) (omega (arith, short))
      (zeros_behind 68 (length k) (omega (arith, short)))
      ∙ sym (append_assoc one P₂ (T₀ ++ (A₀ ++ [])))

  third : sets (one ++ P₂ ++ (T₀ ++ (A₀ ++ []))) (4 * table_from) tb ≡ one ++ P₂ ++ P₃ ++ (A₀ ++ [])
  third =
      fill (one ++ P₂) T₀ (A₀ ++ []) tb (4 * table_from) T long₂
      (length-take-le T (drop (4 * table_from) b) (omega (arith, long, length-drop (4 * table_from) b)))
      (omega (arith, table_used, slots_few)) table_clear
      ∙ sym (append_assoc (one ++ P₂) P₃ (A₀ ++ []))

  pub stored : sets (sets (sets (sets b 0 one) 24 k) (4 * table_from) tb) (4 * arena_from) ab ≡ bytes_of (session s k)
  unfolding bytes_of
  stored =
      ap (λ (l : Bytes). sets (sets (sets l 24 k) (4 * table_from) tb) (4 * arena_from) ab) first
      ∙ ap (λ (l : Bytes). sets (sets l (4 * table_from) tb) (4 * arena_from) ab) second
      ∙ ap (λ (l : Bytes). sets l (4 * arena_from) ab) third
      ∙ fill (one ++ P₂ ++ P₃) A₀ [] ab (4 * arena_from) A long₃
      (length-take-le A (drop (4 * arena_from) b) (omega (arith, long, length-drop (4 * arena_from) b)))
      (omega (arith, arena_used, words_few)) arena_clear
      ∙ ap (λ (l : Bytes). one ++ P₂ ++ P₃ ++ l) (append-nil (padded A ab))

-- what is lent has the sizes of a state
module _ (o : Own) (a t : Words) (l : Lent (Serving o) a t) where
  pub own_words_lem : length (take o.words a) ≡ o.words
  own_words_lem = length-take-le o.words a (arena_lies o a t l)

  pub own_table_lem : length (take (record_words * o.slots) t) ≡ record_words * o.slots
  own_table_lem = length-take-le (record_words * o.slots) t (table_lies o a t l)

  -- as code takes them
  pub arena_part_lem : length (take (o.words - 0) a) ≡ o.words
  arena_part_lem = ap (λ (n : ℕ). length (take n a)) (sub-zero o.words) ∙ own_words_lem

  pub table_part : length (take (record_words * o.slots - 0) t) ≡ record_words * o.slots
  table_part = ap (λ (n : ℕ). length (take n t)) (sub-zero (record_words * o.slots)) ∙ own_table_lem

  pub own_slots : slots (take (record_words * o.slots) t) ≡ o.slots
  own_slots = omega (arith, own_table_lem)

-- the six words of what is lent
abbrev pub header : ℕ → Words → Words → Stage → Words
header kept a t st = stage_of (standing_of st a t) ∷ kept ∷ head_of (standing_of st a t)

pub own_header : (kept : ℕ) (o : Own) (a t : Words) → Lent (Serving o) a t
    → header kept a t (Serving o) ≡ 2 ∷ kept ∷ o.words ∷ o.slots ∷ o.head.root ∷ o.head.next ∷ []
own_header kept o a t l =
    λ i. 2 ∷ kept ∷ own_words_lem o a t l i ∷ own_slots o a t l i ∷ o.head.root ∷ o.head.next ∷ []

-- the sizes of what is lent, by its six words
pub record Sizes (s : Standing) (f : Fields) : Type 0 where
  pub table : length (table_in s) ≡ record_words * f.slots
  pub arena : length (arena_in s) ≡ f.words
  pub few_slots : f.slots ≤ most_records
  pub few_words : f.words ≤ most_text_words

pub lent_sizes : (st : Stage) (a t : Words) → Lent st a t → (f : Fields) (kept : ℕ) → field_words f ≡ header kept a t st
    → Sizes (standing_of st a t) f
lent_sizes st a t l f kept e =
    go st l (ap (λ (ws : Words). get_or ws 2 0) e) (ap (λ (ws : Words). get_or ws 3 0) e)
  where
    go : (x : Stage) → Lent x a t → f.words ≡ get_or (header kept a t x) 2 0 → f.slots ≡ get_or (header kept a t x) 3 0
        → Sizes (standing_of x a t) f
    go Before l w r =
        record { table = omega arith; arena = omega arith; few_slots = omega arith; few_words = omega arith }
    go (Serving o) l w r =
        let words = own_words_lem o a t l in
        let records = own_table_lem o a t l in
        let some = own_slots o a t l in
        let lies = arena_lies o a t l in
        let right_pool = table_lies o a t l in
        record {
          table = omega (arith, records, some);
          arena = omega arith;
          few_slots = omega (arith, some, right_pool, l.1);
          few_words = omega (arith, words, lies, l.0);
        }
    go Stopped l w r =
        record { table = omega arith; arena = omega arith; few_slots = omega arith; few_words = omega arith }
