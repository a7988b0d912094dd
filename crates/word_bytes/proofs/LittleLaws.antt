-- Words are had back from their bytes, and bytes from their words. Assumes nothing.
use Prim.Native.Nat.{ℕ, zero, suc, ◌+◌, ◌*◌, ◌/◌, ◌%◌, ◌≤◌, ◌<◌, ◌^◌}
use mathlib.Core.Path.{◌≡◌, refl, sym, ap, ◌∙◌}
use mathlib.Core.List.{[], ◌∷◌, ◌++◌, append_assoc}
use borrow.Rule.Slice.PartMut.{put_mid}
use mir.Syntax.{w32}
use lib.Dec.{eqb}
use Rattle.std.specs.Int.{to_le_bytes}
use Rattle.std.specs.List.{list_any}
use native.Mathlib.Omega.{arith}
use mathlib.Core.Bool.{Bool, true, false, not, ◌&&◌, ◌||◌}
use lib.ListN.{length, get_or, take, drop, length-append, get_or-append}
use lib.Seq.{sets, sets-eq, drop-drop, ext_get_or, get_or-append-add}
use Rattle.words.specs.Lists.{Words, all, list_from}
use Rattle.words.proofs.ListLaws.{length_list_from, get_d_list_from}
use Rattle.text.specs.Numbers.{Bytes}
use Rattle.word_bytes.specs.Little.{word_bytes, word_of, word_at, bytes_of_words, is_other}

word_back : (x : ℕ) → word_of (x % 256) (x / 256 % 256) (x / 65536 % 256) (x / 16777216) ≡ x
word_back x = omega arith

pub length_bytes : (ws : Words) → length (bytes_of_words ws) ≡ 4 * length ws
length_bytes [] = omega arith
length_bytes (x ∷ ws) = omega (arith, length_bytes ws)

-- the word at i of the bytes of words is the i-th
pub word_at_lem : (ws : Words) (i : ℕ) → i < length ws → word_at (bytes_of_words ws) i ≡ get_or ws i 0
word_at_lem [] i h = absurd (omega arith)
word_at_lem (x ∷ ws) zero h = word_back x
word_at_lem (x ∷ ws) (suc i) h =
    let a : 4 * suc i + 1 ≡ suc (suc (suc (suc (4 * i + 1)))) = omega arith in
    let b : 4 * suc i + 2 ≡ suc (suc (suc (suc (4 * i + 2)))) = omega arith in
    let c : 4 * suc i + 3 ≡ suc (suc (suc (suc (4 * i + 3)))) = omega arith in
    let d : 4 * suc i ≡ suc (suc (suc (suc (4 * i)))) = omega arith in
    rw (a, b, c, d) (word_at_lem ws i (omega arith))

-- ---- words among other bytes

module _ (xs ys : Bytes) where
  -- a word of the first bytes
  word_left : (i : ℕ) → 4 * i + 3 < length xs → word_at (xs ++ ys) i ≡ word_at xs i
  word_left i h =
      let at : (k : ℕ) → k < length xs → get_or (xs ++ ys) k 0 ≡ get_or xs k 0 = λ k l. get_or-append xs ys 0 k l in
      rw (
        at (4 * i) (omega arith),
        at (4 * i + 1) (omega arith),
        at (4 * i + 2) (omega arith),
        at (4 * i + 3) (omega arith),
      )

  -- a word of the bytes behind n words
  word_right : (n i : ℕ) → length xs ≡ 4 * n → word_at (xs ++ ys) (n + i) ≡ word_at ys i
  word_right n i h =
      let at : (j k : ℕ) → j ≡ length xs + k → get_or (xs ++ ys) j 0 ≡ get_or ys k 0 =
      λ j k e. ap (λ (m : ℕ). get_or (xs ++ ys) m 0) e ∙ get_or-append-add xs ys k 0 in
      rw (
        at (4 * (n + i) + 1) (4 * i + 1) (omega arith),
        at (4 * (n + i) + 2) (4 * i + 2) (omega arith),
        at (4 * (n + i) + 3) (4 * i + 3) (omega arith),
        at (4 * (n + i)) (4 * i) (omega arith),
      )

-- the words ws, where they lie behind n others
module _ (xs ys : Bytes) (ws : Words) (n : ℕ) (h : length xs ≡ 4 * n) where
  pub word_there : (i : ℕ) → i < length ws → word_at (xs ++ bytes_of_words ws ++ ys) (n + i) ≡ get_or ws i 0
  word_there i l =
      word_left (xs ++ bytes_of_words ws) ys (n + i)
      (omega (arith, length_bytes ws, length-append xs (bytes_of_words ws)))
      ∙ word_right xs (bytes_of_words ws) n i h
      ∙ word_at_lem ws i l

  pub words_there : list_from (word_at (xs ++ bytes_of_words ws ++ ys)) n (length ws) ≡ ws
  words_there =
      let f = word_at (xs ++ bytes_of_words ws ++ ys) in
      ext_get_or 0 (list_from f n (length ws)) ws (length_list_from f n (length ws))
      (λ i l. let k : i < length ws = omega (arith, length_list_from f n (length ws)) in
      get_d_list_from f n (length ws) i 0 k ∙ word_there i k)

-- bytes are had back from their word
module _ (a b c d : ℕ) (ha : a < 256) (hb : b < 256) (hc : c < 256) where
  abbrev x : ℕ
  x = word_of a b c d

  first : x % 256 ≡ a
  first = omega arith

  high : x / 256 ≡ b + 256 * c + 65536 * d
  high = omega arith

  second : x / 256 % 256 ≡ b
  second = rw high (omega arith)

  higher : x / 65536 ≡ c + 256 * d
  higher = omega arith

  third : x / 65536 % 256 ≡ c
  third = rw higher (omega arith)

  fourth : x / 16777216 ≡ d
  fourth = omega arith

  pub word_again : word_bytes (word_of a b c d) ≡ a ∷ b ∷ c ∷ d ∷ []
  word_again = rw (first, second, third, fourth)

-- ---- what code does

-- the bytes that std gives
pub bytes_lem : (w : ℕ) → w < 2 ^ 32 → to_le_bytes w32 w ≡ word_bytes w
bytes_lem w h =
    let top : w / 16777216 % 256 ≡ w / 16777216 = omega arith in
    ap (λ (b : ℕ). w % 256 ∷ w / 256 % 256 ∷ w / 65536 % 256 ∷ b ∷ []) top

-- what a write of a word's bytes to a part leaves
pub put_bytes : (a k : ℕ) (xs : Bytes) (w : ℕ) (ys : Bytes) → ys ≡ word_bytes w → k ≡ 4 → a + 4 ≤ length xs
    → put_mid a k xs ys ≡ sets xs a (word_bytes w)
put_bytes a k xs w ys e f h =
    rw (e, f, drop-drop 4 a xs)
    (sym (sets-eq (word_bytes w) xs a h ∙ append_assoc (take a xs) (word_bytes w) (drop (a + 4) xs)))

-- no byte is v where none is found
pub without_lem : (v : ℕ) (s : Bytes) → not (list_any (λ b. eqb b v) s) ≡ all (is_other v) s
without_lem v [] = refl
without_lem v (b ∷ s) = go (eqb b v) (without_lem v s)
  where
    go : (t : Bool) → not (list_any (λ b. eqb b v) s) ≡ all (is_other v) s
        → not (t || list_any (λ b. eqb b v) s) ≡ (not t && all (is_other v) s)
    go true ih = refl
    go false ih = ih

-- the first i words are f from, f (from + 1), and so on
abbrev pub Filled : (ℕ → ℕ) → ℕ → ℕ → Words → Type 0
Filled f from i out = (j : ℕ) → j < i → get_or out j 0 ≡ f (from + j)

pub filled_all : (f : ℕ → ℕ) (from n : ℕ) (out : Words) → length out ≡ n → Filled f from n out → out ≡ list_from f from n
filled_all f from n out e fill =
    ext_get_or 0 out (list_from f from n) (e ∙ sym (length_list_from f from n))
    (λ i h. let l : i < n = omega arith in fill i l ∙ sym (get_d_list_from f from n i 0 l))
