-- A state in which nothing is left but where another session's words will stand. Assumes nothing.
use Prim.Native.Nat.{ℕ, zero, suc, ◌+◌, ◌*◌, ◌-◌, ◌≤◌}
use mathlib.Core.Path.{◌≡◌, refl, sym, ap, ◌∙◌}
use mathlib.Core.Bool.{Bool, true}
use mathlib.Core.List.{[], ◌∷◌, ◌++◌}
use native.Mathlib.Nat.{sub-zero}
use native.Mathlib.Omega.{arith}
use lib.ListN.{length, take, drop, replicate, take-append-drop, length-replicate}
use lib.Seq.{take_at, drop_at, drop-drop, take-nil}
use Rattle.words.specs.Lists.{all, is_zero}
use Rattle.words.proofs.ByPlace.{all_replicate}
use Rattle.words.proofs.ListLaws.{all_append_l, all_append_r}
use Rattle.words.proofs.Tests.{and_l, and_r, and_i}
use Rattle.ledger.specs.Records.{record_words}
use Rattle.text.specs.Numbers.{Bytes}
use Rattle.session.specs.State.{table_from, arena_from}
use Rattle.pool_bursts.specs.declared.Fields.{Fields}
use Rattle.pool_bursts.specs.Layout.{fields_in, between, is_sized, is_clear, well_formed, is_blank}

-- ---- what holds of all bytes holds of a part

module _ (p : ℕ → Bool) where
  pub all_take : (n : ℕ) (l : Bytes) → all p l ≡ true → all p (take n l) ≡ true
  all_take n l h = all_append_l p (take n l) (drop n l) (ap (all p) (take-append-drop n l) ∙ h)

  all_drop : (n : ℕ) (l : Bytes) → all p l ≡ true → all p (drop n l) ≡ true
  all_drop n l h = all_append_r p (take n l) (drop n l) (ap (all p) (take-append-drop n l) ∙ h)

  -- of the first n bytes, those behind d
  all_behind : (d n : ℕ) (l : Bytes) → all p (take n l) ≡ true → all p (take (n - d) (drop d l)) ≡ true
  all_behind zero n l h = ap (λ (m : ℕ). all p (take m l)) (sub-zero n) ∙ h
  all_behind (suc d) zero l h =
      let e : 0 - suc d ≡ 0 = omega arith in
      ap (λ (m : ℕ). all p (take m (drop (suc d) l))) e
  all_behind (suc d) (suc n) [] h = ap (all p) (take-nil (suc n - suc d))
  all_behind (suc d) (suc n) (x ∷ l) h =
      let e : suc n - suc d ≡ n - d = omega arith in
      ap (λ (m : ℕ). all p (take m (drop d l))) e ∙ all_behind d n l (and_r (p x) (all p (take n l)) h)

-- a part that begins later and ends where it did
later : (x y e : ℕ) (b : Bytes) → x ≤ y → all is_zero (between x e b) ≡ true → all is_zero (between y e b) ≡ true
later x y e b h z =
    let n : e - x - (y - x) ≡ e - y = omega arith in
    let at : x + (y - x) ≡ y = omega arith in
    ap (λ (m : ℕ). all is_zero (take m (drop y b))) (sym n)
    ∙ ap (λ (l : Bytes). all is_zero (take (e - x - (y - x)) l)) (sym (drop-drop (y - x) x b ∙ ap (λ (m : ℕ). drop m b) at))
    ∙ all_behind is_zero (y - x) (e - x) (drop x b) z

-- ---- what code wiped

module _ (f : Fields) (b : Bytes) (h : is_clear f b ≡ true) where
  clear_table : all is_zero (between (4 * (table_from + record_words * f.slots)) (4 * arena_from) b) ≡ true
  clear_table = search (and_l, and_r)

  clear_arena : all is_zero (drop (4 * (arena_from + f.words)) b) ≡ true
  clear_arena = search (and_l, and_r)

pub blank_zeros : (f : Fields) (n : ℕ) → is_blank f (replicate n 0) ≡ true
blank_zeros f n =
    let z : all is_zero (replicate n 0) ≡ true = all_replicate is_zero 0 refl n in
    let b = 4 * (table_from + record_words * f.slots) in
    and_i _ _
    (and_i _ _ (all_take is_zero (4 * table_from) (replicate n 0) z)
    (all_take is_zero (4 * arena_from - b) (drop b (replicate n 0)) (all_drop is_zero b (replicate n 0) z)))
    (all_drop is_zero (4 * (arena_from + f.words)) (replicate n 0) z)

-- the front alone, where the old session's words lie under the new one's
module _ (f old : Fields) (b front : Bytes) (wiped : front ≡ replicate 92 0) (e : old ≡ fields_in b) (is : well_formed b ≡ true)
    (words : old.words ≤ f.words) (records : old.slots ≤ f.slots) where
  abbrev now : Bytes
  now = front ++ drop 92 b

  long : length front ≡ 92
  long = ap length wiped ∙ length-replicate {A = ℕ} 92 0

  same : (m : ℕ) → drop (92 + m) now ≡ drop (92 + m) b
  same m = sym (drop-drop m 92 now) ∙ ap (drop m) (drop_at front (drop 92 b) 92 long) ∙ drop-drop m 92 b

  clear : is_clear old b ≡ true
  unfolding well_formed
  clear = ap (λ (g : Fields). is_clear g b) e ∙ and_r (is_sized (fields_in b)) _ is

  table_blank : all is_zero (between (4 * (table_from + record_words * f.slots)) (4 * arena_from) now) ≡ true
  table_blank =
      let x = 4 * (table_from + record_words * old.slots) in
      let y = 4 * (table_from + record_words * f.slots) in
      let at : y ≡ 92 + 4 * (record_words * f.slots) = omega arith in
      ap (λ (l : Bytes). all is_zero (take (4 * arena_from - y) l))
      (ap (λ (m : ℕ). drop m now) at ∙ same (4 * (record_words * f.slots)) ∙ ap (λ (m : ℕ). drop m b) (sym at))
      ∙ later x y (4 * arena_from) b (omega (arith, records)) (clear_table old b clear)

  arena_blank : all is_zero (drop (4 * (arena_from + f.words)) now) ≡ true
  arena_blank =
      let x = 4 * (arena_from + old.words) in
      let d = 4 * (f.words - old.words) in
      let at : 4 * (arena_from + f.words) ≡ 92 + (4096 + 4 * f.words) = omega arith in
      let from : 92 + (4096 + 4 * f.words) ≡ x + d = omega (arith, words) in
      ap (all is_zero) (ap (λ (m : ℕ). drop m now) at ∙ same (4096 + 4 * f.words) ∙ ap (λ (m : ℕ). drop m b) from
      ∙ sym (drop-drop d x b))
      ∙ all_drop is_zero d (drop x b) (clear_arena old b clear)

  pub blank_front : is_blank f (front ++ drop 92 b) ≡ true
  blank_front =
      and_i _ _
      (and_i _ _ (ap (all is_zero) (take_at front (drop 92 b) 92 long ∙ wiped) ∙ all_replicate is_zero 0 refl 92) table_blank)
      arena_blank
