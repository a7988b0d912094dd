-- An unfinished line that is kept in a buffer. Assumes nothing.
use Prim.Native.Nat.{ℕ, suc, ◌+◌, ◌-◌, ◌≤◌, ◌<◌}
use mathlib.Core.Path.{◌≡◌, refl, sym, ap, ◌∙◌}
use mathlib.Core.Bool.{Bool, true, false, cond}
use mathlib.Core.List.{[], ◌∷◌, ◌++◌, append_assoc, append-nil}
use mathlib.Core.Logic.{⊎_elim}
use Rattle.std.proofs.lemmas.Bool.{cases_lt}
use Rattle.std.proofs.lemmas.List.{take_min}
use Rattle.std.proofs.lemmas.List.Sums.{prefix_len-le-length}
use Rattle.std.proofs.Math.Seq.{take-append-add}
use Rattle.std.specs.Option.{unwrap_or}
use Rattle.std.specs.Prelude.{Some, None, position, ltb, min}
use borrow.Author.Tests.{ltb-false}
use Rattle.std.specs.List.{position_or_len}
use Rattle.std.proofs.Common.{one-add, not}
use lib.Dec.{eqb}
use native.Mathlib.Omega.{arith}
use lib.ListN.{length, get_or, take, drop, length-append}
use lib.Seq.{take_all, take_at}
use borrow.Author.Tests.{lt-ltb, le-ltb, eqb-true}
use Rattle.text.specs.Numbers.{Bytes}
use Rattle.text.specs.Lines.{keep, Run, run}

module _ (k : Bytes) (b : ℕ) (h : length k ≤ 65) where
  keep_few : length (keep k b) ≤ 65
  unfolding keep
  keep_few =
      ⊎_elim
      (λ (g : 64 < length k). simp (lt-ltb 64 (length k) g) h)
      (λ (l : length k ≤ 64). simp (le-ltb 64 (length k) l) (omega (arith, length-append k (b ∷ []))))
      (cases_lt 64 (length k))

  keep_is : (t : Bytes) → take 65 (keep k b ++ t) ≡ take 65 (k ++ b ∷ t)
  unfolding keep
  keep_is t =
      ⊎_elim
      (λ (g : 64 < length k).
      let e : length k ≡ 65 = omega arith in
      simp (lt-ltb 64 (length k) g) (take_at k t 65 e ∙ sym (take_at k (b ∷ t) 65 e)))
      (λ (l : length k ≤ 64). simp (le-ltb 64 (length k) l, append_assoc))
      (cases_lt 64 (length k))

-- what there is room for
pub kept_is : (k bs : Bytes) → length k ≤ 65 → k ++ take (min (65 - length k) (length bs)) bs ≡ take 65 (k ++ bs)
kept_is k bs h =
    let e : length k + (65 - length k) ≡ 65 = omega arith in
    ap (λ (x : Bytes). k ++ x) (take_min (65 - length k) bs)
    ∙ sym (take-append-add k bs (65 - length k)) ∙ ap (λ (n : ℕ). take n (k ++ bs)) e

-- the first line feed, or the end
module _ (s : Bytes) where
  abbrev pub feed : ℕ
  feed = position_or_len (λ b. eqb b 10) s

  pub feed_within : feed ≤ length s
  feed_within = prefix_len-le-length (λ b. not (eqb b 10)) s

  pub feed_is : unwrap_or (position (λ b. eqb b 10) s) (length s) ≡ feed
  feed_is = go (ltb feed (length s)) refl
    where
      go : (t : Bool) → ltb feed (length s) ≡ t → unwrap_or (cond t (Some feed) None) (length s) ≡ feed
      go true e = refl
      go false e = omega (arith, ltb-false feed (length s) e, feed_within)

-- a run is what comes before the line feed, as far as there is room
abbrev pub run_as : Bytes → Bytes → ℕ → Run
run_as k bs n = record { kept = take 65 (k ++ take n bs); rest = drop n bs }

no_more : (k : Bytes) → length k ≤ 65 → k ≡ take 65 (k ++ [])
no_more k h = rw (append-nil k) (sym (take_all 65 k h))

run_step : (t : Bool) (k : Bytes) (b : ℕ) (bs : Bytes) (n : ℕ) → length k ≤ 65 → run (keep k b) bs ≡ run_as (keep k b) bs n
    → cond t (record { kept = k; rest = b ∷ bs }) (run (keep k b) bs) ≡ run_as k (b ∷ bs) (cond (not t) (1 + n) 0)
run_step true k b bs n h e = ap (λ (x : Bytes). record { kept = x; rest = b ∷ bs }) (no_more k h)
run_step false k b bs n h e =
    rw (one-add n) (e ∙ ap (λ (x : Bytes). record { kept = x; rest = drop n bs }) (keep_is k b h (take n bs)))

pub run_is : (k bs : Bytes) → length k ≤ 65 → run k bs ≡ run_as k bs (position_or_len (λ b. eqb b 10) bs)
unfolding run
run_is k [] h = ap (λ (x : Bytes). record { kept = x; rest = [] }) (no_more k h)
run_is k (b ∷ bs) h = run_step (eqb b 10) k b bs _ h (run_is (keep k b) bs (keep_few k b h))

-- ---- where the line ends

head_is : (x b : ℕ) (xs more : Bytes) → x ∷ xs ≡ b ∷ more → x ≡ b
head_is x b xs more e = ap (λ (l : Bytes). get_or l 0 0) e

stop_byte : (t : Bool) (k : Bytes) (x : ℕ) (xs : Bytes) (r : Run) (b : ℕ) (more : Bytes) → eqb x 10 ≡ t
    → (r.rest ≡ b ∷ more → b ≡ 10) → (cond t (record { kept = k; rest = x ∷ xs }) r).rest ≡ b ∷ more → b ≡ 10
stop_byte true k x xs r b more e ih h = sym (head_is x b xs more h) ∙ eqb-true x 10 e
stop_byte false k x xs r b more e ih h = ih h

-- what is left of a chunk begins with a line feed, if anything is left
pub stops_at_feed : (k bs : Bytes) (b : ℕ) (more : Bytes) → (run k bs).rest ≡ b ∷ more → b ≡ 10
unfolding run
stops_at_feed k [] b more h = absurd (nothing (ap length h))
  where
    nothing : ◌≡◌ {A = ℕ} 0 (suc (length more)) → ⊥
    nothing e = omega arith
stops_at_feed k (x ∷ bs) b more h =
    stop_byte (eqb x 10) k x bs (run (keep k x) bs) b more refl (stops_at_feed (keep k x) bs b more) h
