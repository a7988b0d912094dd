-- Blocks counted, the logarithm of S, and the bound of the places looked at. Assumes nothing.
use Prim.Native.Nat.{ℕ, zero, suc, ◌+◌, ◌-◌, ◌^◌, ◌≤◌, ◌<◌}
use native.Mathlib.Decide.{ℕ_discrete}
use native.Mathlib.Nat.{zero-add, add-zero, suc-add, lt-div-mul-add, div-le_self}
use native.Mathlib.Omega.{arith}
use mathlib.Core.Path.{◌≡◌, refl, sym, ap, ◌∙◌}
use mathlib.Core.Bool.{Bool, true, false, cond}
use lib.Dec.{eqb, ltb}
use lib.IntN.{ℤ, pos}
use lib.Pow.{pow-lt}
use Rattle.words.proofs.Tests.{eqb_same, eqb_ne, of_lt, of_ge}
use Rattle.ledger.specs.Records.{Ledger}
use Rattle.stored_forms.specs.Segments.{control_word, weight, segment_size, depth, most_words}
use Rattle.stored_forms.specs.Search.{log_of, block_count, segment_begin, places_to, most_places}
use Rattle.stored_forms.proofs.SegmentLaws.{weight_zero}

-- ---- blocks of a range

module _ (c : ℕ → ℤ) where
  pub count_few : (u n : ℕ) → block_count c u n ≤ n
  count_few u zero = omega arith
  count_few u (suc n) = go (ltb 0 (weight (c u))) (count_few (suc u) n)
    where
      go : (b : Bool) → block_count c (suc u) n ≤ n
          → cond b (suc (block_count c (suc u) n)) (block_count c (suc u) n) ≤ suc n
      go true h = omega arith
      go false h = omega arith

  pub count_none : (u n : ℕ) → ((k : ℕ) → u ≤ k → k < u + n → c k ≡ pos 0) → block_count c u n ≡ 0
  count_none u zero h = refl
  count_none u (suc n) h =
      let quiet = (weight_zero (c u)).1 (h u (omega arith) (omega arith)) in
      rw (of_ge 0 (weight (c u)) (omega arith)) (count_none (suc u) n (λ k a b. h k (omega arith) (omega arith)))

  -- one block of m words
  pub count_one : (u m : ℕ) → 0 < m → 0 < weight (c u) → ((k : ℕ) → u < k → k < u + m → c k ≡ pos 0)
      → block_count c u m ≡ 1
  count_one u zero h b q = absurd (omega arith)
  count_one u (suc m) h b q =
      rw (of_lt 0 (weight (c u)) b) (ap suc (count_none (suc u) m (λ k x y. q k x (omega arith))))

  pub count_add : (u m n : ℕ) → block_count c u (m + n) ≡ block_count c u m + block_count c (u + m) n
  count_add u zero n = rw (zero-add n, add-zero u) (sym (zero-add (block_count c u n)))
  count_add u (suc m) n =
      rw (suc-add m n) (go (ltb 0 (weight (c u)))
      (count_add (suc u) m n ∙ ap (λ k. block_count c (suc u) m + block_count c k n) next))
    where
      next : suc u + m ≡ u + suc m
      next = omega arith

      go : (b : Bool) → block_count c (suc u) (m + n) ≡ block_count c (suc u) m + block_count c (u + suc m) n
          → cond b (suc (block_count c (suc u) (m + n))) (block_count c (suc u) (m + n))
          ≡ cond b (suc (block_count c (suc u) m)) (block_count c (suc u) m) + block_count c (u + suc m) n
      go true e = omega arith
      go false e = e

-- ---- the logarithm

pub log_power : (d e : ℕ) → e ≤ d → log_of (2 ^ e) d ≡ e
log_power zero e h = omega arith
log_power (suc d) e h = go (ℕ_discrete e (suc d)) (log_power d e)
  where
    go : Dec (e ≡ suc d) → (e ≤ d → log_of (2 ^ e) d ≡ e)
        → cond (eqb (2 ^ e) (2 ^ suc d)) (suc d) (log_of (2 ^ e) d) ≡ e
    go (yes q) ih = rw q (rw (eqb_same (2 ^ suc d)))
    go (no q) ih =
        let less : 2 ^ e < 2 ^ suc d = pow-lt (omega arith) in
        rw (eqb_ne (2 ^ e) (2 ^ suc d) (omega arith)) (ih (omega arith))

log_few : (S d : ℕ) → log_of S d ≤ d
log_few S zero = omega arith
log_few S (suc d) = go (eqb S (2 ^ suc d)) (log_few S d)
  where
    go : (b : Bool) → log_of S d ≤ d → cond b (suc d) (log_of S d) ≤ suc d
    go true h = omega arith
    go false h = omega arith

-- ---- the bound

pub places_most : (S W : ℕ) (L : Ledger) (k : ℕ) → 0 < segment_size W S → places_to S W L k ≤ most_places S W
unfolding places_to most_places
places_most S W L k some =
    let start = segment_begin k (segment_size W S) in
    omega (arith, count_few (control_word W L) start (suc k - start), lt-div-mul-add {a = k} some)

-- so it takes 16 bits
pub most_small : (S W : ℕ) → S ≤ 256 → W ≤ most_words → most_places S W < 65536
unfolding most_places segment_size
most_small S W s w = omega (arith, log_few S depth, div-le_self (W + (S - 1)) S)

-- "With 16,384 words and 256 segments that is 73."
pub most_seventy_three : most_places 256 16384 ≡ 73
unfolding most_places segment_size
most_seventy_three = refl
