-- Laws of blocks that lie side by side: none yet, and one more, held or free. Assumes nothing.
use Prim.Native.Nat.{ℕ, suc, ◌+◌, ◌-◌, ◌≤◌, ◌<◌}
use native.Mathlib.Decide.{dec_lt}
use native.Mathlib.Omega.{arith}
use mathlib.Core.Bool.{Bool, true, false, true≢false}
use mathlib.Core.List.{List, [], ◌∷◌, ◌++◌}
use mathlib.Core.Logic.{◌≢◌}
use mathlib.Core.Path.{◌≡◌, refl, sym, ap, ◌∙◌}
use lib.Dec.{eqb}
use lib.IntN.{ℤ, pos, negsuc, nat_abs}
use lib.ListN.{get_or}
use Rattle.words.specs.Lists.{Words, all}
use Rattle.words.specs.Counted.{every, within}
use Rattle.words.specs.Signed.{zero_at_z}
use Rattle.words.proofs.Tests.{and_l, and_r, and_i, or_l, or_r, eqb_same, lt_of, of_lt, of_gt, within_in}
use Rattle.words.proofs.ListLaws.{all_append}
use Rattle.ledger.specs.Runs.{Run, run, Gapped, covered}
use Rattle.stored_forms.specs.Segments.{weight}
use Rattle.segment_index.specs.Control.{free_size}
use Rattle.segment_check.specs.Right.{run_right}
use Rattle.record_table.specs.Partition.{total}
use Rattle.segment_check.specs.BitMaps.{bit_at}
use Rattle.segment_check.specs.Adjoining.{held_from, block_right, ends_before, Adjoining}

-- ---- a list of runs with one more at its end

gapped_widen : (rs : List Run) (k e e' : ℕ) → Gapped k e rs → e ≤ e' → Gapped k e' rs
gapped_widen [] k e e' g h = tt
gapped_widen (r ∷ rs) k e e' g h = (g.0, g.1, omega arith, gapped_widen rs (suc (r.start + r.size)) e e' g.3 h)

gapped_last : (rs : List Run) (k e at n : ℕ) → Gapped k e rs → all (ends_before at) rs ≡ true → k ≤ at → e ≤ at
    → 1 ≤ n → Gapped k (at + n) (rs ++ run at n ∷ [])
gapped_last [] k e at n g h a b c = (a, c, omega arith, tt)
gapped_last (r ∷ rs) k e at n g h a b c =
    let end = lt_of (r.start + r.size) at (and_l (ends_before at r) (all (ends_before at) rs) h) in
    let rest = and_r (ends_before at r) (all (ends_before at) rs) h in
    (g.0, g.1, omega arith, gapped_last rs (suc (r.start + r.size)) e at n g.3 rest end b c)

ends_later : (rs : List Run) (k e at : ℕ) → Gapped k e rs → e < at → all (ends_before at) rs ≡ true
ends_later [] k e at g h = refl
ends_later (r ∷ rs) k e at g h =
    and_i (ends_before at r) (all (ends_before at) rs) (of_lt (r.start + r.size) at (omega arith))
    (ends_later rs (suc (r.start + r.size)) e at g.3 h)

total_last : (rs : List Run) (r : Run) → total (rs ++ r ∷ []) ≡ total rs + r.size
total_last [] r = omega arith
total_last (q ∷ rs) r = let ih = total_last rs r in omega arith

covered_last : (rs : List Run) (r : Run) (u : ℕ) → covered (rs ++ r ∷ []) u ≡ false
    → (covered rs u ≡ false) × (within r.start (r.start + r.size) u ≡ false)
covered_last [] r u h = (refl, or_l (within r.start (r.start + r.size) u) false h)
covered_last (q ∷ rs) r u h =
    let here = within q.start (q.start + q.size) u in
    let (a, b) = covered_last rs r u (or_r here (covered (rs ++ r ∷ []) u) h) in
    (rw (or_l here (covered (rs ++ r ∷ []) u) h) a, b)

-- ---- what a control word says is free

pub free_whole : (z : ℤ) → free_size z ≢ 0 → free_size z ≡ nat_abs z
free_whole (pos n) h = refl
free_whole (negsuc n) h = absurd (h refl)

pub free_weight : (z : ℤ) → free_size z ≢ 0 → free_size z ≡ weight z
free_weight (pos n) h = refl
free_weight (negsuc n) h = absurd (h refl)

-- what it counts for where nothing is free
pub held_weight : (z : ℤ) → free_size z ≡ 0 → 0 < nat_abs z → 1 ≡ weight z
held_weight (pos n) e h = absurd (omega (arith, e))
held_weight (negsuc n) e h = refl

-- ---- block after block

module _ (v : List ℤ) (map : Words) where
  module _ (at free n : ℕ) (some : 0 < n) where
    -- a held block more
    pub adjoining_held : (after : Bool) → Adjoining v map at free after → bit_at map at ≡ true
        → n ≡ nat_abs (get_or v at (pos 0)) → Adjoining v map (at + n) free false
    adjoining_held after L set size = record {
      runs = L.runs;
      gapped = gapped_widen L.runs 0 at (at + n) L.gapped (omega arith);
      ends = λ e. ends_later L.runs 0 at (at + n) L.gapped (omega arith);
      sum = L.sum;
      words = L.words;
      rest = λ u l e. go u l e (dec_lt u at);
    }
      where
        says : held_from v map at ≡ n
        says = rw set (sym size)

        go : (u : ℕ) → u < at + n → covered L.runs u ≡ false → Dec (u < at)
            → (k : ℕ) × (k ≤ u) × (u < k + held_from v map k)
        go u l e (yes h) = L.rest u h e
        go u l e (no h) = (at, omega arith, omega (arith, says))

    -- a free block more, not right after a free one
    pub adjoining_free : (after : Bool) → after ≡ false → Adjoining v map at free after → run_right v at (at + n) ≡ true
        → Adjoining v map (at + n) (free + n) true
    adjoining_free after apart L right = record {
      runs = L.runs ++ run at n ∷ [];
      gapped = gapped_last L.runs 0 at at n L.gapped (L.ends apart) (omega arith) (omega arith) some;
      ends = λ e. absurd (true≢false e);
      sum = total_last L.runs (run at n) ∙ ap (λ s. s + n) L.sum;
      words =
          all_append (block_right v) L.runs (run at n ∷ []) L.words
          (and_i (run_right v at (at + n)) true right refl);
      rest = λ u l e. go u l (covered_last L.runs (run at n) u e) (dec_lt u at);
    }
      where
        go : (u : ℕ) → u < at + n → (covered L.runs u ≡ false) × (within at (at + n) u ≡ false) → Dec (u < at)
            → (k : ℕ) × (k ≤ u) × (u < k + held_from v map k)
        go u l (a, b) (yes h) = L.rest u h a
        go u l (a, b) (no h) = absurd (true≢false (sym (within_in at (at + n) u (omega arith) l) ∙ b))

-- ---- a free block, by its tests

pub free_block : (v : List ℤ) (at n : ℕ) → 0 < n → free_size (get_or v at (pos 0)) ≡ n
    → every (zero_at_z v) (at + 1) (at + n - (at + 1)) ≡ true → run_right v at (at + n) ≡ true
free_block v at n some size zeros =
    let e : at + n - at ≡ n = omega arith in
    rw (of_gt (at + n) at (omega arith))
    (and_i (eqb (free_size (get_or v at (pos 0))) (at + n - at)) (every (zero_at_z v) (at + 1) (at + n - (at + 1)))
    (rw (e, size) (eqb_same n)) zeros)
