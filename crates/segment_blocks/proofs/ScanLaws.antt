-- A scan's step from block to block, and what each scan has found on its way. Assumes nothing.
use Prim.Native.Nat.{ℕ, zero, suc, ◌+◌, ◌-◌, ◌<◌, ◌≤◌, max}
use native.Mathlib.Decide.{dec_lt, ℕ_discrete}
use native.Mathlib.Numerals.{add-one}
use native.Mathlib.Omega.{arith}
use mathlib.Core.Bool.{Bool, true, false, cond}
use mathlib.Core.List.{List}
use mathlib.Core.Path.{◌≡◌, refl, sym, ap, ◌∙◌}
use lib.Dec.{leb}
use lib.IntN.{ℤ, pos, nat_abs}
use lib.ListN.{length, get_or}
use Rattle.words.proofs.Tests.{le_of, not_le}
use Rattle.stored_forms.specs.Segments.{weight, largest}
use Rattle.stored_forms.specs.declared.Steps.{Steps}
use Rattle.stored_forms.specs.Search.{block_count, steps, one_more, scan}
use Rattle.stored_forms.proofs.SearchLaws.{count_few, count_one, count_add}
use Rattle.segment_index.proofs.RangeLaws.{begins_weight, largest_on}
use Rattle.segment_blocks.specs.Blocks.{Scan, Seeking, FirstFit, Reaches}

-- one block on, where the code read its size as m
module _ (v : List ℤ) (c : ℕ → ℤ) (at : ℕ) (S : Scan v c at) (h : at < length v) where
  word : get_or v at (pos 0) ≡ c at
  word = S.blocks.shown at h (S.begins h)

  scan_weight : weight (get_or v at (pos 0)) ≡ weight (c at)
  scan_weight = ap weight word

  module _ (m : ℕ) (is : m ≡ nat_abs (get_or v at (pos 0))) where
    scan_size : m ≡ nat_abs (c at)
    scan_size = is ∙ ap nat_abs word

    scan_grows : 0 < m
    scan_grows = omega (arith, scan_size, S.begins h)

    scan_fits : at + m ≤ length v
    scan_fits = omega (arith, scan_size, S.blocks.fits at h)

    scan_quiet : (u : ℕ) → at < u → u < at + m → c u ≡ pos 0
    scan_quiet u a b = S.blocks.quiet at u a (omega (arith, scan_size))

    pub scan_on : Scan v c (at + m)
    scan_on = record {
      blocks = S.blocks;
      inside = scan_fits;
      begins = λ l. rw scan_size (S.blocks.next at h (S.begins h) (omega (arith, scan_size)));
    }

-- ---- the first block that fits

-- the scan has come to `at`, past so many blocks, which are all too small
pub record Sought (v : List ℤ) (c : ℕ → ℤ) (from n at passed : ℕ) : Type 0 where
  pub scan : Scan v c at
  pub above : from ≤ at
  pub before : (u : ℕ) → from ≤ u → u < at → weight (c u) < n
  pub counted : passed ≡ block_count c from (at - from)

module _ (v : List ℤ) (c : ℕ → ℤ) (from n : ℕ) (K : Seeking v c from n) where
  pub seek_start : Sought v c from n from 0
  seek_start = record {
    scan = K.scan;
    above = omega arith;
    before = λ u a b. absurd (omega arith);
    counted = let none : from - from ≡ 0 = omega arith in rw none;
  }

  module _ (at passed : ℕ) (G : Sought v c from n at passed) where
    -- the block that fits is still ahead
    ahead : at ≤ K.place
    ahead = go (dec_lt K.place at)
      where
        go : Dec (K.place < at) → at ≤ K.place
        go (yes l) = absurd (omega (arith, G.before K.place K.above l, K.fits))
        go (no l) = omega arith

    pub seek_inside : at < length v
    seek_inside = go (dec_lt K.place (length v))
      where
        go : Dec (K.place < length v) → at < length v
        go (yes l) = omega (arith, ahead)
        go (no l) =
            absurd (omega (arith, ap weight (G.scan.blocks.past K.place (omega arith)), K.fits, K.some))

    -- so many blocks fit into the arena
    pub seek_few : passed + 1 ≤ length v
    seek_few = omega (arith, G.counted, count_few c from (at - from), G.above, seek_inside)

    -- with the block at `at`, of m words
    one_more_lem : (m : ℕ) → 0 < m → ((u : ℕ) → at < u → u < at + m → c u ≡ pos 0)
        → passed + 1 ≡ block_count c from (at + m - from)
    one_more_lem m some quiet =
        let parts : at + m - from ≡ at - from + m = omega (arith, G.above) in
        let mid : from + (at - from) ≡ at = omega (arith, G.above) in
        let one = count_one c at m some (begins_weight (c at) (G.scan.begins seek_inside)) quiet in
        sym (ap (block_count c from) parts ∙ count_add c from (at - from) m ∙ rw (mid, one) (omega (arith, G.counted)))

    pub seek_on : (m : ℕ) → m ≡ nat_abs (get_or v at (pos 0)) → weight (get_or v at (pos 0)) < n
        → Sought v c from n (at + m) (passed + 1)
    seek_on m is small = record {
      scan = scan_on v c at G.scan seek_inside m is;
      above = omega (arith, G.above);
      before = λ u a b. go u a b (dec_lt u at) (ℕ_discrete u at);
      counted = one_more_lem m (scan_grows v c at G.scan seek_inside m is)
          (scan_quiet v c at G.scan seek_inside m is);
    }
      where
        go : (u : ℕ) → from ≤ u → u < at + m → Dec (u < at) → Dec (u ≡ at) → weight (c u) < n
        go u a b (yes l) e = G.before u a l
        go u a b (no l) (yes e) = rw e (omega (arith, scan_weight v c at G.scan seek_inside))
        go u a b (no l) (no e) =
            omega (arith, ap weight (scan_quiet v c at G.scan seek_inside m is u (omega arith) b), K.some)

    pub seek_end : n ≤ weight (get_or v at (pos 0)) → FirstFit c from n at (passed + 1)
    seek_end h = record {
      above = G.above;
      fits = omega (arith, scan_weight v c at G.scan seek_inside);
      before = G.before;
      counted = one_more_lem 1 (omega arith) (λ u a b. absurd (omega arith)) ∙ rw (add-one at);
    }

  -- 01's scan, block by block: it ends at the same block
  pub scan_finds : (w at passed : ℕ) → Sought v c from n at passed → length v ≤ at + w
      → let end = scan (λ u. get_or v u (pos 0)) n w at in
      FirstFit c from n end.at (passed + end.places)
  scan_finds zero at passed G h = absurd (omega (arith, seek_inside at passed G))
  scan_finds (suc w) at passed G h =
      go (leb n (weight (get_or v at (pos 0)))) refl (scan_finds w (at + nat_abs (get_or v at (pos 0))) (passed + 1))
    where
      inside : at < length v
      inside = seek_inside at passed G

      rest : Steps
      rest = scan (λ u. get_or v u (pos 0)) n w (at + nat_abs (get_or v at (pos 0)))

      go : (b : Bool) → leb n (weight (get_or v at (pos 0))) ≡ b
          → (Sought v c from n (at + nat_abs (get_or v at (pos 0))) (passed + 1)
          → length v ≤ at + nat_abs (get_or v at (pos 0)) + w → FirstFit c from n rest.at (passed + 1 + rest.places))
          → let end = one_more (cond b (steps at 0) rest) in
          FirstFit c from n end.at (passed + end.places)
      go true e ih = seek_end at passed G (le_of n (weight (get_or v at (pos 0))) e)
      go false e ih =
          let next : passed + 1 + rest.places ≡ passed + suc rest.places = omega arith in
          let grows = scan_grows v c at G.scan inside (nat_abs (get_or v at (pos 0))) refl in
          let on = seek_on at passed G (nat_abs (get_or v at (pos 0))) refl (not_le n (weight (get_or v at (pos 0))) e) in
          rw next at (ih on (omega arith))

-- ---- the block that ends at p

-- the block at `at` ends at `next`, at most p
pub record Nearing (v : List ℤ) (c : ℕ → ℤ) (p at next : ℕ) : Type 0 where
  pub scan : Scan v c at
  pub inside : at < p
  pub is : next ≡ at + nat_abs (c at)
  pub reach : next ≤ p

-- ---- the leaf of a segment

module _ (v : List ℤ) (c : ℕ → ℤ) (at hi m : ℕ) (S : Scan v c at) (top : hi ≤ length v) (h : at < hi)
    (is : m ≡ nat_abs (get_or v at (pos 0))) where
  inside : at < length v
  inside = omega arith

  pub leaf_on : (most x whole : ℕ) → max most (largest c at (hi - at)) ≡ whole → x ≡ weight (get_or v at (pos 0))
      → max (max most x) (largest c (at + m) (hi - (at + m))) ≡ whole
  leaf_on most x whole inv e =
      let quiet = scan_quiet v c at S inside m is in
      let rest = largest_on c at m hi h (scan_grows v c at S inside m is) (λ u a b. quiet u a b) in
      omega (arith, rest, scan_weight v c at S inside)

-- ---- the first block past a place

-- the scan has come to `at`, and past hi it met no block before
pub record Coming (v : List ℤ) (c : ℕ → ℤ) (from hi at : ℕ) : Type 0 where
  pub scan : Scan v c at
  pub quiet : (u : ℕ) → hi ≤ u → from ≤ u → u < at → c u ≡ pos 0

pub come_start : (v : List ℤ) (c : ℕ → ℤ) (from hi : ℕ) → Scan v c from → Coming v c from hi from
come_start v c from hi S = record { scan = S; quiet = λ u a b l. absurd (omega arith) }

pub come_on : (v : List ℤ) (c : ℕ → ℤ) (from hi at m : ℕ) → Coming v c from hi at → hi ≤ length v → at < hi
    → m ≡ nat_abs (get_or v at (pos 0)) → Coming v c from hi (at + m)
come_on v c from hi at m C top l is = record {
  scan = scan_on v c at C.scan (omega arith) m is;
  quiet = λ u a b h. scan_quiet v c at C.scan (omega arith) m is u (omega arith) h;
}

pub come_end : (v : List ℤ) (c : ℕ → ℤ) (from hi at : ℕ) → Coming v c from hi at → hi ≤ at → Reaches v c from hi at
come_end v c from hi at C h = record { scan = C.scan; high = h; quiet = C.quiet }
