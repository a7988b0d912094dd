-- The search: what the index says of the control words, and where the scan of one segment ends. Assumes nothing.
use Prim.Native.Nat.{ℕ, suc, ◌+◌, ◌-◌, ◌*◌, ◌/◌, ◌^◌, ◌<◌, ◌≤◌}
use native.Mathlib.Decide.{dec_lt}
use native.Mathlib.Nat.{zero-add, one-mul, mul-le-mul_right}
use native.Mathlib.Omega.{arith}
use mathlib.Core.Bool.{Bool, true, false, cond}
use mathlib.Core.List.{List}
use mathlib.Core.Path.{◌≡◌, refl, sym, ap, subst, ◌∙◌}
use lib.Dec.{ltb}
use lib.IntN.{ℤ, pos, nat_abs}
use lib.ListN.{length, get_or}
use Rattle.words.specs.Lists.{Words}
use Rattle.words.proofs.Tests.{lt_of, not_lt}
use Rattle.ledger.specs.Records.{Ledger}
use Rattle.ledger.specs.Units.{free, lowest_fit}
use Rattle.stored_forms.specs.Segments.{segment_rule, weight, segment_size, starts_at, depth, control_word, most_words}
use Rattle.stored_forms.specs.declared.Steps.{Steps}
use Rattle.stored_forms.specs.Search.{log_of, block_count, segment_begin, places_to, steps, steps_to, go_down, scan, searched}
use Rattle.stored_forms.proofs.SearchLaws.{count_few, count_none, count_add, log_power}
use Rattle.stored_forms.proofs.SegmentLaws.{largest_above, largest_at}
use Rattle.segment_index.specs.Index.{index_of, Agree}
use Rattle.segment_index.specs.Tree.{Heap, LowestLeaf}
use Rattle.segment_index.proofs.IndexLaws.{length_index_of, index_heap, index_agrees}
use Rattle.segment_index.proofs.RangeLaws.{weight_size, FirstIn, first_found}
use Rattle.segment_index.proofs.SizeLaws.{segment_low, segment_high, segment_in, segment_is}
use Rattle.segment_index.proofs.WayLaws.{under, way_start, down_lowest, down_places}
use Rattle.segment_blocks.specs.Blocks.{Blocks, Seeking, FirstFit}
use Rattle.segment_blocks.proofs.ScanLaws.{seek_start, scan_finds}
use Rattle.segment_blocks.proofs.UpkeepLaws.{sizes_some, sizes_each}
use Rattle.segment_cores.proofs.ChangeLaws.{controls, sound_whole, sound_blocks, sound_index}
use Rattle.segment_cores.proofs.FitWords.{word_fit, word_none}
use Rattle.segment_cores.specs.Views.{word}
use Rattle.segment_cores.specs.Cores.{Searching}

-- the places by the readings of a ledger
places_view : (S W : ℕ) (L : Ledger) (k : ℕ) → let start = segment_begin k (segment_size W S) in
    places_to S W L k ≡ 1 + log_of S depth + block_count (controls L W) start (suc k - start)
unfolding places_to control_word word
places_view S W L k = refl

module _ (L : Ledger) (v : List ℤ) (t : Words) (s d n : ℕ) (K : Searching L v t s d n) where
  abbrev W : ℕ
  W = length v

  abbrev g : ℕ
  g = segment_size W s

  abbrev c : ℕ → ℤ
  c = controls L W

  was : t ≡ index_of c W s
  was = sound_index L v t s g K.sound

  blocks : Blocks v c
  blocks = sound_blocks L v t s g K.sound

  some_segments : 0 < s
  some_segments = sizes_some W s g K.sound.sizes

  pub index_long : length t ≡ 3 * s
  index_long = ap length was ∙ length_index_of c W s

  pub root_inside : 1 < length t
  root_inside = omega (arith, index_long, some_segments)

  pub heap : Heap (2 ^ d) t
  heap = subst (λ (k : ℕ). Heap k t) K.power (rw was (index_heap c W s K.sound.sizes.power))

  log : log_of s depth ≡ d
  log = ap (λ (x : ℕ). log_of x depth) K.power ∙ log_power depth d K.few

  agrees : (k : ℕ) → k < s → Agree c W s t k
  agrees k h = rw was (index_agrees c W s k h)

  each_pos : 0 < g
  each_pos = sizes_each W s g K.sound.sizes

  -- a word weighs at most its segment's leaf
  leaf_above : (u : ℕ) → u < W → weight (c u) ≤ get_or t (s + u / g) 0
  leaf_above u h =
      let k = segment_in W s u some_segments h in
      rw (agrees (u / g) k).leaf (largest_above c (u / g * g) g u (segment_low u g) (segment_high u g each_pos))

  -- the root is too small
  pub search_none : get_or t 1 0 < n → steps W 1 ≡ steps_to s W L (lowest_fit (free segment_rule L) W n)
  search_none h =
      sym (ap (steps_to s W L)
      (word_none (free segment_rule L) (starts_at L) W (sound_whole L v t s g K.sound) n K.two each))
    where
      each : (u : ℕ) → u < W → weight (c u) < n
      each u l =
          let k = segment_in W s u some_segments l in
          let top = under (2 ^ d) t heap d 1 (omega arith) (omega (arith, one-mul (2 ^ d))) (s + u / g)
          (omega (arith, one-mul (2 ^ d), K.power)) (omega (arith, one-mul (2 ^ d), K.power)) in
          omega (arith, leaf_above u l)

  -- the descent ends at leaf r
  module _ (r : ℕ) (l : LowestLeaf (2 ^ d) t n r) where
    k : ℕ
    k = r - s

    pub leaf_low : s ≤ r
    leaf_low = omega (arith, l.leaf, K.power)

    leaf_of : s + k ≡ r
    unfolding k
    leaf_of = omega (arith, leaf_low)

    pub leaf_inside : r - s < s
    leaf_inside = omega (arith, l.inside, K.power, some_segments)

    first : ℕ
    first = get_or t (2 * s + (r - s)) 0

    -- a block of the segment is as large as its leaf
    large : (u : ℕ) × (k * g ≤ u) × (u < k * g + g) × (n ≤ weight (c u))
    unfolding k
    large =
        let leaf = ap (λ (i : ℕ). get_or t i 0) (sym leaf_of) ∙ (agrees (r - s) leaf_inside).leaf in
        let (u, a, b, e) = largest_at c (k * g) g (omega (arith, l.fits, K.two)) in
        (u, a, b, omega (arith, l.fits))

    found : (u : ℕ) × (first ≤ u) × (n ≤ weight (c u)) × FirstIn c (k * g) g first
    unfolding k first
    found =
        let (u, a, b, w) = large in
        let (x, f) = first_found c W (k * g) g u a b (omega (arith, weight_size (c u), K.two)) in
        let e = (agrees (r - s) leaf_inside).first in
        (u, rw e x, w, rw e f)

    inside : first < W
    inside = go (dec_lt first W)
      where
        go : Dec (first < W) → first < W
        go (yes h) = h
        go (no h) =
            let (u, a, w, f) = found in
            absurd (omega (arith, f.begins, ap nat_abs (blocks.past first (omega arith))))

    pub search_scan : Seeking v c (get_or t (2 * s + (r - s)) 0) n
    unfolding first
    search_scan =
        let (u, a, w, f) = found in
        record {
          scan = record { blocks = blocks; inside = omega (arith, inside); begins = λ h. f.begins };
          some = omega (arith, K.two);
          place = u;
          above = a;
          fits = w;
        }

    fit_inside : (q places : ℕ) → FirstFit c first n q places → q < W
    fit_inside q places F = go (dec_lt q W)
      where
        go : Dec (q < W) → q < W
        go (yes h) = h
        go (no h) = absurd (omega (arith, F.fits, ap weight (blocks.past q (omega arith)), K.two))

    pub search_few : (q places : ℕ) → FirstFit c (get_or t (2 * s + (r - s)) 0) n q places → places ≤ most_words
    unfolding first
    search_few q places F =
        omega (
          arith,
          F.counted,
          count_few c first (suc q - first),
          fit_inside q places F,
          K.sound.sizes.most,
        )

    pub search_found : (q places : ℕ) → FirstFit c (get_or t (2 * s + (r - s)) 0) n q places
        → steps q (1 + d + places) ≡ steps_to s W L (lowest_fit (free segment_rule L) W n)
    unfolding k first
    search_found q places F =
        ap (steps q) counted
        ∙ sym (ap (steps_to s W L)
        (word_fit (free segment_rule L) (starts_at L) W (sound_whole L v t s g K.sound) n K.two q
        (fit_inside q places F) F.fits before))
      where
        -- the block lies in the leaf's segment, in which one is large enough
        segment : q / g ≡ k
        segment = segment_is q g k (omega (arith, F.above, found.3.low)) (go large)
          where
            go : (u : ℕ) × (k * g ≤ u) × (u < k * g + g) × (n ≤ weight (c u)) → q < k * g + g
            go (u, a, b, w) = at (dec_lt u q)
              where
                at : Dec (u < q) → q < k * g + g
                at (no h) = omega arith
                at (yes h) = past (dec_lt u first)
                  where
                    past : Dec (u < first) → q < k * g + g
                    past (yes l) = absurd (omega (arith, ap weight (found.3.quiet u a l), K.two))
                    past (no l) = absurd (omega (arith, F.before u (omega arith) h))

        -- no block of the segment begins before the first
        counted : 1 + d + places ≡ places_to s W L q
        counted =
            let low = found.3.low in
            let above = F.above in
            let parts : suc q - k * g ≡ first - k * g + (suc q - first) = omega arith in
            let mid : k * g + (first - k * g) ≡ first = omega arith in
            let none = count_none c (k * g) (first - k * g) (λ u a b. found.3.quiet u a (omega arith)) in
            let all : block_count c (k * g) (suc q - k * g) ≡ places =
            ap (block_count c (k * g)) parts ∙ count_add c (k * g) (first - k * g) (suc q - first)
            ∙ rw (none, mid) (zero-add (block_count c first (suc q - first)) ∙ sym F.counted) in
            let here : 1 + log_of s depth + block_count c (segment_begin q g) (suc q - segment_begin q g) ≡ 1 + d + places
            = rw (segment, log) (ap (λ (x : ℕ). 1 + d + x) all) in
            sym (places_view s W L q ∙ here)

        -- a lower segment's leaf is smaller
        lower : (u : ℕ) → u < k * g → weight (c u) < n
        lower u h = go (dec_lt (u / g) k)
          where
            go : Dec (u / g < k) → weight (c u) < n
            go (yes x) =
                let below = l.before (s + u / g) (omega (arith, K.power)) (omega (arith, leaf_of)) in
                omega (arith, leaf_above u (omega (arith, inside, found.3.low)))
            go (no x) =
                let y : k ≤ u / g = omega arith in
                absurd (omega (arith, mul-le-mul_right g y, segment_low u g))

        before : (u : ℕ) → u < q → weight (c u) < n
        before u h = go (dec_lt u (k * g)) (dec_lt u first)
          where
            go : Dec (u < k * g) → Dec (u < first) → weight (c u) < n
            go (yes x) y = lower u x
            go (no x) (yes y) = omega (arith, ap weight (found.3.quiet u (omega arith) y), K.two)
            go (no x) (no y) = F.before u (omega arith) h

  -- 02: "it equals the steps of 01's search", comparison by comparison over the words of the arena and the index
  pub search_steps : searched (λ u. get_or v u (pos 0)) W s t n ≡ steps_to s W L (lowest_fit (free segment_rule L) W n)
  unfolding searched
  search_steps = rw log (go (ltb (get_or t 1 0) n) refl)
    where
      leaf : Steps
      leaf = go_down t n d 1

      from : ℕ
      from = get_or t (2 * s + (leaf.at - s)) 0

      block : Steps
      block = scan (λ u. get_or v u (pos 0)) n W from

      go : (b : Bool) → ltb (get_or t 1 0) n ≡ b
          → let end = scan (λ u. get_or v u (pos 0)) n W (get_or t (s + leaf.at) 0) in
          cond b (steps W 1) (steps end.at (1 + leaf.places + end.places))
          ≡ steps_to s W L (lowest_fit (free segment_rule L) W n)
      go true e = search_none (lt_of (get_or t 1 0) n e)
      go false e =
          let l = down_lowest (2 ^ d) t heap n d 1 (way_start d t n (not_lt (get_or t 1 0) n e)) in
          let place : s + leaf.at ≡ 2 * s + (leaf.at - s) = omega (arith, leaf_low leaf.at l) in
          let K = search_scan leaf.at l in
          let F = scan_finds v c from n K W from 0 (seek_start v c from n K) (omega arith) in
          let none = zero-add block.places in
          rw (place, down_places t n d 1) (search_found leaf.at l block.at block.places (rw none at F))
