-- The arena by its parts: the records' control words and the free runs' words make the stored form of a valid ledger,
-- and the stored form has them. Assumes nothing.
use Prim.Native.Nat.{ℕ, zero, suc, ◌+◌, ◌-◌, ◌≤◌, ◌<◌}
use native.Mathlib.Decide.{dec_lt, ℕ_discrete}
use native.Mathlib.Nat.{sub-zero, one-mul, div-one}
use native.Mathlib.Omega.{arith}
use mathlib.Core.Bool.{Bool, true, false, not, ◌&&◌, true≢false, false≢true}
use mathlib.Core.List.{List, [], ◌∷◌}
use mathlib.Core.Path.{◌≡◌, refl, sym, ap, ◌∙◌, subst}
use lib.Dec.{eqb}
use lib.IntN.{ℤ, pos, negsuc, neg_ℤ, nat_abs}
use lib.ListN.{length, get_or}
use Rattle.words.specs.Counted.{every}
use Rattle.words.specs.Lists.{Words, all}
use Rattle.words.specs.Signed.{is_zero_z, zero_at_z}
use Rattle.words.proofs.ByPlace.{all_of}
use Rattle.words.proofs.CountedLaws.{every_at}
use Rattle.words.proofs.ListLaws.{all_get_d}
use Rattle.words.proofs.PlaceLaws.{stamp_is}
use Rattle.words.proofs.Tests.{and_l, and_r, not_true, of_not, eqb_eq, eqb_same, eqb_ne, of_gt}
use Rattle.ledger.specs.Records.{Ledger, is_empty, is_live, empty_row, record_at, records_of, slots}
use Rattle.ledger.specs.Runs.{Run, runs_from, free_runs}
use Rattle.ledger.specs.Units.{valid, first, past, address_at, free}
use Rattle.ledger.specs.declared.Row.{Row}
use Rattle.ledger.proofs.RecordLaws.{length_records, record_at_lem}
use Rattle.ledger.proofs.RunLaws.{Next, runs_next, runs_empty}
use Rattle.ledger.proofs.UnitLaws.{valid_at}
use Rattle.record_table.proofs.CheckLaws.{all_slots}
use Rattle.stored_forms.specs.Segments.{segment_rule, starts_at, opens}
use Rattle.segment_index.specs.Control.{free_size}
use Rattle.segment_index.proofs.SignLaws.{abs_neg, free_neg}
use Rattle.segment_cores.specs.Stores.{arena_of}
use Rattle.segment_cores.specs.Views.{word, owned_by, Whole, RunOf}
use Rattle.segment_cores.proofs.ChangeLaws.{controls, arena_view, stored_word}
use Rattle.segment_cores.proofs.UnitLaws.{span_words}
use Rattle.segment_cores.proofs.ViewLaws.{ledger_whole, slot_starts, begun_slot}
use Rattle.segment_cores.proofs.WordLaws.{clash, opens_before, word_held, word_open, word_shut, unstarted}
use Rattle.record_table.proofs.PartitionLaws.{valid_row, valid_new}
use Rattle.segment_check.specs.BitMaps.{bit_at}
use Rattle.segment_check.specs.Adjoining.{block_right, Kept, Sets, Good}
use Rattle.words.specs.Flags.{Says}
use Rattle.segment_check.specs.Right.{held_right}
use Rattle.segment_check.proofs.KeptLaws.{passing, whole_kept}

-- ---- a word by its tests

free_is : (z : ℤ) (n : ℕ) → 0 < n → free_size z ≡ n → z ≡ pos n
free_is (pos k) n h e = ap pos e
free_is (negsuc k) n h e = absurd (omega arith)

pub held_is : (z : ℤ) (n : ℕ) → 0 < n → nat_abs z ≡ n → free_size z ≡ 0 → z ≡ neg_ℤ (pos n)
held_is (pos k) n h e f = absurd (omega arith)
held_is (negsuc k) n h e f = sym (ap (λ (m : ℕ). neg_ℤ (pos m)) (sym e))

zero_is : (z : ℤ) → is_zero_z z ≡ true → z ≡ pos 0
zero_is (pos zero) h = refl
zero_is (pos (suc n)) h = absurd (false≢true h)
zero_is (negsuc n) h = absurd (false≢true h)

-- ---- the free runs

module _ (f : ℕ → Bool) (st : ℕ → ℕ) (v : List ℤ) (Q : Whole f st (length v)) where
  abbrev W : ℕ
  W = length v

  -- the next run from k on, where no run goes on
  module _ (k : ℕ) (r : Run) (rs : List Run) (edge : 0 < k → k < W → f k ≡ false) (x : Next f W k r rs) where
    abbrev end : ℕ
    end = r.start + r.size

    opened : opens f r.start ≡ true
    opened = go (ℕ_discrete r.start 0) (ℕ_discrete r.start k)
      where
        go : Dec (r.start ≡ 0) → Dec (r.start ≡ k) → opens f r.start ≡ true
        go (yes e) d = ap (opens f) e
        go (no e) (yes d) =
            clash (x.passes r.start (omega arith) (omega (arith, x.long)))
            (ap f d ∙ edge (omega arith) (omega (arith, x.inside, x.long)))
        go (no e) (no d) =
            opens_before f r.start (omega arith)
            ∙ ap not (x.before (r.start - 1) (omega (arith, x.above)) (omega arith))

    run : RunOf f r.start (W - r.start) (end - r.start)
    run = record {
      passes = λ u a b. x.passes u a (omega arith);
      fits = omega (arith, x.inside);
      stops = λ l. let e : r.start + (end - r.start) ≡ end = omega arith in ap f e ∙ x.after (omega arith);
    }

    run_word : block_right v r ≡ true → (u : ℕ) → r.start ≤ u → u < end → get_or v u (pos 0) ≡ word f st W u
    run_word right u a b = go (ℕ_discrete u r.start)
      where
        size : Bool
        size = eqb (free_size (get_or v r.start (pos 0))) (end - r.start)

        zeros : Bool
        zeros = every (zero_at_z v) (r.start + 1) (end - (r.start + 1))

        both : (size && zeros) ≡ true
        both = rw (of_gt end r.start (omega (arith, x.long))) at right

        bare : f u ≡ true → st u ≡ 0
        bare t = unstarted f st W Q u t

        go : Dec (u ≡ r.start) → get_or v u (pos 0) ≡ word f st W u
        go (yes e) =
            let t = x.passes u a b in
            free_is (get_or v u (pos 0)) (end - r.start) (omega (arith, x.long))
            (ap (λ k. free_size (get_or v k (pos 0))) e
            ∙ eqb_eq (free_size (get_or v r.start (pos 0))) (end - r.start) (and_l size zeros both))
            ∙ sym (word_open f st W u (end - r.start) t (bare t) (ap (opens f) e ∙ opened)
            (subst (λ k. RunOf f k (W - k) (end - r.start)) (sym e) run))
        go (no e) =
            let t = x.passes u a b in
            zero_is (get_or v u (pos 0))
            (every_at (zero_at_z v) (r.start + 1) (end - (r.start + 1)) (and_r size zeros both) u (omega arith)
            (omega arith))
            ∙ sym (word_shut f st W u t (bare t)
            (opens_before f u (omega arith) ∙ ap not (x.passes (u - 1) (omega arith) (omega arith))))

  runs_words : (rs : List Run) (k : ℕ) → k ≤ W → (0 < k → k < W → f k ≡ false) → runs_from f k (W - k) ≡ rs
      → all (block_right v) rs ≡ true → (u : ℕ) → k ≤ u → u < W → f u ≡ true → get_or v u (pos 0) ≡ word f st W u
  runs_words [] k l edge e h u a b t = clash t (runs_empty f W k l e u a b)
  runs_words (r ∷ rs) k l edge e h u a b t =
      go (runs_next f W k l r rs e)
      (λ x. runs_words rs (r.start + r.size) x.inside (λ p q. x.after q) (sym x.rest)
      (and_r (block_right v r) (all (block_right v) rs) h) u)
      (dec_lt u r.start) (dec_lt u (r.start + r.size))
    where
      go : Next f W k r rs
          → (Next f W k r rs → r.start + r.size ≤ u → u < W → f u ≡ true → get_or v u (pos 0) ≡ word f st W u)
          → Dec (u < r.start) → Dec (u < r.start + r.size) → get_or v u (pos 0) ≡ word f st W u
      go x ih (yes c) d = clash t (x.before u a c)
      go x ih (no c) (yes d) =
          run_word k r rs edge x (and_l (block_right v r) (all (block_right v) rs) h) u (omega arith) d
      go x ih (no c) (no d) = ih x (omega arith) b t

-- ---- the whole arena

module _ (v : List ℤ) (next : ℕ) (t : Words) (good : valid segment_rule (length v) next (records_of t) ≡ true) where
  abbrev L : Ledger
  L = records_of t

  abbrev N : ℕ
  N = length v

  abbrev g : ℕ → Bool
  g = free segment_rule L

  Q : Whole g (starts_at L) N
  Q = ledger_whole N next L good

  -- a record's control word, by its test
  module _ (i : ℕ) (l : i < length L) (live : is_live (get_or L i empty_row) ≡ true) where
    abbrev r : Row
    r = get_or L i empty_row

    at_first : (r.address - 1 ≡ first segment_rule r) × (first segment_rule r < N)
    unfolding address_at
    at_first =
        let facts = valid_at segment_rule (omega arith) N next L good i l live in
        let place = facts.place in
        let inside = facts.inside in
        let some = facts.nonempty in
        (omega (arith, one-mul (first segment_rule r)), omega (arith, one-mul (past segment_rule r)))

    sized : starts_at L (first segment_rule r) ≡ r.words + 1
    sized = slot_starts N next L good i l live ∙ span_words r.words

    control : controls L N (first segment_rule r) ≡ neg_ℤ (pos (r.words + 1))
    control = word_held g (starts_at L) N (first segment_rule r) (r.words + 1) sized (omega arith)

    held_word : Says (held_right v r) (get_or v (first segment_rule r) (pos 0) ≡ controls L N (first segment_rule r))
    held_word = let (e, h) = at_first in (from e, to e)
      where
        from : r.address - 1 ≡ first segment_rule r → held_right v r ≡ true
            → get_or v (first segment_rule r) (pos 0) ≡ controls L N (first segment_rule r)
        from e h =
            let z = get_or v (r.address - 1) (pos 0) in
            let size = eqb (nat_abs z) (r.words + 1) in
            let both : (size && eqb (free_size z) 0) ≡ true = rw (not_true (is_empty r) live) at h in
            ap (λ (k : ℕ). get_or v k (pos 0)) (sym e)
            ∙ held_is z (r.words + 1) (omega arith)
            (eqb_eq (nat_abs z) (r.words + 1) (and_l size (eqb (free_size z) 0) both))
            (eqb_eq (free_size z) 0 (and_r size (eqb (free_size z) 0) both))
            ∙ sym control

        to : r.address - 1 ≡ first segment_rule r
            → get_or v (first segment_rule r) (pos 0) ≡ controls L N (first segment_rule r) → held_right v r ≡ true
        to e h =
            let z : get_or v (r.address - 1) (pos 0) ≡ neg_ℤ (pos (r.words + 1)) =
            ap (λ (k : ℕ). get_or v k (pos 0)) e ∙ h ∙ control in
            rw (
              not_true (is_empty r) live,
              z,
              abs_neg (pos (r.words + 1)),
              free_neg (r.words + 1),
              eqb_same (r.words + 1),
            )

  -- right control words, and right words of the free runs, are the stored form
  pub arena_partitioned : (rs : List Run) → all (held_right v) L ≡ true → free_runs segment_rule N L ≡ rs
      → all (block_right v) rs ≡ true → v ≡ arena_of L v
  unfolding free_runs
  arena_partitioned rs rows runs words =
      stamp_is (owned_by g (starts_at L)) (controls L N) v v (pos 0) refl (λ u l o. refl) (λ u l o. go u l o (g u) refl)
      ∙ sym (arena_view next L v good v refl)
    where
      whole : runs_from g 0 (N - 0) ≡ rs
      whole = ap (runs_from g 0) (sub-zero N ∙ sym (div-one N)) ∙ runs

      go : (u : ℕ) → u < N → owned_by g (starts_at L) u ≡ false → (b : Bool) → g u ≡ b
          → get_or v u (pos 0) ≡ controls L N u
      go u l o true e =
          runs_words g (starts_at L) v Q rs 0 (omega arith) (λ p q. absurd (omega arith)) whole words u (omega arith) l e
      go u l o false e =
          let begun : 0 < starts_at L u = begins (starts_at L u) (rw e at o) in
          let (i, a, live, is, p) = begun_slot N next L good u begun in
          rw is at ((held_word i a live).0 (all_get_d (held_right v) empty_row L rows i a))
        where
          begins : (n : ℕ) → eqb n 0 ≡ false → 0 < n
          begins zero h = absurd (true≢false h)
          begins (suc n) h = omega arith

  -- ---- the other way

  module _ (arena : v ≡ arena_of L v) where
    stored : (u : ℕ) → u < N → owned_by g (starts_at L) u ≡ false → get_or v u (pos 0) ≡ controls L N u
    stored = stored_word next L v good v v refl arena

    -- each record's control word is right
    arena_held : all (held_right v) L ≡ true
    arena_held = all_of (held_right v) empty_row L (λ i l. row i l (is_empty (get_or L i empty_row)) refl)
      where
        row : (i : ℕ) → i < length L → (b : Bool) → is_empty (get_or L i empty_row) ≡ b
            → held_right v (get_or L i empty_row) ≡ true
        row i l true q = rw q
        row i l false q =
            let live = of_not (is_empty (get_or L i empty_row)) q in
            let u = first segment_rule (get_or L i empty_row) in
            let (x, h) = at_first i l live in
            let size = sized i l live in
            let taken = Q.covers u u (omega arith) (omega arith) in
            (held_word i l live).1
            (stored u h (rw (taken, size) (eqb_ne ((get_or L i empty_row).words + 1) 0 (omega arith))))

    -- each slot may follow those before it
    pub arena_good : (i : ℕ) → i < slots t → Good v next t i
    arena_good i l = record {
      fits = valid_row segment_rule (omega arith) N next t good i l;
      new = valid_new segment_rule (omega arith) N next t good i l;
      right =
          every_at (λ j. held_right v (record_at t j)) 0 (slots t) (sym (all_slots (held_right v) t) ∙ arena_held) i
          (omega arith) (omega arith);
    }

    -- and the blocks are kept, if each record has its bit
    pub arena_kept : (map : Words) → Sets t map (slots t) → Kept v map (controls L N) (passing g)
    arena_kept map S =
        whole_kept g (starts_at L) v Q stored map
        (λ u p.
        let (i, l, live, is, q) = begun_slot N next L good u p in
        let below : i < slots t = omega (arith, length_records t) in
        let r = record_at_lem t i below in
        subst (λ k. bit_at map k ≡ true) (ap (first segment_rule) (sym r) ∙ is)
        (S i below (not_true (is_empty (record_at t i)) (ap is_live (sym r) ∙ live))))
