-- Laws of blocks side by side: if free blocks and records together have as many units as the arena, the records are a
-- valid ledger and the free blocks its free runs. Assumes nothing.
use Prim.Native.Nat.{ℕ, zero, suc, ◌+◌, ◌/◌, ◌≤◌, ◌<◌}
use native.Mathlib.Omega.{arith}
use native.Mathlib.Nat.{zero-add}
use mathlib.Core.Path.{◌≡◌, refl, sym, ap, ◌∙◌}
use mathlib.Core.Bool.{Bool, true, false, cond, not, ◌&&◌, ◌||◌}
use mathlib.Core.List.{List, [], ◌∷◌, ◌++◌}
use Rattle.words.specs.Lists.{Words, all, pairwise}
use Rattle.words.specs.Counted.{every, within, sum_to}
use Rattle.words.proofs.Tests.{and_l, and_r, and_i, false_of, not_true, not_false, of_not, within_of}
use Rattle.words.proofs.CountedLaws.{every_at, every_of, every_fails, every_breaks}
use Rattle.ledger.specs.declared.Row.{Row}
use Rattle.ledger.specs.declared.Rule.{Rule}
use Rattle.ledger.specs.Records.{Ledger, record_at, slots, records_of, is_empty}
use Rattle.ledger.specs.Units.{first, past, span, apart, valid, covers, free}
use Rattle.ledger.specs.Runs.{Run, runs_from, free_runs, Gapped, covered}
use Rattle.ledger.proofs.UnitLaws.{covers_of}
use Rattle.ledger.proofs.RunLaws.{gapped_below, runs_are, runs_unique}
use Rattle.record_table.specs.Checks.{row_ok, differ, beside, Inside, AllInside}
use Rattle.record_table.proofs.PairLaws.{none_of, before, pairs_back}
use Rattle.record_table.proofs.CheckLaws.{all_slots, valid_parts, rows_inside}
use Rattle.record_table.proofs.BesideLaws.{beside_unit, unit_beside}
use Rattle.record_table.specs.Partition.{units_of, new_at, Entered, total, Partitioned}
use Rattle.words.proofs.SumLaws.{sum_same, sum_none, sum_ones, sum_both, sum_swap, sum_le, sum_tight, sum_term}
use Rattle.words.proofs.SumLaws.{sum_terms, sum_range}
use native.Mathlib.Decide.{ℕ_discrete, dec_lt}

-- ---- runs one after another

pub total_append : (xs ys : List Run) → total (xs ++ ys) ≡ total xs + total ys
total_append [] ys = sym (zero-add (total ys))
total_append (r ∷ xs) ys = let e = total_append xs ys in omega arith

-- ---- a unit is free if no slot's record covers it

pub free_slots : (ρ : Rule) (t : Words) (u : ℕ)
    → free ρ (records_of t) u ≡ every (λ j. not (covers ρ u (record_at t j))) 0 (slots t)
unfolding free records_of
free_slots ρ t u = none_of (covers ρ u) (record_at t) 0 (slots t)

pub held_by : (ρ : Rule) (t : Words) (j u : ℕ) → j < slots t → covers ρ u (record_at t j) ≡ true
    → free ρ (records_of t) u ≡ false
held_by ρ t j u h x =
    free_slots ρ t u
    ∙ every_breaks (λ k. not (covers ρ u (record_at t k))) 0 (slots t) j (omega arith) (omega arith) (ap not x)

-- ---- the first terms of a sum

pub sum_part : (f : ℕ → ℕ) (i n : ℕ) → i ≤ n → sum_to f i ≤ sum_to f n
sum_part f i zero h = let none : i ≡ 0 = omega arith in rw none (omega arith)
sum_part f i (suc n) h = go (sum_part f i n) (ℕ_discrete i (suc n))
  where
    go : (i ≤ n → sum_to f i ≤ sum_to f n) → Dec (i ≡ suc n) → sum_to f i ≤ sum_to f n + f n
    go ih (yes e) = rw e (omega arith)
    go ih (no e) = omega (arith, ih (omega arith))

-- ---- terms of which at most one is not 0

sum_one : (f : ℕ → ℕ) (n : ℕ) → ((k : ℕ) → k < n → f k ≤ 1)
    → ((j k : ℕ) → j < k → k < n → 0 < f j → 0 < f k → ⊥) → sum_to f n ≤ 1
sum_one f zero m h = omega arith
sum_one f (suc n) m h =
    go (sum_one f n (λ k l. m k (omega arith)) (λ j k a b. h j k a (omega arith))) (ℕ_discrete (f n) 0)
  where
    none : (f n ≡ 0 → ⊥) → (k : ℕ) → k < n → f k ≡ 0
    none z k l = zero_or (ℕ_discrete (f k) 0)
      where
        zero_or : Dec (f k ≡ 0) → f k ≡ 0
        zero_or (yes e) = e
        zero_or (no e) = absurd (h k n l (omega arith) (omega arith) (omega arith))

    go : sum_to f n ≤ 1 → Dec (f n ≡ 0) → sum_to f n + f n ≤ 1
    go ih (yes z) = omega arith
    go ih (no z) = omega (arith, sum_same f (λ k. 0) n (none z), sum_none n, m n (omega arith))

-- ---- units counted one by one

-- 1 where a test passes, and 1 where it fails
abbrev pub one : Bool → ℕ
one b = cond b 1 0

abbrev other : Bool → ℕ
other b = cond b 0 1

-- how many of the records cover unit u
abbrev holders : Rule → Words → ℕ → ℕ
holders ρ t u = sum_to (λ j. one (covers ρ u (record_at t j))) (slots t)

-- runs have as many units as there are units in them
pub count_runs : (k N : ℕ) (rs : List Run) → Gapped k N rs → sum_to (λ u. one (covered rs u)) N ≡ total rs
count_runs k N [] g = sum_none N
count_runs k N (r ∷ rs) g =
    let end = r.start + r.size in
    let here : ℕ → ℕ = λ u. one (within r.start end u) in
    let rest : ℕ → ℕ = λ u. one (covered rs u) in
    let parts = sum_same (λ u. one (covered (r ∷ rs) u)) (λ u. here u + rest u) N
    (λ u h. split u (within r.start end u) refl) in
    let range = sum_range r.start end N (omega arith) g.2 in
    let later = count_runs (suc end) N rs g.3 in
    let sums = sum_both here rest N in
    omega (arith, parts, range, later, sums)
  where
    split : (u : ℕ) (b : Bool) → within r.start (r.start + r.size) u ≡ b
        → one (b || covered rs u) ≡ one b + one (covered rs u)
    split u true q =
        let (low, high) = within_of r.start (r.start + r.size) u q in
        let none-later = gapped_below (suc (r.start + r.size)) N rs g.3 u (omega arith) in
        sym (ap (λ (b : Bool). 1 + one b) none-later)
    split u false q = sym (zero-add (one (covered rs u)))

-- the units in no run, and those in runs, are all
count_rest : (N : ℕ) (rs : List Run) → Gapped 0 N rs → sum_to (λ u. other (covered rs u)) N + total rs ≡ N
count_rest N rs g =
    let inside : ℕ → ℕ = λ u. one (covered rs u) in
    let outside : ℕ → ℕ = λ u. other (covered rs u) in
    let each = sum_same (λ u. outside u + inside u) (λ u. 1) N (λ u h. both (covered rs u)) in
    omega (arith, each, sum_both outside inside N, sum_ones N, count_runs 0 N rs g)
  where
    both : (b : Bool) → other b + one b ≡ 1
    both true = refl
    both false = refl

-- a record has as many units as it covers
count_units : (ρ : Rule) (N : ℕ) (r : Row) → Inside ρ N r → sum_to (λ u. one (covers ρ u r)) N ≡ units_of ρ r
unfolding covers past
count_units ρ N r inside = go (is_empty r) refl
  where
    go : (b : Bool) → is_empty r ≡ b
        → sum_to (λ u. one (not b && within (first ρ r) (past ρ r) u)) N ≡ cond b 0 (span ρ r.words)
    go true q = sum_none N
    go false q =
        let (some, all_in) = inside (of_not (is_empty r) q) in
        let range = sum_range (first ρ r) (past ρ r) N (omega arith) all_in in
        omega (arith, range)

-- ---- the records by themselves

module _ (ρ : Rule) (pos : 0 < ρ.unit) (W next held : ℕ) (t : Words) (entered : Entered ρ W next t (slots t) held) where
  entered_fit : all (row_ok ρ W next) (records_of t) ≡ true
  entered_fit = all_slots (row_ok ρ W next) t ∙ entered.fit

  entered_inside : AllInside ρ (W / ρ.unit) t
  entered_inside = rows_inside ρ pos W next (W / ρ.unit) t (omega arith) entered_fit

  count_entered : sum_to (holders ρ t) (W / ρ.unit) ≡ held
  count_entered =
      sum_swap (λ u j. one (covers ρ u (record_at t j))) (W / ρ.unit) (slots t)
      ∙ sum_same (λ j. sum_to (λ u. one (covers ρ u (record_at t j))) (W / ρ.unit)) (λ j. units_of ρ (record_at t j))
      (slots t) (λ j h. count_units ρ (W / ρ.unit) (record_at t j) (entered_inside j h))
      ∙ sym entered.sum

-- ---- no unit is left over

module _ (ρ : Rule) (pos : 0 < ρ.unit) (W next held : ℕ) (t : Words) (rs : List Run)
    (entered : Entered ρ W next t (slots t) held) (partitioned : Partitioned ρ (records_of t) (W / ρ.unit) rs) where
  -- a unit in no run has a holder
  some_holder : (u : ℕ) → u < W / ρ.unit → other (covered rs u) ≤ holders ρ t u
  some_holder u h = go (covered rs u) refl
    where
      go : (b : Bool) → covered rs u ≡ b → other b ≤ holders ρ t u
      go true q = omega arith
      go false q =
          let none = sym (free_slots ρ t u) ∙ partitioned.held u h q in
          let (j, a, b, e) = every_fails (λ k. not (covers ρ u (record_at t k))) 0 (slots t) none in
          let here = ap one (not_false (covers ρ u (record_at t j)) e) in
          let most = sum_term (λ k. one (covers ρ u (record_at t k))) (slots t) j (omega arith) in
          omega (arith, here, most)

  -- so runs and records have no fewer units together than the arena
  pub partition_most : W / ρ.unit ≤ total rs + held
  partition_most =
      omega (
        arith,
        sum_le (λ u. other (covered rs u)) (holders ρ t) (W / ρ.unit) some_holder,
        count_entered ρ pos W next held t entered,
        count_rest (W / ρ.unit) rs partitioned.gapped,
      )

-- ---- as many units as the arena has

module _ (ρ : Rule) (pos : 0 < ρ.unit) (W next held : ℕ) (t : Words) (rs : List Run)
    (entered : Entered ρ W next t (slots t) held) (partitioned : Partitioned ρ (records_of t) (W / ρ.unit) rs)
    (exact : total rs + held ≡ W / ρ.unit) where
  all_fit : all (row_ok ρ W next) (records_of t) ≡ true
  all_fit = entered_fit ρ pos W next held t entered

  all_inside : AllInside ρ (W / ρ.unit) t
  all_inside = entered_inside ρ pos W next held t entered

  count_held : sum_to (holders ρ t) (W / ρ.unit) ≡ held
  count_held = count_entered ρ pos W next held t entered

  -- a unit in no run has one holder, and one in a run none
  holders_are : (u : ℕ) → u < W / ρ.unit → holders ρ t u ≡ other (covered rs u)
  holders_are =
      sum_tight (λ u. other (covered rs u)) (holders ρ t) (W / ρ.unit)
      (some_holder ρ pos W next held t rs entered partitioned)
      (omega (arith, count_held, count_rest (W / ρ.unit) rs partitioned.gapped, exact))

  free_is : (u : ℕ) → u < W / ρ.unit → covered rs u ≡ free ρ (records_of t) u
  free_is u h = go (covered rs u) refl
    where
      go : (b : Bool) → covered rs u ≡ b → b ≡ free ρ (records_of t) u
      go true q =
          let none : holders ρ t u ≡ 0 = holders_are u h ∙ ap other q in
          sym (free_slots ρ t u
          ∙ every_of (λ k. not (covers ρ u (record_at t k))) 0 (slots t)
          (λ j a b. of_not (covers ρ u (record_at t j)) (false_of (covers ρ u (record_at t j))
          (λ x. omega (
            arith,
            none,
            ap one x,
            sum_term (λ k. one (covers ρ u (record_at t k))) (slots t) j (omega arith),
          )))))
      go false q = sym (partitioned.held u h q)

  -- no unit has two holders
  alone : (j k : ℕ) → j < k → k < slots t → (u : ℕ) → covers ρ u (record_at t j) ≡ true
      → covers ρ u (record_at t k) ≡ true → ⊥
  alone j k a b u x y =
      let (live, low, high) = covers_of ρ u (record_at t j) x in
      let (some, all_in) = all_inside j (omega arith) live in
      let two = sum_terms (λ i. one (covers ρ u (record_at t i))) (slots t) j k a b in
      omega (arith, ap one x, ap one y, two, holders_are u (omega arith), most (covered rs u))
    where
      most : (c : Bool) → other c ≤ 1
      most true = omega arith
      most false = omega arith

  all_beside : pairwise (beside ρ) (records_of t) ≡ true
  unfolding records_of
  all_beside =
      pairs_back (beside ρ) (record_at t) (slots t)
      ∙ every_of (before (beside ρ) (record_at t)) 0 (slots t)
      (λ k a b. every_of (λ j. beside ρ (record_at t j) (record_at t k)) 0 k
      (λ j c d. unit_beside ρ (record_at t j) (record_at t k) (W / ρ.unit) (all_inside j (omega arith))
      (all_inside k (omega arith)) (alone j k (omega arith) (omega arith))))

  all_differ : pairwise differ (records_of t) ≡ true
  unfolding records_of
  all_differ = pairs_back differ (record_at t) (slots t) ∙ entered.new

  pub partition_valid : (valid ρ W next (records_of t) ≡ true) × (free_runs ρ W (records_of t) ≡ rs)
  unfolding free_runs
  partition_valid = (
    valid_parts ρ pos W next (records_of t) all_fit
        ∙ and_i (pairwise differ (records_of t)) (pairwise (beside ρ) (records_of t)) all_differ all_beside,
    runs_unique (free ρ (records_of t)) (W / ρ.unit) rs (record { gapped = partitioned.gapped; cover = free_is }),
  )

-- ---- the other way: a valid ledger, and its free runs

module _ (ρ : Rule) (pos : 0 < ρ.unit) (W next : ℕ) (t : Words) (good : valid ρ W next (records_of t) ≡ true) where
  abbrev L : Ledger
  L = records_of t

  valid_fit : all (row_ok ρ W next) L ≡ true
  unfolding valid
  valid_fit = and_l (all (row_ok ρ W next) L) (pairwise (apart ρ) L) good

  parts : (pairwise differ L && pairwise (beside ρ) L) ≡ true
  parts = sym (valid_parts ρ pos W next L valid_fit) ∙ good

  pub valid_row : (i : ℕ) → i < slots t → row_ok ρ W next (record_at t i) ≡ true
  valid_row i h =
      every_at (λ j. row_ok ρ W next (record_at t j)) 0 (slots t) (sym (all_slots (row_ok ρ W next) t) ∙ valid_fit) i
      (omega arith) (omega arith)

  all_new : every (new_at t) 0 (slots t) ≡ true
  unfolding records_of
  all_new =
      sym (pairs_back differ (record_at t) (slots t))
      ∙ and_l (pairwise differ L) (pairwise (beside ρ) L) parts

  pub valid_new : (i : ℕ) → i < slots t → new_at t i ≡ true
  valid_new i h = every_at (new_at t) 0 (slots t) all_new i (omega arith) (omega arith)

  -- the records can be entered one after another
  pub valid_entered : Entered ρ W next t (slots t) (sum_to (λ j. units_of ρ (record_at t j)) (slots t))
  valid_entered = record {
    fit = sym (all_slots (row_ok ρ W next) t) ∙ valid_fit;
    new = all_new;
    sum = refl;
  }

  valid_beside : (j k : ℕ) → j < k → k < slots t → beside ρ (record_at t j) (record_at t k) ≡ true
  unfolding records_of
  valid_beside j k a b =
      every_at (λ i. beside ρ (record_at t i) (record_at t k)) 0 k
      (every_at (before (beside ρ) (record_at t)) 0 (slots t)
      (sym (pairs_back (beside ρ) (record_at t) (slots t)) ∙ and_r (pairwise differ L) (pairwise (beside ρ) L) parts)
      k (omega arith) (omega arith)) j (omega arith) (omega arith)

  -- no two records share a unit
  pub no_share : (j k : ℕ) → j < slots t → k < slots t → (j ≡ k → ⊥) → (u : ℕ) → covers ρ u (record_at t j) ≡ true
      → covers ρ u (record_at t k) ≡ true → ⊥
  no_share j k a b e u x y = go (dec_lt j k)
    where
      go : Dec (j < k) → ⊥
      go (yes l) = beside_unit ρ (record_at t j) (record_at t k) (valid_beside j k l b) u x y
      go (no l) = beside_unit ρ (record_at t k) (record_at t j) (valid_beside k j (omega arith) a) u y x

  -- a unit has no holder where it is free, else one
  one_holder : (u : ℕ) → holders ρ t u ≡ other (free ρ L u)
  one_holder u = go (free ρ L u) refl
    where
      here : ℕ → ℕ
      here j = one (covers ρ u (record_at t j))

      small : (b : Bool) → one b ≤ 1
      small true = omega arith
      small false = omega arith

      is : (b : Bool) → 0 < one b → b ≡ true
      is true h = refl
      is false h = absurd (omega arith)

      most : holders ρ t u ≤ 1
      most =
          sum_one here (slots t) (λ j h. small (covers ρ u (record_at t j)))
          (λ j k a b x y. beside_unit ρ (record_at t j) (record_at t k) (valid_beside j k a b) u
          (is (covers ρ u (record_at t j)) x) (is (covers ρ u (record_at t k)) y))

      go : (b : Bool) → free ρ L u ≡ b → holders ρ t u ≡ other b
      go true q =
          sum_same here (λ j. 0) (slots t)
          (λ j h. ap one (not_true (covers ρ u (record_at t j))
          (every_at (λ k. not (covers ρ u (record_at t k))) 0 (slots t) (sym (free_slots ρ t u) ∙ q) j (omega arith)
          (omega arith))))
          ∙ sum_none (slots t)
      go false q =
          let (j, a, b, e) = every_fails (λ k. not (covers ρ u (record_at t k))) 0 (slots t)
          (sym (free_slots ρ t u) ∙ q) in
          let held-here = ap one (not_false (covers ρ u (record_at t j)) e) in
          omega (arith, held-here, sum_term here (slots t) j (omega arith), most)

  -- the free units, and those of the records, are all
  pub valid_count : (held : ℕ) → Entered ρ W next t (slots t) held
      → sum_to (λ u. cond (free ρ L u) 1 0) (W / ρ.unit) + held ≡ W / ρ.unit
  valid_count held entered =
      let N = W / ρ.unit in
      let each = sum_same (λ u. one (free ρ L u) + holders ρ t u) (λ u. 1) N
      (λ u h. ap (λ n. one (free ρ L u) + n) (one_holder u) ∙ both (free ρ L u)) in
      omega (
        arith,
        each,
        sum_both (λ u. one (free ρ L u)) (holders ρ t) N,
        sum_ones N,
        count_entered ρ pos W next held t entered,
      )
    where
      both : (b : Bool) → one b + other b ≡ 1
      both true = refl
      both false = refl

  -- so the free runs and the records have as many units together as the arena
  pub valid_exact : (held : ℕ) → Entered ρ W next t (slots t) held → total (free_runs ρ W L) + held ≡ W / ρ.unit
  unfolding free_runs
  valid_exact held entered =
      let N = W / ρ.unit in
      let runs = runs_are (free ρ L) N in
      let rs = runs_from (free ρ L) 0 N in
      let same = sum_same (λ u. one (covered rs u)) (λ u. one (free ρ L u)) N (λ u h. ap one (runs.cover u h)) in
      omega (arith, same, count_runs 0 N rs runs.gapped, valid_count held entered)
