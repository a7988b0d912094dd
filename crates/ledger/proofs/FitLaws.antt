-- Laws of the lowest fit: what `lowest_fit` finds, that it is no higher where more is free, and that the first run that
-- is long enough begins there. Assumes nothing.
use Prim.Native.Nat.{ℕ, suc, ◌+◌, ◌-◌, ◌≤◌, ◌<◌}
use native.Mathlib.Nat.{sub-zero}
use native.Mathlib.Omega.{arith}
use native.Mathlib.Decide.{dec_le}
use mathlib.Core.Path.{◌≡◌, refl, sym, ap, ◌∙◌}
use mathlib.Core.Bool.{Bool, true, false, cond, true≢false}
use mathlib.Core.List.{List, [], ◌∷◌}
use mathlib.Core.Option.{Option, none, some}
use lib.Dec.{leb}
use Rattle.words.specs.Lists.{first_that}
use Rattle.words.specs.Counted.{every}
use Rattle.words.proofs.Tests.{le_of, not_le}
use Rattle.words.proofs.CountedLaws.{every_at, every_of, every_breaks, lowest_some, lowest_none, lowest_is}
use Rattle.words.proofs.CountedLaws.{lowest_nothing}
use Rattle.ledger.specs.Units.{lowest_fit}
use Rattle.ledger.specs.Runs.{Run, runs_from}
use Rattle.ledger.proofs.RunLaws.{Next, runs_next, runs_empty}

-- ---- what `lowest_fit` says

-- m of the N units from k on pass, and from no lower unit do m of them
pub record FitAt (f : ℕ → Bool) (N m k : ℕ) : Type 0 where
  pub room : k + m ≤ N
  pub passes : every f k m ≡ true
  pub least : (j : ℕ) → j < k → every f j m ≡ false

module _ (f : ℕ → Bool) (N m : ℕ) where
  pub fit_lowest : (k : ℕ) → lowest_fit f N m ≡ some k → FitAt f N m k
  unfolding lowest_fit
  fit_lowest k e =
      let l = lowest_some (λ j. every f j m) 0 (suc N - m) k e in
      record { room = omega arith; passes = l.passes; least = λ j h. l.least j (omega arith) h }

  pub fit_none : lowest_fit f N m ≡ none → (k : ℕ) → k + m ≤ N → every f k m ≡ false
  unfolding lowest_fit
  fit_none e k h = lowest_none (λ j. every f j m) 0 (suc N - m) e k (omega arith) (omega arith)

  pub fit_is : (k : ℕ) → FitAt f N m k → lowest_fit f N m ≡ some k
  unfolding lowest_fit
  fit_is k a =
      lowest_is (λ j. every f j m) 0 (suc N - m) k
      (record { passes = a.passes; above = omega arith; below = omega arith; least = λ j l h. a.least j h })

  pub fit_nothing : ((k : ℕ) → k + m ≤ N → every f k m ≡ false) → lowest_fit f N m ≡ none
  unfolding lowest_fit
  fit_nothing h = lowest_nothing (λ j. every f j m) 0 (suc N - m) (λ k a b. h k (omega arith))

  -- where m units pass, the lowest fit is no higher
  fit_below : (k : ℕ) → k + m ≤ N → every f k m ≡ true → (j : ℕ) × (j ≤ k) × (lowest_fit f N m ≡ some j)
  fit_below k room passes = go (lowest_fit f N m) refl
    where
      low : (j : ℕ) → FitAt f N m j → Dec (j ≤ k) → j ≤ k
      low j a (yes h) = h
      low j a (no h) = absurd (true≢false (sym passes ∙ a.least k (omega arith)))

      go : (o : Option ℕ) → lowest_fit f N m ≡ o → (j : ℕ) × (j ≤ k) × (lowest_fit f N m ≡ some j)
      go none e = absurd (true≢false (sym passes ∙ fit_none e k room))
      go (some j) e = (j, low j (fit_lowest j e) (dec_le j k), e)

-- With every unit that passes passing still, among no fewer units, no more of them asked for, there is a fit, and it is
-- no higher.
pub fit_mono : (f g : ℕ → Bool) (N M m n k : ℕ) → ((u : ℕ) → u < N → f u ≡ true → g u ≡ true) → N ≤ M → n ≤ m
    → lowest_fit f N m ≡ some k → (j : ℕ) × (j ≤ k) × (lowest_fit g M n ≡ some j)
fit_mono f g N M m n k more size less e =
    let a = fit_lowest f N m k e in
    let room = a.room in
    fit_below g M n k (omega arith)
    (every_of g k n (λ u x y. more u (omega arith) (every_at f k m a.passes u x (omega arith))))

-- ---- the first run that is long enough

abbrev pub first_fit : ℕ → List Run → Option Run
first_fit m rs = first_that (λ r. leb m r.size) rs

abbrev pub start_of : Option Run → Option ℕ
start_of none = none
start_of (some r) = some r.start

module _ (f : ℕ → Bool) (N m : ℕ) (one : 1 ≤ m) where
  -- no fit begins below unit k, and rs are the runs from there on
  first_from_lem : (rs : List Run) (k : ℕ) → k ≤ N → runs_from f k (N - k) ≡ rs
      → ((j : ℕ) → j < k → j + m ≤ N → every f j m ≡ false) → lowest_fit f N m ≡ start_of (first_fit m rs)
  first_from_lem [] k l e h = fit_nothing f N m (λ j b. go j b (dec_le k j))
    where
      go : (j : ℕ) → j + m ≤ N → Dec (k ≤ j) → every f j m ≡ false
      go j b (yes a) = every_breaks f j m j (omega arith) (omega arith) (runs_empty f N k l e j a (omega arith))
      go j b (no a) = h j (omega arith) b
  first_from_lem (r ∷ rs) k l e h =
      go (leb m r.size) refl
      (λ s. first_from_lem rs (r.start + r.size) n.inside (sym n.rest)
      (λ j a b. short s j a b (dec_le r.start j)))
    where
      n : Next f N k r rs
      n = runs_next f N k l r rs e

      -- nothing begins below the run
      below : (j : ℕ) → j < r.start → j + m ≤ N → Dec (k ≤ j) → every f j m ≡ false
      below j a b (yes c) = every_breaks f j m j (omega arith) (omega arith) (n.before j c a)
      below j a b (no c) = h j (omega arith) b

      -- nor in it, where it is too short
      short : r.size < m → (j : ℕ) → j < r.start + r.size → j + m ≤ N → Dec (r.start ≤ j) → every f j m ≡ false
      short s j a b (yes c) = every_breaks f j m (r.start + r.size) (omega arith) (omega arith)
          (n.after (omega arith))
      short s j a b (no c) = below j (omega arith) b (dec_le k j)

      go : (b : Bool) → leb m r.size ≡ b → (r.size < m → lowest_fit f N m ≡ start_of (first_fit m rs))
          → lowest_fit f N m ≡ start_of (cond b (some r) (first_fit m rs))
      go true q ih =
          let fits : m ≤ r.size = le_of m r.size q in
          let inside = n.inside in
          fit_is f N m r.start (record {
            room = omega arith;
            passes = every_of f r.start m (λ u a b. n.passes u a (omega arith));
            least = λ j a. below j a (omega arith) (dec_le k j);
          })
      go false q ih = ih (not_le m r.size q)

  pub fit_first : lowest_fit f N m ≡ start_of (first_fit m (runs_from f 0 N))
  fit_first =
      first_from_lem (runs_from f 0 N) 0 (omega arith) (ap (runs_from f 0) (sub-zero N)) (λ j a b. absurd (omega arith))
