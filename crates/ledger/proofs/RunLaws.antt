-- Laws of the maximal runs: they are runs and the only ones; as a walk along the units meets them; how many
-- there are; and what a release and a grant make of them. Assumes nothing.
use Prim.Native.Nat.{ℕ, zero, suc, ◌+◌, ◌-◌, ◌/◌, ◌≤◌, ◌<◌, max}
use native.Mathlib.Nat.{sub-zero}
use native.Mathlib.Omega.{arith}
use native.Mathlib.Decide.{ℕ_discrete, dec_le}
use mathlib.Core.Path.{◌≡◌, refl, sym, ap, ap₂, ◌∙◌, subst}
use mathlib.Core.Logic.{◌≢◌}
use mathlib.Core.Bool.{Bool, true, false, cond, not, ◌&&◌, ◌||◌, false≢true, true≢false, and-true, or-true, or-false}
use mathlib.Core.Bool.{or_assoc, or_comm, and-false}
use mathlib.Core.List.{List, [], ◌∷◌, ◌++◌}
use mathlib.Core.Option.{some}
use lib.Dec.{eqb, leb, ltb}
use lib.ListN.{length}
use Rattle.words.specs.Lists.{any}
use Rattle.words.specs.Counted.{within}
use Rattle.words.proofs.Tests.{and_l, and_r, and_map, or_l, or_r, not_true, not_false, eqb_eq, eqb_ne, eqb_false}
use Rattle.words.proofs.Tests.{le_of, of_le, lt_of, not_lt}
use Rattle.words.proofs.Tests.{of_gt, within_in, within_low, within_high, within_of}
use Rattle.ledger.specs.declared.Row.{Row}
use Rattle.ledger.specs.declared.Rule.{Rule}
use Rattle.ledger.specs.Records.{row, Ledger, is_live, record_of, full, enter, Plan, vacate, keep}
use Rattle.ledger.specs.Records.{shortened, feasible, member, settle}
use Rattle.ledger.specs.Units.{span, address_at, first, past, valid, covers, free, freed_by, kept_units, tail_units}
use Rattle.ledger.specs.Runs.{Run, run, grow, runs_from, free_runs, covered, Gapped, AreRuns}
use Rattle.ledger.specs.Runs.{add_run, shorten, live_count}
use Rattle.ledger.proofs.UnitLaws.{valid_record, span_pos, first_new, covers_of, covers_in, free_not}
use Rattle.ledger.proofs.UnitLaws.{free_settle, span_mono, free_enter}

-- ---- a gapped list

pub gapped_weaken : (j k e : ℕ) (rs : List Run) → j ≤ k → Gapped k e rs → Gapped j e rs
gapped_weaken j k e [] h g = tt
gapped_weaken j k e (r ∷ rs) h g = (omega arith, g.1, g.2, g.3)

pub gapped_below : (k e : ℕ) (rs : List Run) → Gapped k e rs → (u : ℕ) → u < k → covered rs u ≡ false
gapped_below k e [] g u h = refl
gapped_below k e (r ∷ rs) g u h =
    rw (within_low r.start (r.start + r.size) u (omega arith))
    (gapped_below (suc (r.start + r.size)) e rs g.3 u (omega arith))

-- the units of the first run, and those behind it
in_first : (r : Run) (rs : List Run) (u : ℕ) → r.start ≤ u → u < r.start + r.size → covered (r ∷ rs) u ≡ true
in_first r rs u a b = rw (within_in r.start (r.start + r.size) u a b)

past_first : (r : Run) (rs : List Run) (u : ℕ) → r.start + r.size ≤ u → covered (r ∷ rs) u ≡ covered rs u
past_first r rs u a = rw (within_high r.start (r.start + r.size) u a)

pub covered_append : (xs ys : List Run) (u : ℕ) → covered (xs ++ ys) u ≡ (covered xs u || covered ys u)
covered_append [] ys u = refl
covered_append (r ∷ xs) ys u =
    let here = within r.start (r.start + r.size) u in
    ap (λ b. here || b) (covered_append xs ys u) ∙ sym (or_assoc here (covered xs u) (covered ys u))

-- one end is no further than the other, of two gapped lists that cover the same units
module _ (k e : ℕ) (r q : Run) (rs qs : List Run) (g : Gapped k e (r ∷ rs)) (h : Gapped k e (q ∷ qs))
    (same : (u : ℕ) → k ≤ u → u < e → covered (r ∷ rs) u ≡ covered (q ∷ qs) u) where
  start_le : Dec (q.start ≤ r.start) → q.start ≤ r.start
  start_le (yes a) = a
  start_le (no a) =
      let on = in_first r rs r.start (omega arith) (omega arith) in
      let off = gapped_below q.start e (q ∷ qs) (omega arith, h.1, h.2, h.3) r.start (omega arith) in
      absurd (true≢false (sym on ∙ same r.start (omega arith) (omega arith) ∙ off))

  end_le : r.start ≡ q.start → Dec (q.start + q.size ≤ r.start + r.size)
      → q.start + q.size ≤ r.start + r.size
  end_le s (yes a) = a
  end_le s (no a) =
      let end = r.start + r.size in
      let on = in_first q qs end (omega arith) (omega arith) in
      let off = past_first r rs end (omega arith) ∙ gapped_below (suc end) e rs g.3 end (omega arith) in
      absurd (false≢true (sym off ∙ same end (omega arith) (omega arith) ∙ on))

pub gapped_unique : (k e : ℕ) (rs qs : List Run) → Gapped k e rs → Gapped k e qs
    → ((u : ℕ) → k ≤ u → u < e → covered rs u ≡ covered qs u) → rs ≡ qs
gapped_unique k e [] [] g h same = refl
gapped_unique k e [] (q ∷ qs) g h same =
    let on = in_first q qs q.start (omega arith) (omega arith) in
    absurd (false≢true (same q.start (omega arith) (omega arith) ∙ on))
gapped_unique k e (r ∷ rs) [] g h same =
    let on = in_first r rs r.start (omega arith) (omega arith) in
    absurd (true≢false (sym on ∙ same r.start (omega arith) (omega arith)))
gapped_unique k e (r ∷ rs) (q ∷ qs) g h same =
    let back : (u : ℕ) → k ≤ u → u < e → covered (q ∷ qs) u ≡ covered (r ∷ rs) u = λ u a b. sym (same u a b) in
    let s₁ = start_le k e r q rs qs g h same (dec_le q.start r.start) in
    let s₂ = start_le k e q r qs rs h g back (dec_le r.start q.start) in
    let s : r.start ≡ q.start = omega arith in
    let e₁ = end_le k e r q rs qs g h same s (dec_le (q.start + q.size) (r.start + r.size)) in
    let e₂ = end_le k e q r qs rs h g back (sym s) (dec_le (r.start + r.size) (q.start + q.size)) in
    let z : r.size ≡ q.size = omega arith in
    let end : q.start + q.size ≡ r.start + r.size = omega arith in
    let rest = gapped_unique (suc (r.start + r.size)) e rs qs g.3 (subst (λ j. Gapped (suc j) e qs) end h.3)
    (λ u a b. sym (past_first r rs u (omega arith)) ∙ same u (omega arith) b ∙ past_first q qs u (omega arith)) in
    λ i. run (s i) (z i) ∷ rest i

-- ---- the maximal runs are runs, and the only ones

-- a range in two parts
within_join : (b z s m u : ℕ) → b + z ≡ s → within b (b + (z + m)) u ≡ (within b (b + z) u || within s (s + m) u)
within_join b z s m u q = go (dec_le b u) (dec_le s u) (dec_le (s + m) u)
  where
    go : Dec (b ≤ u) → Dec (s ≤ u) → Dec (s + m ≤ u)
        → within b (b + (z + m)) u ≡ (within b (b + z) u || within s (s + m) u)
    go (no x) y w =
        within_low b (b + (z + m)) u (omega arith)
        ∙ sym (rw (within_low b (b + z) u (omega arith)) (within_low s (s + m) u (omega arith)))
    go (yes x) (no y) w = within_in b (b + (z + m)) u x (omega arith)
        ∙ sym (rw (within_in b (b + z) u x (omega arith)))
    go (yes x) (yes y) (no w) =
        within_in b (b + (z + m)) u x (omega arith)
        ∙ sym (rw (within_in s (s + m) u y (omega arith)) (or-true (within b (b + z) u)))
    go (yes x) (yes y) (yes w) =
        within_high b (b + (z + m)) u (omega arith)
        ∙ sym (rw (within_high b (b + z) u (omega arith)) (within_high s (s + m) u (omega arith)))

gapped_grow : (k e : ℕ) (rs : List Run) → k < e → Gapped (suc k) e rs → Gapped k e (grow k rs)
gapped_grow k e [] l g = (omega arith, omega arith, omega arith, tt)
gapped_grow k e (r ∷ rs) l g = go (eqb r.start (suc k)) refl
  where
    go : (b : Bool) → eqb r.start (suc k) ≡ b → Gapped k e (cond b (run k (suc r.size) ∷ rs) (run k 1 ∷ r ∷ rs))
    go true q =
        let next : r.start ≡ suc k = eqb_eq r.start (suc k) q in
        let rest = gapped_weaken (suc (k + suc r.size)) (suc (r.start + r.size)) e rs (omega arith) g.3 in
        (omega arith, omega arith, omega arith, rest)
    go false q =
        let gap : r.start ≢ suc k = eqb_false r.start (suc k) q in
        (omega arith, omega arith, omega arith, (omega arith, g.1, g.2, g.3))

covered_grow : (k u : ℕ) (rs : List Run) → covered (grow k rs) u ≡ (within k (k + 1) u || covered rs u)
covered_grow k u [] = refl
covered_grow k u (r ∷ rs) = go (eqb r.start (suc k)) refl
  where
    go : (b : Bool) → eqb r.start (suc k) ≡ b
        → covered (cond b (run k (suc r.size) ∷ rs) (run k 1 ∷ r ∷ rs)) u
        ≡ (within k (k + 1) u || covered (r ∷ rs) u)
    go true q =
        let next : k + 1 ≡ r.start = let x = eqb_eq r.start (suc k) q in omega arith in
        let more : suc r.size ≡ 1 + r.size = omega arith in
        rw (more, within_join k 1 r.start r.size u next)
        (or_assoc (within k (k + 1) u) (within r.start (r.start + r.size) u) (covered rs u))
    go false q = refl

pub runs_gapped : (f : ℕ → Bool) (n k e : ℕ) → k + n ≡ e → Gapped k e (runs_from f k n)
runs_gapped f zero k e q = tt
runs_gapped f (suc n) k e q = go (f k) (runs_gapped f n (suc k) e (omega arith))
  where
    rest : List Run
    rest = runs_from f (suc k) n

    go : (b : Bool) → Gapped (suc k) e rest → Gapped k e (cond b (grow k rest) rest)
    go true ih = gapped_grow k e rest (omega arith) ih
    go false ih = gapped_weaken k (suc k) e rest (omega arith) ih

pub runs_covered : (f : ℕ → Bool) (n k e : ℕ) → k + n ≡ e → (u : ℕ) → k ≤ u → u < e → covered (runs_from f k n) u ≡ f u
runs_covered f zero k e q u a b = absurd (omega arith)
runs_covered f (suc n) k e q u a b =
    go (f k) refl (ℕ_discrete u k) (λ l. runs_covered f n (suc k) e (omega arith) u l b)
  where
    rest : List Run
    rest = runs_from f (suc k) n

    below : covered rest k ≡ false
    below = gapped_below (suc k) e rest (runs_gapped f n (suc k) e (omega arith)) k (omega arith)

    go : (c : Bool) → f k ≡ c → Dec (u ≡ k) → (suc k ≤ u → covered rest u ≡ f u)
        → covered (cond c (grow k rest) rest) u ≡ f u
    go true x (yes y) ih =
        covered_grow k u rest ∙ rw (within_in k (k + 1) u (omega arith) (omega arith)) (sym (ap f y ∙ x))
    go true x (no y) ih = covered_grow k u rest ∙ rw (within_high k (k + 1) u (omega arith)) (ih (omega arith))
    go false x (yes y) ih = ap (covered rest) y ∙ below ∙ sym (ap f y ∙ x)
    go false x (no y) ih = ih (omega arith)

pub runs_unique_from : (f : ℕ → Bool) (n k e : ℕ) → k + n ≡ e → (rs : List Run) → Gapped k e rs
    → ((u : ℕ) → k ≤ u → u < e → covered rs u ≡ f u) → runs_from f k n ≡ rs
runs_unique_from f n k e q rs g h =
    gapped_unique k e (runs_from f k n) rs (runs_gapped f n k e q) g
    (λ u a b. runs_covered f n k e q u a b ∙ sym (h u a b))

pub runs_are : (f : ℕ → Bool) (N : ℕ) → AreRuns f N (runs_from f 0 N)
runs_are f N = record {
  gapped = runs_gapped f N 0 N (omega arith);
  cover = λ u b. runs_covered f N 0 N (omega arith) u (omega arith) b;
}

pub runs_unique : (f : ℕ → Bool) (N : ℕ) (rs : List Run) → AreRuns f N rs → runs_from f 0 N ≡ rs
runs_unique f N rs a = runs_unique_from f N 0 N (omega arith) rs a.gapped (λ u l b. a.cover u b)

-- ---- the runs seen from a unit k on: what a walk up to unit N meets next

-- the first run from k on, and what stands behind it
pub record Next (f : ℕ → Bool) (N k : ℕ) (r : Run) (rs : List Run) : Type 0 where
  pub above : k ≤ r.start
  pub long : 1 ≤ r.size
  pub inside : r.start + r.size ≤ N
  pub before : (u : ℕ) → k ≤ u → u < r.start → f u ≡ false
  pub passes : (u : ℕ) → r.start ≤ u → u < r.start + r.size → f u ≡ true
  pub after : r.start + r.size < N → f (r.start + r.size) ≡ false
  pub rest : rs ≡ runs_from f (r.start + r.size) (N - (r.start + r.size))

module _ (f : ℕ → Bool) (N : ℕ) where
  gapped_at : (k : ℕ) → k ≤ N → Gapped k N (runs_from f k (N - k))
  gapped_at k h = runs_gapped f (N - k) k N (omega arith)

  covered_at : (k u : ℕ) → k ≤ u → u < N → covered (runs_from f k (N - k)) u ≡ f u
  covered_at k u a b = runs_covered f (N - k) k N (omega arith) u a b

  -- units that do not pass are skipped
  pub runs_skip : (k c : ℕ) → k ≤ c → c ≤ N → ((u : ℕ) → k ≤ u → u < c → f u ≡ false)
      → runs_from f k (N - k) ≡ runs_from f c (N - c)
  runs_skip k c a b h =
      let rs = runs_from f c (N - c) in
      runs_unique_from f (N - k) k N (omega arith) rs (gapped_weaken k c N rs a (gapped_at c b))
      (λ u x y. go u x y (dec_le c u))
    where
      go : (u : ℕ) → k ≤ u → u < N → Dec (c ≤ u) → covered (runs_from f c (N - c)) u ≡ f u
      go u x y (yes l) = covered_at c u l y
      go u x y (no l) =
          gapped_below c N (runs_from f c (N - c)) (gapped_at c b) u (omega arith) ∙ sym (h u x (omega arith))

  -- past the end of a run there is a gap
  gapped_after : (e : ℕ) → e ≤ N → (e < N → f e ≡ false) → Gapped (suc e) N (runs_from f e (N - e))
  gapped_after e l h = go (dec_le N e)
    where
      go : Dec (N ≤ e) → Gapped (suc e) N (runs_from f e (N - e))
      go (yes x) = let z : N - e ≡ 0 = omega arith in rw z tt
      go (no x) =
          let one : (u : ℕ) → e ≤ u → u < suc e → f u ≡ false =
          λ u a b. let y : u ≡ e = omega arith in ap f y ∙ h (omega arith) in
          rw (runs_skip e (suc e) (omega arith) (omega arith) one) (gapped_at (suc e) (omega arith))

  -- units c to e that pass, with one behind them that does not, are the next run
  pub runs_meet : (c e : ℕ) → c < e → e ≤ N → ((u : ℕ) → c ≤ u → u < e → f u ≡ true) → (e < N → f e ≡ false)
      → runs_from f c (N - c) ≡ run c (e - c) ∷ runs_from f e (N - e)
  runs_meet c e a b h k =
      let rs = runs_from f e (N - e) in
      let end : e ≡ c + (e - c) = omega arith in
      runs_unique_from f (N - c) c N (omega arith) (run c (e - c) ∷ rs)
      (omega arith, omega arith, omega arith, subst (λ j. Gapped (suc j) N rs) end (gapped_after e b k))
      (λ u x y. go u x y (dec_le e u))
    where
      go : (u : ℕ) → c ≤ u → u < N → Dec (e ≤ u) → covered (run c (e - c) ∷ runs_from f e (N - e)) u ≡ f u
      go u x y (yes l) = past_first (run c (e - c)) (runs_from f e (N - e)) u (omega arith) ∙ covered_at e u l y
      go u x y (no l) =
          in_first (run c (e - c)) (runs_from f e (N - e)) u x (omega arith) ∙ sym (h u x (omega arith))

  pub runs_next : (k : ℕ) → k ≤ N → (r : Run) (rs : List Run) → runs_from f k (N - k) ≡ r ∷ rs → Next f N k r rs
  runs_next k l r rs e =
      let g : Gapped k N (r ∷ rs) = subst (Gapped k N) e (gapped_at k l) in
      let end = r.start + r.size in
      let c : (u : ℕ) → k ≤ u → u < N → f u ≡ covered (r ∷ rs) u =
      λ u a b. sym (covered_at k u a b) ∙ ap (λ l. covered l u) e in
      let behind = gapped_weaken end (suc end) N rs (omega arith) g.3 in
      record {
        above = g.0;
        long = g.1;
        inside = g.2;
        before = λ u a b.
            c u a (omega arith) ∙ gapped_below r.start N (r ∷ rs) (omega arith, g.1, g.2, g.3) u b;
        passes = λ u a b. c u (omega arith) (omega arith) ∙ in_first r rs u a b;
        after = λ b.
            c end (omega arith) b ∙ past_first r rs end (omega arith)
            ∙ gapped_below (suc end) N rs g.3 end (omega arith);
        rest = sym (runs_unique_from f (N - end) end N (omega arith) rs behind
            (λ u a b. sym (past_first r rs u a) ∙ sym (c u (omega arith) b)));
      }

  pub runs_empty : (k : ℕ) → k ≤ N → runs_from f k (N - k) ≡ [] → (u : ℕ) → k ≤ u → u < N → f u ≡ false
  runs_empty k l e u a b = sym (covered_at k u a b) ∙ ap (λ l. covered l u) e

-- ---- how many free runs there are: each but the first begins where a record ends

count_le : (a b : Bool) (x y : ℕ) → (a ≡ true → b ≡ true) → x ≤ y → cond a (suc x) x ≤ cond b (suc y) y
count_le true true x y h l = omega arith
count_le true false x y h l = absurd (false≢true (h refl))
count_le false true x y h l = omega arith
count_le false false x y h l = l

count_lt : (a b : Bool) (x y : ℕ) → (a ≡ true → b ≡ true) → x < y → cond a (suc x) x < cond b (suc y) y
count_lt true true x y h l = omega arith
count_lt true false x y h l = absurd (false≢true (h refl))
count_lt false true x y h l = omega arith
count_lt false false x y h l = l

live_few : (L : Ledger) → live_count L ≤ length L
live_few [] = omega arith
live_few (r ∷ L) = count_le (is_live r) true (live_count L) (length L) (λ e. refl) (live_few L)

module _ (ρ : Rule) where
  -- the live records that end at unit k or later
  abbrev ends_from : ℕ → Ledger → ℕ
  ends_from k [] = 0
  ends_from k (r ∷ L) = cond (is_live r && leb k (past ρ r)) (suc (ends_from k L)) (ends_from k L)

  ends_live : (k : ℕ) (L : Ledger) → ends_from k L ≤ live_count L
  ends_live k [] = omega arith
  ends_live k (r ∷ L) =
      count_le (is_live r && leb k (past ρ r)) (is_live r) (ends_from k L) (live_count L)
      (and_l (is_live r) (leb k (past ρ r))) (ends_live k L)

  end_later : (k m : ℕ) → k ≤ m → (r : Row) → (is_live r && leb m (past ρ r)) ≡ true
      → (is_live r && leb k (past ρ r)) ≡ true
  end_later k m h r =
      and_map (is_live r) (leb m (past ρ r)) (is_live r) (leb k (past ρ r)) (λ e. e)
      (λ e. of_le k (past ρ r) (omega (arith, le_of m (past ρ r) e)))

  ends_le : (k m : ℕ) → k ≤ m → (L : Ledger) → ends_from m L ≤ ends_from k L
  ends_le k m h [] = omega arith
  ends_le k m h (r ∷ L) =
      count_le (is_live r && leb m (past ρ r)) (is_live r && leb k (past ρ r)) (ends_from m L) (ends_from k L)
      (end_later k m h r) (ends_le k m h L)

  -- a record that covers a unit, and not the next, ends there
  ends_here : (u : ℕ) (r : Row) → covers ρ u r ≡ true → covers ρ (suc u) r ≡ false → past ρ r ≡ suc u
  ends_here u r x y = go (dec_le (past ρ r) (suc u))
    where
      go : Dec (past ρ r ≤ suc u) → past ρ r ≡ suc u
      go (yes h) = let c = covers_of ρ u r x in omega arith
      go (no h) =
          let c = covers_of ρ u r x in
          absurd (true≢false (sym (covers_in ρ (suc u) r c.0 (omega arith) (omega arith)) ∙ y))

  ends_less : (u k m : ℕ) → k ≤ suc u → suc u < m → (L : Ledger) → any (covers ρ u) L ≡ true
      → any (covers ρ (suc u)) L ≡ false
      → ends_from m L < ends_from k L
  ends_less u k m a b [] x y = absurd (false≢true x)
  ends_less u k m a b (r ∷ L) x y =
      go (covers ρ u r) refl x (λ h. ends_less u k m a b L h (or_r (covers ρ (suc u) r) (any (covers ρ (suc u)) L) y))
    where
      late : Bool
      late = is_live r && leb m (past ρ r)

      soon : Bool
      soon = is_live r && leb k (past ρ r)

      go : (c : Bool) → covers ρ u r ≡ c → (c || any (covers ρ u) L) ≡ true
          → (any (covers ρ u) L ≡ true → ends_from m L < ends_from k L)
          → cond late (suc (ends_from m L)) (ends_from m L) < cond soon (suc (ends_from k L)) (ends_from k L)
      go true e x ih =
          let end = ends_here u r e (or_l (covers ρ (suc u) r) (any (covers ρ (suc u)) L) y) in
          let live = (covers_of ρ u r e).0 in
          let rest = ends_le k m (omega arith) L in
          rw (live, of_gt m (past ρ r) (omega arith), of_le k (past ρ r) (omega arith)) (omega arith)
      go false e x ih = count_lt late soon (ends_from m L) (ends_from k L) (end_later k m (omega arith) r) (ih x)

  -- the runs behind a unit that is not free
  runs_behind : (L : Ledger) (N k : ℕ) (rs : List Run) → k ≤ N → runs_from (free ρ L) k (N - k) ≡ rs
      → (k < N → free ρ L k ≡ false) → length rs ≤ ends_from (suc k) L
  unfolding free
  runs_behind L N k [] l e off = omega arith
  runs_behind L N k (r ∷ rs) l e off =
      let n = runs_next (free ρ L) N k l r rs e in
      let end : ℕ = r.start + r.size in
      let i : ℕ = r.start - 1 in
      let past-k : k ≢ r.start = λ q. true≢false (sym (n.passes k (omega arith) (omega arith))
      ∙ off (omega arith)) in
      let s : r.start ≡ suc i = omega arith in
      let used = not_false (any (covers ρ i) L) (n.before i (omega arith) (omega arith)) in
      let unused = not_true (any (covers ρ (suc i)) L) (n.passes (suc i) (omega arith) (omega arith)) in
      let less = ends_less i (suc k) (suc end) (omega arith) (omega arith) L used unused in
      let more = runs_behind L N end rs n.inside (sym n.rest) n.after in
      omega arith

  runs_most : (L : Ledger) (N : ℕ) (rs : List Run) → runs_from (free ρ L) 0 (N - 0) ≡ rs
      → length rs ≤ suc (live_count L)
  runs_most L N [] e = omega arith
  runs_most L N (r ∷ rs) e =
      let n = runs_next (free ρ L) N 0 (omega arith) r rs e in
      let end = r.start + r.size in
      let behind = runs_behind L N end rs n.inside (sym n.rest) n.after in
      omega (arith, ends_live (suc end) L)

  pub runs_live : (W : ℕ) (L : Ledger) → length (free_runs ρ W L) ≤ suc (live_count L)
  unfolding free_runs
  runs_live W L =
      let N = W / ρ.unit in
      runs_most L N (runs_from (free ρ L) 0 N) (ap (runs_from (free ρ L) 0) (sub-zero N))

  pub runs_few : (W : ℕ) (L : Ledger) → length (free_runs ρ W L) ≤ suc (length L)
  runs_few W L = let few = runs_live W L in let live = live_few L in omega arith

-- ---- the runs after a release

-- no unit from s to s + m is in a run
abbrev Clear : ℕ → ℕ → List Run → Type 0
Clear s m rs = (u : ℕ) → s ≤ u → u < s + m → covered rs u ≡ false

-- such units lie wholly behind a run or wholly before it
clear_first : (s m : ℕ) (r : Run) (rs : List Run) → 1 ≤ m → 1 ≤ r.size → Clear s m (r ∷ rs)
    → s ≤ r.start + r.size → s ≢ r.start + r.size
    → s + m ≤ r.start
clear_first s m r rs a b c h n = go (dec_le (s + m) r.start)
  where
    go : Dec (s + m ≤ r.start) → s + m ≤ r.start
    go (yes x) = x
    go (no x) =
        let u : ℕ = max s r.start in
        absurd (true≢false (sym (in_first r rs u (omega arith) (omega arith)) ∙ c u (omega arith) (omega arith)))

gapped_add : (rs : List Run) (k e s m : ℕ) → Gapped k e rs → k ≤ s → 1 ≤ m → s + m ≤ e → Clear s m rs
    → Gapped k e (add_run s m rs)
gapped_add [] k e s m g a b c d = (a, b, c, tt)
gapped_add (r ∷ rs) k e s m g a b c d =
    go (ltb end s) refl (eqb end s) refl (eqb (s + m) r.start) refl
    (λ l. gapped_add rs (suc end) e s m g.3 l b c clear)
    (λ q. gapped_add rs k e r.start (r.size + m) (gapped_weaken k (suc end) e rs (omega arith) g.3) g.0
    (omega arith) (omega arith) (λ u x y. clear_left q u y (dec_le s u)))
  where
    end : ℕ
    end = r.start + r.size

    clear : Clear s m rs
    clear u x y = or_r (within r.start end u) (covered rs u) (d u x y)

    clear_left : end ≡ s → (u : ℕ) → u < r.start + (r.size + m) → Dec (s ≤ u) → covered rs u ≡ false
    clear_left q u y (yes x) = clear u x (omega arith)
    clear_left q u y (no x) = gapped_below (suc end) e rs g.3 u (omega arith)

    go : (x : Bool) → ltb end s ≡ x → (y : Bool) → eqb end s ≡ y → (z : Bool) → eqb (s + m) r.start ≡ z
        → (suc end ≤ s → Gapped (suc end) e (add_run s m rs))
        → (end ≡ s → Gapped k e (add_run r.start (r.size + m) rs))
        → Gapped k e (cond x (r ∷ add_run s m rs) (cond y (add_run r.start (r.size + m) rs)
        (cond z (run s (m + r.size) ∷ rs) (run s m ∷ r ∷ rs))))
    go true x y q z p h i = (g.0, g.1, g.2, h (lt_of end s x))
    go false x true q z p h i = i (eqb_eq end s q)
    go false x false q true p h i =
        let t : s + m ≡ r.start = eqb_eq (s + m) r.start p in
        (a, omega arith, omega arith, gapped_weaken (suc (s + (m + r.size))) (suc end) e rs (omega arith) g.3)
    go false x false q false p h i =
        let t : s + m ≢ r.start = eqb_false (s + m) r.start p in
        let n : end ≢ s = eqb_false end s q in
        let l = clear_first s m r rs b g.1 d (not_lt end s x) (λ o. n (sym o)) in
        (a, b, c, (omega arith, g.1, g.2, g.3))

or_left_comm : (a b c : Bool) → (a || (b || c)) ≡ (b || (a || c))
or_left_comm a b c = sym (or_assoc a b c) ∙ ap (λ d. d || c) (or_comm a b) ∙ or_assoc b a c

covered_add : (rs : List Run) (s m u : ℕ) → covered (add_run s m rs) u ≡ (covered rs u || within s (s + m) u)
covered_add [] s m u = or-false (within s (s + m) u)
covered_add (r ∷ rs) s m u =
    go (ltb end s) (eqb end s) refl (eqb (s + m) r.start) refl
    (covered_add rs s m u) (covered_add rs r.start (r.size + m) u)
  where
    end : ℕ
    end = r.start + r.size

    R : Bool
    R = within r.start end u

    C : Bool
    C = covered rs u

    M : Bool
    M = within s (s + m) u

    go : (x y : Bool) → eqb end s ≡ y → (z : Bool) → eqb (s + m) r.start ≡ z
        → covered (add_run s m rs) u ≡ (C || M)
        → covered (add_run r.start (r.size + m) rs) u ≡ (C || within r.start (r.start + (r.size + m)) u)
        → covered (cond x (r ∷ add_run s m rs) (cond y (add_run r.start (r.size + m) rs)
        (cond z (run s (m + r.size) ∷ rs) (run s m ∷ r ∷ rs)))) u ≡ (R || C || M)
    go true y q z p i j = rw i (sym (or_assoc R C M))
    go false true q z p i j =
        rw (j, within_join r.start r.size s m u (eqb_eq end s q)) (or_left_comm C R M ∙ sym (or_assoc R C M))
    go false false q true p i j =
        rw (within_join s m r.start r.size u (eqb_eq (s + m) r.start p)) (or_assoc M R C ∙ or_comm M (R || C))
    go false false q false p i j = or_comm M (R || C)

-- units s to s + m, none of which passed, come to pass
pub runs_after_release : (f g : ℕ → Bool) (N s m : ℕ) → 1 ≤ m → s + m ≤ N
    → ((u : ℕ) → s ≤ u → u < s + m → f u ≡ false)
    → ((u : ℕ) → u < N → g u ≡ (f u || within s (s + m) u)) → runs_from g 0 N ≡ add_run s m (runs_from f 0 N)
runs_after_release f g N s m a b off h =
    let rs = runs_from f 0 N in
    let old = runs_are f N in
    let clear : Clear s m rs = λ u x y. old.cover u (omega arith) ∙ off u x y in
    runs_unique g N (add_run s m rs) (record {
      gapped = gapped_add rs 0 N s m old.gapped (omega arith) a b clear;
      cover = λ u x. covered_add rs s m u ∙ ap (λ c. c || within s (s + m) u) (old.cover u x) ∙ sym (h u x);
    })

-- ---- the runs after a grant

module _ (m e : ℕ) (r : Run) (ys : List Run) (part : m ≤ r.size) where
  gapped_shorten : (k : ℕ) → Gapped k e (r ∷ ys) → Gapped (r.start + m) e (shorten m r ys)
  gapped_shorten k g = go (eqb m r.size) refl
    where
      go : (b : Bool) → eqb m r.size ≡ b
          → Gapped (r.start + m) e (cond b ys (run (r.start + m) (r.size - m) ∷ ys))
      go true q = gapped_weaken (r.start + m) (suc (r.start + r.size)) e ys (omega arith) g.3
      go false q =
          let n : m ≢ r.size = eqb_false m r.size q in
          let end : r.start + r.size ≡ r.start + m + (r.size - m) = omega arith in
          (omega arith, omega arith, omega arith, subst (λ j. Gapped (suc j) e ys) end g.3)

  gapped_cut : (xs : List Run) (k : ℕ) → Gapped k e (xs ++ r ∷ ys) → Gapped k e (xs ++ shorten m r ys)
  gapped_cut [] k g = gapped_weaken k (r.start + m) e (shorten m r ys) (omega arith) (gapped_shorten k g)
  gapped_cut (x ∷ xs) k g = (g.0, g.1, g.2, gapped_cut xs (suc (x.start + x.size)) g.3)

  later : (xs : List Run) (k : ℕ) → Gapped k e (xs ++ r ∷ ys) → k ≤ r.start
  later [] k g = g.0
  later (x ∷ xs) k g = let h = later xs (suc (x.start + x.size)) g.3 in omega arith

  module _ (u : ℕ) where
    abbrev taken : Bool
    taken = within r.start (r.start + m) u

    -- a run is the units taken from it and what is left
    covered_parts : covered (r ∷ ys) u ≡ (taken || covered (shorten m r ys) u)
    covered_parts = go (eqb m r.size) refl
      where
        go : (b : Bool) → eqb m r.size ≡ b
            → covered (r ∷ ys) u ≡ (taken || covered (cond b ys (run (r.start + m) (r.size - m) ∷ ys)) u)
        go true q = let z : r.size ≡ m = sym (eqb_eq m r.size q) in rw z
        go false q =
            let rest = within (r.start + m) (r.start + m + (r.size - m)) u in
            let z : r.size ≡ m + (r.size - m) = omega arith in
            ap (λ n. within r.start (r.start + n) u || covered ys u) z
            ∙ ap (λ b. b || covered ys u) (within_join r.start m (r.start + m) (r.size - m) u refl)
            ∙ or_assoc taken rest (covered ys u)

    covered_shorten : (k : ℕ) → Gapped k e (r ∷ ys) → covered (shorten m r ys) u ≡ (covered (r ∷ ys) u && not taken)
    covered_shorten k g = go taken refl ∙ ap (λ b. b && not taken) (sym covered_parts)
      where
        left : Bool
        left = covered (shorten m r ys) u

        go : (b : Bool) → taken ≡ b → left ≡ ((b || left) && not b)
        go true h =
            let (low, high) = within_of r.start (r.start + m) u h in
            gapped_below (r.start + m) e (shorten m r ys) (gapped_shorten k g) u high
        go false h = sym (and-true left)

    covered_cut : (xs : List Run) (k : ℕ) → Gapped k e (xs ++ r ∷ ys)
        → covered (xs ++ shorten m r ys) u ≡ (covered (xs ++ r ∷ ys) u && not taken)
    covered_cut [] k g = covered_shorten k g
    covered_cut (x ∷ xs) k g =
        go (within x.start (x.start + x.size) u) refl (covered_cut xs (suc (x.start + x.size)) g.3)
      where
        go : (b : Bool) → within x.start (x.start + x.size) u ≡ b
            → covered (xs ++ shorten m r ys) u ≡ (covered (xs ++ r ∷ ys) u && not taken)
            → (b || covered (xs ++ shorten m r ys) u) ≡ ((b || covered (xs ++ r ∷ ys) u) && not taken)
        go true h ih =
            let (low, high) = within_of x.start (x.start + x.size) u h in
            let next = later xs (suc (x.start + x.size)) g.3 in
            sym (ap not (within_low r.start (r.start + m) u (omega arith)))
        go false h ih = ih

-- the first m units of a run no longer pass
pub runs_after_grant : (f g : ℕ → Bool) (N m : ℕ) (xs : List Run) (r : Run) (ys : List Run)
    → runs_from f 0 N ≡ xs ++ r ∷ ys
    → m ≤ r.size → ((u : ℕ) → u < N → g u ≡ (f u && not (within r.start (r.start + m) u)))
    → runs_from g 0 N ≡ xs ++ shorten m r ys
runs_after_grant f g N m xs r ys e part h =
    let old : AreRuns f N (xs ++ r ∷ ys) = subst (AreRuns f N) e (runs_are f N) in
    runs_unique g N (xs ++ shorten m r ys) (record {
      gapped = gapped_cut m N r ys part xs 0 old.gapped;
      cover = λ u x.
          covered_cut m N r ys part u xs 0 old.gapped
          ∙ ap (λ b. b && not (within r.start (r.start + m) u)) (old.cover u x) ∙ sym (h u x);
    })

-- ---- the free runs of a ledger

-- k units from a on, without the first m
within_less : (a m k u : ℕ) → m ≤ k
    → (within a (a + k) u && not (within a (a + m) u)) ≡ within (a + m) (a + m + (k - m)) u
within_less a m k u l =
    let e : a + m + (k - m) ≡ a + k = omega arith in
    go (dec_le a u) (dec_le (a + m) u) (dec_le (a + k) u) ∙ ap (λ b. within (a + m) b u) (sym e)
  where
    go : Dec (a ≤ u) → Dec (a + m ≤ u) → Dec (a + k ≤ u)
        → (within a (a + k) u && not (within a (a + m) u)) ≡ within (a + m) (a + k) u
    go (no x) y w = rw (within_low a (a + k) u (omega arith), within_low (a + m) (a + k) u (omega arith))
    go (yes x) (no y) w =
        rw (within_in a (a + m) u x (omega arith), within_low (a + m) (a + k) u (omega arith))
        (and-false (within a (a + k) u))
    go (yes x) (yes y) (yes w) = rw (within_high a (a + k) u w, within_high (a + m) (a + k) u w)
    go (yes x) (yes y) (no w) =
        rw (
          within_in a (a + k) u x (omega arith),
          within_high a (a + m) u y,
          within_in (a + m) (a + k) u y (omega arith),
        )

within_none : (a b u : ℕ) → b ≤ a → within a b u ≡ false
within_none a b u h = go (dec_le b u)
  where
    go : Dec (b ≤ u) → within a b u ≡ false
    go (yes x) = within_high a b u x
    go (no x) = within_low a b u (omega arith)

module _ (ρ : Rule) (pos : 0 < ρ.unit) where
  covers_live : (r : Row) → r.ticket ≢ 0 → (u : ℕ)
      → covers ρ u r ≡ within (first ρ r) (first ρ r + span ρ r.words) u
  unfolding covers past
  covers_live r z u = rw (eqb_ne r.ticket 0 z)

  pub kept_few : (q : Plan) (r : Row) → feasible q r ≡ true → kept_units ρ q ≤ span ρ r.words
  kept_few vacate r h = omega arith
  kept_few (keep n) r h = span_mono ρ pos n r.words (le_of n r.words (and_r (leb 1 n) (leb n r.words) h))

  -- the units that a plan frees are the tail
  pub freed_tail : (q : Plan) (r : Row) → feasible q r ≡ true → r.ticket ≢ 0 → (u : ℕ)
      → freed_by ρ q r u
      ≡ within (first ρ r + kept_units ρ q) (first ρ r + kept_units ρ q + tail_units ρ q r) u
  unfolding covers first
  freed_tail vacate r h z u =
      rw (covers_live r z u, and-true (within (first ρ r) (first ρ r + span ρ r.words) u))
      (ap₂ (λ (a b : ℕ). within a b u) (omega arith) (omega arith))
  freed_tail (keep n) r h z u =
      rw (h, covers_live r z u, covers_live (shortened n r) z u)
      (within_less (first ρ r) (span ρ n) (span ρ r.words) u (kept_few (keep n) r h))

  -- a release or a trim makes a run of the units that it frees, if there are any
  pub free_runs_settle : (W next : ℕ) (L : Ledger) → valid ρ W next L ≡ true → (t : ℕ) (q : Plan) (r : Row)
      → record_of t L ≡ some r → feasible q r ≡ true → 0 < tail_units ρ q r
      → free_runs ρ W (settle (member t q ∷ []) L)
      ≡ add_run (first ρ r + kept_units ρ q) (tail_units ρ q r) (free_runs ρ W L)
  unfolding free_runs past
  free_runs_settle W next L good t q r e suit long =
      let facts = valid_record ρ pos W next L good t r e in
      let k = first ρ r + kept_units ρ q in
      let m = tail_units ρ q r in
      let units = facts.units in
      let block : (u : ℕ) → k ≤ u → u < k + m → covers ρ u r ≡ true =
      λ u a b. covers_in ρ u r facts.live (omega arith) (omega arith) in
      runs_after_release (free ρ L) (free ρ (settle (member t q ∷ []) L)) (W / ρ.unit) k m long (omega arith)
      (λ u a b. free_not ρ t L r e u (block u a b))
      (λ u b. free_settle ρ pos W next L good t q r e u
      ∙ ap (λ c. free ρ L u || c) (freed_tail q r suit facts.ticket u))

  pub free_runs_stay : (W next : ℕ) (L : Ledger) → valid ρ W next L ≡ true → (t : ℕ) (q : Plan) (r : Row)
      → record_of t L ≡ some r → feasible q r ≡ true → tail_units ρ q r ≡ 0
      → free_runs ρ W (settle (member t q ∷ []) L) ≡ free_runs ρ W L
  unfolding free_runs
  free_runs_stay W next L good t q r e suit empty =
      let rest = settle (member t q ∷ []) L in
      let k = first ρ r + kept_units ρ q in
      let old = runs_are (free ρ L) (W / ρ.unit) in
      let none : (u : ℕ) → freed_by ρ q r u ≡ false =
      λ u. freed_tail q r suit (valid_record ρ pos W next L good t r e).ticket u
      ∙ within_none k (k + tail_units ρ q r) u (omega arith) in
      runs_unique (free ρ rest) (W / ρ.unit) (runs_from (free ρ L) 0 (W / ρ.unit))
      (record {
        gapped = old.gapped;
        cover = λ u b.
            old.cover u b
            ∙ sym (free_settle ρ pos W next L good t q r e u ∙ ap (λ c. free ρ L u || c) (none u) ∙ or-false (free ρ L u));
      })

  -- a grant takes the new record's units from the run that begins with them
  pub free_runs_enter : (W : ℕ) (L : Ledger) → full L ≡ false → (t n c : ℕ) → t ≢ 0
      → (xs : List Run) (r : Run) (ys : List Run) → free_runs ρ W L ≡ xs ++ r ∷ ys → span ρ n ≤ r.size
      → free_runs ρ W (enter (row t (address_at ρ r.start) n c) L) ≡ xs ++ shorten (span ρ n) r ys
  unfolding free_runs
  free_runs_enter W L room t n c z xs r ys e part =
      let k = r.start in
      let new = row t (address_at ρ k) n c in
      let live : (u : ℕ) → covers ρ u new ≡ within k (k + span ρ n) u =
      λ u. covers_live new z u ∙ ap (λ j. within j (j + span ρ n) u) (first_new ρ pos t k n c) in
      runs_after_grant (free ρ L) (free ρ (enter new L)) (W / ρ.unit) (span ρ n) xs r ys e part
      (λ u b. free_enter ρ new L room u ∙ ap (λ x. free ρ L u && not x) (live u))
