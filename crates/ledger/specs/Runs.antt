-- The maximal free runs, in address order. 01: "A free run is always the longest possible: no two free blocks touch."
-- What makes the list right is `AreRuns`; that it is the only such list is `runs_unique` in proofs/RunLaws. Assumes
-- nothing.
use Rattle.std.specs.Prelude.{ℕ, zero, suc, ◌+◌, ◌-◌, ◌/◌, ◌≤◌, ◌<◌, ◌≡◌, Bool, false, cond, ◌||◌, List, [], ◌∷◌, eqb, ltb}
use Rattle.words.specs.Counted.{within}
use Rattle.ledger.specs.Records.{Ledger, is_live}
use Rattle.ledger.specs.declared.Rule.{Rule}
use Rattle.ledger.specs.Units.{free}

-- A run of units: where it begins and how long it is.
pub record Run : Type 0 where
  pub start : ℕ
  pub size : ℕ

abbrev pub run : ℕ → ℕ → Run
run s z = record { start = s; size = z }

-- unit k, free, before runs that all begin past it
abbrev pub grow : ℕ → List Run → List Run
grow k [] = run k 1 ∷ []
grow k (r ∷ rs) = cond (eqb r.start (suc k)) (run k (suc r.size) ∷ rs) (run k 1 ∷ r ∷ rs)

-- the maximal runs of units that pass, among the n units from k on
abbrev pub runs_from : (ℕ → Bool) → ℕ → ℕ → List Run
runs_from f k zero = []
runs_from f k (suc n) = let rest = runs_from f (suc k) n in cond (f k) (grow k rest) rest

-- the free runs of an arena of W words
unfoldable pub free_runs : Rule → ℕ → Ledger → List Run
free_runs ρ W L = runs_from (free ρ L) 0 (W / ρ.unit)

-- unit u lies in a run of the list
abbrev pub covered : List Run → ℕ → Bool
covered [] u = false
covered (r ∷ rs) u = within r.start (r.start + r.size) u || covered rs u

-- runs from unit k up to unit e, none empty, with a gap before each but the first
abbrev pub Gapped : ℕ → ℕ → List Run → Type 0
Gapped k e [] = Unit {0}
Gapped k e (r ∷ rs) = (k ≤ r.start) × (1 ≤ r.size) × (r.start + r.size ≤ e)
    × Gapped (suc (r.start + r.size)) e rs

-- `rs` are the maximal runs of the units below N that pass
pub record AreRuns (f : ℕ → Bool) (N : ℕ) (rs : List Run) : Type 0 where
  pub gapped : Gapped 0 N rs
  pub cover : (u : ℕ) → u < N → covered rs u ≡ f u

-- ---- after a change

-- The runs with units s to s + m, of which none was in a run, made a run: it takes in a run that ends at s and one
-- that begins at s + m, so that no two touch.
abbrev pub add_run : ℕ → ℕ → List Run → List Run
add_run s m [] = run s m ∷ []
add_run s m (r ∷ rs) =
    cond (ltb (r.start + r.size) s) (r ∷ add_run s m rs)
    (cond (eqb (r.start + r.size) s) (add_run r.start (r.size + m) rs)
    (cond (eqb (s + m) r.start) (run s (m + r.size) ∷ rs) (run s m ∷ r ∷ rs)))

-- a run without its first m units, before others: gone where it had no more
abbrev pub shorten : ℕ → Run → List Run → List Run
shorten m r rs = cond (eqb m r.size) rs (run (r.start + m) (r.size - m) ∷ rs)

-- the live records of a ledger
abbrev pub live_count : Ledger → ℕ
live_count [] = 0
live_count (r ∷ L) = cond (is_live r) (suc (live_count L)) (live_count L)
