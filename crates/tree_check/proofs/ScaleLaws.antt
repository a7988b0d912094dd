-- Free blocks in cells, p to a unit, and records in units: if together they have as many cells as the arena, the table is
-- a valid ledger's and the blocks its free runs, each a whole number of units. Assumes nothing.
use Prim.Native.Nat.{ℕ, ◌+◌, ◌*◌, ◌/◌, ◌≤◌, ◌<◌}
use native.Mathlib.Nat.{add-mul, zero-mul, mul-le-mul_right, mul-div_cancel, div-lt_iff_lt-mul}
use native.Mathlib.Omega.{arith}
use mathlib.Core.Path.{◌≡◌, refl, sym, ap, ◌∙◌, subst}
use mathlib.Core.Bool.{Bool, true, false}
use mathlib.Core.List.{List, [], ◌∷◌, map}
use Rattle.words.specs.Lists.{Words}
use Rattle.words.proofs.SumLaws.{sum_tight}
use Rattle.ledger.specs.declared.Rule.{Rule}
use Rattle.ledger.specs.Records.{Ledger, records_of, slots}
use Rattle.ledger.specs.Units.{free, valid}
use Rattle.ledger.specs.Runs.{Run, covered, free_runs, AreRuns, Gapped}
use Rattle.ledger.proofs.RunLaws.{runs_are, gapped_unique}
use Rattle.stored_forms.proofs.FreeTreeLaws.{scaled, gapped_scaled, covered_scaled}
use Rattle.record_table.specs.Partition.{Entered, Partitioned, total}
use Rattle.record_table.proofs.PartitionLaws.{one, count_runs, partition_most, partition_valid}

-- the cells of runs of units
pub total_scaled : (p : ℕ) → 0 < p → (rs : List Run) → total (map (scaled p) rs) ≡ total rs * p
total_scaled p some [] = sym (zero-mul p)
total_scaled p some (r ∷ rs) =
    let rest = total_scaled p some rs in
    omega (arith, add-mul r.size (total rs) p)

-- a factor that both sides have
scaled_same : (p : ℕ) → 0 < p → {a b : ℕ} → a * p ≡ b * p → a ≡ b
scaled_same p some {a} {b} e = sym (mul-div_cancel a some) ∙ ap (λ n. n / p) e ∙ mul-div_cancel b some

module _ (ρ : Rule) (unit : 0 < ρ.unit) (p : ℕ) (some : 0 < p) (W : ℕ) (t : Words) where
  abbrev L : Ledger
  L = records_of t

  abbrev N : ℕ
  N = W / ρ.unit

  abbrev rs : List Run
  rs = free_runs ρ W L

  -- the runs of units that no record covers
  pub free_are : AreRuns (free ρ L) N rs
  unfolding free_runs
  free_are = runs_are (free ρ L) N

  -- and their cells
  pub cells_gapped : Gapped 0 (N * p) (map (scaled p) rs)
  cells_gapped =
      subst (λ k. Gapped k (N * p) (map (scaled p) rs)) (zero-mul p) (gapped_scaled p some 0 N rs free_are.gapped)

  cells_covered : (c : ℕ) → c < N * p → covered (map (scaled p) rs) c ≡ free ρ L (c / p)
  cells_covered c h = covered_scaled p some rs c ∙ free_are.cover (c / p) ((div-lt_iff_lt-mul some).1 h)

  module _ (next held : ℕ) (entered : Entered ρ W next t (slots t) held) (qs : List Run) (gapped : Gapped 0 (N * p) qs)
      (rest : (c : ℕ) → c < N * p → covered qs c ≡ false → free ρ L (c / p) ≡ false)
      (exact : total qs + held * p ≡ N * p) where
    partitioned : Partitioned ρ L N rs
    partitioned = record { gapped = free_are.gapped; held = λ u l e. sym (free_are.cover u l) ∙ e }

    -- a cell of a free unit lies in a block
    part : (c : ℕ) → c < N * p → one (covered (map (scaled p) rs) c) ≤ one (covered qs c)
    part c h = go (covered qs c) (covered (map (scaled p) rs) c) (λ e. cells_covered c h ∙ rest c h e)
      where
        go : (a b : Bool) → (a ≡ false → b ≡ false) → one b ≤ one a
        go true true f = omega arith
        go true false f = omega arith
        go false b f = let none = ap one (f refl) in omega arith

    -- there are no more such cells, so that no others do
    same : (c : ℕ) → c < N * p → covered qs c ≡ covered (map (scaled p) rs) c
    same c h =
        let cs = map (scaled p) rs in
        let most = mul-le-mul_right p (partition_most ρ unit W next held t rs entered partitioned) in
        go (covered qs c) (covered cs c)
        (sum_tight (λ k. one (covered cs k)) (λ k. one (covered qs k)) (N * p) part
        (omega (
          arith,
          most,
          add-mul (total rs) held p,
          count_runs 0 (N * p) qs gapped,
          count_runs 0 (N * p) cs cells_gapped,
          total_scaled p some rs,
        )) c h)
      where
        go : (a b : Bool) → one a ≡ one b → a ≡ b
        go true true e = refl
        go true false e = absurd (omega arith)
        go false true e = absurd (omega arith)
        go false false e = refl

    blocks_are : qs ≡ map (scaled p) rs
    blocks_are = gapped_unique 0 (N * p) qs (map (scaled p) rs) gapped cells_gapped (λ c a b. same c b)

    full : total rs + held ≡ N
    full =
        scaled_same p some
        (omega (arith, add-mul (total rs) held p, total_scaled p some rs, ap total blocks_are))

    pub blocks_valid : (valid ρ W next L ≡ true) × (qs ≡ map (scaled p) rs)
    blocks_valid = ((partition_valid ρ unit W next held t rs entered partitioned full).0, blocks_are)
