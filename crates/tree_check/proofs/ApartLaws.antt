-- A valid table whose records the map leads through: its free runs lie apart from the first cell to the last, with
-- records between them. Assumes nothing.
use Prim.Native.Nat.{ℕ, suc, ◌+◌, ◌-◌, ◌*◌, ◌/◌, ◌≤◌, ◌<◌}
use native.Mathlib.Decide.{ℕ_discrete}
use native.Mathlib.Nat.{add-mul, suc-mul, zero-mul, mul-le-mul_right, mul-lt-mul_of_pos_right}
use native.Mathlib.Omega.{arith}
use mathlib.Core.Path.{◌≡◌, refl, sym, ap, ◌∙◌, subst}
use mathlib.Core.Bool.{Bool, true, false, ◌||◌}
use mathlib.Core.List.{List, [], ◌∷◌, map}
use Rattle.words.specs.Lists.{Words, all}
use Rattle.words.proofs.Tests.{and_i, of_lt, within_in, within_high}
use Rattle.ledger.specs.declared.Rule.{Rule}
use Rattle.ledger.specs.Records.{records_of, slots}
use Rattle.ledger.specs.Units.{past, valid, free}
use Rattle.ledger.specs.Runs.{Run, Gapped, covered}
use Rattle.ledger.proofs.RunLaws.{gapped_below}
use Rattle.stored_forms.proofs.FreeTreeLaws.{scaled}
use Rattle.record_table.specs.Leads.{Leading, here, more, LedThrough, Edge}
use Rattle.record_table.proofs.LeadLaws.{leads_join, edge_zero, edge_end, edge_free, edge_behind, held_leads}
use Rattle.tree_check.specs.Maps.{Leads, Led}
use Rattle.tree_check.specs.Walk.{earliest, under, Apart, ends}

-- runs in the arena are no longer than it
pub gapped_short : (k N : ℕ) (rs : List Run) → Gapped k N rs → all (under (N + 1)) rs ≡ true
gapped_short k N [] g = refl
gapped_short k N (r ∷ rs) g =
    let high = g.2 in
    and_i (under (N + 1) r) (all (under (N + 1)) rs) (of_lt r.size (N + 1) (omega arith))
    (gapped_short (suc (r.start + r.size)) N rs g.3)

-- spans in units, of p cells: the map leads through their cells
abbrev InCells : ℕ → Words → ℕ → ℕ → Type 0
InCells p spans k n = Leads spans (k * p) ((k + n) * p)

cells_lead : (p : ℕ) (spans : Words) {hi lo : ℕ} → Leading (InCells p spans) hi lo → Leads spans (lo * p) (hi * p)
cells_lead p spans {hi} {lo} (here e) = here {k = lo * p} (ap (λ k. k * p) e)
cells_lead p spans (more s x) = leads_join s (cells_lead p spans x)

module _ (ρ : Rule) (unit : 0 < ρ.unit) (p : ℕ) (per : 0 < p) (W next : ℕ) (t spans : Words)
    (good : valid ρ W next (records_of t) ≡ true) (led : Led ρ p t spans (slots t)) where
  abbrev N : ℕ
  N = W / ρ.unit

  abbrev free_at : ℕ → Bool
  free_at = free ρ (records_of t)

  led_units : LedThrough ρ t (InCells p spans) (slots t)
  unfolding past
  led_units j l live = more (led j l live) (here refl)

  leads : (lo hi : ℕ) → lo ≤ hi → Edge ρ t lo → Edge ρ t hi
      → ((u : ℕ) → lo ≤ u → u < hi → free_at u ≡ false) → Leads spans (lo * p) (hi * p)
  leads lo hi up a b h =
      cells_lead p spans (held_leads ρ unit W next t good (InCells p spans) led_units hi lo hi (omega arith) up a b h)

  -- a gap of a unit is one of a cell
  earliest_cell : (k s : ℕ) → earliest k ≤ s → earliest (k * p) ≤ s * p
  earliest_cell k s h = go (ℕ_discrete k 0)
    where
      go : Dec (k ≡ 0) → earliest (k * p) ≤ s * p
      go (yes e) = let none : k * p ≡ 0 = ap (λ n. n * p) e ∙ zero-mul p in omega arith
      go (no e) = omega (arith, suc-mul k p, mul-le-mul_right {m = suc k} {n = s} p (omega arith))

  -- the free runs from an edge on
  apart_from : (k : ℕ) (rs : List Run) → k ≤ N → Edge ρ t k → Gapped (earliest k) N rs
      → ((u : ℕ) → k ≤ u → u < N → covered rs u ≡ free_at u)
      → Apart spans (k * p) (map (scaled p) rs) × Leads spans (ends (k * p) (map (scaled p) rs)) (N * p)
  apart_from k [] h edge g is =
      (tt, leads k N h edge (edge_end ρ unit W next t good) (λ u a b. sym (is u a b)))
  apart_from k (r ∷ rs) h edge g is =
      let apart = g.0 in
      let some = g.1 in
      let high = g.2 in
      let end = r.start + r.size in
      let inside : (u : ℕ) → r.start ≤ u → u < end → free_at u ≡ true = λ u a b.
      sym (is u (omega arith) (omega arith))
      ∙ ap (λ (c : Bool). c || covered rs u) (within_in r.start end u a b) in
      let before = leads k r.start (omega arith) edge
      (edge_free ρ unit W next t good r.start (inside r.start (omega arith) (omega arith)))
      (λ u a b. sym (is u a (omega arith)) ∙ gapped_below r.start N (r ∷ rs) (omega arith, some, high, g.3) u b)
      in
      let past : suc (end - 1) ≡ end = omega arith in
      let behind = subst (Edge ρ t) past
      (edge_behind ρ unit W next t good (end - 1) (inside (end - 1) (omega arith) (omega arith))) in
      let gap : suc end ≡ earliest end = omega arith in
      let (more-apart, last) = apart_from end rs high behind (subst (λ j. Gapped j N rs) gap g.3)
      (λ u a b. sym (ap (λ (c : Bool). c || covered rs u) (within_high r.start end u a)) ∙ is u (omega arith) b)
      in
      let long = mul-lt-mul_of_pos_right some per in
      let cells = add-mul r.start r.size p in (
        (
          earliest_cell k r.start apart,
          before,
          omega (arith, zero-mul p),
          subst (λ e. Apart spans e (map (scaled p) rs)) cells more-apart,
        ),
        subst (λ e. Leads spans (ends e (map (scaled p) rs)) (N * p)) cells last,
      )

  pub apart_all : (rs : List Run) → Gapped 0 N rs → ((u : ℕ) → u < N → covered rs u ≡ free_at u)
      → Apart spans 0 (map (scaled p) rs) × Leads spans (ends 0 (map (scaled p) rs)) (N * p)
  apart_all rs g is =
      subst (λ k. Apart spans k (map (scaled p) rs) × Leads spans (ends k (map (scaled p) rs)) (N * p)) (zero-mul p)
      (apart_from 0 rs (omega arith) (edge_zero ρ unit W next t good) g (λ u a b. is u b))
