-- Laws of spans that lead from unit to unit: in a valid ledger they lead through all units that are held. Assumes
-- nothing.
use Prim.Native.Nat.{ℕ, zero, suc, ◌+◌, ◌-◌, ◌/◌, ◌≤◌, ◌<◌}
use native.Mathlib.Decide.{dec_lt, ℕ_discrete}
use native.Mathlib.Omega.{arith}
use mathlib.Core.Path.{◌≡◌, sym, ap, ◌∙◌, subst}
use mathlib.Core.Bool.{true, false, not, true≢false}
use Rattle.words.specs.Lists.{Words}
use Rattle.words.proofs.Tests.{not_true, not_false}
use Rattle.words.proofs.CountedLaws.{every_fails}
use Rattle.ledger.specs.declared.Row.{Row}
use Rattle.ledger.specs.declared.Rule.{Rule}
use Rattle.ledger.specs.Records.{record_at, slots, records_of, is_empty, is_live}
use Rattle.ledger.specs.Units.{first, past, valid, covers, free}
use Rattle.ledger.proofs.UnitLaws.{Fitted, fits_facts, covers_in, covers_of}
use Rattle.record_table.specs.Leads.{Leading, here, more, LedThrough, Edge}
use Rattle.record_table.proofs.PartitionLaws.{valid_row, held_by, free_slots, no_share}

-- ---- a walk along spans

module _ {span : ℕ → ℕ → Type 0} where
  pub leads_up : {hi lo : ℕ} → Leading span hi lo → lo ≤ hi
  leads_up (here e) = omega arith
  leads_up (more s x) = let up = leads_up x in omega arith

  pub leads_join : {b a c : ℕ} → Leading span b a → Leading span c b → Leading span c a
  leads_join {b} {a} {c} (here e) y = subst (Leading span c) (sym e) y
  leads_join (more s x) y = more s (leads_join x y)

-- ---- a valid ledger

module _ (ρ : Rule) (pos : 0 < ρ.unit) (W next : ℕ) (t : Words) (good : valid ρ W next (records_of t) ≡ true) where
  abbrev row : ℕ → Row
  row j = record_at t j

  row_facts : (j : ℕ) → j < slots t → is_live (row j) ≡ true → Fitted ρ W next (row j)
  row_facts j h live =
      let some = not_true (is_empty (row j)) live in
      fits_facts ρ pos W next (row j) (rw some at (valid_row ρ pos W next t good j h))

  pub edge_zero : Edge ρ t 0
  edge_zero j h live a b = omega arith

  -- nothing lies past the last unit
  pub edge_end : Edge ρ t (W / ρ.unit)
  edge_end j h live a b = omega (arith, (row_facts j h live).units)

  -- a free unit ends no record's part, nor does one begin behind it
  pub edge_free : (k : ℕ) → free ρ (records_of t) k ≡ true → Edge ρ t k
  edge_free k e j h live a b =
      true≢false (sym e ∙ held_by ρ t j k h (covers_in ρ k (row j) live (omega arith) b))

  pub edge_behind : (k : ℕ) → free ρ (records_of t) k ≡ true → Edge ρ t (suc k)
  edge_behind k e j h live a b =
      true≢false (sym e ∙ held_by ρ t j k h (covers_in ρ k (row j) live (omega arith) (omega arith)))

  -- where a record ends none goes on
  edge_past : (i : ℕ) → i < slots t → is_live (row i) ≡ true → Edge ρ t (past ρ (row i))
  edge_past i g held j h live a b = go (ℕ_discrete i j)
    where
      u : ℕ
      u = past ρ (row i) - 1

      go : Dec (i ≡ j) → ⊥
      go (yes e) = omega (arith, ap (λ k. past ρ (row k)) e)
      go (no e) =
          let some = (row_facts i g held).nonempty in
          no_share ρ pos W next t good i j g h e u (covers_in ρ u (row i) held (omega arith) (omega arith))
          (covers_in ρ u (row j) live (omega arith) (omega arith))

  module _ (span : ℕ → ℕ → Type 0) (led : LedThrough ρ t span (slots t)) where
    -- through units that are all held, from edge to edge
    pub held_leads : (n lo hi : ℕ) → hi ≤ lo + n → lo ≤ hi → Edge ρ t lo → Edge ρ t hi
        → ((u : ℕ) → lo ≤ u → u < hi → free ρ (records_of t) u ≡ false) → Leading span hi lo
    held_leads zero lo hi l up a b h = here {k = lo} (omega arith)
    held_leads (suc n) lo hi l up a b h =
        go (λ mid x y z. held_leads n mid hi x y z b) (ℕ_discrete lo hi)
      where
        Onward : Type 0
        Onward =
            (mid : ℕ) → hi ≤ mid + n → mid ≤ hi → Edge ρ t mid
            → ((u : ℕ) → mid ≤ u → u < hi → free ρ (records_of t) u ≡ false) → Leading span hi mid

        step : Onward → (j : ℕ) → j < slots t → is_live (row j) ≡ true → first ρ (row j) ≤ lo → lo < past ρ (row j)
            → lo < hi → Dec (first ρ (row j) < lo) → Dec (hi < past ρ (row j)) → Leading span hi lo
        step ih j g live low high some (yes d) q = absurd (a j g live d high)
        step ih j g live low high some (no d) (yes q) = absurd (b j g live (omega arith) q)
        step ih j g live low high some (no d) (no q) =
            let start : first ρ (row j) ≡ lo = omega arith in
            leads_join (subst (Leading span (past ρ (row j))) start (led j g live))
            (ih (past ρ (row j)) (omega arith) (omega arith) (edge_past j g live) (λ u x y. h u (omega arith) y))

        go : Onward → Dec (lo ≡ hi) → Leading span hi lo
        go ih (yes e) = here {k = lo} e
        go ih (no e) =
            let none = sym (free_slots ρ t lo) ∙ h lo (omega arith) (omega arith) in
            let (j, x, y, c) = every_fails (λ k. not (covers ρ lo (row k))) 0 (slots t) none in
            let (live, low, high) = covers_of ρ lo (row j) (not_false (covers ρ lo (row j)) c) in
            step ih j (omega arith) live low high (omega arith) (dec_lt (first ρ (row j)) lo)
            (dec_lt hi (past ρ (row j)))
