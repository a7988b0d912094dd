-- Laws of the units of records, and of the map that they are marked in. Assumes nothing.
use Prim.Native.Nat.{ℕ, ◌≤◌, ◌<◌}
use native.Mathlib.Decide.{dec_le}
use native.Mathlib.Omega.{arith}
use mathlib.Core.Path.{◌≡◌, refl}
use mathlib.Core.Bool.{Bool, true, false, ◌||◌}
use lib.Dec.{leb}
use Rattle.words.proofs.Tests.{not_true, of_not, le_of, not_le}
use Rattle.ledger.specs.declared.Row.{Row}
use Rattle.ledger.specs.declared.Rule.{Rule}
use Rattle.ledger.specs.Records.{is_empty, is_live}
use Rattle.ledger.specs.Units.{first, past, covers}
use Rattle.ledger.proofs.UnitLaws.{covers_in, covers_of}
use Rattle.record_table.specs.Checks.{beside, Inside}

-- ---- two records beside each other share no unit

module _ (ρ : Rule) (r s : Row) where
  pub beside_unit : beside ρ r s ≡ true → (u : ℕ) → covers ρ u r ≡ true → covers ρ u s ≡ true → ⊥
  unfolding beside
  beside_unit e u x y =
      let (live-r, low-r, high-r) = covers_of ρ u r x in
      let (live-s, low-s, high-s) = covers_of ρ u s y in
      go low-r high-r low-s high-s (leb (past ρ r) (first ρ s)) refl
      (rw (not_true (is_empty r) live-r, not_true (is_empty s) live-s) at e)
    where
      go : first ρ r ≤ u → u < past ρ r → first ρ s ≤ u → u < past ρ s
          → (b : Bool) → leb (past ρ r) (first ρ s) ≡ b → (b || leb (past ρ s) (first ρ r)) ≡ true → ⊥
      go a b c d true q e = omega (arith, le_of (past ρ r) (first ρ s) q)
      go a b c d false q e = omega (arith, le_of (past ρ s) (first ρ r) e)

  pub unit_beside : (N : ℕ) → Inside ρ N r → Inside ρ N s
      → ((u : ℕ) → covers ρ u r ≡ true → covers ρ u s ≡ true → ⊥) → beside ρ r s ≡ true
  unfolding beside
  unit_beside N in-r in-s h = go (is_empty r) (is_empty s) refl refl
    where
      -- where neither ends before the other begins, the later first unit is shared
      clash : is_live r ≡ true → is_live s ≡ true → first ρ s < past ρ r → first ρ r < past ρ s
          → Dec (first ρ r ≤ first ρ s) → ⊥
      clash live-r live-s a b (yes c) =
          let u = first ρ s in
          h u (covers_in ρ u r live-r c a) (covers_in ρ u s live-s (omega arith) (in-s live-s).0)
      clash live-r live-s a b (no c) =
          let u = first ρ r in
          h u (covers_in ρ u r live-r (omega arith) (in-r live-r).0) (covers_in ρ u s live-s (omega arith) b)

      part : is_live r ≡ true → is_live s ≡ true
          → (a b : Bool) → leb (past ρ r) (first ρ s) ≡ a → leb (past ρ s) (first ρ r) ≡ b → (a || b) ≡ true
      part live-r live-s true b x y = refl
      part live-r live-s false true x y = refl
      part live-r live-s false false x y =
          let a = not_le (past ρ r) (first ρ s) x in
          let b = not_le (past ρ s) (first ρ r) y in
          absurd (clash live-r live-s a b (dec_le (first ρ r) (first ρ s)))

      go : (a b : Bool) → is_empty r ≡ a → is_empty s ≡ b
          → (a || b || (leb (past ρ r) (first ρ s) || leb (past ρ s) (first ρ r))) ≡ true
      go true b x y = refl
      go false true x y = refl
      go false false x y =
          part (of_not (is_empty r) x) (of_not (is_empty s) y)
          (leb (past ρ r) (first ρ s)) (leb (past ρ s) (first ρ r)) refl refl
