-- Runs with gaps between them. Assumes nothing.
use Prim.Native.Nat.{ℕ, suc, ◌+◌, ◌≤◌}
use native.Mathlib.Omega.{arith}
use mathlib.Core.List.{List, [], ◌∷◌, ◌++◌}
use Rattle.ledger.specs.Runs.{Run, Gapped}
use Rattle.ledger.proofs.RunLaws.{gapped_weaken}
use Rattle.tree_check.specs.Walk.{earliest}

pub gapped_wider : (a e N : ℕ) (xs : List Run) → e ≤ N → Gapped a e xs → Gapped a N xs
gapped_wider a e N [] h g = tt
gapped_wider a e N (r ∷ rs) h g =
    (g.0, g.1, omega arith, gapped_wider (suc (r.start + r.size)) e N rs h g.3)

-- runs up to cell e, and runs behind it
pub gapped_join : (a e N : ℕ) (xs ys : List Run) → a ≤ earliest e → e ≤ N → Gapped a e xs → Gapped (earliest e) N ys
    → Gapped a N (xs ++ ys)
gapped_join a e N [] ys l h g k = gapped_weaken a (earliest e) N ys l k
gapped_join a e N (r ∷ rs) ys l h g k = (
  g.0,
  g.1,
  omega arith,
  gapped_join (suc (r.start + r.size)) e N rs ys (omega arith) h g.3 k,
)
