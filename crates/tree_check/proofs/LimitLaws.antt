-- A node between two trees whose runs are shorter than a limit. Assumes nothing.
use Prim.Native.Nat.{ℕ, ◌+◌, ◌≤◌, ◌<◌}
use native.Mathlib.Omega.{arith}
use mathlib.Core.Path.{◌≡◌}
use mathlib.Core.Bool.{true}
use mathlib.Core.List.{◌∷◌}
use Rattle.words.specs.Lists.{all}
use Rattle.words.proofs.Tests.{and_i, of_le, of_lt, lt_of}
use Rattle.words.proofs.ListLaws.{all_imp, all_append}
use Rattle.ledger.specs.Runs.{Run, run}
use Rattle.stored_forms.specs.Tree.{Tree, node, inorder, no_longer_than, Heaped}
use Rattle.tree_check.specs.Walk.{under}

-- runs shorter than a limit are shorter than every limit that is no less
under_imp : (y z : ℕ) → y ≤ z → (r : Run) → under y r ≡ true → under z r ≡ true
under_imp y z h r e = of_lt r.size z (omega (arith, lt_of r.size y e))

-- "shorter than one more" is "no longer"
under_longer : (q r : Run) → under (q.size + 1) r ≡ true → no_longer_than q r ≡ true
under_longer q r e = of_le r.size q.size (omega (arith, lt_of r.size (q.size + 1) e))

-- shorter runs to the left, none longer to the right
module _ (a b : Tree) (c z : ℕ) (low : all (under z) (inorder a) ≡ true)
    (high : all (under (z + 1)) (inorder b) ≡ true) where
  pub node_heaped : Heaped a → Heaped b → Heaped (node a (run c z) b)
  node_heaped x y =
      (low, all_imp (under (z + 1)) (no_longer_than (run c z)) (under_longer (run c z)) (inorder b) high, x, y)

  pub node_short : (limit : ℕ) → z < limit → all (under limit) (inorder (node a (run c z) b)) ≡ true
  node_short limit h =
      all_append (under limit) (inorder a) (run c z ∷ inorder b)
      (all_imp (under z) (under limit) (under_imp z limit (omega arith)) (inorder a) low)
      (and_i (under limit (run c z)) (all (under limit) (inorder b)) (of_lt z limit h)
      (all_imp (under (z + 1)) (under limit) (under_imp (z + 1) limit (omega arith)) (inorder b) high))
