-- The join of two trees: it has the runs of both, in order, and no son longer than its father. Assumes nothing.
use Prim.Native.Nat.{ℕ, ◌+◌, ◌≤◌, ◌<◌}
use native.Mathlib.Omega.{arith}
use mathlib.Core.Path.{◌≡◌, refl, sym, ap, ◌∙◌}
use mathlib.Core.Bool.{Bool, true, false, cond}
use mathlib.Core.List.{List, ◌∷◌, ◌++◌, append_assoc, append-nil}
use lib.Dec.{leb}
use Rattle.words.specs.Lists.{all}
use Rattle.words.proofs.Tests.{and_i, le_of, of_le, lt_of, of_lt, not_le, of_gt}
use Rattle.words.proofs.ListLaws.{all_imp, all_append}
use Rattle.ledger.specs.Runs.{Run}
use Rattle.stored_forms.specs.Tree.{Tree, leaf, node, inorder, Heaped, shorter_than, no_longer_than}
use Rattle.stored_forms.specs.Blocks.{Within}
use Rattle.free_tree.specs.Shapes.{top, join_over, join}
use Rattle.free_tree.proofs.RunOrder.{wider}

-- what holds of every run no longer than the root holds of all
pub all_top : (f : Run → Bool) (t : Tree) → Heaped t → ((r : Run) → r.size ≤ top t → f r ≡ true)
    → all f (inorder t) ≡ true
all_top f leaf h g = refl
all_top f (node a q b) h g =
    all_append f (inorder a) (q ∷ inorder b)
    (all_imp (shorter_than q) f (λ r e. g r (omega (arith, lt_of r.size q.size e))) (inorder a) h.0)
    (and_i (f q) (all f (inorder b)) (g q (omega arith))
    (all_imp (no_longer_than q) f (λ r e. g r (le_of r.size q.size e)) (inorder b) h.1))

-- ---- by which root stays on top

pub join_none : (t : Tree) → join t leaf ≡ t
join_none leaf = refl
join_none (node a q b) = refl

pub join_left : (a : Tree) (q : Run) (b t : Tree) → top t ≤ q.size → join (node a q b) t ≡ node a q (join b t)
join_left a q b leaf h = ap (node a q) (sym (join_none b))
join_left a q b (node c p d) h = rw (of_le p.size q.size h)

pub join_right : (t a : Tree) (q : Run) (b : Tree) → top t < q.size → join t (node a q b) ≡ node (join t a) q b
join_right leaf a q b h = refl
join_right (node c p d) a q b h = rw (of_gt q.size p.size h)

-- what holds of every join, by the ways that it goes
module _ (P : Tree → Tree → Tree → Type 0)
    (none_left : (t : Tree) → P leaf t t)
    (none_right : (t : Tree) → P t leaf t)
    (left : (a : Tree) (q : Run) (b t j : Tree) → top t ≤ q.size → P b t j → P (node a q b) t (node a q j))
    (right : (t a : Tree) (q : Run) (b j : Tree) → top t < q.size → P t a j → P t (node a q b) (node j q b)) where
  over_by : (a : Tree) (q : Run) (b : Tree) (f : Tree → Tree) → ((t : Tree) → P b t (f t))
      → (t : Tree) → P (node a q b) t (join_over a q b f t)
  over_by a q b f h leaf = none_right (node a q b)
  over_by a q b f h (node c p d) = go (leb p.size q.size) refl (over_by a q b f h c)
    where
      go : (x : Bool) → leb p.size q.size ≡ x → P (node a q b) c (join_over a q b f c)
          → P (node a q b) (node c p d) (cond x (node a q (f (node c p d))) (node (join_over a q b f c) p d))
      go true e i = left a q b (node c p d) (f (node c p d)) (le_of p.size q.size e) (h (node c p d))
      go false e i = right (node a q b) c p d (join_over a q b f c) (not_le p.size q.size e) i

  pub join_by : (s t : Tree) → P s t (join s t)
  join_by leaf t = none_left t
  join_by (node a q b) t = over_by a q b (join b) (join_by b) t

-- ---- its runs, and their place

record IsJoin (s t j : Tree) : Type 0 where
  order : inorder j ≡ inorder s ++ inorder t
  heap : Heaped s → Heaped t → Heaped j

is_join : (s t : Tree) → IsJoin s t (join s t)
is_join =
    join_by IsJoin
    (λ t. record { order = refl; heap = λ x y. y })
    (λ t. record { order = sym (append-nil (inorder t)); heap = λ x y. x })
    (λ a q b t j h i. record {
      order =
          ap (λ (l : List Run). inorder a ++ q ∷ l) i.order
          ∙ sym (append_assoc (inorder a) (q ∷ inorder b) (inorder t));
      heap = λ x y. (
        x.0,
        rw i.order
            (all_append (no_longer_than q) (inorder b) (inorder t) x.1
            (all_top (no_longer_than q) t y (λ r l. of_le r.size q.size (omega arith)))),
        x.2,
        i.heap x.3 y,
      );
    })
    (λ t a q b j h i. record {
      order =
          ap (λ (l : List Run). l ++ q ∷ inorder b) i.order ∙ append_assoc (inorder t) (inorder a) (q ∷ inorder b);
      heap = λ x y. (
        rw i.order
            (all_append (shorter_than q) (inorder t) (inorder a)
            (all_top (shorter_than q) t x (λ r l. of_lt r.size q.size (omega arith))) y.0),
        y.1,
        i.heap x y.2,
        y.3,
      );
    })

pub inorder_join : (s t : Tree) → inorder (join s t) ≡ inorder s ++ inorder t
inorder_join s t = (is_join s t).order

pub heaped_join : (s t : Tree) → Heaped s → Heaped t → Heaped (join s t)
heaped_join s t = (is_join s t).heap

pub within_join : (s t : Tree) (lo mid hi : ℕ) → Within lo mid s → Within mid hi t → Within lo hi (join s t)
within_join =
    join_by (λ s t j. (lo mid hi : ℕ) → Within lo mid s → Within mid hi t → Within lo hi j)
    (λ t lo mid hi x y. wider t mid lo hi hi x (omega arith) y)
    (λ t lo mid hi x y. wider t lo lo mid hi (omega arith) y x)
    (λ a q b t j h i lo mid hi x y. (x.0, x.1, i (q.start + q.size) mid hi x.2 y))
    (λ t a q b j h i lo mid hi x y. (i lo mid q.start x y.0, y.1, y.2))
