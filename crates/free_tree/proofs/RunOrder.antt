-- Lists of runs in address order: a run put in, a run taken out, and the first run that a search finds; and trees in
-- a range of cells. Assumes nothing.
use Prim.Native.Nat.{ℕ, ◌+◌, ◌≤◌}
use native.Mathlib.Omega.{arith}
use mathlib.Core.Path.{◌≡◌, refl, sym, ap, ◌∙◌}
use mathlib.Core.Bool.{Bool, true, false, cond, not}
use mathlib.Core.List.{List, [], ◌∷◌, ◌++◌, append-nil}
use mathlib.Core.Option.{none, some}
use lib.Dec.{ltb}
use Rattle.words.specs.Lists.{all, first_that}
use Rattle.words.proofs.Tests.{and_l, and_r, and_i, not_true}
use Rattle.words.proofs.ListLaws.{all_append}
use Rattle.ledger.specs.Runs.{Run}
use Rattle.stored_forms.specs.Tree.{Tree, leaf, node, inorder}
use Rattle.stored_forms.specs.Blocks.{Within}
use Rattle.stored_forms.proofs.NodeLaws.{within_le}
use Rattle.free_tree.specs.Shapes.{put_run, drop_run, begins_at}

-- ---- trees in a range of cells

pub wider : (t : Tree) (lo lo' hi hi' : ℕ) → lo' ≤ lo → hi ≤ hi' → Within lo hi t → Within lo' hi' t
wider leaf lo lo' hi hi' p q w = omega arith
wider (node a r b) lo lo' hi hi' p q w = (
  wider a lo lo' r.start r.start p (omega arith) w.0,
  w.1,
  wider b (r.start + r.size) (r.start + r.size) hi hi' (omega arith) q w.2,
)

-- what holds of every run in the range holds of all runs of the tree
pub within_all : (f : Run → Bool) (t : Tree) (lo hi : ℕ) → Within lo hi t
    → ((r : Run) → lo ≤ r.start → 1 ≤ r.size → r.start + r.size ≤ hi → f r ≡ true) → all f (inorder t) ≡ true
within_all f leaf lo hi w h = refl
within_all f (node a q b) lo hi w h =
    let low = within_le a lo q.start w.0 in
    let high = within_le b (q.start + q.size) hi w.2 in
    all_append f (inorder a) (q ∷ inorder b)
    (within_all f a lo q.start w.0 (λ r x y z. h r x y (omega arith)))
    (and_i (f q) (all f (inorder b)) (h q low w.1 high)
    (within_all f b (q.start + q.size) hi w.2 (λ r x y z. h r (omega arith) y z)))

-- ---- the first that passes

module _ {A : Type 0} where
  pub first_that_past : (p : A → Bool) (xs ys : List A) → all (λ x. not (p x)) xs ≡ true
      → first_that p (xs ++ ys) ≡ first_that p ys
  first_that_past p [] ys h = refl
  first_that_past p (x ∷ xs) ys h =
      rw (not_true (p x) (and_l (not (p x)) (all (λ x. not (p x)) xs) h))
      (first_that_past p xs ys (and_r (not (p x)) (all (λ x. not (p x)) xs) h))

  pub first_that_none : (p : A → Bool) (xs : List A) → all (λ x. not (p x)) xs ≡ true → first_that p xs ≡ none
  first_that_none p xs h = ap (first_that p) (sym (append-nil xs)) ∙ first_that_past p xs [] h

  pub first_that_before : (p : A → Bool) (xs ys : List A) → all (λ x. not (p x)) ys ≡ true
      → first_that p (xs ++ ys) ≡ first_that p xs
  first_that_before p [] ys h = first_that_none p ys h
  first_that_before p (x ∷ xs) ys h = ap (cond (p x) (some x)) (first_that_before p xs ys h)

-- ---- a run put in and taken out

abbrev pub starts_below : ℕ → Run → Bool
starts_below x r = ltb r.start x

abbrev pub starts_from : ℕ → Run → Bool
starts_from x r = not (ltb r.start x)

pub put_run_between : (r : Run) (xs ys : List Run) → all (starts_below r.start) xs ≡ true
    → all (starts_from r.start) ys ≡ true → put_run r (xs ++ ys) ≡ xs ++ r ∷ ys
put_run_between r [] [] h k = refl
put_run_between r [] (y ∷ ys) h k =
    rw (not_true (starts_below r.start y) (and_l (starts_from r.start y) (all (starts_from r.start) ys) k))
put_run_between r (x ∷ xs) ys h k =
    rw (and_l (starts_below r.start x) (all (starts_below r.start) xs) h)
    (ap (λ (l : List Run). x ∷ l)
    (put_run_between r xs ys (and_r (starts_below r.start x) (all (starts_below r.start) xs) h) k))

abbrev pub begins_elsewhere : ℕ → Run → Bool
begins_elsewhere x r = not (begins_at x r)

pub drop_run_past : (x : ℕ) (xs ys : List Run) → all (begins_elsewhere x) xs ≡ true
    → drop_run x (xs ++ ys) ≡ xs ++ drop_run x ys
drop_run_past x [] ys h = refl
drop_run_past x (r ∷ xs) ys h =
    rw (not_true (begins_at x r) (and_l (begins_elsewhere x r) (all (begins_elsewhere x) xs) h))
    (ap (λ (l : List Run). r ∷ l) (drop_run_past x xs ys (and_r (begins_elsewhere x r) (all (begins_elsewhere x) xs) h)))

pub drop_run_none : (x : ℕ) (xs : List Run) → all (begins_elsewhere x) xs ≡ true → drop_run x xs ≡ xs
drop_run_none x xs h = ap (drop_run x) (sym (append-nil xs)) ∙ drop_run_past x xs [] h ∙ append-nil xs

pub drop_run_before : (x : ℕ) (xs ys : List Run) → all (begins_elsewhere x) ys ≡ true
    → drop_run x (xs ++ ys) ≡ drop_run x xs ++ ys
drop_run_before x [] ys h = drop_run_none x ys h
drop_run_before x (r ∷ xs) ys h = go (begins_at x r) (drop_run_before x xs ys h)
  where
    go : (b : Bool) → drop_run x (xs ++ ys) ≡ drop_run x xs ++ ys
        → cond b (xs ++ ys) (r ∷ drop_run x (xs ++ ys)) ≡ cond b xs (r ∷ drop_run x xs) ++ ys
    go true i = refl
    go false i = ap (λ (l : List Run). r ∷ l) i
