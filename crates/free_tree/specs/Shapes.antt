-- Stephenson's steps on the tree of the free runs, with 01's tie rule, and what each does to the list of the runs.
-- 01, "Steps, from 000 with this tie rule". Assumes nothing.
use Rattle.std.specs.Prelude.{ℕ, suc, ◌+◌, ◌-◌, ◌≤◌, ◌<◌, ◌≡◌, Bool, true, false, cond, ◌&&◌, ◌||◌, List, [], ◌∷◌, eqb, leb, ltb}
use Rattle.std.proofs.Math.Option.{Option, none, some}
use Rattle.ledger.specs.Runs.{Run, run}
use Rattle.stored_forms.specs.Tree.{Tree, leaf, node}

-- ---- trees

-- the root's length, 0 for none
abbrev pub top : Tree → ℕ
top leaf = 0
top (node a q b) = q.size

-- The number of nodes, which falls with each call of the join.
abbrev pub nodes : Tree → ℕ
nodes leaf = 0
nodes (node a q b) = suc (nodes a + nodes b)

-- the join of the node a q b with a tree that lies above it; f joins b with a tree
abbrev pub join_over : Tree → Run → Tree → (Tree → Tree) → Tree → Tree
join_over a q b f leaf = node a q b
join_over a q b f (node c p d) =
    cond (leb p.size q.size) (node a q (f (node c p d))) (node (join_over a q b f c) p d)

-- 01: "the heavier root stays on top and the join goes on down its inner side". Of equal lengths the lower stays on
-- top.
abbrev pub join : Tree → Tree → Tree
join leaf t = t
join (node a q b) t = join_over a q b (join b) t

-- the split of a tree by address: the runs that begin below cell x, and those from it on
abbrev pub below : ℕ → Tree → Tree
below x leaf = leaf
below x (node a q b) = cond (ltb q.start x) (node a q (below x b)) (below x a)

abbrev pub above : ℕ → Tree → Tree
above x leaf = leaf
above x (node a q b) = cond (ltb q.start x) (above x b) (node (above x a) q b)

-- 01: the longer stands above, and "of equal lengths the lower address stands above"
abbrev pub stands_above : Run → Run → Bool
stands_above r q = ltb q.size r.size || (eqb q.size r.size && ltb r.start q.start)

-- the run on top of the parts of a tree
abbrev pub split_top : Run → Tree → Tree
split_top r t = node (below r.start t) r (above r.start t)

-- 01: "search by address down to the first node that must stand below the new one, put the new node there, and split
-- that subtree by address into its two sons"
abbrev pub insert : Run → Tree → Tree
insert r leaf = node leaf r leaf
insert r (node a q b) =
    cond (stands_above r q) (split_top r (node a q b))
    (cond (ltb q.start r.start) (node a q (insert r b)) (node (insert r a) q b))

-- 01: "the two sons' trees are joined". A tree with no run at cell x stays.
abbrev pub delete : ℕ → Tree → Tree
delete x leaf = leaf
delete x (node a q b) =
    cond (ltb x q.start) (node (delete x a) q b) (cond (ltb q.start x) (node a q (delete x b)) (join a b))

-- the run stands above the tree's root, or there is none
abbrev pub stands_over : Run → Tree → Bool
stands_over r leaf = true
stands_over r (node a q b) = stands_above r q

-- the first tree's root stays above that of the second: it is no shorter
abbrev pub heavier : Tree → Tree → Bool
heavier leaf t = false
heavier (node a q b) t = leb (top t) q.size

-- 01: "the heavier root stays on top", here with a run between the runs of two trees: 0 for the run itself, 1 for the
-- first root, 2 for the second
abbrev pub on_top : Run → Tree → Tree → ℕ
on_top r s t = cond (stands_over r s && stands_over r t) 0 (cond (heavier s t) 1 2)

-- the run between the runs of the trees s and t; f puts it there where the root of s stays on top
abbrev pub heapify_over : Run → Tree → (Tree → Tree) → Tree → Tree
heapify_over r s f leaf = cond (stands_over r s) (node s r leaf) (f leaf)
heapify_over r s f (node c p d) =
    cond (stands_over r s && stands_above r p) (node s r (node c p d))
    (cond (heavier s (node c p d)) (f (node c p d)) (node (heapify_over r s f c) p d))

-- The run between the runs of two trees: it stays on top if it stands above both roots. Else the heavier root does, as
-- in the join, and the run goes on down its inner side.
abbrev pub heapify : Run → Tree → Tree → Tree
heapify r leaf t = heapify_over r leaf (λ u. u) t
heapify r (node a q b) t = heapify_over r (node a q b) (λ u. node a q (heapify r b u)) t

-- The run at cell x gives up its first k cells. `shrink_is` in proofs/ShrinkLaws: it is taken out, and the rest of it
-- put in.
abbrev pub shrink : ℕ → ℕ → Tree → Tree
shrink x k leaf = leaf
shrink x k (node a q b) =
    cond (ltb x q.start) (node (shrink x k a) q b)
    (cond (ltb q.start x) (node a q (shrink x k b)) (heapify (run (x + k) (q.size - k)) a b))

-- ---- the place of a change

-- The search by the address of cell x goes down from the tree T to its subtree t, past nodes that do not stop it. The
-- last number is the link to t's father, 0 for none.
pub data Under (stop : Run → Bool) (x : ℕ) (T : Tree) : Tree → ℕ → Type 0 where
  whole : Under stop x T T 0
  go_left : {a b : Tree} {q : Run} {over : ℕ} → Under stop x T (node a q b) over → stop q ≡ false → x < q.start
      → Under stop x T a (suc q.start)
  go_right : {a b : Tree} {q : Run} {over : ℕ} → Under stop x T (node a q b) over → stop q ≡ false → q.start ≤ x
      → Under stop x T b (suc q.start)

-- it ends at a node that stops it, or where there is none
abbrev pub Stops : (Run → Bool) → Tree → Type 0
Stops stop leaf = Unit {0}
Stops stop (node a q b) = stop q ≡ true

-- ---- lists of runs, in address order

-- with a run put in by its address
abbrev pub put_run : Run → List Run → List Run
put_run r [] = r ∷ []
put_run r (q ∷ qs) = cond (ltb q.start r.start) (q ∷ put_run r qs) (r ∷ q ∷ qs)

-- without the run that begins at cell x
abbrev pub drop_run : ℕ → List Run → List Run
drop_run x [] = []
drop_run x (q ∷ qs) = cond (eqb q.start x) qs (q ∷ drop_run x qs)

-- ---- what a search finds

-- the run ends at cell x, so that it touches what begins there
abbrev pub ends_at : ℕ → Run → Bool
ends_at x r = eqb (r.start + r.size) x

-- the run begins at cell x
abbrev pub begins_at : ℕ → Run → Bool
begins_at x r = eqb r.start x

-- a run as its node's link, 0 for none
abbrev pub link_to : Option Run → ℕ
link_to none = 0
link_to (some r) = suc r.start
