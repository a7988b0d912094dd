-- The links of a tree that differ in another: what an insertion is to store. 02, ticket 4. Assumes nothing.
use Rattle.std.specs.Prelude.{ℕ, ◌+◌, ◌/◌, ◌%◌, cond, ltb}
use Rattle.stored_forms.specs.Tree.{Tree, leaf, node, link}
use Rattle.tree_nodes.specs.Nodes.{differ, count_base}
use Rattle.free_tree.specs.Shapes.{below, above}

-- the two links of the tree's node at cell c, 0 where it has none there
abbrev pub left_in : ℕ → Tree → ℕ
left_in c leaf = 0
left_in c (node a q b) = cond (ltb c q.start) (left_in c a) (cond (ltb q.start c) (left_in c b) (link a))

abbrev pub right_in : ℕ → Tree → ℕ
right_in c leaf = 0
right_in c (node a q b) = cond (ltb c q.start) (right_in c a) (cond (ltb q.start c) (right_in c b) (link b))

-- How many links of u's nodes are others in t. 02: "the new node's two taken as 0 before".
abbrev pub sons_changed : Tree → Tree → ℕ
sons_changed t leaf = 0
sons_changed t (node a q b) =
    sons_changed t a + (differ (left_in q.start t) (link a) + differ (right_in q.start t) (link b)) + sons_changed t b

-- 02: "the number of links that differ afterwards", "the root link among them"; t is the tree before, u the tree after
abbrev pub links_changed : Tree → Tree → ℕ
links_changed t u = differ (link t) (link u) + sons_changed t u

-- the same for a tree and the two parts that it is split into at cell x, without their root links
abbrev pub parts_changed : ℕ → Tree → ℕ
parts_changed x t = sons_changed t (below x t) + sons_changed t (above x t)

-- ---- a link and a count in one number

abbrev pub link_of : ℕ → ℕ
link_of k = k % count_base

abbrev pub count_of : ℕ → ℕ
count_of k = k / count_base
