-- The tree pool's stored form: the one Cartesian tree of the free runs, and the words of its nodes.
-- 01, "Stored form of the tree pool". Assumes nothing.
use Rattle.std.specs.Prelude.{ℕ, suc, ◌+◌, ◌-◌, ◌*◌, ◌/◌, ◌%◌, ◌≡◌, Bool, true, cond, ◌&&◌, ◌||◌, List, [], ◌∷◌, ◌++◌, map, eqb, leb, ltb, get_or, take, drop}
use Rattle.words.specs.Lists.{Words, all}
use Rattle.words.specs.Counted.{within}
use Rattle.ledger.specs.declared.Rule.{Rule}
use Rattle.ledger.specs.Records.{Ledger}
use Rattle.ledger.specs.Runs.{Run, run, free_runs}

-- ---- the tree of some runs

pub data Tree : Type 0 where
  leaf : Tree
  node : Tree → Run → Tree → Tree

-- a run that lies below all of the tree's: the longer stands above, and of equal lengths the lower address
abbrev pub add_left : Run → Tree → Tree
add_left r leaf = node leaf r leaf
add_left r (node a q b) = cond (leb q.size r.size) (node leaf r (node a q b)) (node (add_left r a) q b)

abbrev pub tree_of : List Run → Tree
tree_of [] = leaf
tree_of (r ∷ rs) = add_left r (tree_of rs)

-- What makes it the right tree: it has the runs from left to right (000's first rule), no son is longer than its
-- father (its second), and of equal lengths the lower address stands above (01). `tree_unique` in proofs/TreeLaws: no
-- other tree does.
abbrev pub inorder : Tree → List Run
inorder leaf = []
inorder (node a q b) = inorder a ++ q ∷ inorder b

-- r is shorter than q, and r is no longer than q
abbrev pub shorter_than : Run → Run → Bool
shorter_than q r = ltb r.size q.size

abbrev pub no_longer_than : Run → Run → Bool
no_longer_than q r = leb r.size q.size

abbrev pub Heaped : Tree → Type 0
Heaped leaf = Unit {0}
Heaped (node a q b) =
    (all (shorter_than q) (inorder a) ≡ true) × (all (no_longer_than q) (inorder b) ≡ true) × Heaped a × Heaped b

pub record IsTreeOf (rs : List Run) (t : Tree) : Type 0 where
  pub order : inorder t ≡ rs
  pub heap : Heaped t

-- ---- how a node lies in words

-- A form of the tree pool. The ledger's unit and the cell, where nodes lie and what lengths and links count, are two
-- things. `node` gives a node's words from its length and its two links, and the readings give them back.
pub record Form : Type 0 where
  -- words to a unit, and to a cell
  pub unit : ℕ
  pub cell : ℕ
  -- every link is below this number
  pub links : ℕ
  -- the arena's largest number of words, and the most words that can be asked for (number 2)
  pub most : ℕ
  pub limit : ℕ
  pub node : ℕ → ℕ → ℕ → Words
  pub length_of : Words → ℕ
  pub left_of : Words → ℕ
  pub right_of : Words → ℕ

-- word 0 is the length in cells, word 1 is left link + 65,536 times right link
abbrev pub two_words : ℕ → ℕ → ℕ → Words
two_words n l r = n ∷ (l + 65536 * r) ∷ []

-- a form with such nodes, of so many words to a unit
abbrev pub narrow : ℕ → Form
narrow words = record {
  unit = words;
  cell = 2;
  links = 65536;
  most = 16384;
  limit = 16384;
  node = two_words;
  length_of = λ ws. get_or ws 0 0;
  left_of = λ ws. get_or ws 1 0 % 65536;
  right_of = λ ws. get_or ws 1 0 / 65536;
}

unfoldable pub form_one : Form
form_one = narrow 2

-- 02, ticket 3: "a cell of four words holding length, left link, right link and 0, requests rounded up to four words, arena
-- a multiple of four from 4 up", to 1,048,576 words; "Limit 2 reads 1,048,576 for form 2."
abbrev pub four_words : ℕ → ℕ → ℕ → Words
four_words n l r = n ∷ l ∷ r ∷ 0 ∷ []

unfoldable pub form_two : Form
form_two = record {
  unit = 4;
  cell = 4;
  links = 4294967296;
  most = 1048576;
  limit = 1048576;
  node = four_words;
  length_of = λ ws. get_or ws 0 0;
  left_of = λ ws. get_or ws 1 0;
  right_of = λ ws. get_or ws 2 0;
}

-- 02, ticket 11: "cells and headers as form 1, but the ledger's unit is eight words: requests round up to it, records start
-- on it, and it divides the arena, which has 8 to 16,384 words"
unfoldable pub form_three : Form
form_three = narrow 8

-- "a form number, 1 or 2", and "Add form 3 (11 is then for the rest)"; of any other the form is never looked at
abbrev pub is_form : ℕ → Bool
is_form f = eqb f 1 || eqb f 2 || eqb f 3

unfoldable pub form_of : ℕ → Form
form_of f = cond (eqb f 2) form_two (cond (eqb f 3) form_three form_one)

module _ (F : Form) where
  abbrev pub form_rule : Rule
  form_rule = record { unit = F.unit; lead = 0 }

  -- an even count of words in range; in general a whole number of units
  unfoldable pub tree_range : ℕ → Bool
  tree_range W = leb F.unit W && leb W F.most && eqb (W % F.unit) 0

  -- the words of the cell c, and the readings of a node that lies there
  abbrev pub cell_words : Words → ℕ → Words
  cell_words a c = take F.cell (drop (F.cell * c) a)

  abbrev pub length_at : Words → ℕ → ℕ
  length_at a c = F.length_of (cell_words a c)

  abbrev pub left_at : Words → ℕ → ℕ
  left_at a c = F.left_of (cell_words a c)

  abbrev pub right_at : Words → ℕ → ℕ
  right_at a c = F.right_of (cell_words a c)

  abbrev pub cells_per_unit : ℕ
  cells_per_unit = F.unit / F.cell

  -- a run of units as a run of cells
  abbrev pub cell_run : Run → Run
  cell_run r = run (r.start * cells_per_unit) (r.size * cells_per_unit)

  -- the tree of the free runs, in cells
  unfoldable pub free_tree : ℕ → Ledger → Tree
  free_tree W L = tree_of (map cell_run (free_runs form_rule W L))

-- a link is cell number + 1, or 0 for none
abbrev pub link : Tree → ℕ
link leaf = 0
link (node a q b) = suc q.start

-- Word i of the arena, if it is free: a word of the node that lies in its cell, or zero if none does. A node lies in
-- its run's first cell.
abbrev pub node_word : Form → Tree → ℕ → ℕ
node_word F leaf i = 0
node_word F (node a q b) i =
    cond (within (F.cell * q.start) (F.cell * suc q.start) i)
    (get_or (F.node q.size (link a) (link b)) (i - F.cell * q.start) 0)
    (cond (ltb i (F.cell * q.start)) (node_word F a i) (node_word F b i))
