-- Cells taken from the low end of a free block: the block shrinks or its node is deleted, and its first cell is
-- cleared. Assumes nothing.
use Prim.Native.Nat.{ℕ, ◌+◌, ◌-◌, ◌*◌, ◌≤◌, ◌<◌}
use native.Mathlib.Omega.{arith}
use mathlib.Core.Path.{◌≡◌, ap, ◌∙◌}
use mathlib.Core.List.{List, ◌∷◌, ◌++◌}
use mathlib.Core.Option.{some}
use Rattle.words.specs.Lists.{Words, first_that}
use Rattle.words.proofs.Tests.{eqb_same, eqb_ne}
use Rattle.ledger.specs.Runs.{Run, run, shorten}
use Rattle.stored_forms.specs.Tree.{Tree, inorder, tree_of, Form, length_at}
use Rattle.stored_forms.proofs.TreeLaws.{inorder_tree_of, heaped_tree_of}
use Rattle.stored_forms.specs.Blocks.{Zeros}
use Rattle.stored_forms.proofs.NodeLaws.{Readable}
use Rattle.tree_nodes.specs.Nodes.{cells, NodeCleared}
use Rattle.free_tree.specs.Shapes.{insert, shrink, begins_at}
use Rattle.free_tree.specs.Held.{Deleted, Longer, Shrunk}
use Rattle.free_tree.proofs.ChangeLaws.{within_delete, insert_tree}
use Rattle.free_tree.proofs.CellLaws.{outside_first}
use Rattle.free_tree.proofs.ShrinkLaws.{shrink_is}
use Rattle.free_blocks.specs.Blocks.{Lies, Changed, Takes, Takeable, Taken}
use Rattle.free_blocks.proofs.BlockLaws.{run_length, uncovered, gone, first_taken, deleted, all_taken}

-- ---- some of a block

module _ {F : Form} (readable : Readable F F.links) where
  module _ {m : Words} {root : ℕ} (xs : List Run) (c n : ℕ) (ys : List Run)
      (p : Lies F m root (xs ++ run c n ∷ ys)) where
    abbrev old : List Run
    old = xs ++ run c n ∷ ys

    found_run : first_that (begins_at c) (inorder (tree_of old)) ≡ some (run c n)
    found_run = ap (first_that (begins_at c)) (inorder_tree_of old) ∙ (gone readable xs c n ys p).found

    module _ (k : ℕ) (part : k < n) where
      -- what is left of it is put between the same blocks
      put_back : insert (run (c + k) (n - k)) (tree_of (xs ++ ys)) ≡ tree_of (xs ++ shorten k (run c n) ys)
      put_back =
          let x = c + k in
          let rest = tree_of (xs ++ ys) in
          let w = gone readable xs c n ys p in
          let within =
          rw (deleted readable xs c n ys p) at (within_delete c (tree_of old) 0 (cells F m) p.tree.within) in
          insert_tree (run x (n - k)) (xs ++ ys) 0 (cells F m) within
          (outside_first rest 0 (cells F m) x within
          (uncovered (xs ++ ys) x (w.clear x (omega arith) (omega arith))))
          ∙ ap tree_of (w.put x (n - k) (omega arith) (omega arith))
          ∙ rw (eqb_ne k n (λ z. omega arith))

      shrunk : shrink c k (tree_of old) ≡ tree_of (xs ++ shorten k (run c n) ys)
      shrunk =
          shrink_is c k n part (tree_of old) 0 (cells F m) p.tree.within (heaped_tree_of old) found_run
          ∙ ap (insert (run (c + k) (n - k))) (deleted readable xs c n ys p)
          ∙ put_back

      part_taken : {m₁ m₂ : Words} {q : ℕ} → 1 ≤ k → Shrunk F m m₁ root c k q → NodeCleared F m₁ m₂ c
          → Changed F m m₂ old (xs ++ shorten k (run c n) ys) q × Zeros m₂ (F.cell * c) (F.cell * (c + k))
      part_taken one shr cleared =
          let made = shr (tree_of old) n (record { tree = p.tree; found = found_run; part = one; more = part }) in
          first_taken readable xs c n ys p k one (omega arith) (rw shrunk at made) (λ d o z. (o, z part)) cleared

  -- ---- by the code's own numbers

  pub take_in : {m : Words} {root block over k : ℕ}
      → Takeable F m root block over k
      → (block - 1 < cells F m) × (block - 1 + k < F.links)
  take_in (xs, r, ys, p) =
      let b = gone readable xs r.start r.size ys p.lies in
      let some = b.filled in
      let inside = b.high in
      (omega (arith, p.at), omega (arith, p.at, p.enough, p.lies.tree.small))

  module _ {m : Words} {root block over k n : ℕ} (len : n ≡ length_at F m (block - 1)) where
    at_block : (xs : List Run) (r : Run) (ys : List Run) → Takes F m root block over k xs r ys
        → (block - 1 ≡ r.start) × (n ≡ r.size)
    at_block xs r ys p =
        let e : block - 1 ≡ r.start = omega (arith, p.at) in
        (e, len ∙ ap (length_at F m) e ∙ run_length readable xs r.start r.size ys p.lies)

    -- some of the block is left
    pub take_longer : k < n → Takeable F m root block over k
        → (t : Tree) × (i : ℕ) × Longer F m root (run (block - 1) i) k t
    take_longer h (xs, r, ys, p) =
        let (e, f) = at_block xs r ys p in (
          tree_of (xs ++ r ∷ ys),
          r.size,
          rw e (record {
            tree = p.lies.tree;
            found = found_run xs r.start r.size ys p.lies;
            part = p.some;
            more = omega arith;
          }),
        )

    pub take_part : {m₁ m₂ : Words} {q : ℕ} → k < n → Shrunk F m m₁ root (block - 1) k q
        → NodeCleared F m₁ m₂ (block - 1) → Taken F m m₂ root block over k q
    take_part h shr clear xs r ys p =
        let (e, f) = at_block xs r ys p in
        let (change, zeros) =
        part_taken xs r.start r.size ys p.lies k (omega arith) p.some (rw e at shr) (rw e at clear) in
        record { change = change; zeros = zeros }

    -- nothing is left
    pub take_whole : {m₁ m₂ : Words} {q : ℕ} → n ≤ k → Deleted F m m₁ root (block - 1) q
        → NodeCleared F m₁ m₂ (block - 1) → Taken F m m₂ root block over k q
    take_whole h del clear xs r ys p =
        let (e, f) = at_block xs r ys p in
        let all : k ≡ r.size = omega (arith, p.enough) in
        let (change, zeros) = all_taken readable xs r.start r.size ys p.lies (rw e at del) (rw e at clear) in
        record { change = rw (all, eqb_same r.size) change; zeros = rw all zeros }
