-- Words and cells of an arena, over the form: what lies in cells that did not change. Assumes of a form that its
-- nodes are readable.
use Prim.Native.Nat.{ℕ, suc, ◌+◌, ◌-◌, ◌*◌, ◌/◌, ◌≤◌, ◌<◌, min}
use native.Mathlib.Nat.{mul_comm, mul-add-div, div-eq_of_lt, le-div_iff_mul-le, div-lt_iff_lt-mul}
use native.Mathlib.Omega.{arith}
use mathlib.Core.Path.{◌≡◌, refl, sym, ap, ◌∙◌}
use mathlib.Core.Logic.{inl, inr}
use lib.ListN.{length, get_or, drop, length-take, length-drop}
use lib.Seq.{get_or-take, get_or-drop, ext_get_or}
use Rattle.words.specs.Lists.{Words}
use Rattle.ledger.specs.Runs.{Run}
use Rattle.stored_forms.specs.Tree.{Tree, leaf, node, Form, cell_words}
use Rattle.stored_forms.specs.Blocks.{Within, In, NotFirst, Holds, Zeros}
use Rattle.stored_forms.proofs.NodeLaws.{Readable, within_le}
use Rattle.tree_nodes.specs.Nodes.{Same}
use Rattle.free_tree.specs.Held.{Apart}

module _ {F : Form} (readable : Readable F F.links) where
  -- word j of cell c, and the cells of the words from one cell up to another
  cell_of : (c j : ℕ) → j < F.cell → (F.cell * c + j) / F.cell ≡ c
  cell_of c j h = omega (arith, mul-add-div readable.cells c j, div-eq_of_lt h)

  pub cell_from : (k c : ℕ) → F.cell * c ≤ k → c ≤ k / F.cell
  cell_from k c h = (le-div_iff_mul-le readable.cells).1 (rw (mul_comm F.cell c) at h)

  pub cell_below : (k c : ℕ) → k < F.cell * c → k / F.cell < c
  cell_below k c h = (div-lt_iff_lt-mul readable.cells).1 (rw (mul_comm F.cell c) at h)

  pub from_cell : (k c : ℕ) → c ≤ k / F.cell → F.cell * c ≤ k
  from_cell k c h = rw (mul_comm F.cell c) ((le-div_iff_mul-le readable.cells).0 h)

  pub below_cell : (k c : ℕ) → k / F.cell < c → k < F.cell * c
  below_cell k c h = rw (mul_comm F.cell c) ((div-lt_iff_lt-mul readable.cells).0 h)

  module _ (m m' : Words) where
    pub same_cell : (c : ℕ) → length m' ≡ length m → Same F m m' c → cell_words F m' c ≡ cell_words F m c
    same_cell c e h =
        ext_get_or 0 (cell_words F m' c) (cell_words F m c)
        (long m' ∙ ap (λ n. min F.cell (n - F.cell * c)) e ∙ sym (long m))
        (λ j b. let l : j < F.cell = omega (arith, long m') in
        word m' j l ∙ h (F.cell * c + j) (cell_of c j l) ∙ sym (word m j l))
      where
        long : (w : Words) → length (cell_words F w c) ≡ min F.cell (length w - F.cell * c)
        long w = length-take F.cell (drop (F.cell * c) w) ∙ ap (min F.cell) (length-drop (F.cell * c) w)

        word : (w : Words) (j : ℕ) → j < F.cell → get_or (cell_words F w c) j 0 ≡ get_or w (F.cell * c + j) 0
        word w j l = get_or-take F.cell (drop (F.cell * c) w) j 0 l ∙ get_or-drop (F.cell * c) w j 0

    pub same_zeros : (lo hi : ℕ) → ((c : ℕ) → lo ≤ c → c < hi → Same F m m' c) → Zeros m (F.cell * lo) (F.cell * hi)
        → Zeros m' (F.cell * lo) (F.cell * hi)
    same_zeros lo hi same z k a b = same (k / F.cell) (cell_from k lo a) (cell_below k hi b) k refl ∙ z k a b

    -- an arena that agrees on the cells of a tree holds it too
    pub same_tree : (t : Tree) (lo hi : ℕ) → Within lo hi t → length m' ≡ length m
        → ((c : ℕ) → lo ≤ c → c < hi → Same F m m' c) → Holds F m t → Holds F m' t
    same_tree leaf lo hi w e same h = tt
    same_tree (node a q b) lo hi w e same h =
        let low = within_le a lo q.start w.0 in
        let high = within_le b (q.start + q.size) hi w.2 in
        let long = w.1 in (
          same_cell q.start e (same q.start low (omega arith)) ∙ h.0,
          same_zeros (suc q.start) (q.start + q.size) (λ c x y. same c (omega arith) (omega arith)) h.1,
          same_tree a lo q.start w.0 e (λ c x y. same c x (omega arith)) h.2,
          same_tree b (q.start + q.size) hi w.2 e (λ c x y. same c (omega arith) y) h.3,
        )

-- ---- cells outside a tree's range are no nodes of it

pub no_node_below : (t : Tree) (lo hi c : ℕ) → Within lo hi t → c < lo → NotFirst c t
no_node_below leaf lo hi c w h = tt
no_node_below (node a q b) lo hi c w h =
    let low = within_le a lo q.start w.0 in (
      no_node_below a lo q.start c w.0 h,
      (λ z. omega arith),
      no_node_below b (q.start + q.size) hi c w.2 (omega arith),
    )

pub no_node_above : (t : Tree) (lo hi c : ℕ) → Within lo hi t → hi ≤ c → NotFirst c t
no_node_above leaf lo hi c w h = tt
no_node_above (node a q b) lo hi c w h =
    let high = within_le b (q.start + q.size) hi w.2 in
    let long = w.1 in (
      no_node_above a lo q.start c w.0 (omega arith),
      (λ z. omega arith),
      no_node_above b (q.start + q.size) hi c w.2 h,
    )

-- ---- cells in no block

-- a cell in no block is no node
pub outside_first : (t : Tree) (lo hi c : ℕ) → Within lo hi t → (In c t → ⊥) → NotFirst c t
outside_first leaf lo hi c w n = tt
outside_first (node a q b) lo hi c w n = (
  outside_first a lo q.start c w.0 (λ i. n (inl i)),
  (λ z. n (inr (inl (omega arith, omega (arith, w.1))))),
  outside_first b (q.start + q.size) hi c w.2 (λ i. n (inr (inr i))),
)

-- a run of which no cell lies in a block overlaps none
pub apart_of : (r : Run) (t : Tree) (lo hi : ℕ) → Within lo hi t → 1 ≤ r.size
    → ((u : ℕ) → r.start ≤ u → u < r.start + r.size → In u t → ⊥)
    → Apart r t
apart_of r leaf lo hi w filled h = tt
apart_of r (node a q b) lo hi w filled h =
    let one = w.1 in
    let end = q.start + q.size in
    let below : q.start ≤ r.start → r.start < end → ⊥ =
    λ x y. h r.start (omega arith) (omega arith) (inr (inl (x, y))) in
    let above : r.start ≤ q.start → q.start < r.start + r.size → ⊥ =
    λ x y. h q.start x y (inr (inl (omega arith, omega arith))) in (
      apart_of r a lo q.start w.0 filled (λ u x y i. h u x y (inl i)),
      (λ x. let n = below x in omega arith),
      (λ x. let n = above x in omega arith),
      apart_of r b end hi w.2 filled (λ u x y i. h u x y (inr (inr i))),
    )
