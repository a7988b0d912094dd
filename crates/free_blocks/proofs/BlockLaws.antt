-- Free blocks by the list of the free runs: the list without one of them, the words of the runs, and a block whose
-- first cells are taken. Assumes nothing.
use Prim.Native.Nat.{ℕ, suc, ◌+◌, ◌*◌, ◌/◌, ◌≤◌, ◌<◌}
use native.Mathlib.Omega.{arith}
use native.Mathlib.Decide.{ℕ_discrete}
use mathlib.Core.Path.{◌≡◌, refl, sym, ap, ◌∙◌, subst}
use mathlib.Core.Logic.{◌≢◌}
use mathlib.Core.Bool.{Bool, true, false, not, ◌&&◌, ◌||◌, true≢false, or-true, or_assoc, or_comm}
use mathlib.Core.List.{List, [], ◌∷◌, ◌++◌}
use mathlib.Core.Option.{some}
use lib.Dec.{eqb}
use lib.ListN.{length, get_or}
use Rattle.words.specs.Lists.{Words, all, first_that}
use Rattle.words.specs.Counted.{within}
use Rattle.words.proofs.Tests.{false_of, and_l, and_r, and_i, not_true, eqb_eq, eqb_same, eqb_ne, eqb_false, of_lt}
use Rattle.words.proofs.Tests.{of_ge, within_in, within_high}
use Rattle.words.proofs.ListLaws.{all_append, all_append_l, all_append_r}
use Rattle.ledger.specs.Runs.{Run, run, covered, Gapped, AreRuns, shorten}
use Rattle.ledger.proofs.RunLaws.{gapped_weaken, gapped_below, runs_are, runs_unique, runs_after_grant}
use Rattle.stored_forms.specs.Tree.{Tree, leaf, node, inorder, tree_of, Form, length_at, left_at, right_at}
use Rattle.stored_forms.proofs.TreeLaws.{inorder_tree_of}
use Rattle.stored_forms.specs.Blocks.{Within, In, NotFirst, Zeros}
use Rattle.stored_forms.proofs.NodeLaws.{Readable, in_range, covered_in, in_covered}
use Rattle.stored_forms.proofs.NodeLaws.{node_word_zero, holds_stored, stored_holds}
use Rattle.tree_nodes.specs.Nodes.{cells, NodeCleared}
use Rattle.free_tree.specs.Shapes.{delete, put_run, drop_run, begins_at}
use Rattle.free_tree.specs.Held.{At, Became, NoNode, Deleted}
use Rattle.free_tree.proofs.RunOrder.{begins_elsewhere}
use Rattle.free_tree.proofs.ChangeLaws.{delete_tree}
use Rattle.free_tree.proofs.CellLaws.{outside_first, cell_from, cell_below, from_cell}
use Rattle.free_tree.proofs.StepLaws.{at_length, at_left, at_right}
use Rattle.free_blocks.specs.Blocks.{Lies, Changed}

-- cell u lies in the run
abbrev pub has : Run → ℕ → Bool
has r u = within r.start (r.start + r.size) u

-- ---- a run taken out of a list

-- the run of n cells at cell c, between xs and ys, and the list without it
pub record Without (k e : ℕ) (xs : List Run) (c n : ℕ) (ys : List Run) : Type 0 where
  pub low : k ≤ c
  pub filled : 1 ≤ n
  pub high : c + n ≤ e
  pub gapped : Gapped k e (xs ++ ys)
  pub dropped : drop_run c (xs ++ run c n ∷ ys) ≡ xs ++ ys
  pub cover : (u : ℕ) → covered (xs ++ run c n ∷ ys) u ≡ (covered (xs ++ ys) u || within c (c + n) u)
  pub clear : (u : ℕ) → c ≤ suc u → u ≤ c + n → covered (xs ++ ys) u ≡ false
  pub inner : (d : ℕ) → c < d → d < c + n → all (begins_elsewhere d) (xs ++ run c n ∷ ys) ≡ true
  pub found : first_that (begins_at c) (xs ++ run c n ∷ ys) ≡ some (run c n)
  pub put : (x i : ℕ) → c ≤ x → x < c + n → put_run (run x i) (xs ++ ys) ≡ xs ++ run x i ∷ ys

elsewhere_above : (d k e : ℕ) (rs : List Run) → Gapped k e rs → d < k → all (begins_elsewhere d) rs ≡ true
elsewhere_above d k e [] g h = refl
elsewhere_above d k e (r ∷ rs) g h =
    and_i (begins_elsewhere d r) (all (begins_elsewhere d) rs) (ap not (eqb_ne r.start d (λ z. omega arith)))
    (elsewhere_above d (suc (r.start + r.size)) e rs g.3 (omega arith))

put_first : (r : Run) (k e : ℕ) (rs : List Run) → Gapped k e rs → r.start < k → put_run r rs ≡ r ∷ rs
put_first r k e [] g h = refl
put_first r k e (q ∷ qs) g h = rw (of_ge q.start r.start (omega (arith, g.0)))

pub without : (k e : ℕ) (xs : List Run) (c n : ℕ) (ys : List Run) → Gapped k e (xs ++ run c n ∷ ys)
    → Without k e xs c n ys
without k e [] c n ys g = record {
  low = g.0;
  filled = g.1;
  high = g.2;
  gapped = gapped_weaken k (suc (c + n)) e ys (omega arith) g.3;
  dropped = rw (eqb_same c);
  cover = λ u. or_comm (within c (c + n) u) (covered ys u);
  clear = λ u x y. gapped_below (suc (c + n)) e ys g.3 u (omega arith);
  inner = λ d x y.
      and_i (begins_elsewhere d (run c n)) (all (begins_elsewhere d) ys) (ap not (eqb_ne c d (λ z. omega arith)))
      (elsewhere_above d (suc (c + n)) e ys g.3 (omega arith));
  found = rw (eqb_same c);
  put = λ x i a b. put_first (run x i) (suc (c + n)) e ys g.3 (omega arith);
}
without k e (r ∷ xs) c n ys g =
    let end = r.start + r.size in
    let w = without (suc end) e xs c n ys g.3 in
    let low = w.low in
    record {
      low = omega arith;
      filled = w.filled;
      high = w.high;
      gapped = (g.0, g.1, g.2, w.gapped);
      dropped = rw (eqb_ne r.start c (λ z. omega arith)) (ap (λ (l : List Run). r ∷ l) w.dropped);
      cover = λ u. rw (w.cover u) (sym (or_assoc (has r u) (covered (xs ++ ys) u) (within c (c + n) u)));
      clear = λ u x y. rw (within_high r.start end u (omega arith)) (w.clear u x y);
      inner = λ d x y.
          and_i (begins_elsewhere d r) (all (begins_elsewhere d) (xs ++ run c n ∷ ys))
          (ap not (eqb_ne r.start d (λ z. omega arith))) (w.inner d x y);
      found = rw (eqb_ne r.start c (λ z. omega arith)) w.found;
      put = λ x i a b.
          rw (of_lt r.start x (omega arith)) (ap (λ (l : List Run). r ∷ l) (w.put x i a b));
    }

-- ---- the list and its tree

pub covered_tree : (rs : List Run) (u : ℕ) → covered rs u ≡ true → In u (tree_of rs)
covered_tree rs u h = covered_in (tree_of rs) u (rw (inorder_tree_of rs) h)

pub tree_covered : (rs : List Run) (u : ℕ) → In u (tree_of rs) → covered rs u ≡ true
tree_covered rs u i = ap (λ l. covered l u) (sym (inorder_tree_of rs)) ∙ in_covered (tree_of rs) u i

pub uncovered : (rs : List Run) (u : ℕ) → covered rs u ≡ false → In u (tree_of rs) → ⊥
uncovered rs u h i = true≢false (sym (tree_covered rs u i) ∙ h)

begins_elsewhere_lem : (c : ℕ) (t : Tree) → all (begins_elsewhere c) (inorder t) ≡ true → NotFirst c t
begins_elsewhere_lem c leaf h = tt
begins_elsewhere_lem c (node a q b) h =
    let f = begins_elsewhere c in
    let rest = all_append_r f (inorder a) (q ∷ inorder b) h in (
      begins_elsewhere_lem c a (all_append_l f (inorder a) (q ∷ inorder b) h),
      (λ z. eqb_false q.start c (not_true (begins_at c q) (and_l (f q) (all f (inorder b)) rest)) (sym z)),
      begins_elsewhere_lem c b (and_r (f q) (all f (inorder b)) rest),
    )

-- ---- words of the free runs

module _ {F : Form} (readable : Readable F F.links) where
  -- runs of which no word has changed still lie
  pub kept : {m m' : Words} {root : ℕ} {rs : List Run} → Lies F m root rs → length m' ≡ length m
      → ((i : ℕ) → covered rs (i / F.cell) ≡ true → get_or m' i 0 ≡ get_or m i 0)
      → Lies F m' root rs
  kept {m} {m'} {root} {rs} p long same =
      let t = tree_of rs in
      let here = p.tree in
      let place : Within 0 (cells F m') t = rw long here.within in
      record {
        tree = record {
          at = here.at;
          holds = stored_holds F F.links readable m' t 0 (cells F m') place
              (from_cell readable (length m') (cells F m') (omega arith))
              (λ i x. same i (tree_covered rs (i / F.cell) x)
              ∙ holds_stored F F.links readable m t 0 (cells F m) here.within here.holds i x);
          within = place;
          small = rw long here.small;
        };
        gapped = rw long p.gapped;
      }

  abbrev reads_back : Words → Run → Bool
  reads_back m q = eqb (length_at F m q.start) q.size

  module _ {m : Words} where
    all_read_back : {l : ℕ} (t : Tree) → At F m l t → all (reads_back m) (inorder t) ≡ true
    all_read_back leaf p = refl
    all_read_back {l} (node a q b) p =
        all_append (reads_back m) (inorder a) (q ∷ inorder b) (all_read_back {l = left_at F m q.start} a (at_left readable p refl))
        (and_i (reads_back m q) (all (reads_back m) (inorder b)) (rw (at_length readable p) (eqb_same q.size))
        (all_read_back {l = right_at F m q.start} b (at_right readable p refl)))

    -- the length of a run is its node's
    pub run_length : {root : ℕ} (xs : List Run) (c n : ℕ) (ys : List Run) → Lies F m root (xs ++ run c n ∷ ys)
        → length_at F m c ≡ n
    run_length xs c n ys p =
        let rs = xs ++ run c n ∷ ys in
        let f = reads_back m in
        let each : all f rs ≡ true = rw (inorder_tree_of rs) at (all_read_back (tree_of rs) p.tree) in
        eqb_eq (length_at F m c) n (and_l (f (run c n)) (all f ys) (all_append_r f xs (run c n ∷ ys) each))

    module _ {root : ℕ} {rs : List Run} (p : Lies F m root rs) where
      -- a free cell lies in the arena
      pub cell_inside : (u : ℕ) → covered rs u ≡ true → u < cells F m
      cell_inside u h = (in_range (tree_of rs) 0 (cells F m) u p.tree.within (covered_tree rs u h)).1

      pub cell_no_node : (u : ℕ) → covered rs u ≡ false → NotFirst u (tree_of rs)
      cell_no_node u h = outside_first (tree_of rs) 0 (cells F m) u p.tree.within (uncovered rs u h)

      -- a word of a run beyond its first cell
      inner_zero : (i : ℕ) → covered rs (i / F.cell) ≡ true → NotFirst (i / F.cell) (tree_of rs) → get_or m i 0 ≡ 0
      inner_zero i h n =
          let t = tree_of rs in
          let place = p.tree in
          holds_stored F F.links readable m t 0 (cells F m) place.within place.holds i
          (covered_tree rs (i / F.cell) h)
          ∙ node_word_zero F F.links readable t i n

  -- ---- the first cells of a block

  -- the block of n cells at cell c, which lies between the blocks xs and ys
  module _ {m : Words} {root : ℕ} (xs : List Run) (c n : ℕ) (ys : List Run)
      (p : Lies F m root (xs ++ run c n ∷ ys)) where
    abbrev N : ℕ
    N = cells F m

    abbrev old : List Run
    old = xs ++ run c n ∷ ys

    -- the runs where the first k cells are not free any more
    abbrev new : ℕ → List Run
    new k = xs ++ shorten k (run c n) ys

    pub gone : Without 0 N xs c n ys
    gone = without 0 N xs c n ys p.gapped

    in_run : (d : ℕ) → c ≤ d → d < c + n → covered old d ≡ true
    in_run d x y = gone.cover d ∙ rw (within_in c (c + n) d x y) (or-true (covered (xs ++ ys) d))

    inner_first : (d : ℕ) → c < d → d < c + n → NotFirst d (tree_of old)
    inner_first d x y = begins_elsewhere_lem d (tree_of old) (rw (inorder_tree_of old) (gone.inner d x y))

    left_runs : (k : ℕ) → k ≤ n → AreRuns (λ u. covered old u && not (within c (c + k) u)) N (new k)
    left_runs k h =
        let f = covered old in
        let g : ℕ → Bool = λ u. f u && not (within c (c + k) u) in
        let is = runs_unique f N old (record { gapped = p.gapped; cover = λ u x. refl }) in
        subst (AreRuns g N) (runs_after_grant f g N k xs (run c n) ys is h (λ u x. refl)) (runs_are g N)

    not_left : (k u : ℕ) → k ≤ n → c ≤ u → u < c + k → covered (new k) u ≡ false
    not_left k u h a b =
        let high = gone.high in
        let here = within c (c + k) u in
        false_of (covered (new k) u)
        (λ e. true≢false (sym (within_in c (c + k) u a b)
        ∙ not_true here (and_r (covered old u) (not here) (sym ((left_runs k h).cover u (omega arith)) ∙ e))))

    -- a step that leaves the tree of the new runs, and then clears what was the block's node
    pub first_taken : {m₁ m' : Words} {q : ℕ} {off : ℕ → Type 0} (k : ℕ) → 1 ≤ k → k ≤ n
        → Became F m m₁ off q (tree_of (new k))
        → ((d : ℕ) → NotFirst d (tree_of old) → (k < n → d ≢ c + k) → off d) → NodeCleared F m₁ m' c
        → Changed F m m' old (new k) q × Zeros m' (F.cell * c) (F.cell * (c + k))
    first_taken {m₁} {m'} {q} k some_cells part made away cleared = (
      record {
        lies = kept (record { tree = made.tree; gapped = rw made.long (left_runs k part).gapped }) cleared.long
            (λ i h. cleared.frame (i / F.cell)
            (λ z. true≢false (sym h ∙ not_left k (i / F.cell) part (omega arith) (omega arith))) i refl);
        frame = λ i h h'.
            cleared.frame (i / F.cell)
            (λ z. true≢false (sym (in_run (i / F.cell) (omega arith) (omega arith)) ∙ h)) i refl
            ∙ made.frame (i / F.cell)
            (away (i / F.cell) (cell_no_node p (i / F.cell) h)
            (λ l z. true≢false (sym (in_run (i / F.cell) (omega arith) (omega arith)) ∙ h))) i refl;
        long = cleared.long ∙ made.long;
      },
      λ i x y. zero i (cell_from readable i c x) (cell_below readable i (c + k) y) (ℕ_discrete (i / F.cell) c),
    )
      where
        zero : (i : ℕ) → c ≤ i / F.cell → i / F.cell < c + k → Dec (i / F.cell ≡ c) → get_or m' i 0 ≡ 0
        zero i x y (yes z) = cleared.zero i z
        zero i x y (no z) =
            let inner = inner_first (i / F.cell) (omega arith) (omega arith) in
            cleared.frame (i / F.cell) z i refl
            ∙ made.frame (i / F.cell) (away (i / F.cell) inner (λ l e. omega arith)) i refl
            ∙ inner_zero p i (in_run (i / F.cell) (omega arith) (omega arith)) inner

    pub deleted : delete c (tree_of old) ≡ tree_of (xs ++ ys)
    deleted = delete_tree c old 0 N p.tree.within ∙ ap tree_of gone.dropped

    -- the whole block
    pub all_taken : {m₁ m' : Words} {q : ℕ} → Deleted F m m₁ root c q → NodeCleared F m₁ m' c
        → Changed F m m' old (xs ++ ys) q × Zeros m' (F.cell * c) (F.cell * (c + n))
    all_taken {m₁} {m'} {q} del cleared =
        let none : xs ++ ys ≡ new n = rw (eqb_same n) in
        let made = rw deleted at (del (tree_of old) p.tree) in
        subst (λ l. Changed F m m' old l q × Zeros m' (F.cell * c) (F.cell * (c + n))) (sym none)
        (first_taken n gone.filled (omega arith)
        (subst (λ l. Became F m m₁ (NoNode (tree_of old)) q (tree_of l)) none made) (λ d o z. o) cleared)
