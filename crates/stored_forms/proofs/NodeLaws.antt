-- How the tree's nodes lie in words, over the form: an arena that holds the tree node by node has its words by their
-- places, and back. 01, "Stored form of the tree pool". Assumes of a form that its nodes are readable.
use Prim.Native.Nat.{ℕ, suc, ◌+◌, ◌-◌, ◌*◌, ◌/◌, ◌≤◌, ◌<◌}
use native.Mathlib.Nat.{mul_comm, mul-suc, mul-le-mul_left, add-sub_cancel_left, le-div_iff_mul-le, div-lt_iff_lt-mul}
use native.Mathlib.Omega.{arith}
use native.Mathlib.Decide.{dec_le}
use mathlib.Core.Path.{◌≡◌, refl, sym, ap, ◌∙◌, subst}
use mathlib.Core.Logic.{◌≢◌, inl, inr}
use mathlib.Core.Bool.{Bool, true, false, cond, ◌||◌, false≢true, or_assoc, or-true}
use mathlib.Core.List.{List, [], ◌∷◌, ◌++◌}
use lib.Dec.{eqb}
use lib.ListN.{length, get_or, drop, length-drop}
use lib.Seq.{length-take-le, get_or-take, get_or-drop, ext_get_or}
use Rattle.words.specs.Lists.{Words}
use Rattle.words.specs.Counted.{within}
use Rattle.words.proofs.Tests.{of_lt, of_ge, within_in, within_low, within_high, within_of}
use Rattle.ledger.specs.Runs.{Run, covered, Gapped}
use Rattle.ledger.proofs.RunLaws.{covered_append}
use Rattle.ledger.proofs.RunLaws.{gapped_weaken}
use Rattle.stored_forms.specs.Tree.{Tree, leaf, node, inorder, Form, form_one, form_two, form_three, form_of}
use Rattle.stored_forms.specs.Tree.{narrow, cell_words, length_at, left_at, right_at, link, node_word}
use Rattle.stored_forms.specs.Blocks.{Within, In, NotFirst, Holds}

-- ---- what is asked of a form

-- Cells and units have words, a unit is a whole number of cells, a node fills a cell, and the readings of its words
-- give back its length and its links, if these are below `bound`.
pub record Readable (F : Form) (bound : ℕ) : Type 0 where
  pub cells : 0 < F.cell
  pub units : 0 < F.unit
  pub whole : F.cell * (F.unit / F.cell) ≡ F.unit
  pub node_length : (n l r : ℕ) → length (F.node n l r) ≡ F.cell
  pub length_back : (n l r : ℕ) → l < bound → r < bound → F.length_of (F.node n l r) ≡ n
  pub left_back : (n l r : ℕ) → l < bound → r < bound → F.left_of (F.node n l r) ≡ l
  pub right_back : (n l r : ℕ) → l < bound → r < bound → F.right_of (F.node n l r) ≡ r

-- two words to a cell, and a whole number of cells to a unit
readable_narrow : (u : ℕ) → 0 < u → 2 * (u / 2) ≡ u → Readable (narrow u) 65536
readable_narrow u some whole = record {
  cells = omega arith;
  units = some;
  whole = whole;
  node_length = λ n l r. refl;
  length_back = λ n l r a b. refl;
  left_back = λ n l r a b. omega arith;
  right_back = λ n l r a b. omega arith;
}

pub readable_one : Readable form_one 65536
unfolding form_one
readable_one = readable_narrow 2 (omega arith) refl

readable_three : Readable form_three 65536
unfolding form_three
readable_three = readable_narrow 8 (omega arith) refl

readable_two : Readable form_two 4294967296
unfolding form_two
readable_two = record {
  cells = omega arith;
  units = omega arith;
  whole = refl;
  node_length = λ n l r. refl;
  length_back = λ n l r a b. refl;
  left_back = λ n l r a b. refl;
  right_back = λ n l r a b. refl;
}

-- what is said of each form is said of the form of any number
pub each_form : (P : Form → Type 0) → P form_one → P form_two → P form_three → (f : ℕ) → P (form_of f)
unfolding form_of
each_form P one two three f = go (eqb f 2) (eqb f 3)
  where
    go : (b c : Bool) → P (cond b form_two (cond c form_three form_one))
    go true c = two
    go false true = three
    go false false = one

pub readable : (f : ℕ) → Readable (form_of f) (form_of f).links
unfolding form_one form_two form_three
readable = each_form (λ F. Readable F F.links) readable_one readable_two readable_three

pub form_unit : (f : ℕ) → 0 < (form_of f).unit
form_unit f = (readable f).units

-- ---- blocks of a tree

pub within_le : (t : Tree) (lo hi : ℕ) → Within lo hi t → lo ≤ hi
within_le leaf lo hi w = w
within_le (node a q b) lo hi w =
    omega (arith, within_le a lo q.start w.0, within_le b (q.start + q.size) hi w.2)

pub link_within : (t : Tree) (lo hi : ℕ) → Within lo hi t → link t ≤ hi
link_within leaf lo hi w = omega arith
link_within (node a q b) lo hi w = omega (arith, w.1, within_le b (q.start + q.size) hi w.2)

pub in_range : (t : Tree) (lo hi c : ℕ) → Within lo hi t → In c t → (lo ≤ c) × (c < hi)
in_range leaf lo hi c w i = absurd i
in_range (node a q b) lo hi c w (inl i) =
    let x = in_range a lo q.start c w.0 i in
    let y = within_le b (q.start + q.size) hi w.2 in
    (omega arith, omega arith)
in_range (node a q b) lo hi c w (inr (inl i)) =
    let x = within_le a lo q.start w.0 in
    let y = within_le b (q.start + q.size) hi w.2 in
    (omega arith, omega arith)
in_range (node a q b) lo hi c w (inr (inr i)) =
    let x = in_range b (q.start + q.size) hi c w.2 i in
    let y = within_le a lo q.start w.0 in
    (omega arith, omega arith)

-- ---- the blocks by the list of the runs

pub covered_in : (t : Tree) (c : ℕ) → covered (inorder t) c ≡ true → In c t
covered_in leaf c e = absurd (false≢true e)
covered_in (node a q b) c e =
    go (covered (inorder a) c) (within q.start (q.start + q.size) c) (covered_in a c) (covered_in b c)
    (within_of q.start (q.start + q.size) c) (sym (covered_append (inorder a) (q ∷ inorder b) c) ∙ e)
  where
    go : (x y : Bool) → (x ≡ true → In c a) → (covered (inorder b) c ≡ true → In c b)
        → (y ≡ true → (q.start ≤ c) × (c < q.start + q.size)) → (x || (y || covered (inorder b) c)) ≡ true
        → In c (node a q b)
    go true y f g h e = inl (f refl)
    go false true f g h e = inr (inl (h refl))
    go false false f g h e = inr (inr (g e))

pub in_covered : (t : Tree) (c : ℕ) → In c t → covered (inorder t) c ≡ true
in_covered leaf c i = absurd i
in_covered (node a q b) c (inl i) = covered_append (inorder a) (q ∷ inorder b) c ∙ rw (in_covered a c i)
in_covered (node a q b) c (inr (inl i)) =
    covered_append (inorder a) (q ∷ inorder b) c
    ∙ rw (within_in q.start (q.start + q.size) c i.0 i.1) (or-true (covered (inorder a) c))
in_covered (node a q b) c (inr (inr i)) =
    covered_append (inorder a) (q ∷ inorder b) c
    ∙ rw (in_covered b c i, or-true (within q.start (q.start + q.size) c)) (or-true (covered (inorder a) c))

record Split (k e : ℕ) (xs : List Run) (q : Run) (ys : List Run) : Type 0 where
  before : Gapped k q.start xs
  low : k ≤ q.start
  long : 1 ≤ q.size
  high : q.start + q.size ≤ e
  behind : Gapped (suc (q.start + q.size)) e ys

gapped_split : (k e : ℕ) (xs : List Run) (q : Run) (ys : List Run) → Gapped k e (xs ++ q ∷ ys) → Split k e xs q ys
gapped_split k e [] q ys g = record { before = tt; low = g.0; long = g.1; high = g.2; behind = g.3 }
gapped_split k e (r ∷ xs) q ys g =
    let s = gapped_split (suc (r.start + r.size)) e xs q ys g.3 in
    let low = s.low in
    record {
      before = (g.0, g.1, omega arith, s.before);
      low = omega arith;
      long = s.long;
      high = s.high;
      behind = s.behind;
    }

pub gapped_within : (t : Tree) (lo hi : ℕ) → lo ≤ hi → Gapped lo hi (inorder t) → Within lo hi t
gapped_within leaf lo hi h g = h
gapped_within (node a q b) lo hi h g =
    let s = gapped_split lo hi (inorder a) q (inorder b) g in
    let end = q.start + q.size in (
      gapped_within a lo q.start s.low s.before,
      s.long,
      gapped_within b end hi s.high (gapped_weaken end (suc end) hi (inorder b) (omega arith) s.behind),
    )

-- ---- words and cells

module _ (F : Form) (bound : ℕ) (readable : Readable F bound) where
  -- word i is in a cell from c on, or in one below it
  cell_low : (i c : ℕ) → c ≤ i / F.cell → F.cell * c ≤ i
  cell_low i c h = rw (mul_comm F.cell c) ((le-div_iff_mul-le readable.cells).0 h)

  cell_high : (i c : ℕ) → i / F.cell < c → i < F.cell * c
  cell_high i c h = rw (mul_comm F.cell c) ((div-lt_iff_lt-mul readable.cells).0 h)

  low_cell : (i c : ℕ) → F.cell * c ≤ i → c ≤ i / F.cell
  low_cell i c h = (le-div_iff_mul-le readable.cells).1 (rw (mul_comm F.cell c) at h)

  high_cell : (i c : ℕ) → i < F.cell * c → i / F.cell < c
  high_cell i c h = (div-lt_iff_lt-mul readable.cells).1 (rw (mul_comm F.cell c) at h)

  -- the words of a cell, each by its place
  cell_word : (m ws : Words) (c j : ℕ) → cell_words F m c ≡ ws → j < F.cell → get_or m (F.cell * c + j) 0 ≡ get_or ws j 0
  cell_word m ws c j e h =
      sym (get_or-take F.cell (drop (F.cell * c) m) j 0 h ∙ get_or-drop (F.cell * c) m j 0) ∙ ap (λ l. get_or l j 0) e

  cell_of_words : (m ws : Words) (c : ℕ) → length ws ≡ F.cell → F.cell * suc c ≤ length m
      → ((j : ℕ) → j < F.cell → get_or m (F.cell * c + j) 0 ≡ get_or ws j 0) → cell_words F m c ≡ ws
  cell_of_words m ws c e l h =
      ext_get_or 0 (cell_words F m c) ws (long ∙ sym e)
      (λ j b. let k : j < F.cell = rw long at b in
      get_or-take F.cell (drop (F.cell * c) m) j 0 k ∙ get_or-drop (F.cell * c) m j 0 ∙ h j k)
    where
      long : length (cell_words F m c) ≡ F.cell
      long =
          length-take-le F.cell (drop (F.cell * c) m)
          (rw (length-drop (F.cell * c) m) (omega (arith, mul-suc F.cell c)))

  -- ---- `node_word` by where the word lies

  word_left : (a : Tree) (q : Run) (b : Tree) (i : ℕ) → i < F.cell * q.start
      → node_word F (node a q b) i ≡ node_word F a i
  word_left a q b i h =
      rw (within_low (F.cell * q.start) (F.cell * suc q.start) i h, of_lt i (F.cell * q.start) h)

  word_right : (a : Tree) (q : Run) (b : Tree) (i : ℕ) → F.cell * suc q.start ≤ i
      → node_word F (node a q b) i ≡ node_word F b i
  word_right a q b i h =
      rw (
        within_high (F.cell * q.start) (F.cell * suc q.start) i h,
        of_ge i (F.cell * q.start) (omega (arith, mul-suc F.cell q.start)),
      )

  word_node : (a : Tree) (q : Run) (b : Tree) (j : ℕ) → j < F.cell
      → node_word F (node a q b) (F.cell * q.start + j) ≡ get_or (F.node q.size (link a) (link b)) j 0
  word_node a q b j h =
      let c = F.cell * q.start in
      rw (
        within_in c (F.cell * suc q.start) (c + j) (omega arith) (omega (arith, mul-suc F.cell q.start)),
        add-sub_cancel_left c j,
      )

  -- below the blocks, and wherever no block has its first cell
  word_low : (t : Tree) (lo hi i : ℕ) → Within lo hi t → i < F.cell * lo → node_word F t i ≡ 0
  word_low leaf lo hi i w h = refl
  word_low (node a q b) lo hi i w h =
      let x = mul-le-mul_left F.cell (within_le a lo q.start w.0) in
      word_left a q b i (omega arith) ∙ word_low a lo q.start i w.0 h

  pub node_word_zero : (t : Tree) (i : ℕ) → NotFirst (i / F.cell) t → node_word F t i ≡ 0
  node_word_zero leaf i n = refl
  node_word_zero (node a q b) i n =
      go (dec_le q.start (i / F.cell)) (node_word_zero a i n.0) (node_word_zero b i n.2)
    where
      go : Dec (q.start ≤ i / F.cell) → node_word F a i ≡ 0 → node_word F b i ≡ 0 → node_word F (node a q b) i ≡ 0
      go (yes h) x y = word_right a q b i (cell_low i (suc q.start) (let d = n.1 in omega arith)) ∙ y
      go (no h) x y = word_left a q b i (cell_high i q.start (omega arith)) ∙ x

  -- ---- the words of the blocks, by nodes and by places

  pub holds_stored : (m : Words) (t : Tree) (lo hi : ℕ) → Within lo hi t → Holds F m t
      → (i : ℕ) → In (i / F.cell) t → get_or m i 0 ≡ node_word F t i
  holds_stored m leaf lo hi w h i x = absurd x
  holds_stored m (node a q b) lo hi w h i (inl x) =
      let y = in_range a lo q.start (i / F.cell) w.0 x in
      holds_stored m a lo q.start w.0 h.2 i x ∙ sym (word_left a q b i (cell_high i q.start y.1))
  holds_stored m (node a q b) lo hi w h i (inr (inl x)) = go (dec_le (suc q.start) (i / F.cell))
    where
      go : Dec (suc q.start ≤ i / F.cell) → get_or m i 0 ≡ node_word F (node a q b) i
      go (yes y) =
          let past = cell_low i (suc q.start) y in
          let below = cell_high i (q.start + q.size) x.1 in
          h.1 i past below ∙ sym (word_right a q b i past ∙ word_low b (q.start + q.size) hi i w.2 below)
      go (no y) =
          let at = cell_low i q.start x.0 in
          let below = cell_high i (suc q.start) (omega arith) in
          let j = i - F.cell * q.start in
          let e : F.cell * q.start + j ≡ i = omega arith in
          let l : j < F.cell = omega (arith, mul-suc F.cell q.start) in
          let words = F.node q.size (link a) (link b) in
          subst (λ k. get_or m k 0 ≡ node_word F (node a q b) k) e
          (cell_word m words q.start j h.0 l ∙ sym (word_node a q b j l))
  holds_stored m (node a q b) lo hi w h i (inr (inr x)) =
      let y = in_range b (q.start + q.size) hi (i / F.cell) w.2 x in
      let z = w.1 in
      holds_stored m b (q.start + q.size) hi w.2 h.3 i x
      ∙ sym (word_right a q b i (cell_low i (suc q.start) (omega arith)))

  pub stored_holds : (m : Words) (t : Tree) (lo hi : ℕ) → Within lo hi t → F.cell * hi ≤ length m
      → ((i : ℕ) → In (i / F.cell) t → get_or m i 0 ≡ node_word F t i) → Holds F m t
  stored_holds m leaf lo hi w l h = tt
  stored_holds m (node a q b) lo hi w l h =
      let some = w.1 in
      let high = within_le b (q.start + q.size) hi w.2 in
      let start = mul-le-mul_left {m = q.start} {n = hi} F.cell (omega arith) in
      let first = mul-le-mul_left {m = suc q.start} {n = hi} F.cell (omega arith) in
      let block = mul-le-mul_left {m = suc q.start} {n = q.start + q.size} F.cell (omega arith) in
      let cell = mul-suc F.cell q.start in (
        cell_of_words m (F.node q.size (link a) (link b)) q.start
            (readable.node_length q.size (link a) (link b)) (omega arith)
            (λ j k. let i = F.cell * q.start + j in
            h i (inr (inl (low_cell i q.start (omega arith), high_cell i (q.start + q.size) (omega arith))))
            ∙ word_node a q b j k),
        (λ i k u.
            h i (inr (inl (low_cell i q.start (omega arith), high_cell i (q.start + q.size) u)))
            ∙ word_right a q b i k ∙ word_low b (q.start + q.size) hi i w.2 u),
        stored_holds m a lo q.start w.0 (omega arith)
            (λ i x. let y = (in_range a lo q.start (i / F.cell) w.0 x).1 in
            h i (inl x) ∙ word_left a q b i (cell_high i q.start y)),
        stored_holds m b (q.start + q.size) hi w.2 l
            (λ i x. let y = (in_range b (q.start + q.size) hi (i / F.cell) w.2 x).0 in
            h i (inr (inr x)) ∙ word_right a q b i (cell_low i (suc q.start) (omega arith))),
      )

  -- a node that lies in the arena reads back
  pub holds_reads : (m : Words) (a : Tree) (q : Run) (b : Tree) → Holds F m (node a q b)
      → link a < bound → link b < bound
      → (length_at F m q.start ≡ q.size) × (left_at F m q.start ≡ link a) × (right_at F m q.start ≡ link b)
  holds_reads m a q b h x y = (
    ap F.length_of h.0 ∙ readable.length_back q.size (link a) (link b) x y,
    ap F.left_of h.0 ∙ readable.left_back q.size (link a) (link b) x y,
    ap F.right_of h.0 ∙ readable.right_back q.size (link a) (link b) x y,
  )
