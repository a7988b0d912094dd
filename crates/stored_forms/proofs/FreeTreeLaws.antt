-- The free tree of a ledger in its arena, over the form: what an arena has to show to be the stored form of a valid
-- ledger. 01, "Stored form of the tree pool". Assumes of a form that its nodes are readable.
use Prim.Native.Nat.{ℕ, zero, suc, ◌+◌, ◌*◌, ◌/◌, ◌%◌, ◌≤◌, ◌<◌}
use native.Mathlib.Nat.{add-mul, one-mul, suc-mul, zero-mul, mul_assoc, mul_comm, mul-zero, mul-le-mul_right}
use native.Mathlib.Nat.{div-add-mod, div-add-mod', div-div-eq-div-mul, mul-div_right, mul-div-le, div-mul-le_self}
use native.Mathlib.Nat.{le-div_iff_mul-le, div-lt_iff_lt-mul}
use native.Mathlib.Omega.{arith}
use native.Mathlib.Decide.{dec_le}
use mathlib.Core.Path.{◌≡◌, refl, sym, ap, ap₂, ◌∙◌}
use mathlib.Core.Bool.{true, false, not, ◌||◌}
use mathlib.Core.List.{List, [], ◌∷◌, map}
use lib.ListN.{length, get_or}
use Rattle.words.specs.Lists.{Words, any}
use Rattle.words.specs.Counted.{within}
use Rattle.words.specs.Places.{stamp}
use Rattle.words.proofs.Tests.{bool_iff, and_l, and_r, and_i, eqb_eq, le_of, not_true, not_false}
use Rattle.words.proofs.Tests.{within_in, within_low, within_high}
use Rattle.words.proofs.ListLaws.{any_get_d, any_at}
use Rattle.words.proofs.PlaceLaws.{length_stamp, stamp_keeps, stamp_sets, stamp_is}
use Rattle.ledger.specs.Records.{Ledger, empty_row, is_live}
use Rattle.ledger.specs.Units.{address_at, first, past, valid, covers, free, owns, owned}
use Rattle.ledger.specs.Runs.{Run, run, runs_from, free_runs, covered, Gapped}
use Rattle.ledger.proofs.UnitLaws.{valid_at, covers_of, owned_covered}
use Rattle.ledger.proofs.RunLaws.{gapped_weaken, runs_are}
use Rattle.stored_forms.specs.Tree.{inorder, Form, form_rule, tree_range, cell_run, free_tree, node_word}
use Rattle.stored_forms.proofs.TreeLaws.{inorder_tree_of}
use Rattle.stored_forms.specs.Blocks.{Within, Holds, In}
use Rattle.stored_forms.proofs.NodeLaws.{Readable, in_range, covered_in, in_covered}
use Rattle.stored_forms.proofs.NodeLaws.{gapped_within, holds_stored, stored_holds}

-- ---- runs of units as runs of cells, p to a unit

abbrev pub scaled : ℕ → Run → Run
scaled p r = run (r.start * p) (r.size * p)

module _ (p : ℕ) (some_cells : 0 < p) where
  pub gapped_scaled : (k e : ℕ) (rs : List Run) → Gapped k e rs → Gapped (k * p) (e * p) (map (scaled p) rs)
  gapped_scaled k e [] g = tt
  gapped_scaled k e (r ∷ rs) g =
      let end = r.start + r.size in
      let both = add-mul r.start r.size p in (
        mul-le-mul_right p g.0,
        omega (arith, one-mul p, mul-le-mul_right p g.1),
        omega (arith, mul-le-mul_right p g.2),
        gapped_weaken (suc (r.start * p + r.size * p)) (suc end * p) (e * p) (map (scaled p) rs)
            (omega (arith, suc-mul end p)) (gapped_scaled (suc end) e rs g.3),
      )

  within_scaled : (lo hi c : ℕ) → within (lo * p) (hi * p) c ≡ within lo hi (c / p)
  within_scaled lo hi c = go (dec_le lo (c / p)) (dec_le hi (c / p))
    where
      above : (n : ℕ) → n ≤ c / p → n * p ≤ c
      above n h = (le-div_iff_mul-le some_cells).0 h

      below : (n : ℕ) → c / p < n → c < n * p
      below n h = (div-lt_iff_lt-mul some_cells).0 h

      go : Dec (lo ≤ c / p) → Dec (hi ≤ c / p) → within (lo * p) (hi * p) c ≡ within lo hi (c / p)
      go (no x) y =
          within_low (lo * p) (hi * p) c (below lo (omega arith)) ∙ sym (within_low lo hi (c / p) (omega arith))
      go (yes x) (yes y) = within_high (lo * p) (hi * p) c (above hi y) ∙ sym (within_high lo hi (c / p) y)
      go (yes x) (no y) =
          within_in (lo * p) (hi * p) c (above lo x) (below hi (omega arith))
          ∙ sym (within_in lo hi (c / p) x (omega arith))

  pub covered_scaled : (rs : List Run) (c : ℕ) → covered (map (scaled p) rs) c ≡ covered rs (c / p)
  covered_scaled [] c = refl
  covered_scaled (r ∷ rs) c =
      ap₂ ◌||◌ (ap (λ e. within (r.start * p) e c) (sym (add-mul r.start r.size p))
      ∙ within_scaled r.start (r.start + r.size) c) (covered_scaled rs c)

-- ---- the range of an arena

pub tree_range_lem : (F : Form) (W : ℕ) → tree_range F W ≡ true → (F.unit ≤ W) × (W ≤ F.most) × (W % F.unit ≡ 0)
unfolding tree_range
tree_range_lem F W h = (
  le_of F.unit W (search (and_l, and_r)),
  le_of W F.most (search (and_l, and_r)),
  eqb_eq (W % F.unit) 0 (search (and_l, and_r)),
)

-- ---- the free tree in an arena of W words, a whole number of units

module _ (F : Form) (bound : ℕ) (readable : Readable F bound) where
  pub cells_pos : 0 < F.unit / F.cell
  cells_pos = go (F.unit / F.cell) refl
    where
      go : (n : ℕ) → F.unit / F.cell ≡ n → 0 < n
      go zero e =
          let none : F.unit ≡ 0 = sym readable.whole ∙ ap (λ n. F.cell * n) e ∙ mul-zero F.cell in
          absurd (omega (arith, readable.units))
      go (suc n) e = omega arith

  module _ (W : ℕ) (whole : W % F.unit ≡ 0) (L : Ledger) where
    -- cells to a unit, times units, are the arena's cells
    pub cells_are : W / F.unit * (F.unit / F.cell) ≡ W / F.cell
    cells_are =
        let n = W / F.unit in
        let p = F.unit / F.cell in
        let words : F.cell * (n * p) ≡ W =
        ap (λ m. F.cell * m) (mul_comm n p) ∙ sym (mul_assoc F.cell p n) ∙ ap (λ m. m * n) readable.whole
        ∙ omega (arith, div-add-mod W F.unit) in
        sym (mul-div_right (n * p) readable.cells) ∙ ap (λ w. w / F.cell) words

    pub runs_of_tree : inorder (free_tree F W L) ≡ map (cell_run F) (free_runs (form_rule F) W L)
    unfolding free_tree
    runs_of_tree = inorder_tree_of (map (cell_run F) (free_runs (form_rule F) W L))

    pub tree_within : Within 0 (W / F.cell) (free_tree F W L)
    unfolding free_runs
    tree_within =
        let n = W / F.unit in
        let p = F.unit / F.cell in
        let runs = runs_from (free (form_rule F) L) 0 n in
        let gaps = gapped_scaled p cells_pos 0 n runs (runs_are (free (form_rule F) L) n).gapped in
        gapped_within (free_tree F W L) 0 (W / F.cell) (omega arith)
        (rw runs_of_tree (rw (zero-mul p, cells_are) at gaps))

    -- a word's cell is in a block of the tree where its unit is free
    pub free_cell : (i : ℕ) → i < W
        → covered (inorder (free_tree F W L)) (i / F.cell) ≡ free (form_rule F) L (i / F.unit)
    unfolding free_runs
    free_cell i h =
        let N = W / F.unit in
        let p = F.unit / F.cell in
        let runs = runs_from (free (form_rule F) L) 0 N in
        let unit : i / F.cell / p ≡ i / F.unit =
        div-div-eq-div-mul i F.cell p ∙ ap (λ n. i / n) readable.whole in
        let inside : i / F.unit < N =
        (div-lt_iff_lt-mul readable.units).1 (omega (arith, div-add-mod' W F.unit)) in
        ap (λ rs. covered rs (i / F.cell)) runs_of_tree
        ∙ covered_scaled p cells_pos runs (i / F.cell) ∙ ap (covered runs) unit
        ∙ (runs_are (free (form_rule F) L) N).cover (i / F.unit) inside

    -- ---- a valid ledger

    module _ (next : ℕ) (good : valid (form_rule F) W next L ≡ true) where
      held_owned : (i : ℕ) → free (form_rule F) L (i / F.unit) ≡ false → owned (form_rule F) L i ≡ true
      unfolding free owned owns address_at
      held_owned i h =
          let ρ = form_rule F in
          let u = i / F.unit in
          let (j, l, c) = any_get_d (covers ρ u) empty_row L (not_false (any (covers ρ u) L) h) in
          let r = get_or L j empty_row in
          let (live, low, high) = covers_of ρ u r c in
          let place = (valid_at ρ readable.units W next L good j l live).place in
          let from = (le-div_iff_mul-le readable.units).0 low in
          let to = (div-lt_iff_lt-mul readable.units).0 high in
          let here = within_in r.address (F.unit * past ρ r) i
          (omega (arith, mul_comm F.unit (first ρ r))) (omega (arith, mul_comm F.unit (past ρ r))) in
          any_at (owns ρ i) empty_row L j (and_i (is_live r) (within r.address (F.unit * past ρ r) i) live here) l

      -- a word is its holder's exactly if its unit is not free
      pub owned_free : (i : ℕ) → owned (form_rule F) L i ≡ not (free (form_rule F) L (i / F.unit))
      owned_free i =
          bool_iff (owned (form_rule F) L i) (not (free (form_rule F) L (i / F.unit)))
          (λ h. ap not (owned_covered (form_rule F) readable.units W next L good i h))
          (λ h. held_owned i (not_true (free (form_rule F) L (i / F.unit)) h))

      -- What an engine has to show of the arena it leaves: the words of the free tree, and the holders' words as they
      -- were in a.
      pub stamped : (a b : Words) → length a ≡ W → length b ≡ length a
          → ((i : ℕ) → i < length a → owned (form_rule F) L i ≡ true → get_or b i 0 ≡ get_or a i 0)
          → Holds F b (free_tree F W L)
          → b ≡ stamp (owned (form_rule F) L) (node_word F (free_tree F W L)) a
      stamped a b size same keeps holds =
          stamp_is (owned (form_rule F) L) (node_word F (free_tree F W L)) a b 0 same keeps
          (λ i l o. holds_stored F bound readable b (free_tree F W L) 0 (W / F.cell) tree_within holds i
          (block i (omega arith) o))
        where
          block : (i : ℕ) → i < W → owned (form_rule F) L i ≡ false → In (i / F.cell) (free_tree F W L)
          block i l o =
              let u = not_false (free (form_rule F) L (i / F.unit)) (sym (owned_free i) ∙ o) in
              covered_in (free_tree F W L) (i / F.cell) (free_cell i l ∙ u)

      -- And what such an arena shows.
      pub of_stamped : (a b : Words) → length a ≡ W
          → b ≡ stamp (owned (form_rule F) L) (node_word F (free_tree F W L)) a
          → (length b ≡ length a)
          × ((i : ℕ) → owned (form_rule F) L i ≡ true → get_or b i 0 ≡ get_or a i 0)
          × Holds F b (free_tree F W L)
      of_stamped a b size e =
          let T = free_tree F W L in
          let own = owned (form_rule F) L in
          let long : length b ≡ length a = ap length e ∙ length_stamp own (node_word F T) a in (
            long,
            (λ i o. ap (λ l. get_or l i 0) e ∙ stamp_keeps own (node_word F T) a i 0 o),
            stored_holds F bound readable b T 0 (W / F.cell) tree_within (omega (arith, mul-div-le W F.cell))
                (λ i x. let l = inside i x in
                ap (λ l. get_or l i 0) e ∙ stamp_sets own (node_word F T) a i 0 (omega arith) (unowned i l x)),
          )
        where
          inside : (i : ℕ) → In (i / F.cell) (free_tree F W L) → i < W
          inside i x =
              let c = (in_range (free_tree F W L) 0 (W / F.cell) (i / F.cell) tree_within x).1 in
              let l = (div-lt_iff_lt-mul readable.cells).0 c in
              omega (arith, div-mul-le_self W F.cell)

          unowned : (i : ℕ) → i < W → In (i / F.cell) (free_tree F W L) → owned (form_rule F) L i ≡ false
          unowned i l x = owned_free i ∙ ap not (sym (free_cell i l) ∙ in_covered (free_tree F W L) (i / F.cell) x)
