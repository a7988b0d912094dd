-- Units as cells, over the form: sizes, and the free runs. Assumes nothing.
use Prim.Native.Nat.{ℕ, ◌+◌, ◌*◌, ◌/◌, ◌≤◌, ◌<◌}
use native.Mathlib.Nat.{add-mul, one-mul, mul_comm, mul_assoc, mul-le-mul_right, mul-div_right}
use native.Mathlib.Omega.{arith}
use mathlib.Core.Path.{◌≡◌, refl, sym, ap, ◌∙◌}
use mathlib.Core.List.{List, map}
use Rattle.ledger.specs.declared.Row.{Row}
use Rattle.ledger.specs.Records.{Ledger}
use Rattle.ledger.specs.Units.{span, first, past, address_at}
use Rattle.ledger.specs.Runs.{Run, free_runs}
use Rattle.stored_forms.specs.Tree.{Form, form_one, form_two, form_three, form_of, form_rule, cell_run}
use Rattle.stored_forms.specs.Tree.{cells_per_unit, free_tree, tree_of}
use Rattle.stored_forms.proofs.NodeLaws.{each_form, readable}
use Rattle.stored_forms.proofs.FreeTreeLaws.{cells_pos}
use Rattle.tree_requests.specs.Sizes.{cell_span}

-- the free runs, in cells
abbrev pub free_cells : Form → ℕ → Ledger → List Run
free_cells F W L = map (cell_run F) (free_runs (form_rule F) W L)

pub tree_of_lem : (F : Form) (W : ℕ) (L : Ledger) → free_tree F W L ≡ tree_of (free_cells F W L)
unfolding free_tree
tree_of_lem F W L = refl

-- so many cells fit a word, for any words that can be asked for
pub few_cells : (f n : ℕ) → n ≤ (form_of f).limit → cell_span (form_of f) n < 4294967296
unfolding form_one form_two form_three span
few_cells =
    each_form (λ F. (n : ℕ) → n ≤ F.limit → cell_span F n < 4294967296) (λ n l. omega arith) (λ n l. omega arith)
    (λ n l. omega arith)

module _ (f : ℕ) where
  abbrev F : Form
  F = form_of f

  pub some_cells : 0 < cells_per_unit F
  some_cells = cells_pos F F.links (readable f)

  -- the words of so many units
  pub cell_words_lem : (x : ℕ) → F.cell * (x * cells_per_unit F) ≡ F.unit * x
  cell_words_lem x =
      ap (λ y. F.cell * y) (mul_comm x (cells_per_unit F)) ∙ sym (mul_assoc F.cell (cells_per_unit F) x)
      ∙ ap (λ y. y * x) (readable f).whole

  -- the first cell of unit k begins where the unit does
  pub cell_address : (k : ℕ) → address_at (form_rule F) k ≡ F.cell * (k * cells_per_unit F)
  unfolding address_at
  cell_address k = omega (arith, cell_words_lem k)

  -- a record that starts on a unit: its first cell, and the first past it
  module _ (r : Row) (place : r.address ≡ address_at (form_rule F) (first (form_rule F) r)) where
    pub first_cell : r.address / F.cell ≡ first (form_rule F) r * cells_per_unit F
    first_cell =
        ap (λ w. w / F.cell) (place ∙ cell_address (first (form_rule F) r))
        ∙ mul-div_right (first (form_rule F) r * cells_per_unit F) (readable f).cells

    pub past_cell : r.address / F.cell + cell_span F r.words ≡ past (form_rule F) r * cells_per_unit F
    unfolding past
    past_cell =
        ap (λ c. c + cell_span F r.words) first_cell
        ∙ sym (add-mul (first (form_rule F) r) (span (form_rule F) r.words) (cells_per_unit F))

  pub some_span : (n : ℕ) → 1 ≤ span (form_rule F) n → 1 ≤ cell_span F n
  some_span n h = omega (arith, one-mul (cells_per_unit F), some_cells, mul-le-mul_right (cells_per_unit F) h)
