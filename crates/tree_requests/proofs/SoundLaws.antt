-- What a sound tree pool shows: the tree of the free runs lies in the arena at the root link. Assumes nothing.
use Prim.Native.Nat.{ℕ, ◌*◌, ◌/◌, ◌%◌, ◌≤◌, ◌<◌}
use native.Mathlib.Nat.{zero-mul}
use native.Mathlib.Omega.{arith}
use mathlib.Core.Path.{◌≡◌, sym, ap, ◌∙◌}
use mathlib.Core.Bool.{true, false}
use mathlib.Core.List.{List}
use lib.ListN.{length}
use Rattle.words.specs.Lists.{Words}
use Rattle.words.proofs.Tests.{and_r}
use Rattle.ledger.specs.Records.{Ledger, records_of}
use Rattle.ledger.specs.Units.{valid, free, owned}
use Rattle.ledger.specs.Runs.{Run, runs_from, covered, free_runs, Gapped}
use Rattle.ledger.proofs.UnitLaws.{owned_covered}
use Rattle.ledger.proofs.RunLaws.{runs_are}
use Rattle.stored_forms.specs.Tree.{Form, form_one, form_two, form_three, form_of, form_rule, cells_per_unit}
use Rattle.stored_forms.specs.Tree.{free_tree, link}
use Rattle.stored_forms.specs.Blocks.{Holds}
use Rattle.stored_forms.proofs.NodeLaws.{each_form, readable, form_unit}
use Rattle.stored_forms.proofs.FreeTreeLaws.{gapped_scaled, cells_are, runs_of_tree, tree_within, free_cell}
use Rattle.tree_nodes.specs.Nodes.{cells}
use Rattle.free_blocks.specs.Blocks.{Lies}
use Rattle.calls.specs.Pool.{lengths, stored, sound}
use Rattle.calls.specs.Engines.{tree_engine}
use Rattle.calls.proofs.StoreLaws.{sound_lengths, sound_valid}
use Rattle.calls.proofs.Engines.{tree_laws}
use Rattle.tree_check.specs.declared.Head.{Head}
use Rattle.tree_check.specs.Gate.{tree_pool}
use Rattle.tree_check.proofs.GateLaws.{InRange, in_range, stored_shown}
use Rattle.tree_requests.proofs.SizeLaws.{free_cells, some_cells}

-- in each form there are links for all of the largest arena
many_links : (f : ℕ) (a : Words) → length a ≤ (form_of f).most → 2 * cells (form_of f) a < (form_of f).links
unfolding form_one form_two form_three
many_links =
    each_form (λ F. (a : Words) → length a ≤ F.most → 2 * cells F a < F.links) (λ a l. omega arith) (λ a l. omega arith)
    (λ a l. omega arith)

module _ (f W : ℕ) (whole : W % (form_of f).unit ≡ 0) (L : Ledger) where
  abbrev F : Form
  F = form_of f

  -- a word that a holder owns lies in no free cell
  pub held_word : (next : ℕ) → valid (form_rule F) W next L ≡ true → (i : ℕ) → i < W → owned (form_rule F) L i ≡ true
      → covered (free_cells F W L) (i / F.cell) ≡ false
  held_word next good i l o =
      ap (λ (rs : List Run). covered rs (i / F.cell)) (sym (runs_of_tree F F.links (readable f) W whole L))
      ∙ free_cell F F.links (readable f) W whole L i l
      ∙ owned_covered (form_rule F) (form_unit f) W next L good i o

  pub cells_gapped : Gapped 0 (W / F.cell) (free_cells F W L)
  unfolding free_runs
  cells_gapped =
      let p = cells_per_unit F in
      let N = W / F.unit in
      let gaps = gapped_scaled p (some_cells f) 0 N (runs_from (free (form_rule F) L) 0 N)
      (runs_are (free (form_rule F) L) N).gapped in
      rw (zero-mul p, cells_are F F.links (readable f) W whole L) at gaps

module _ (h : Head) (a t : Words) (ok : sound tree_engine (tree_pool h a t) ≡ true) where
  abbrev G : Form
  G = form_of h.form

  pub sound_range : InRange G a t
  sound_range = in_range h a t (sound_lengths tree_engine tree_laws (tree_pool h a t) ok)

  pub sound_good : valid (form_rule G) (length a) h.next (records_of t) ≡ true
  unfolding tree_engine
  sound_good = sound_valid tree_engine tree_laws (tree_pool h a t) ok

  is_tree : (link (free_tree G (length a) (records_of t)) ≡ h.root) × Holds G a (free_tree G (length a) (records_of t))
  unfolding sound
  is_tree =
      let p = tree_pool h a t in
      stored_shown h (record { fit = sound_range; good = sound_good })
      (and_r (lengths tree_engine p) (stored tree_engine p) ok)

  pub sound_lies : Lies G a h.root (free_cells G (length a) (records_of t))
  unfolding free_tree
  sound_lies = record {
    tree = record {
      at = is_tree.0;
      holds = is_tree.1;
      within = tree_within G G.links (readable h.form) (length a) sound_range.whole (records_of t);
      small = many_links h.form a sound_range.most;
    };
    gapped = cells_gapped h.form (length a) sound_range.whole (records_of t);
  }
