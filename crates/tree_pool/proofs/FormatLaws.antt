-- A formatted tree pool: one free block of all cells, no record. Assumes nothing.
use Prim.Native.Nat.{ℕ, zero, suc, ◌+◌, ◌-◌, ◌*◌, ◌/◌, ◌%◌, ◌≤◌, ◌<◌}
use native.Mathlib.Nat.{sub-zero, zero-add, zero-mul, mul-one, mul_comm, mul-div-le, le-div_iff_mul-le, one-mul}
use native.Mathlib.Nat.{mul-le-mul_left}
use native.Mathlib.Omega.{arith}
use mathlib.Core.Path.{◌≡◌, refl, sym, ap, ap₂, ◌∙◌, subst}
use mathlib.Core.Logic.{◌≢◌}
use mathlib.Core.Bool.{Bool, true, false, false≢true}
use mathlib.Core.List.{List, [], ◌∷◌, map}
use lib.ListN.{length, replicate, length-replicate, get_or-replicate}
use Rattle.words.specs.Lists.{Words}
use Rattle.ledger.specs.declared.Rule.{Rule}
use Rattle.ledger.specs.Records.{empty_row, slots}
use Rattle.ledger.specs.Units.{free, owned, covers, owns}
use Rattle.ledger.specs.Runs.{Run, run, runs_from, free_runs}
use Rattle.ledger.proofs.UnitLaws.{valid_blank}
use Rattle.ledger.proofs.RunLaws.{runs_meet}
use Rattle.stored_forms.specs.Tree.{Form, form_of, form_rule, cell_run, free_tree, tree_of, node, leaf, link}
use Rattle.stored_forms.specs.Blocks.{Holds, Zeros}
use Rattle.stored_forms.proofs.NodeLaws.{readable, form_unit}
use Rattle.stored_forms.proofs.FreeTreeLaws.{cells_pos, cells_are}
use Rattle.tree_nodes.specs.Nodes.{NodePut}
use Rattle.calls.specs.Pool.{Pool, lengths, store}
use Rattle.calls.specs.Step.{blank, format, step}
use Rattle.calls.specs.Engines.{tree_engine}
use Rattle.call_parts.specs.Parts.{format_number}
use Rattle.call_parts.specs.Results.{result_of}
use Rattle.call_parts.proofs.FormatLaws.{zero_table, format_refused, format_right}
use Rattle.tree_check.specs.Gate.{tree_pool, no_head}
use Rattle.tree_check.proofs.GateLaws.{InRange, in_range}
use Rattle.call_parts.specs.declared.Outcome.{Outcome}
use Rattle.tree_check.specs.declared.Head.{Head}
use Rattle.tree_requests.specs.Outcomes.{formatted, refused_with}
use Rattle.tree_requests.proofs.StoredLaws.{Shows, stored_pool}

module _ (ρ : Rule) where
  blank_free : (k u : ℕ) → free ρ (replicate k empty_row) u ≡ true
  unfolding free covers
  blank_free zero u = refl
  blank_free (suc k) u = blank_free k u

  pub blank_owned : (k i : ℕ) → owned ρ (replicate k empty_row) i ≡ false
  unfolding owned owns
  blank_owned zero i = refl
  blank_owned (suc k) i = blank_owned k i

  -- one run of all units
  blank_runs : (W k : ℕ) → 0 < ρ.unit → ρ.unit ≤ W
      → free_runs ρ W (replicate k empty_row) ≡ run 0 (W / ρ.unit) ∷ []
  unfolding free_runs
  blank_runs W k pos h =
      let L = replicate k empty_row in
      let N = W / ρ.unit in
      let some : 0 < N = (le-div_iff_mul-le pos).1 (rw (one-mul ρ.unit) h) in
      let all_free = runs_meet (free ρ L) N 0 N some (omega arith) (λ u a b. blank_free k u)
      (λ l. absurd (omega arith)) in
      let end : N - N ≡ 0 = omega arith in
      let one : run 0 (N - 0) ∷ runs_from (free ρ L) N (N - N) ≡ run 0 N ∷ [] = rw (sub-zero N, end) in
      ap (runs_from (free ρ L) 0) (sym (sub-zero N)) ∙ all_free ∙ one

module _ (f : ℕ) where
  abbrev F : Form
  F = form_of f

  -- one block of all cells
  blank_tree : (W k : ℕ) → F.unit ≤ W → W % F.unit ≡ 0
      → free_tree F W (replicate k empty_row) ≡ node leaf (run 0 (W / F.cell)) leaf
  unfolding free_tree
  blank_tree W k h whole =
      let L = replicate k empty_row in
      let per = F.unit / F.cell in
      ap (λ (rs : List Run). tree_of (map (cell_run F) rs)) (blank_runs (form_rule F) W k (form_unit f) h)
      ∙ ap₂ (λ (x y : ℕ). node leaf (run x y) leaf) (zero-mul per) (cells_are F F.links (readable f) W whole L)

  -- the block's first cell is there
  pub blank_inside : (W : ℕ) → F.unit ≤ W → 0 < W / F.cell
  blank_inside W h =
      let whole = (readable f).whole in
      let cell : F.cell ≤ F.unit =
      omega (arith, whole, mul-one F.cell, mul-le-mul_left F.cell (cells_pos F F.links (readable f))) in
      (le-div_iff_mul-le (readable f).cells).1 (omega (arith, one-mul F.cell))

  blank_shows : (a b : Words) (k : ℕ) → F.unit ≤ length a → length a % F.unit ≡ 0
      → NodePut F (replicate (length a) 0) b 0 (length a / F.cell) 0 0 → Shows F a b 1 (replicate k empty_row)
  blank_shows a b k h whole put =
      let W = length a in
      let tree = blank_tree W k h whole in
      record {
        long = put.long ∙ length-replicate W 0;
        kept = λ i l o. absurd (false≢true (sym (blank_owned (form_rule F) k i) ∙ o));
        holds = subst (Holds F b) (sym tree) (put.node, zeros, tt, tt);
        root = ap link tree;
      }
    where
      zeros : Zeros b (F.cell * 1) (F.cell * (0 + length a / F.cell))
      zeros i l m =
          let past : 1 ≤ i / F.cell = (le-div_iff_mul-le (readable f).cells).1 (rw (mul_comm 1 F.cell) l) in
          let inside : i < F.cell * (length a / F.cell) = rw (zero-add (length a / F.cell)) at m in
          put.frame (i / F.cell) (λ z. omega arith) i refl
          ∙ get_or-replicate (length a) i 0 0 (omega (arith, mul-div-le (length a) F.cell))

-- ---- the call

abbrev pub blank_pool : ℕ → Words → Words → Pool
blank_pool form a t = tree_pool (no_head form) a t

module _ (form : ℕ) (a t : Words) (first : ℕ) (k : Bool) (known : k ≡ tree_engine.known form) (r : Bool)
    (right : r ≡ lengths tree_engine (blank_pool form a t)) (n : ℕ) (is : n ≡ format_number k r first) where
  pub head_refused : (x : Outcome Head) → n ≢ 0 → x ≡ refused_with (no_head 0) n
      → formatted form x a t ≡ result_of (step tree_engine (format first) (blank_pool form a t))
  unfolding tree_engine
  head_refused x z h =
      ap (λ (o : Outcome Head). formatted form o a t) h
      ∙ format_refused tree_engine (blank_pool form a t) first k known r right n is z

  module _ (z : n ≡ 0) where
    pub fit : InRange (form_of form) a t
    fit = in_range (no_head form) a t (format_right tree_engine (blank_pool form a t) first k known r right n is z)

    pub blank_pool_lem : (b y : Words) → NodePut (form_of form) (replicate (length a) 0) b 0 (length a / (form_of form).cell) 0 0
        → y ≡ replicate (length t) 0
        → tree_pool (record { root = 1; next = first; form = form }) b y
        ≡ store tree_engine (blank tree_engine (blank_pool form a t)) first (blank_pool form a t)
    blank_pool_lem b y put e =
        stored_pool (blank_pool form a t) (replicate (slots t) empty_row) first first 1 b y fit.whole
        (valid_blank (form_rule (form_of form)) (length a) first (slots t))
        (blank_shows form a b (slots t) fit.some fit.whole put)
        (e ∙ zero_table t fit.fours)
