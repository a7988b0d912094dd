-- `tree_requests::cut_back` meets its contract: the cells that go back, if any, and the shorter record, make the act a
-- trim. Assumes nothing.
use Prim.Native.Nat.{ℕ, ◌+◌, ◌*◌, ◌/◌, ◌<◌}
use mathlib.Core.Bool.{true}
use mathlib.Core.Logic.{◌≢◌}
use native.Mathlib.Omega.{arith}
use mathlib.Core.Path.{◌≡◌, sym, ap, ◌∙◌}
use mathlib.Core.List.{[], ◌∷◌}
use lib.ListN.{length, set}
use Rattle.words.specs.Lists.{Words}
use Rattle.ledger.specs.declared.Row.{Row}
use Rattle.ledger.specs.Records.{Ledger, records_of, table_of, keep, keepable, shortened, carry_out, member, settle}
use Rattle.ledger.specs.Units.{first, kept_units, tail_units}
use Rattle.stored_forms.specs.Tree.{Form, form_of, form_rule, cells_per_unit}
use Rattle.free_blocks.specs.Blocks.{Changed, Gives, Given}
use Rattle.calls.specs.Pool.{sound}
use Rattle.calls.specs.Step.{cut}
use Rattle.std.specs.Prelude.{Ok}
use Rattle.call_parts.specs.Parts.{named_in}
use Rattle.calls.specs.Engines.{tree_engine}
use Rattle.call_parts.specs.Results.{acted}
use Rattle.call_parts.proofs.ResultLaws.{acted_by}
use Rattle.tree_check.specs.declared.Head.{Head}
use Rattle.tree_check.specs.Gate.{tree_pool}
use Rattle.call_parts.specs.declared.Outcome.{Outcome}
use Rattle.tree_requests.specs.Outcomes.{handed, release_outcome, effect_number, effect_root, effect_address}
use Rattle.tree_requests.specs.Sizes.{cell_span}
use Rattle.tree_requests.proofs.SizeLaws.{free_cells}
use Rattle.tree_requests.proofs.RefusedLaws.{released}
use Rattle.tree_requests.proofs.PlanLaws.{plan_range, plan_slot, plan_answer, plan_some, plan_none, plan_gives}
use Rattle.tree_requests.proofs.PlanLaws.{plan_given, plan_stays, plan_root, plan_pool, trim_from}
use Rattle.tree_requests.proofs.cut_back.Goals as goal

add_same : (k : ℕ) {m n : ℕ} → k + m ≡ k + n → m ≡ n
add_same k e = omega arith

module _ (h : Head) (a t : Words) (r : Row) (slot n : ℕ) (ok : sound tree_engine (tree_pool h a t) ≡ true)
    (found : named_in t r ≡ Ok slot) (can : keepable n r ≡ true) where
  abbrev form : Form
  form = form_of h.form

  abbrev named_cell : ℕ
  named_cell = r.address / form.cell

  abbrev L : Ledger
  L = records_of t

  -- the free cells become those of the ledger with the shorter record
  abbrev Frees : Words → ℕ → Type 0
  Frees b root =
      Changed form a b (free_cells form (length a) L)
      (free_cells form (length a) (settle (member r.ticket (keep n) ∷ []) L)) root

  -- the tail in the code's own numbers: where it begins, and where it ends
  module _ (kept : ℕ) (from : kept ≡ cell_span form n) where
    tail_from : let ρ = form_rule form in
        named_cell + kept ≡ (first ρ r + kept_units ρ (keep n)) * cells_per_unit form
    tail_from = ap (λ (k : ℕ). named_cell + k) from ∙ trim_from h a t r slot ok found n

    -- nothing changes where there is none
    none_given : kept ≡ cell_span form r.words → Frees a h.root
    none_given e =
        plan_stays h a t r slot ok found (keep n) can
        (plan_none h a t r slot ok found (keep n) can (named_cell + kept) tail_from
        (ap (λ (k : ℕ). named_cell + k) e))

    -- there is a tail
    some_tail : kept ≢ cell_span form r.words → 0 < tail_units (form_rule form) (keep n) r
    some_tail d =
        plan_some h a t r slot ok found (keep n) can (named_cell + kept) tail_from (λ e. d (add_same named_cell e))

    tail_gives : kept ≢ cell_span form r.words
        → Gives form a h.root (named_cell + kept) (named_cell + cell_span form r.words) (free_cells form (length a) L)
    tail_gives d = plan_gives h a t r slot ok found (keep n) can (named_cell + kept) tail_from (some_tail d)

    -- what the cells given back leave
    given : kept ≢ cell_span form r.words → (b : Words) (root : ℕ)
        → Given form a b h.root (named_cell + kept) (named_cell + cell_span form r.words) root → Frees b root
    given d = plan_given h a t r slot ok found (keep n) can (named_cell + kept) tail_from (some_tail d)

  -- the table with the shorter record
  abbrev Written : Words → Type 0
  Written u = u ≡ table_of (set L slot (carry_out (keep n) r))

  written : {u : Words} {s : Row} → u ≡ table_of (set L slot s) → s ≡ shortened n r → Written u
  written e is = rw can (e ∙ ap (λ (s : Row). table_of (set L slot s)) is)

  -- what the act is, by what it leaves
  acts : (b u : Words) (root e : ℕ) → Frees b root → Written u
      → (effect_number e ≡ 0) × (effect_root e ≡ root) × (effect_address e ≡ 0)
      → handed (release_outcome h (shortened n r) e) b u [] ≡ acted tree_engine (cut r n) (tree_pool h a t)
  acts b u root e change table (number, rooted, _) =
      ap (λ (o : Outcome Head). handed o b u []) (released h e root number rooted (shortened n r))
      ∙ acted_by tree_engine (cut r n) (tree_pool h a t) _ _ (plan_answer h a t r slot ok found (keep n) can)
      (plan_pool h a t r slot ok found (keep n) can b root change u table)

pub write_row-requires : goal.write_row-requires
write_row-requires c =
    let h = c.args.head in
    let a = c.args.arena.now in
    let t = c.args.table.now in
    let r = c.args.named in
    let slot = c.args.slot in
    let (ok, found, can) = c.requires in
    record {
      i_bound = plan_slot h a t r slot ok found;
      record_words_len = (plan_range h a t r slot ok found).fours;
    }

pub returns-then-kept-cells_of : goal.returns-then-kept-cells_of
returns-then-kept-cells_of c =
    let h = c.args.head in
    let a = c.args.arena.now in
    let t = c.args.table.now in
    let r = c.args.named in
    let slot = c.args.slot in
    let (ok, found, can) = c.requires in
    let n = c.args.keep in
    acts h a t r slot n ok found can a c.write_row.new.table h.root c.effect.result
    (none_given h a t r slot n ok found can c.cells_of-kept.result c.cells_of-kept.ensures
    (c.if-kept-cells_of.true ∙ c.cells_of.ensures))
    (written h a t r slot n ok found can c.write_row.ensures c.shortened.ensures) c.effect.ensures

pub give_tail-root-requires : goal.give_tail-root-requires
give_tail-root-requires c =
    let h = c.args.head in
    let a = c.args.arena.now in
    let t = c.args.table.now in
    let r = c.args.named in
    let slot = c.args.slot in
    let (ok, found, can) = c.requires in (
      free_cells (form_of h.form) (length a) (records_of t),
      tail_gives h a t r slot c.args.keep ok found can c.cells_of-kept.result c.cells_of-kept.ensures
          (λ e. c.if-kept-cells_of.false (e ∙ sym c.cells_of.ensures)),
    )

pub effect-requires-2 : goal.effect-requires-2
effect-requires-2 c =
    let h = c.args.head in
    let a = c.args.arena.now in
    let t = c.args.table.now in
    let r = c.args.named in
    let slot = c.args.slot in
    let (ok, found, can) = c.requires in
    let n = c.args.keep in
    let change = given h a t r slot n ok found can c.cells_of-kept.result c.cells_of-kept.ensures
    (λ e. c.if-kept-cells_of.false (e ∙ sym c.cells_of.ensures)) c.give_tail-root.new.arena c.give_tail-root.result
    c.give_tail-root.ensures in
    (plan_root h a t r slot ok found (keep n) can c.give_tail-root.new.arena c.give_tail-root.result change, omega arith)

pub returns : goal.returns
returns c =
    let h = c.args.head in
    let a = c.args.arena.now in
    let t = c.args.table.now in
    let r = c.args.named in
    let slot = c.args.slot in
    let (ok, found, can) = c.requires in
    let n = c.args.keep in
    let change = given h a t r slot n ok found can c.cells_of-kept.result c.cells_of-kept.ensures
    (λ e. c.if-kept-cells_of.false (e ∙ sym c.cells_of.ensures)) c.give_tail-root.new.arena c.give_tail-root.result
    c.give_tail-root.ensures in
    acts h a t r slot n ok found can c.give_tail-root.new.arena c.write_row.new.table c.give_tail-root.result
    c.effect-2.result change (written h a t r slot n ok found can c.write_row.ensures c.shortened.ensures)
    c.effect-2.ensures
