-- `tree_requests::give_back` meets its contract: the cells that go back make the act a release. Assumes nothing.
use native.Mathlib.Omega.{arith}
use mathlib.Core.Path.{◌≡◌, refl, ap, ◌∙◌}
use mathlib.Core.List.{[], ◌∷◌}
use Prim.Native.Nat.{ℕ, ◌+◌, ◌/◌}
use mathlib.Core.Bool.{true}
use lib.ListN.{length}
use Rattle.words.specs.Lists.{Words}
use Rattle.ledger.specs.declared.Row.{Row}
use Rattle.ledger.specs.Records.{records_of, vacate, member, settle}
use Rattle.stored_forms.specs.Tree.{form_of}
use Rattle.free_blocks.specs.Blocks.{Changed, Gives, Given}
use Rattle.calls.specs.Pool.{sound}
use Rattle.calls.specs.Step.{give}
use Rattle.std.specs.Prelude.{Ok}
use Rattle.call_parts.specs.Parts.{named_in}
use Rattle.calls.specs.Engines.{tree_engine}
use Rattle.call_parts.proofs.ResultLaws.{acted_by}
use Rattle.tree_check.specs.declared.Head.{Head}
use Rattle.tree_check.specs.Gate.{tree_pool}
use Rattle.tree_requests.specs.Sizes.{cell_span}
use Rattle.call_parts.specs.declared.Outcome.{Outcome}
use Rattle.tree_requests.specs.Outcomes.{handed}
use Rattle.tree_requests.proofs.SizeLaws.{free_cells}
use Rattle.tree_requests.proofs.RefusedLaws.{released}
use Rattle.tree_requests.proofs.PlanLaws.{plan_range, plan_slot, plan_answer, plan_gives, plan_given, plan_root}
use Rattle.tree_requests.proofs.PlanLaws.{plan_pool, release_from, release_some}
use Rattle.tree_requests.proofs.give_back.Goals as goal

add_none : (n : ℕ) → n + 0 ≡ n
add_none n = omega arith

module _ (h : Head) (a t : Words) (r : Row) (slot : ℕ) (ok : sound tree_engine (tree_pool h a t) ≡ true)
    (found : named_in t r ≡ Ok slot) where
  -- its first cell, behind none that are kept
  abbrev named_cell : ℕ
  named_cell = r.address / (form_of h.form).cell + 0

  gives : let F = form_of h.form in
      Gives F a h.root named_cell (r.address / F.cell + cell_span F r.words) (free_cells F (length a) (records_of t))
  gives =
      plan_gives h a t r slot ok found vacate refl named_cell (add_none _ ∙ release_from h a t r slot ok found)
      (release_some h a t r slot ok found)

  -- what the cells given back leave
  given : (b : Words) (root : ℕ) → let F = form_of h.form in
      Given F a b h.root named_cell (r.address / F.cell + cell_span F r.words) root
      → Changed F a b (free_cells F (length a) (records_of t))
      (free_cells F (length a) (settle (member r.ticket vacate ∷ []) (records_of t))) root
  given =
      plan_given h a t r slot ok found vacate refl named_cell (add_none _ ∙ release_from h a t r slot ok found)
      (release_some h a t r slot ok found)

pub give_tail-root-requires : goal.give_tail-root-requires
give_tail-root-requires c =
    let h = c.args.head in
    let a = c.args.arena.now in
    let t = c.args.table.now in
    let r = c.args.named in
    let slot = c.args.slot in
    let (ok, found) = c.requires in
    (free_cells (form_of h.form) (length a) (records_of t), gives h a t r slot ok found)

pub write_row-requires : goal.write_row-requires
write_row-requires c =
    let h = c.args.head in
    let a = c.args.arena.now in
    let t = c.args.table.now in
    let r = c.args.named in
    let slot = c.args.slot in
    let (ok, found) = c.requires in
    record {
      i_bound = plan_slot h a t r slot ok found;
      record_words_len = (plan_range h a t r slot ok found).fours;
    }

pub effect-requires : goal.effect-requires
effect-requires c =
    let h = c.args.head in
    let a = c.args.arena.now in
    let t = c.args.table.now in
    let r = c.args.named in
    let slot = c.args.slot in
    let (ok, found) = c.requires in
    let b = c.give_tail-root.new.arena in
    let root = c.give_tail-root.result in
    let change = given h a t r slot ok found b root c.give_tail-root.ensures in
    (plan_root h a t r slot ok found vacate refl b root change, omega arith)

pub returns : goal.returns
returns c =
    let h = c.args.head in
    let a = c.args.arena.now in
    let t = c.args.table.now in
    let r = c.args.named in
    let slot = c.args.slot in
    let (ok, found) = c.requires in
    let b = c.give_tail-root.new.arena in
    let (number, root, _) = c.effect.ensures in
    let change = given h a t r slot ok found b c.give_tail-root.result c.give_tail-root.ensures in
    let q = plan_pool h a t r slot ok found vacate refl b c.give_tail-root.result change c.write_row.new.table
    c.write_row.ensures in
    ap (λ (o : Outcome Head). handed o b c.write_row.new.table [])
    (released h c.effect.result c.give_tail-root.result number root r)
    ∙ acted_by tree_engine (give r) (tree_pool h a t) _ _ (plan_answer h a t r slot ok found vacate refl) q
