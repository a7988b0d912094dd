-- `tree_requests::place` meets its contract: what was found makes the act a grant. Assumes nothing.
use native.Mathlib.Omega.{arith}
use mathlib.Core.Path.{sym, ap, subst, ◌∙◌}
use Prim.Native.Nat.{ℕ, ◌-◌, ◌*◌, ◌≤◌, ◌<◌}
use native.Mathlib.Nat.{div-le_self}
use mathlib.Core.List.{[]}
use lib.ListN.{length, set}
use Rattle.words.specs.Lists.{Words}
use Rattle.ledger.specs.Records.{row, records_of, table_of}
use Rattle.stored_forms.specs.Tree.{form_of}
use Rattle.stored_forms.proofs.NodeLaws.{readable}
use Rattle.tree_nodes.specs.Nodes.{cells}
use Rattle.free_tree.proofs.CellLaws.{from_cell}
use Rattle.free_blocks.specs.Blocks.{Takeable, Taken}
use Rattle.calls.specs.Step.{ask, success}
use Rattle.calls.specs.Engines.{tree_engine}
use Rattle.call_parts.proofs.ResultLaws.{acted_by}
use Rattle.tree_check.specs.declared.Head.{Head}
use Rattle.tree_check.specs.Gate.{tree_pool}
use Rattle.tree_check.proofs.GateLaws.{InRange, all_linked}
use Rattle.call_parts.specs.declared.Outcome.{Outcome}
use Rattle.tree_requests.specs.Outcomes.{handed}
use Rattle.tree_requests.specs.Granting.{Grantable}
use Rattle.tree_requests.proofs.RefusedLaws.{granted}
use Rattle.tree_requests.proofs.GrantLaws.{place_takes, place_inside, place_root, place_pool}
use Rattle.tree_requests.proofs.GrantLaws.{place_answer, place_range, place_slot}
use Rattle.tree_requests.proofs.place.Goals as goal

module _ (h : Head) (a t : Words) (party n slot block father : ℕ) (f : Grantable h a t party n slot block father) where
  range : InRange (form_of h.form) a t
  range = place_range h a t party n slot block father f

  inside : block - 1 < cells (form_of h.form) a
  inside = place_inside h a t party n slot block father f

  -- the arena has no more words than any form's
  few : length a ≤ 1048576
  few = (all_linked h.form a range.most range.whole).1

  -- the block's first word
  first_low : (form_of h.form).cell * (block - 1) ≤ length a
  first_low = from_cell (readable h.form) (length a) (block - 1) (omega (arith, inside))

pub take_cells-root-requires : goal.take_cells-root-requires
take_cells-root-requires c =
    let h = c.args.head in
    let a = c.args.arena.now in
    let t = c.args.table.now in
    let n = c.args.words in
    let block = c.args.block in
    let father = c.args.father in
    subst (λ (x : ℕ). Takeable (form_of h.form) a h.root block father x) (sym c.requires.cells_value)
    (place_takes h a t c.args.party n c.args.slot block father c.requires.grantable)

pub first_word-address-requires : goal.first_word-address-requires
first_word-address-requires c =
    let h = c.args.head in
    let a = c.args.arena.now in
    let t = c.args.table.now in
    let n = c.args.words in
    let block = c.args.block in
    let father = c.args.father in
    omega (
      arith,
      inside h a t c.args.party n c.args.slot block father c.requires.grantable,
      few h a t c.args.party n c.args.slot block father c.requires.grantable,
      div-le_self (length a) (form_of h.form).cell,
    )

pub overflow_cast-address : goal.overflow_cast-address
overflow_cast-address c =
    let h = c.args.head in
    let a = c.args.arena.now in
    let t = c.args.table.now in
    let n = c.args.words in
    let block = c.args.block in
    let father = c.args.father in
    omega (
      arith,
      c.first_word-address.ensures,
      first_low h a t c.args.party n c.args.slot block father c.requires.grantable,
      few h a t c.args.party n c.args.slot block father c.requires.grantable,
    )

pub write_row-requires : goal.write_row-requires
write_row-requires c =
    let h = c.args.head in
    let a = c.args.arena.now in
    let t = c.args.table.now in
    let n = c.args.words in
    let block = c.args.block in
    let father = c.args.father in
    record {
      i_bound = place_slot h a t c.args.party n c.args.slot block father c.requires.grantable;
      record_words_len = (range h a t c.args.party n c.args.slot block father c.requires.grantable).fours;
    }

pub effect-requires : goal.effect-requires
effect-requires c =
    let h = c.args.head in
    let a = c.args.arena.now in
    let t = c.args.table.now in
    let n = c.args.words in
    let block = c.args.block in
    let father = c.args.father in
    let b = c.take_cells-root.new.arena in
    let link = c.take_cells-root.result in
    let taken =
    subst (λ (x : ℕ). Taken (form_of h.form) a b h.root block father x link) c.requires.cells_value
    c.take_cells-root.ensures in (
      place_root h a t c.args.party n c.args.slot block father c.requires.grantable b t link taken,
      omega (
        arith,
        c.first_word-address.ensures,
        first_low h a t c.args.party n c.args.slot block father c.requires.grantable,
        few h a t c.args.party n c.args.slot block father c.requires.grantable,
      ),
    )

pub returns : goal.returns
returns c =
    let h = c.args.head in
    let a = c.args.arena.now in
    let t = c.args.table.now in
    let n = c.args.words in
    let block = c.args.block in
    let father = c.args.father in
    let b = c.take_cells-root.new.arena in
    let link = c.take_cells-root.result in
    let taken =
    subst (λ (x : ℕ). Taken (form_of h.form) a b h.root block father x link) c.requires.cells_value
    c.take_cells-root.ensures in
    let u = c.write_row.new.table in
    let x = c.args.party in
    let e = c.first_word-address.ensures in
    let (number, root, address) = c.effect.ensures in
    let q = place_pool h a t c.args.party n c.args.slot block father c.requires.grantable b u link taken
    (c.write_row.ensures
    ∙ ap (λ (y : ℕ). table_of (set (records_of t) c.args.slot (row h.next y n x))) e) in
    ap (λ (o : Outcome Head). handed o b u [])
    (granted h c.effect.result link number root n c.first_word-address.result address)
    ∙ acted_by tree_engine (ask x n) (tree_pool h a t) _ _
    (ap (λ (y : ℕ). success (row h.next y n x)) e
    ∙ place_answer h a t c.args.party n c.args.slot block father c.requires.grantable) q
