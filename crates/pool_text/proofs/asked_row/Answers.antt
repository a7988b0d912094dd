-- `pool_text::asked_row` meets its contract: the rows 2, 3, 4, 5 in turn, then the block that was found. Assumes nothing.
use Prim.Native.Nat.{ℕ, ◌-◌, ◌*◌, ◌≤◌, ◌<◌}
use native.Mathlib.Nat.{div-le_self}
use native.Mathlib.Omega.{arith}
use Rattle.std.proofs.Common.{◌≢◌}
use mathlib.Core.Path.{◌≡◌, refl, ◌∙◌, sym, ap, subst}
use mathlib.Core.Bool.{true, false, ◌||◌}
use borrow.Author.Tests.{eq-eqb, ne_eqb}
use lib.Dec.{eqb, ltb}
use lib.ListN.{length}
use Rattle.words.specs.Lists.{Words}
use Rattle.words.proofs.Tests.{or_r, not_lt}
use Rattle.ledger.specs.Records.{row, records_of, is_party}
use Rattle.stored_forms.specs.Tree.{form_of, tree_of}
use Rattle.stored_forms.proofs.NodeLaws.{readable}
use Rattle.tree_nodes.specs.Nodes.{cells}
use Rattle.free_tree.specs.Held.{LeftmostFound, NodeOf}
use Rattle.free_tree.proofs.CellLaws.{from_cell}
use Rattle.calls.specs.Pool.{sound}
use Rattle.calls.specs.Step.{success}
use Rattle.std.specs.Prelude.{Some, Err}
use borrow.Author.Rules.{rules}
use Rattle.calls.specs.declared.Refusal.TheVariants.{NoRecord}
use Rattle.pool_text.specs.Answers.{answer_in}
use Rattle.calls.specs.Engines.{tree_engine}
use Rattle.record_table.specs.Slots.{empty_slot}
use Rattle.record_table.proofs.SlotLaws.{empty_found, empty_missing}
use Rattle.call_parts.proofs.AskLaws.{ask_two, ask_three, ask_four, ask_five}
use Rattle.tree_check.specs.declared.Head.{Head}
use Rattle.tree_check.specs.Gate.{tree_pool}
use Rattle.tree_check.proofs.GateLaws.{all_linked}
use Rattle.tree_requests.specs.Sizes.{cell_span}
use Rattle.tree_requests.specs.Granting.{Grantable}
use Rattle.tree_requests.proofs.SizeLaws.{free_cells, few_cells}
use Rattle.tree_requests.proofs.SoundLaws.{sound_lies}
use Rattle.tree_requests.proofs.GrantLaws.{none_fits, some_units, place_inside, place_range, place_answer}
use Rattle.session.specs.Meaning.{text_party}
use Rattle.pool_text.proofs.asked_row.Goals as goal

ours : is_party text_party ≡ true
unfolding is_party
ours = refl

-- past the test the size is good, in the form's limit
size : (f n limit : ℕ) → limit ≡ (form_of f).limit → (eqb n 0 || ltb limit n) ≡ false
    → (eqb n 0 || ltb (form_of f).limit n) ≡ false
size f n limit e good = ap (λ (x : ℕ). eqb n 0 || ltb x n) (sym e) ∙ good

-- the block that the search for the request's cells finds
fit : (h : Head) (a : Words) (n cells found : ℕ) → cells ≡ cell_span (form_of h.form) n
    → LeftmostFound (form_of h.form) a h.root cells found
    → LeftmostFound (form_of h.form) a h.root (cell_span (form_of h.form) n) found
fit h a n cells found e p = subst (λ (x : ℕ). LeftmostFound (form_of h.form) a h.root x found) e p

granted : (h : Head) (a t : Words) (n slot block father : ℕ) → sound tree_engine (tree_pool h a t) ≡ true
    → (eqb n 0 || ltb (form_of h.form).limit n) ≡ false → empty_slot (records_of t) ≡ Some slot → h.next ≢ 0
    → LeftmostFound (form_of h.form) a h.root (cell_span (form_of h.form) n) block
    → NodeOf (form_of h.form) a h.root block father → Grantable h a t text_party n slot block father
granted h a t n slot block father ok good none left found node = record {
  ok = ok;
  party = ours;
  size = good;
  empty = none;
  ticket = left;
  fit = found;
  node_of = node;
}

-- past all tests
module _ (h : Head) (a t : Words) (n slot block father : ℕ) (g : Grantable h a t text_party n slot block father) where
  inside : block - 1 < cells (form_of h.form) a
  inside = place_inside h a t text_party n slot block father g

  -- the arena has no more words than any form's
  few : length a ≤ 1048576
  few =
      let range = place_range h a t text_party n slot block father g in
      (all_linked h.form a range.most range.whole).1

  first-low : (form_of h.form).cell * (block - 1) ≤ length a
  first-low = from_cell (readable h.form) (length a) (block - 1) (omega (arith, inside))

pub returns-then-words-limit_of : goal.returns-then-words-limit_of
unfolding tree_engine
returns-then-words-limit_of c =
    let n = c.args.words in
    let p = tree_pool c.args.head c.args.arena.now c.args.table.now in
    sym (ask_two tree_engine p text_party n ours
    (ap (λ (x : ℕ). eqb n 0 || ltb x n) (sym c.limit_of.ensures) ∙ c.if-words-limit_of.true)).0

pub returns-in_err-ok_or : goal.returns-in_err-ok_or
unfolding tree_engine
returns-in_err-ok_or c =
    let h = c.args.head in
    let t = c.args.table.now in
    let none : c.from_residual.result ≡ Err NoRecord = search rules in
    ap answer_in none
    ∙ sym (ask_three tree_engine (tree_pool h c.args.arena.now t) text_party c.args.words ours
    (size h.form c.args.words c.limit_of.result c.limit_of.ensures c.if-words-limit_of.false)
    (empty_missing t (sym c.empty_slot.ensures ∙ c.in_err-ok_or.ensures.ok_part))).0

pub returns-then-head-eq0 : goal.returns-then-head-eq0
unfolding tree_engine
returns-then-head-eq0 c =
    let h = c.args.head in
    let t = c.args.table.now in
    sym (ask_four tree_engine (tree_pool h c.args.arena.now t) text_party c.args.words ours
    (size h.form c.args.words c.limit_of.result c.limit_of.ensures c.if-words-limit_of.false)
    (empty_found t _ (sym c.empty_slot.ensures ∙ c.in_ok-ok_or.ensures.ok_part)).1
    (eq-eqb _ _ c.if-head-eq0.true)).0

pub overflow_cast-cells : goal.overflow_cast-cells
overflow_cast-cells c =
    let f = c.args.head.form in
    let n = c.args.words in
    let good = size f n c.limit_of.result c.limit_of.ensures c.if-words-limit_of.false in
    let few = not_lt (form_of f).limit n (or_r (eqb n 0) (ltb (form_of f).limit n) good) in
    omega (arith, c.cells_of-cells.ensures, few_cells f n few)

pub leftmost_fit-found-requires : goal.leftmost_fit-found-requires
leftmost_fit-found-requires c =
    let h = c.args.head in
    let a = c.args.arena.now in
    let t = c.args.table.now in
    (tree_of (free_cells (form_of h.form) (length a) (records_of t)), (sound_lies h a t c.requires).tree)

pub returns-then-found-eq0 : goal.returns-then-found-eq0
unfolding tree_engine
returns-then-found-eq0 c =
    let h = c.args.head in
    let a = c.args.arena.now in
    let t = c.args.table.now in
    let n = c.args.words in
    let good = size h.form n c.limit_of.result c.limit_of.ensures c.if-words-limit_of.false in
    let found = c.leftmost_fit-found in
    sym (ask_five tree_engine (tree_pool h a t) text_party n ours good
    (empty_found t _ (sym c.empty_slot.ensures ∙ c.in_ok-ok_or.ensures.ok_part)).1
    (ne_eqb _ _ c.if-head-eq0.false)
    (none_fits h a t c.requires n found.result.at (some_units h.form n good)
    (fit h a n c.cells_of-cells.result found.result.at c.cells_of-cells.ensures found.ensures.leftmost_found)
    c.if-found-eq0.true)).0

pub first_word-address-requires : goal.first_word-address-requires
first_word-address-requires c =
    let h = c.args.head in
    let a = c.args.arena.now in
    let t = c.args.table.now in
    let n = c.args.words in
    let found = c.leftmost_fit-found in
    let g = granted h a t n c.in_ok-ok_or.field-0 found.result.at found.result.over c.requires
    (size h.form n c.limit_of.result c.limit_of.ensures c.if-words-limit_of.false)
    (sym c.empty_slot.ensures ∙ c.in_ok-ok_or.ensures.ok_part) c.if-head-eq0.false
    (fit h a n c.cells_of-cells.result found.result.at c.cells_of-cells.ensures found.ensures.leftmost_found)
    (found.ensures.node_of c.if-found-eq0.false) in
    omega (
      arith,
      inside h a t n c.in_ok-ok_or.field-0 found.result.at found.result.over g,
      few h a t n c.in_ok-ok_or.field-0 found.result.at found.result.over g,
      div-le_self (length a) (form_of h.form).cell,
    )

pub overflow_cast-address : goal.overflow_cast-address
overflow_cast-address c =
    let h = c.args.head in
    let a = c.args.arena.now in
    let t = c.args.table.now in
    let n = c.args.words in
    let found = c.leftmost_fit-found in
    let g = granted h a t n c.in_ok-ok_or.field-0 found.result.at found.result.over c.requires
    (size h.form n c.limit_of.result c.limit_of.ensures c.if-words-limit_of.false)
    (sym c.empty_slot.ensures ∙ c.in_ok-ok_or.ensures.ok_part) c.if-head-eq0.false
    (fit h a n c.cells_of-cells.result found.result.at c.cells_of-cells.ensures found.ensures.leftmost_found)
    (found.ensures.node_of c.if-found-eq0.false) in
    omega (
      arith,
      c.first_word-address.ensures,
      first-low h a t n c.in_ok-ok_or.field-0 found.result.at found.result.over g,
      few h a t n c.in_ok-ok_or.field-0 found.result.at found.result.over g,
    )

pub returns : goal.returns
returns c =
    let h = c.args.head in
    let a = c.args.arena.now in
    let t = c.args.table.now in
    let n = c.args.words in
    let found = c.leftmost_fit-found in
    let g = granted h a t n c.in_ok-ok_or.field-0 found.result.at found.result.over c.requires
    (size h.form n c.limit_of.result c.limit_of.ensures c.if-words-limit_of.false)
    (sym c.empty_slot.ensures ∙ c.in_ok-ok_or.ensures.ok_part) c.if-head-eq0.false
    (fit h a n c.cells_of-cells.result found.result.at c.cells_of-cells.ensures found.ensures.leftmost_found)
    (found.ensures.node_of c.if-found-eq0.false) in
    ap success (c.ours.ensures ∙ ap (λ (x : ℕ). row h.next x n text_party) c.first_word-address.ensures)
    ∙ place_answer h a t text_party n c.in_ok-ok_or.field-0 found.result.at found.result.over g
