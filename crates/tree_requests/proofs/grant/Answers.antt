-- `tree_requests::grant` meets its contract: the rows 2, 3, 4, 5 in turn, then the grant. Assumes nothing.
use Prim.Native.Nat.{ℕ}
use native.Mathlib.Omega.{arith}
use mathlib.Core.Path.{◌≡◌, refl, ◌∙◌, sym, ap, subst}
use mathlib.Core.Bool.{false, ◌||◌}
use borrow.Author.Tests.{eq-eqb, ne_eqb}
use lib.Dec.{eqb, ltb}
use lib.ListN.{length}
use Rattle.words.proofs.Tests.{or_r, not_lt}
use Rattle.ledger.specs.Records.{records_of}
use Rattle.stored_forms.specs.Tree.{form_of, tree_of}
use Rattle.free_tree.specs.Held.{LeftmostFound}
use Rattle.calls.specs.Engines.{tree_engine}
use Rattle.record_table.proofs.SlotLaws.{empty_found, empty_missing}
use Rattle.call_parts.proofs.AskLaws.{ask_two, ask_three, ask_four, ask_five}
use Rattle.tree_check.specs.Gate.{tree_pool}
use Rattle.tree_requests.proofs.RefusedLaws.{grant_refused}
use Rattle.tree_requests.proofs.SizeLaws.{free_cells, few_cells}
use Rattle.tree_requests.proofs.SoundLaws.{sound_lies}
use Rattle.tree_requests.proofs.GrantLaws.{none_fits, some_units}
use Rattle.tree_requests.proofs.grant.Goals as goal

-- past the test the size is good, in the form's limit
size : (f n : ℕ) {l : ℕ} → l ≡ (form_of f).limit → (eqb n 0 || ltb l n) ≡ false
    → (eqb n 0 || ltb (form_of f).limit n) ≡ false
size f n is e = ap (λ (x : ℕ). eqb n 0 || ltb x n) (sym is) ∙ e

pub returns-then-words-limit_of : goal.returns-then-words-limit_of
unfolding tree_engine
returns-then-words-limit_of c =
    let n = c.args.words in
    let p = tree_pool c.args.head c.args.arena.now c.args.table.now in
    grant_refused c.args.head c.args.arena.now c.args.table.now c.no_effect.result 2
    c.no_effect.ensures refl c.args.party n
    (ask_two tree_engine p c.args.party n c.requires.1
    (ap (λ (x : ℕ). eqb n 0 || ltb x n) (sym c.limit_of.ensures) ∙ c.if-words-limit_of.true))

pub returns-in_default : goal.returns-in_default
unfolding tree_engine
returns-in_default c =
    let good = size c.args.head.form c.args.words c.limit_of.ensures c.if-words-limit_of.false in
    let p = tree_pool c.args.head c.args.arena.now c.args.table.now in
    grant_refused c.args.head c.args.arena.now c.args.table.now c.no_effect-in_default.result 3
    c.no_effect-in_default.ensures refl c.args.party c.args.words
    (ask_three tree_engine p c.args.party c.args.words c.requires.1 good
    (empty_missing c.args.table.now (sym c.empty_slot.ensures ∙ c.in_default.is)))

pub returns-then-next-eq0 : goal.returns-then-next-eq0
unfolding tree_engine
returns-then-next-eq0 c =
    let good = size c.args.head.form c.args.words c.limit_of.ensures c.if-words-limit_of.false in
    let p = tree_pool c.args.head c.args.arena.now c.args.table.now in
    let found = sym c.empty_slot.ensures ∙ c.in-Some.is in
    grant_refused c.args.head c.args.arena.now c.args.table.now c.no_effect-then-next-eq0.result 4
    c.no_effect-then-next-eq0.ensures refl c.args.party c.args.words
    (ask_four tree_engine p c.args.party c.args.words c.requires.1 good
    (empty_found c.args.table.now c.in-Some.slot found).1
    (eq-eqb _ _ c.if-next-eq0.true))

pub overflow_cast-cells : goal.overflow_cast-cells
overflow_cast-cells c =
    let good = size c.args.head.form c.args.words c.limit_of.ensures c.if-words-limit_of.false in
    let f = c.args.head.form in
    let n = c.args.words in
    let few = not_lt (form_of f).limit n (or_r (eqb n 0) (ltb (form_of f).limit n) good) in
    omega (arith, c.cells_of-cells.ensures, few_cells f n few)

pub leftmost_fit-found-requires : goal.leftmost_fit-found-requires
leftmost_fit-found-requires c =
    let h = c.args.head in
    let a = c.args.arena.now in
    let t = c.args.table.now in
    (tree_of (free_cells (form_of h.form) (length a) (records_of t)), (sound_lies h a t c.requires.0).tree)

pub returns-then-block-eq0 : goal.returns-then-block-eq0
unfolding tree_engine
returns-then-block-eq0 c =
    let good = size c.args.head.form c.args.words c.limit_of.ensures c.if-words-limit_of.false in
    let h = c.args.head in
    let p = tree_pool h c.args.arena.now c.args.table.now in
    let at = c.leftmost_fit-found.result.at in
    let fit =
    subst (λ (x : ℕ). LeftmostFound (form_of h.form) c.args.arena.now h.root x at) c.cells_of-cells.ensures
    c.leftmost_fit-found.ensures.leftmost_found in
    let found = sym c.empty_slot.ensures ∙ c.in-Some.is in
    grant_refused h c.args.arena.now c.args.table.now c.no_effect-then-block-eq0.result 5
    c.no_effect-then-block-eq0.ensures refl c.args.party c.args.words
    (ask_five tree_engine p c.args.party c.args.words c.requires.1 good
    (empty_found c.args.table.now c.in-Some.slot found).1 (ne_eqb _ _ c.if-next-eq0.false)
    (none_fits h c.args.arena.now c.args.table.now c.requires.0 c.args.words at (some_units h.form c.args.words good) fit
    c.if-block-eq0.true))
