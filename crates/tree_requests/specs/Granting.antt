-- What an allocation has found out before it takes the cells. Assumes nothing.
use Rattle.std.specs.Prelude.{ℕ, ◌≡◌, ◌≢◌, true, false, ◌||◌, eqb, ltb, Some}
use Rattle.words.specs.Lists.{Words}
use Rattle.ledger.specs.Records.{is_party, records_of}
use Rattle.stored_forms.specs.Tree.{form_of}
use Rattle.free_tree.specs.Held.{LeftmostFound, NodeOf}
use Rattle.calls.specs.Pool.{sound}
use Rattle.calls.specs.Engines.{tree_engine}
use Rattle.record_table.specs.Slots.{empty_slot}
use Rattle.tree_check.specs.declared.Head.{Head}
use Rattle.tree_check.specs.Gate.{tree_pool}
use Rattle.tree_requests.specs.Sizes.{cell_span}

-- The pool is sound, c is a party, n is a good size, slot `slot` is the lowest empty one, a ticket is left, and the leftmost fit
-- for n words is the block at the link `block`, whose father is at the link `father`, 0 for none.
pub record Grantable (h : Head) (a t : Words) (c n slot block father : ℕ) : Type 0 where
  pub ok : sound tree_engine (tree_pool h a t) ≡ true
  pub party : is_party c ≡ true
  pub size : (eqb n 0 || ltb (form_of h.form).limit n) ≡ false
  pub empty : empty_slot (records_of t) ≡ Some slot
  pub ticket : h.next ≢ 0
  pub fit : LeftmostFound (form_of h.form) a h.root (cell_span (form_of h.form) n) block
  pub node_of : NodeOf (form_of h.form) a h.root block father
