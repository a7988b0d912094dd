-- The tree pool as a call is lent it. 01, "Calls and numbers", rows 8 and 1; 02, ticket 3. Assumes nothing.
use Rattle.std.specs.Prelude.{ℕ, ◌≡◌, Bool, [], ◌∷◌}
use Rattle.words.specs.Lists.{Words}
use Rattle.calls.specs.Pool.{Pool, lengths}
use Rattle.calls.specs.Engines.{tree_engine}
use Rattle.tree_check.specs.declared.Head.{Head}

-- root link, next ticket and form, with the lent arena and table; a call goes by the form in its head
abbrev pub tree_pool : Head → Words → Words → Pool
tree_pool h arena table = record {
  head = record { own = h.root ∷ h.form ∷ []; next = h.next };
  shape = h.form;
  arena = arena;
  table = table;
  index = [];
}

-- "Format takes no head": zeros in its place, but for the form, which it is given
abbrev pub no_head : ℕ → Head
no_head form = record { root = 0; next = 0; form = form }

-- the flag says that the lent lengths are right in the form, whatever else is in the head
abbrev pub RightLengths : ℕ → Words → Words → Bool → Type 0
RightLengths form arena table b = (h : Head) → h.form ≡ form → b ≡ lengths tree_engine (tree_pool h arena table)
