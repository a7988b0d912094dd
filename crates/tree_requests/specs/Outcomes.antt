-- What the tree pool's calls hand back and leave, and what a core's effect comes to. Assumes nothing.
use Rattle.std.specs.Prelude.{ℕ, ◌/◌, ◌%◌, cond, List, [], eqb}
use Rattle.words.specs.Lists.{Words}
use Rattle.ledger.specs.declared.Row.{Row}
use Rattle.calls.specs.Pool.{Pool, next_after}
use Rattle.calls.specs.Step.{success}
use Rattle.call_parts.specs.Results as parts
use Rattle.call_parts.specs.declared.Outcome.{Outcome}
use Rattle.call_parts.specs.Results.{Result, result}
use Rattle.tree_check.specs.Gate.{tree_pool}
use Rattle.tree_check.specs.declared.Head.{Head}

-- the pool, with the form that a call goes by
abbrev pub in_form : ℕ → Pool → Pool
in_form form p = record { head = p.head; shape = form; arena = p.arena; table = p.table; index = p.index }

-- all that a call hands back and leaves: answer, head, arena, table, and the answer buffer of a list call
abbrev pub handed : Outcome Head → Words → Words → List Words → Result
handed r arena table buffers = result r.answer (tree_pool r.head arena table) buffers

-- the same of a format, which goes by the form that it is given: refused, it hands back a head of zeros
abbrev pub formatted : ℕ → Outcome Head → Words → Words → Result
formatted form r arena table = result r.answer (in_form form (tree_pool r.head arena table)) []

-- the head as it came, with a refusal
abbrev pub refused_with : Head → ℕ → Outcome Head
refused_with h n = parts.refused_with h n

-- A core's effect is one number: the answer's number, below 16, the root link in the 32 bits behind it, and the address
-- that was granted.
abbrev pub effect_number : ℕ → ℕ
effect_number e = e % 16

abbrev pub effect_root : ℕ → ℕ
effect_root e = e / 16 % 4294967296

abbrev pub effect_address : ℕ → ℕ
effect_address e = e / 68719476736

-- what an allocation of n words comes to by its effect: a refusal, or the next ticket at the address that was found; the
-- form stays
abbrev pub grant_outcome : Head → ℕ → ℕ → Outcome Head
grant_outcome h n e =
    cond (eqb (effect_number e) 0)
    (record {
      head = record { root = effect_root e; next = next_after h.next; form = h.form };
      answer = record { number = 0; ticket = h.next; address = effect_address e; words = n };
    })
    (refused_with h (effect_number e))

-- what a release or a trim comes to by its effect: a refusal, or the record r that it answers; no ticket is used up
abbrev pub release_outcome : Head → Row → ℕ → Outcome Head
release_outcome h r e =
    cond (eqb (effect_number e) 0)
    (record { head = record { root = effect_root e; next = h.next; form = h.form }; answer = success r })
    (refused_with h (effect_number e))
