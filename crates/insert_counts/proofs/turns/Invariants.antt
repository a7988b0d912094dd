-- `insert_counts::turns` meets its contract. The invariant: the map is the arena's. Assumes nothing.
use Rattle.stored_forms.specs.Tree.{form_of}
use Rattle.insert_counts.specs.Map.{Mapped}
use Rattle.insert_counts.proofs.turns.Given as goal

abbrev pub invariant-loop : goal.invariant-loop
invariant-loop l = Mapped (form_of l.round.form) l.arena l.map l.round.root
