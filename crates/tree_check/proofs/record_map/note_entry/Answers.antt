-- `tree_check::record_map::note_entry` meets its contract: all places before `place` are taken, and nothing is written
-- yet. Assumes nothing.
use native.Mathlib.Omega.{arith}
use mathlib.Core.Path.{sym, subst}
use Rattle.words.specs.Lists.{Words}
use Rattle.tree_check.specs.Maps.{Grows}
use Rattle.tree_check.proofs.SpanLaws.{entry_put, entry_grows, entry_full}
use Rattle.tree_check.proofs.record_map.note_entry.Goals as goal

pub returns-then-four_at-eq0 : goal.returns-then-four_at-eq0
returns-then-four_at-eq0 c =
    let g = c.loop-place.invariant in
    let none = c.four_at.ensures in
    let put = entry_put c.put_four.ensures c.put_four-then-four_at-eq0.ensures in
    subst (λ (m : Words). Grows m c.put_four-then-four_at-eq0.new.map c.args.lo c.args.n) g.0
    (entry_grows put c.requires.1 (rw g.0 c.requires.3) (omega arith) (omega arith)
    (rw g.0 (omega (arith, c.home_of-place.ensures.0)))
    (rw g.0 (λ q l h. g.1 q l (omega arith))))

pub returns : goal.returns
returns c =
    let g = c.loop-place.invariant in
    subst (λ (m : Words). Grows c.args.map.now m c.args.lo c.args.n) (sym g.0)
    (entry_full c.args.map.now c.args.lo c.args.n c.loop-place.place (omega arith) g.1 c.requires.3)
