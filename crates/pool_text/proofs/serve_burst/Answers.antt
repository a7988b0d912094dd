-- `pool_text::serve_burst` meets its contract: at the end the rest of the burst is none. Assumes nothing.
use Prim.Native.Nat.{◌-◌}
use mathlib.Core.Path.{◌∙◌, sym}
use lib.ListN.{length}
use Rattle.pool_text.specs.Session.{standing_of}
use Rattle.pool_text.proofs.BurstLaws.{ahead_end, from_start}
use Rattle.pool_text.proofs.serve_burst.Goals as goal

pub returns-clause-out_after : goal.returns-clause-out_after
returns-clause-out_after c =
    let l = c.loop-turn in
    let a = c.args in
    let u = l.turn in
    let over = ahead_end (length l.out - u.at) (standing_of u.stage l.arena l.table) l.line a.chunk.now l.out u.from u.at
    c.loop-turn-test.false in
    sym over ∙ l.invariant.4 ∙ from_start a.out.now (standing_of a.stage a.arena.now a.table.now) a.line.now a.chunk.now
