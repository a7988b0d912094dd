-- `segment_check::right_lengths` meets its contract: its tests are those of the definition. Assumes nothing.
use mathlib.Core.Path.{◌∙◌, ap₂}
use mathlib.Core.Bool.{Bool, ◌&&◌}
use lib.Dec.{eqb, leb}
use lib.ListN.{length}
use Prim.Native.Nat.{ℕ, ◌*◌, ◌%◌}
use Rattle.segment_check.proofs.GateLaws.{lengths_are}
use Rattle.segment_check.proofs.right_lengths.Goals as goal

pub returns : goal.returns
returns c =
    let a = c.args in
    let v = a.arena.now in
    let t = a.table.now in
    let x = a.index.now in
    λ h. ap₂
    (λ (b : Bool) (n : ℕ). ((((((leb 2 (length v) && leb (length v) 16384) && b) && eqb (length t % 4) 0)
    && leb 1 n) && leb n 256) && eqb (length x) (3 * a.s)))
    c.is_segments-one.ensures c.slot_count-slots.ensures
    ∙ lengths_are a.s h v t x
