-- `pool_text::open_pool` meets its contract: too large, refused by format, or the meaning's pool. Assumes nothing.
use native.Mathlib.Omega.{arith}
use mathlib.Core.Path.{◌≡◌, ◌∙◌, sym, refl}
use Prim.Native.Nat.{ℕ, ◌*◌, ◌≤◌}
use lib.Dec.{ltb}
use lib.ListN.{take}
use lib.Seq.{length-take-le}
use mathlib.Core.Bool.{false, ◌||◌}
use Rattle.words.proofs.Tests.{or_l, or_r, not_lt}
use Rattle.pool_text.specs.declared.Own.{Own}
use Rattle.pool_text.specs.declared.Stage.TheVariants.{Serving}
use Rattle.pool_text.proofs.OpenLaws.{too_large, opens_not, opens, opens_sound}
use Rattle.pool_text.proofs.StandLaws.{lent_own, lent_whole, came_as, came_stopped}
use Rattle.pool_text.proofs.open_pool.Goals as goal

small : (w k : ℕ) → (ltb 8192 w || ltb 256 k) ≡ false → (w ≤ 8192) × (k ≤ 256)
small w k h = (not_lt 8192 w (or_l (ltb 8192 w) (ltb 256 k) h), not_lt 256 k (or_r (ltb 8192 w) (ltb 256 k) h))

pub returns-then-words-slots : goal.returns-then-words-slots
returns-then-words-slots c =
    let a = c.args.arena.now in
    let t = c.args.table.now in
    let e = too_large c.args.words c.args.slots c.args.first c.args.numbers.now c.if-words-slots.true in
    let r = c.refuse in
    came_as (sym e) r.result.stage a t r.result.said
    (came_stopped r.result.stage a t r.result.said 8 r.ensures.0 c.requires.0.0 c.requires.0.1 r.ensures.1)

pub returns-then-done-ne0 : goal.returns-then-done-ne0
returns-then-done-ne0 c =
    let w = c.args.words in
    let k = c.args.slots in
    let a = c.args.arena.now in
    let t = c.args.table.now in
    let few = small w k c.if-words-slots.false in
    let whole = lent_whole a t c.requires.0 in
    let d = c.format_front-done in
    let e = opens_not (take w a) (take (4 * k) t) w k c.args.first c.args.numbers.now
    (length-take-le w a (omega (arith, few.0, whole.0)))
    (length-take-le (4 * k) t (omega (arith, few.1, whole.1))) d.result _ _ d.ensures few.0
    c.if-done-ne0.true in
    let r = c.stop in
    let b = d.new.arena in
    let u = d.new.table in
    came_as (sym e) r.result.stage b u r.result.said
    (came_stopped r.result.stage b u r.result.said d.result.answer.number r.ensures.0 (omega (arith, d.auto.arena, whole.0))
    (omega (arith, d.auto.table, whole.1)) r.ensures.1)

pub returns : goal.returns
returns c =
    let w = c.args.words in
    let k = c.args.slots in
    let a = c.args.arena.now in
    let t = c.args.table.now in
    let few = small w k c.if-words-slots.false in
    let whole = lent_whole a t c.requires.0 in
    let la = length-take-le w a (omega (arith, few.0, whole.0)) in
    let lt = length-take-le (4 * k) t (omega (arith, few.1, whole.1)) in
    let d = c.format_front-done in
    let b = d.new.arena in
    let u = d.new.table in
    let o : Own = record { head = d.result.head; words = w; slots = k } in
    let n = c.args.first in
    let ns = c.args.numbers.now in
    let e = opens (take w a) (take (4 * k) t) w k n ns la lt d.result _ _ d.ensures few.0 c.if-done-ne0.false in
    let ok = opens_sound (take w a) (take (4 * k) t) w k n ns la lt d.result _ _ d.ensures few.0 c.if-done-ne0.false in
    let lb = d.auto.arena ∙ whole.0 in
    let lu = d.auto.table ∙ whole.1 in
    came_as (sym e) (Serving o) b u c.line.result (
      lent_own o b u (omega (arith, lb)) (omega (arith, lu)) (omega (arith, few.0, lb)) (omega (arith, few.1, lu)) ok,
      refl,
      c.line.ensures,
    )
