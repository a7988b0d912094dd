-- `pool_text::fields_after` meets its contract: a line of fewer than two bytes begins nothing. Assumes nothing.
use Rattle.std.proofs.Common.{◌-◌, length, drop, arith, take_all, length-drop}
use Rattle.words.proofs.Tests.{of_le, of_gt}
use Rattle.session.specs.Meaning.{begins}
use Rattle.pool_text.proofs.fields_after.Goals as goal

pub returns-then-n-lt2 : goal.returns-then-n-lt2
unfolding begins
returns-then-n-lt2 c = rw (of_gt 2 (length c.args.s.now) c.if-n-lt2.true)

pub returns-then-fine : goal.returns-then-fine
unfolding begins
returns-then-fine c =
    let s = c.args.s.now in (
      rw (of_le 2 (length s) c.if-n-lt2.false) c.if-fine.true,
      take_all (length s - 2) (drop 2 s) (omega (arith, length-drop 2 s)),
    )

pub returns-else-fine : goal.returns-else-fine
unfolding begins
returns-else-fine c = rw (of_le 2 (length c.args.s.now) c.if-n-lt2.false) c.if-fine.false
