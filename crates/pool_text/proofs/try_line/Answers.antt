-- `pool_text::try_line` meets its contract, at each place where the program stands. Assumes nothing.
use Rattle.std.proofs.Common.{ℕ, ◌-◌, sym, refl, subst, length, arith}
use Rattle.std.specs.Prelude.{Option, Some}
use Rattle.words.specs.Lists.{Words}
use Rattle.words.proofs.Tests.{of_le}
use Rattle.text.specs.Numbers.{Bytes}
use Rattle.session.specs.Meaning.{serve}
use Rattle.pool_text.specs.declared.Stage.{Stage}
use Rattle.pool_text.specs.declared.Stage.TheVariants.{Stopped}
use Rattle.pool_text.specs.declared.Place.{Place}
use Rattle.pool_text.specs.Session.{standing_of, Tries}
use Rattle.pool_text.proofs.try_line.Goals as goal

abbrev tries : Words → Words → Bytes → Bytes → ℕ → Option Place → Words → Words → Bytes → Stage → Type 0
tries a t line out at r b u left x = Tries r x a t b u (serve (standing_of x a t) line) out left at

pub returns-in-Before : goal.returns-in-Before
unfolding serve
returns-in-Before c =
    let a = c.args in
    let r = c.try_first in
    subst (tries a.arena.now a.table.now a.line.now a.out.now a.at r.result r.new.arena r.new.table r.new.out)
    (sym c.in-Before.is) r.ensures

pub returns-in-Stopped : goal.returns-in-Stopped
unfolding serve
returns-in-Stopped c =
    let a = c.args.arena.now in
    let t = c.args.table.now in
    let out = c.args.out.now in
    subst (tries a t c.args.line.now out c.args.at (Some (record { stage = Stopped; at = c.args.at })) a t out) (sym c.in-Stopped.is) (
      of_le 0 (length out - c.args.at) (omega arith),
      ((c.requires.0.0, c.requires.0.1, refl), refl, (omega arith, refl)),
    )
