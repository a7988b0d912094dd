-- `pool_bursts::is_fit` meets its contract, at each stage. Assumes nothing.
use native.Mathlib.Omega.{arith}
use mathlib.Core.Path.{◌≡◌, ◌∙◌, sym, ap, subst}
use mathlib.Core.Bool.{true}
use lib.ListN.{length}
use Rattle.session.specs.State.{right_pool}
use Rattle.pool_text.specs.declared.Stage.{Stage}
use Rattle.pool_text.specs.Session.{standing_of}
use Rattle.pool_bursts.specs.Inside.{is_placed}
use Rattle.pool_bursts.proofs.CallLaws.{placed_form, placed_words, placed_slots}
use Rattle.pool_bursts.proofs.is_fit.Goals as goal

pub is_fitting-requires : goal.is_fitting-requires
is_fitting-requires c =
    let a = length c.args.arena.now in
    let t = length c.args.table.now in
    let h = subst (λ (x : Stage). is_placed x a t ≡ true) c.in-Serving.is c.requires.0 in
    let own = c.in-Serving.own in
    let words = placed_words own a t h in
    let few = placed_slots own a t h in
    (placed_form own a t h, omega (arith, words, c.requires.1), words, omega (arith, few, c.requires.2), few)

pub returns-in-Serving : goal.returns-in-Serving
returns-in-Serving c =
    c.is_fitting.ensures
    ∙ sym (ap (λ (x : Stage). right_pool (standing_of x c.args.arena.now c.args.table.now)) c.in-Serving.is)
