-- `text_session::serve_read` meets its contract: no bytes lead nowhere. Assumes nothing.
use Rattle.std.proofs.Common.{ℕ, [], ◌∷◌, refl, ◌≡◌, ◌∙◌, sym, ap, length, arith}
use borrow.Author.Tests.{eqb-true}
use Rattle.text.specs.Numbers.{Bytes}
use Rattle.text_session.specs.Handing.{after}
use Rattle.text_session.proofs.HandingLaws.{after_nothing}
use Rattle.text_session.proofs.serve_read.Goals as goal

none_left : (s : Bytes) → length s ≡ 0 → s ≡ []
none_left [] e = refl
none_left (b ∷ s) e = absurd (omega arith)

pub returns-clause-state_after : goal.returns-clause-state_after
returns-clause-state_after g c =
    let l = c.loop-rest in
    let rest = none_left l.rest.now (eqb-true (length l.rest.now) 0 (sym c.loop-rest-test.ensures)) in
    sym (after_nothing l.state l.invariant.0) ∙ ap (after l.state) (sym rest) ∙ l.invariant.1
