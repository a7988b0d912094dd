use Rattle.text_session.specs.Handing.{Ready}
use Rattle.text_session.proofs.converse.Given as goal

-- a state stays one
abbrev pub invariant-loop : goal.invariant-loop
invariant-loop g l = Ready l.state
