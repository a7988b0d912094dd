use Rattle.std.proofs.Common.{◌≡◌, length}
use Rattle.text_session.specs.Handing.{Ready, after}
use Rattle.text_session.proofs.serve_read.Given as goal

-- where the rest of the bytes leads stays the same
abbrev pub invariant-loop-rest : goal.invariant-loop-rest
invariant-loop-rest g l = Ready l.state × (after l.state l.rest ≡ after l.initial.state l.bytes)

abbrev pub decreases-loop-rest : goal.decreases-loop-rest
decreases-loop-rest g l = length l.rest
