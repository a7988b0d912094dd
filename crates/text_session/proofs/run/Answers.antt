-- `text_session::run` meets its contract: a start call makes a state. Assumes nothing.
use native.Mathlib.Omega.{arith}
use Prim.Native.Nat.{ℕ}
use mathlib.Core.Path.{sym, ap, subst}
use lib.ListN.{replicate, length-replicate}
use Rattle.session.specs.Calls.{Reply}
use Rattle.text_session.specs.Handing.{Ready}
use Rattle.text_session.proofs.HandingLaws.{start_ready}
use Rattle.text_session.proofs.run.Goals as goal

pub converse-ended-requires : goal.converse-ended-requires
converse-ended-requires g c =
    let left = ap (λ (r : Reply). r.state) c.start.ensures in (
      subst Ready (sym left) (start_ready (replicate 36956 0) (length-replicate {A = ℕ} 36956 0)),
      omega (arith, length-replicate {A = ℕ} 65536 0),
      c.requires,
    )
