-- `tree_check::record_map::span_at` meets its contract. Assumes nothing.
use native.Mathlib.Omega.{arith}
use mathlib.Core.Path.{sym, subst}
use Rattle.words.proofs.Tests.{eqb_ne}
use Rattle.tree_check.specs.Maps.{Next}
use Rattle.tree_check.proofs.LeadLaws.{byte_next}
use Rattle.tree_check.proofs.record_map.span_at.Goals as goal

pub returns-in_default : goal.returns-in_default
returns-in_default c =
    let a = c.args in
    let (low, is) = c.byte_at.ensures in (
      omega arith,
      subst (Next a.map.now a.k) (sym is) (byte_next a.map.now a.k (eqb_ne _ _ c.if-map-eq1.false) (omega arith)),
    )
