-- `tree_check::record_map::leads_to` meets its contract: up to cell k, records lie side by side. Assumes nothing.
use native.Mathlib.Omega.{arith}
use mathlib.Core.Bool.{false≢true}
use Rattle.record_table.specs.Leads.{more}
use Rattle.tree_check.proofs.LeadLaws.{leads_none, leads_step, leads_says}
use Rattle.tree_check.proofs.record_map.leads_to.Goals as goal

pub returns-in_default : goal.returns-in_default
returns-in_default c = (
  (λ e. absurd (false≢true e)),
  λ x. absurd (leads_none (omega arith) c.in_default.ensures (c.loop-k.invariant.1 x)),
)

pub loop-k-preserved : goal.loop-k-preserved
loop-k-preserved c =
    let l = c.loop-k in
    let s = c.in-Some.ensures.1 in (
      (λ x. l.invariant.0 (more s x)),
      λ x. leads_step (omega arith) s (l.invariant.1 x),
    )

pub returns : goal.returns
returns c = let l = c.loop-k in leads_says (omega arith) l.invariant.0 l.invariant.1
