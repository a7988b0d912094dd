-- Where nothing is kept at the residue, or the mark of another ticket alone, the ticket is new.
use native.Mathlib.Omega.{arith}
use mathlib.Core.Path.{refl, sym}
use lib.ListN.{length}
use Rattle.record_table.proofs.EnterLaws.{first_there, unlike_there}
use Rattle.record_table.proofs.is_new.Goals as goal

pub returns-then-kept-eq0-clause-value : goal.returns-then-kept-eq0-clause-value
returns-then-kept-eq0-clause-value c =
    let a = c.args in
    let (is, low) = c.residue-at.ensures in
    sym (first_there (length a.seen.now) a.seen.now a.table.now a.i c.requires.seen_nonempty.1 a.ticket c.residue-at.result
    c.mark_of-mark.result _ c.requires.i_bound.1 is (omega arith) c.mark_of-mark.ensures refl c.if-kept-eq0.true).0

pub returns-then-kept-mark-clause-value : goal.returns-then-kept-mark-clause-value
returns-then-kept-mark-clause-value c =
    let a = c.args in
    let (is, low) = c.residue-at.ensures in
    sym (unlike_there (length a.seen.now) a.seen.now a.table.now a.i c.requires.seen_nonempty.1 a.ticket c.residue-at.result
    c.mark_of-mark.result _ c.requires.i_bound.1 is (omega arith) c.mark_of-mark.ensures refl c.if-kept-mark.true).0
