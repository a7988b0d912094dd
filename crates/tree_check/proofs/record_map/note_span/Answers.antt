-- `tree_check::record_map::note_span` meets its contract: up to cell `at` the span is noted. Assumes nothing.
use native.Mathlib.Omega.{arith}
use lib.ListN.{length-set}
use Rattle.tree_check.proofs.SpanLaws.{span_more, span_last}
use Rattle.tree_check.proofs.record_map.note_span.Goals as goal

pub loop-left-preserved : goal.loop-left-preserved
loop-left-preserved c =
    let l = c.loop-left in
    let a = c.args in
    let size = l.invariant.3 in
    let bytes = c.requires.2 in (
      omega arith,
      omega arith,
      omega arith,
      simp length-set size,
      span_more l.invariant.4 bytes (omega arith) (omega arith),
    )

pub returns : goal.returns
returns c =
    let l = c.loop-left in
    let a = c.args in
    let size = l.invariant.3 in
    let bytes = c.requires.2 in
    span_last l.invariant.4 bytes (omega arith)
