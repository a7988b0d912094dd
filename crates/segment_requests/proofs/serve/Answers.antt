-- `segment_requests::serve` meets its contract: each kind of request is its act. Assumes nothing.
use mathlib.Core.Path.{◌∙◌, sym, ap}
use Rattle.std.specs.Prelude.{Option}
use Rattle.segment_check.specs.Gate.{segment_pool}
use Rattle.calls.specs.Step.{bad}
use Rattle.call_parts.specs.declared.Request.{Request}
use Rattle.call_parts.specs.Parts.{act_of}
use Rattle.call_parts.specs.Results.{acted}
use Rattle.segment_requests.specs.Outcomes.{refused_with}
use Rattle.segment_requests.proofs.RefusedLaws.{refused_acted}
use Rattle.calls.specs.Engines.{segment_engine}
use Rattle.call_parts.proofs.WholeLists.{bad_refused}
use Rattle.segment_requests.proofs.serve.Goals as goal

pub returns-in-None : goal.returns-in-None
returns-in-None c =
    let a = c.args in
    let p = segment_pool a.s a.head a.arena.now a.table.now a.index.now in
    refused_acted a.head a.s a.arena.now a.table.now a.index.now
    bad c.refused_with.result 9 (c.refused_with.ensures ∙ ap (refused_with a.head) c.number.ensures) (bad_refused segment_engine p)
    ∙ ap (λ (x : Option Request). acted segment_engine (act_of x) p) (sym c.in-None.is)
