-- `tree_requests::serve` meets its contract: what is no request is refused by 9. Assumes nothing.
use Prim.Native.Nat.{ℕ}
use mathlib.Core.Path.{◌∙◌, sym, ap}
use Rattle.std.specs.Prelude.{Option}
use Rattle.calls.specs.Step.{bad}
use Rattle.calls.specs.Engines.{tree_engine}
use Rattle.call_parts.specs.declared.Request.{Request}
use Rattle.call_parts.specs.Parts.{act_of}
use Rattle.call_parts.specs.Results.{acted}
use Rattle.call_parts.proofs.WholeLists.{bad_refused}
use Rattle.tree_check.specs.Gate.{tree_pool}
use Rattle.tree_requests.specs.Outcomes.{refused_with}
use Rattle.tree_requests.proofs.RefusedLaws.{refused_acted}
use Rattle.tree_requests.proofs.serve.Goals as goal

pub returns-in-None : goal.returns-in-None
returns-in-None c =
    let h = c.args.head in
    let a = c.args.arena.now in
    let t = c.args.table.now in
    refused_acted h a t bad c.refused_with.result 9
    (c.refused_with.ensures ∙ ap (λ (n : ℕ). refused_with h n) c.number.ensures)
    (bad_refused tree_engine (tree_pool h a t))
    ∙ ap (λ (x : Option Request). acted tree_engine (act_of x) (tree_pool h a t)) (sym c.in-None.is)
