-- `segment_requests::serve_all` meets its contract: before request i, pool and answers are those of the first i
-- requests. Assumes nothing.
use Prim.Native.Nat.{◌*◌, ◌≤◌}
use mathlib.Core.Path.{◌≡◌}
use mathlib.Core.Bool.{true}
use lib.ListN.{length}
use Rattle.calls.specs.Pool.{sound}
use Rattle.calls.specs.Engines.{segment_engine}
use Rattle.segment_check.specs.Gate.{segment_pool}
use Rattle.call_parts.proofs.ListLaws.{Running}
use Rattle.segment_requests.proofs.serve_all.Given as goal

abbrev pub invariant-loop-i : goal.invariant-loop-i
invariant-loop-i l =
    (length l.arena ≡ length l.initial.arena) × (length l.table ≡ length l.initial.table) × (length l.index ≡ length l.initial.index)
    × (4 * l.i ≤ length l.asked) × (sound segment_engine (segment_pool l.s l.after l.arena l.table l.index) ≡ true)
    × Running segment_engine (segment_pool l.s l.initial.after l.initial.arena l.initial.table l.initial.index) l.party l.asked l.initial.answers l.i
    (segment_pool l.s l.after l.arena l.table l.index) l.answers
