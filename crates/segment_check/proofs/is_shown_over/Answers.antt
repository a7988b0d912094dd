-- `segment_check::is_shown_over` meets its contract. Assumes nothing.
use native.Mathlib.Omega.{arith}
use mathlib.Core.Path.{◌∙◌}
use mathlib.Core.Bool.{false≢true}
use lib.ListN.{length}
use Rattle.segment_check.proofs.HeadLaws.{blocks_stored, stored_good, stored_held, stored_exact, stored_tree}
use Rattle.segment_check.proofs.is_shown_over.Goals as goal

pub returns-in_default : goal.returns-in_default
returns-in_default c =
    let a = c.args in (
      λ e. absurd (false≢true e),
      λ P. absurd (false≢true (c.in_default.ensures.good
          (stored_good a.arena.now a.next a.table.now a.index.now _ _ c.requires.measured P))),
    )

pub returns-then-arena-held : goal.returns-then-arena-held
returns-then-arena-held c =
    let a = c.args in (
      λ e. absurd (false≢true e),
      λ P. absurd (omega (
        arith,
        stored_held a.arena.now a.next a.table.now a.index.now _ _ c.requires.measured P
            c.map_rows.new.map c.map_rows.new.seen (length a.seen.now) c.in-Some.held c.in-Some.ensures.headed.1,
      )),
    )

-- what the records say of a pool that is stored, and the blocks that were walked over
pub returns-in_default-walk_segments : goal.returns-in_default-walk_segments
returns-in_default-walk_segments c =
    let a = c.args in (
      λ e. absurd (false≢true e),
      λ P. absurd (stored_exact a.arena.now a.next a.table.now a.index.now _ _ c.requires.measured P
          c.map_rows.new.map c.map_rows.new.seen (length a.seen.now) c.in-Some.held c.in-Some.ensures.headed.1
          _ c.in_default-walk_segments.ensures.walks),
    )

pub returns-then-free-held : goal.returns-then-free-held
returns-then-free-held c =
    let a = c.args in (
      λ e. absurd (false≢true e),
      λ P. absurd (c.if-free-held.true (stored_exact a.arena.now a.next a.table.now a.index.now _ _ c.requires.measured P
          c.map_rows.new.map c.map_rows.new.seen (length a.seen.now) c.in-Some.held c.in-Some.ensures.headed.1
          _ c.in-Some-walk_segments.ensures.walks)),
    )

pub returns : goal.returns
returns c =
    let a = c.args in (
      λ e. blocks_stored a.arena.now a.next a.table.now a.index.now c.map_rows.new.map
          c.map_rows.new.seen (length a.seen.now) c.in-Some.held c.in-Some-walk_segments.free _ _ c.requires.measured
          c.in-Some.ensures.headed.1
          c.in-Some-walk_segments.ensures.matched.1 c.if-free-held.false c.tree_right.result
          c.tree_right.ensures e,
      λ P. c.tree_right.ensures
          ∙ stored_tree a.arena.now a.next a.table.now a.index.now _ _ c.requires.measured P,
    )
