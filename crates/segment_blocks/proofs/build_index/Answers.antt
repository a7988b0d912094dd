-- `segment_blocks::build_index` meets its contract: no block is known anywhere, and then the first segment is stored.
-- Assumes nothing.
use Prim.Native.Nat.{ℕ, ◌*◌}
use native.Mathlib.Omega.{arith}
use mathlib.Core.Path.{◌≡◌, ◌∙◌, sym}
use lib.IntN.{ℤ}
use lib.ListN.{length, length-set}
use Rattle.segment_blocks.specs.Upkeep.{OneBlock}
use Rattle.segment_blocks.proofs.BuildLaws.{Built, zero_at_lem, build_start, build_one}
use Rattle.segment_blocks.proofs.UpkeepLaws.{sizes_some}
use Rattle.segment_blocks.proofs.build_index.Goals as goal
use Rattle.segment_blocks.proofs.build_index.Goals.{After-raise_most-arg-1}

-- what the two fills leave
built : (c : After-raise_most-arg-1) (f : ℕ → ℤ)
    → let a = c.args in
    OneBlock a.v.now f a.segments.count a.segments.size
    → Built a.v.now f a.segments.count a.segments.size c.fill_part-2.new.s 0 0
built c f O =
    build_start _ f _ _ O.ground c.args.t.now _ _ c.requires.t_len c.fill_part.ensures
    c.fill_part-2.ensures

pub raise_most-requires : goal.raise_most-requires
raise_most-requires c =
    let (f, O) = c.requires.by_index in
    let filled = c.fill_part-2.ensures in
    let zero = zero_at_lem _ f _ _ O.ground c.args.t.now _ _ c.requires.t_len c.fill_part.ensures filled in record {
      heap = ((built (goal.at.raise_most-requires c).After-raise_most-arg-1 f O).pending.heap, omega arith, omega (arith, sizes_some _ _ _ O.ground.sizes));
      by_index = λ j h. omega (arith, zero j h);
    }

pub bounds-t-s : goal.bounds-t-s
bounds-t-s c =
    let (f, O) = c.requires.by_index in
    let long : length c.raise_most.new.t ≡ 3 * c.args.segments.count =
    c.raise_most.ensures.same ∙ (built (goal.at.bounds-t-s c).After-raise_most-arg-1 f O).pending.long in
    omega (arith, long, sizes_some _ _ _ O.ground.sizes)

pub shape_of-t : goal.shape_of-t
shape_of-t c =
    let (f, O) = c.requires.by_index in
    let long : length c.raise_most.new.t ≡ 3 * c.args.segments.count =
    c.raise_most.ensures.same ∙ (built (goal.at.shape_of-t c).After-raise_most-arg-1 f O).pending.long in
    length-set c.raise_most.new.t _ _ ∙ long ∙ sym c.requires.t_len

pub returns : goal.returns
returns c =
    λ f O. build_one _ f _ _ O _ (built (goal.at.returns c).After-raise_most-arg-1 f O) _ c.raise_most.ensures
