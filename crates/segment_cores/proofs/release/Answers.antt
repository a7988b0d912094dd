-- `segment_cores::release` meets its contract. Assumes nothing.
use Rattle.words.specs.Lists.{Words}
use mathlib.Core.List.{List}
use mathlib.Core.Path.{◌≡◌}
use lib.IntN.{ℤ}
use Prim.Native.Nat.{ℕ, ◌+◌, ◌-◌}
use native.Mathlib.Omega.{arith}
use mathlib.Core.Path.{sym}
use lib.ListN.{length}
use Rattle.ledger.specs.Records.{Ledger}
use Rattle.ledger.specs.Units.{free}
use Rattle.stored_forms.specs.Segments.{segment_rule}
use Rattle.segment_cores.specs.Cores.{rest_at}
use Rattle.segment_cores.specs.Stores.{Releasing}
use Rattle.segment_cores.specs.Views.{RunOf}
use Rattle.segment_cores.proofs.ChangeLaws.{controls, release_touches, release_becomes}
use Rattle.segment_cores.proofs.NearLaws.{held_at, rest_below, rest_above}
use Rattle.segment_cores.proofs.release.Goals as goal

-- the free words above the block
above : (L M : Ledger) (v : List ℤ) (t : Words) (s d g p n y : ℕ) → Releasing L M v t s d g p n → y ≡ rest_at v (p + n)
    → RunOf (free segment_rule M) (p + n) (length v - (p + n)) y
above L M v t s d g p n y k e =
    rw e (rest_above L M _ _ _ _ k.sound _ _ k.adds.head k.adds.some k.adds.inside (λ u h. sym (k.adds.above u h)))

pub merge-requires : goal.merge-requires
merge-requires c =
    let (L, M, k) = c.requires in
    let low = c.free_below-x.ensures L (held_at L M _ _ _ _ _ _ _ k) in
    (k.adds.some, low.fits, omega (arith, (above L M _ _ _ _ _ _ _ _ k c.free_above-y.ensures).fits, k.adds.inside), k.sound.sizes.most)

pub overflow_add-p-4 : goal.overflow_add-p-4
overflow_add-p-4 c =
    let (L, M, k) = c.requires in
    omega (arith, (above L M _ _ _ _ _ _ _ _ k c.free_above-y.ensures).fits, k.adds.inside, k.sound.sizes.most)

pub reindex-requires : goal.reindex-requires
reindex-requires c =
    let (L, M, k) = c.requires in
    let low = c.free_below-x.ensures L (held_at L M _ _ _ _ _ _ _ k) in (
      controls L _,
      controls M _,
      release_touches L M _ _ _ _ _ _ _ k _ _ low.fits (rest_below L M _ _ _ _ _ _ _ k _ low) (above L M _ _ _ _ _ _ _ _ k c.free_above-y.ensures) _
          c.merge.ensures,
    )

pub returns : goal.returns
returns c =
    λ L M k.
    let low = c.free_below-x.ensures L (held_at L M _ _ _ _ _ _ _ k) in
    let rest = rest_below L M _ _ _ _ _ _ _ k _ low in
    let touched = release_touches L M _ _ _ _ _ _ _ k _ _ low.fits rest (above L M _ _ _ _ _ _ _ _ k c.free_above-y.ensures) _ c.merge.ensures in
    release_becomes L M _ _ _ _ _ _ _ k _ _ low.fits rest (above L M _ _ _ _ _ _ _ _ k c.free_above-y.ensures) _ c.merge.ensures _
    (c.reindex.ensures (controls L _) (controls M _) touched)
