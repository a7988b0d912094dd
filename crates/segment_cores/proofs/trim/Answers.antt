-- `segment_cores::trim` meets its contract. Assumes nothing.
use Rattle.words.specs.Lists.{Words}
use Prim.Native.Nat.{ℕ, ◌+◌, ◌-◌}
use native.Mathlib.Omega.{arith}
use mathlib.Core.List.{List}
use mathlib.Core.Path.{◌≡◌, ap, ◌∙◌}
use lib.IntN.{ℤ, pos, neg_ℤ}
use lib.ListN.{length, set, length-set}
use Rattle.ledger.specs.Records.{Ledger}
use Rattle.ledger.specs.Units.{free}
use Rattle.stored_forms.specs.Segments.{segment_rule}
use Rattle.segment_cores.specs.Cores.{rest_at}
use Rattle.segment_cores.specs.Stores.{Trimming, merged, trimmed}
use Rattle.segment_cores.specs.Views.{RunOf}
use Rattle.segment_cores.proofs.ChangeLaws.{controls, trim_fits, trim_touches, trim_becomes}
use Rattle.segment_cores.proofs.NearLaws.{trim_above}
use Rattle.segment_cores.proofs.trim.Goals as goal

-- the free words above the block
above : (L M : Ledger) (v : List ℤ) (t : Words) (s g p m k y : ℕ) → Trimming L M v t s g p m k → y ≡ rest_at v (p + m + k)
    → RunOf (free segment_rule M) (p + m + k) (length v - (p + m + k)) y
above L M v t s g p m k y T e = rw e (trim_above L M _ _ _ _ _ _ _ T)

-- what is stored
stores : (v w u : List ℤ) (p m k y : ℕ) → w ≡ set v p (neg_ℤ (pos m)) → u ≡ merged w (p + m) k 0 y → u ≡ trimmed v p m k y
stores v w u p m k y e f = f ∙ ap (λ (x : List ℤ). merged x (p + m) k 0 y) e

pub merge-requires : goal.merge-requires
merge-requires c =
    let (L, M, T) = c.requires in
    let a = c.args in
    let long = ap length c.put_held.ensures ∙ length-set a.v.now a.p (neg_ℤ (pos a.m)) in (
      T.cuts.more,
      omega arith,
      omega (arith, long, trim_fits L M _ _ _ _ _ _ _ T _ (above L M _ _ _ _ _ _ _ _ T c.free_above-y.ensures)),
      omega (arith, long, T.sound.sizes.most),
    )

pub overflow_add-e-2 : goal.overflow_add-e-2
overflow_add-e-2 c =
    let (L, M, T) = c.requires in
    omega (arith, trim_fits L M _ _ _ _ _ _ _ T _ (above L M _ _ _ _ _ _ _ _ T c.free_above-y.ensures), T.sound.sizes.most)

pub reindex-requires : goal.reindex-requires
reindex-requires c =
    let (L, M, T) = c.requires in (
      controls L _,
      controls M _,
      trim_touches L M _ _ _ _ _ _ _ T _ (above L M _ _ _ _ _ _ _ _ T c.free_above-y.ensures) _
          (stores _ _ _ _ _ _ _ c.put_held.ensures c.merge.ensures),
    )

pub returns : goal.returns
returns c =
    λ L M T.
    let touched = trim_touches L M _ _ _ _ _ _ _ T _ (above L M _ _ _ _ _ _ _ _ T c.free_above-y.ensures) _
    (stores _ _ _ _ _ _ _ c.put_held.ensures c.merge.ensures) in
    trim_becomes L M _ _ _ _ _ _ _ T _ (above L M _ _ _ _ _ _ _ _ T c.free_above-y.ensures) _
    (stores _ _ _ _ _ _ _ c.put_held.ensures c.merge.ensures) _
    (c.reindex.ensures (controls L _) (controls M _) touched)
