-- `segment_cores::allot` meets its contract. Assumes nothing.
use Prim.Native.Nat.{ℕ, ◌-◌}
use native.Mathlib.Omega.{arith}
use mathlib.Core.List.{List}
use mathlib.Core.Path.{◌∙◌, ap}
use lib.IntN.{ℤ, pos, neg_ℤ}
use lib.ListN.{set}
use Rattle.segment_cores.proofs.ChangeLaws.{controls, grant_large, grant_fits, grant_touches}
use Rattle.segment_cores.proofs.ChangeLaws.{grant_becomes}
use Rattle.segment_cores.proofs.allot.Goals as goal

pub overflow_sub-y : goal.overflow_sub-y
overflow_sub-y c =
    let (L, M, k) = c.requires in
    omega (arith, grant_large L M _ _ _ _ _ _ k, c.size_at.ensures)

-- what is left of the run, and what is stored
pub put_rest-requires : goal.put_rest-requires
put_rest-requires c =
    let (L, M, k) = c.requires in
    let fits = grant_fits L M _ _ _ _ _ _ k _ (ap (λ (z : ℕ). z - c.args.n) c.size_at.ensures) in
    (λ h. omega (arith, fits), omega (arith, fits, k.sound.sizes.most))

pub reindex_grant-requires : goal.reindex_grant-requires
reindex_grant-requires c =
    let (L, M, k) = c.requires in
    let a = c.args in
    let left = ap (λ (z : ℕ). z - a.n) c.size_at.ensures in
    let stored = c.put_held.ensures ∙ ap (λ (w : List ℤ). set w a.p (neg_ℤ (pos a.n))) c.put_rest.ensures in
    (controls L _, controls M _, grant_touches L M _ _ _ _ _ _ k _ left _ stored)

pub returns : goal.returns
returns c =
    let a = c.args in
    let left = ap (λ (z : ℕ). z - a.n) c.size_at.ensures in
    let stored = c.put_held.ensures ∙ ap (λ (w : List ℤ). set w a.p (neg_ℤ (pos a.n))) c.put_rest.ensures in
    λ L M k.
    let touched = grant_touches L M _ _ _ _ _ _ k _ left _ stored in
    let right = c.reindex_grant.ensures (controls L _) (controls M _) touched in
    grant_becomes L M _ _ _ _ _ _ k _ left _ stored _ right
