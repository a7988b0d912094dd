-- The first words of a list, after something was done to them. Assumes nothing.
use Prim.Native.Nat.{ℕ, ◌-◌, ◌≤◌}
use mathlib.Core.Path.{◌≡◌, ◌∙◌, ap}
use mathlib.Core.List.{◌++◌}
use native.Mathlib.Nat.{sub-zero}
use lib.ListN.{length, take}
use lib.Seq.{take_at, length-take-le}
use Rattle.words.specs.Lists.{Words}

-- n words that took the place of the first n
front_is : (n : ℕ) (l new rest : Words) → n ≤ length l → length new ≡ length (take (n - 0) l)
    → take n (new ++ rest) ≡ new
front_is n l new rest h e =
    take_at new rest n (e ∙ ap (λ (k : ℕ). length (take k l)) (sub-zero n) ∙ length-take-le n l h)

-- what holds of the first words before and after, where code took them as parts
pub fronts : {A : Type 0} (after before : Words → Words → A) (n t : ℕ) (a u new newer more most : Words) → n ≤ length a
    → t ≤ length u → length new ≡ length (take (n - 0) a) → length newer ≡ length (take (t - 0) u)
    → after new newer ≡ before (take (n - 0) a) (take (t - 0) u)
    → after (take n (new ++ more)) (take t (newer ++ most)) ≡ before (take n a) (take t u)
fronts after before n t a u new newer more most ha hu la lu e =
    ap (λ (x : Words). after x (take t (newer ++ most))) (front_is n a new more ha la)
    ∙ ap (λ (x : Words). after new x) (front_is t u newer most hu lu)
    ∙ e
    ∙ ap (λ (k : ℕ). before (take k a) (take (t - 0) u)) (sub-zero n)
    ∙ ap (λ (k : ℕ). before (take n a) (take k u)) (sub-zero t)
