-- Memory set by its places: some words stay, every other is a function of its place. Assumes nothing.
use Rattle.std.specs.Prelude.{ℕ, suc, Bool, cond, List, [], ◌∷◌}
use Rattle.words.specs.Counted.{outside}

module _ {A : Type 0} where
  -- from place i on: the elements whose place passes `stays` stay, and every other is set by its place
  abbrev pub stamp_from : (ℕ → Bool) → (ℕ → A) → ℕ → List A → List A
  stamp_from stays val i [] = []
  stamp_from stays val i (x ∷ xs) = cond (stays i) x (val i) ∷ stamp_from stays val (suc i) xs

  abbrev pub stamp : (ℕ → Bool) → (ℕ → A) → List A → List A
  stamp stays val a = stamp_from stays val 0 a

  abbrev pub constant : A → ℕ → A
  constant z i = z

  -- the elements from lo up to hi are z, the others as they were
  unfoldable pub wiped : A → ℕ → ℕ → List A → List A
  wiped z lo hi a = stamp (outside lo hi) (constant z) a
