-- The segment pool's memory by two readings of a ledger: f, the units that are free, and st, the sizes of the blocks
-- by the units at which they begin. Assumes nothing.
use Rattle.std.specs.Prelude.{ℕ, ◌+◌, ◌-◌, ◌≤◌, ◌<◌, Bool, true, false, cond, not, ◌&&◌, ◌≢◌, ◌≡◌, eqb, ltb, ℤ, pos, neg_ℤ}
use Rattle.ledger.specs.Records.{Ledger}
use Rattle.ledger.specs.Units.{free}
use Rattle.stored_forms.specs.Segments.{segment_rule, starts_at, free_from, opens}

-- the control word at u: `control_word W L` is that of L's readings
unfoldable pub word : (ℕ → Bool) → (ℕ → ℕ) → ℕ → ℕ → ℤ
word f st W u =
    cond (ltb 0 (st u)) (neg_ℤ (pos (st u))) (cond (f u && opens f u) (pos (free_from f u (W - u))) (pos 0))

-- word u is its holder's: held, and no control word
abbrev pub owned_by : (ℕ → Bool) → (ℕ → ℕ) → ℕ → Bool
owned_by f st u = not (f u) && eqb (st u) 0

-- The readings of a valid ledger: blocks lie inside the arena, cover their units, and share none; a unit that is not
-- free belongs to one.
pub record Whole (f : ℕ → Bool) (st : ℕ → ℕ) (W : ℕ) : Type 0 where
  pub fits : (u : ℕ) → 0 < st u → u + st u ≤ W
  pub covers : (u k : ℕ) → u ≤ k → k < u + st u → f k ≡ false
  pub alone : (u k : ℕ) → u < k → k < u + st u → st k ≡ 0
  pub belongs : (k : ℕ) → f k ≡ false → (u : ℕ) × (u ≤ k) × (k < u + st u)

-- z units from u on pass, of n at most, and the next does not
pub record RunOf (f : ℕ → Bool) (u n z : ℕ) : Type 0 where
  pub passes : (k : ℕ) → u ≤ k → k < u + z → f k ≡ true
  pub fits : z ≤ n
  pub stops : z < n → f (u + z) ≡ false

-- the x units from a on, up to p, are free, and a opens their run
pub record Rest (f : ℕ → Bool) (a x p : ℕ) : Type 0 where
  pub upto : a + x ≡ p
  pub passes : (u : ℕ) → a ≤ u → u < p → f u ≡ true
  pub opened : opens f a ≡ true

-- f' and st' have a block of n units more than f and st, at p
pub record AddsBlock (f : ℕ → Bool) (st : ℕ → ℕ) (f' : ℕ → Bool) (st' : ℕ → ℕ) (W p n : ℕ) : Type 0 where
  pub some : 0 < n
  pub inside : p + n ≤ W
  pub gap : (u : ℕ) → p ≤ u → u < p + n → f u ≡ true
  pub held : (u : ℕ) → p ≤ u → u < p + n → f' u ≡ false
  pub below : (u : ℕ) → u < p → f' u ≡ f u
  pub above : (u : ℕ) → p + n ≤ u → f' u ≡ f u
  pub head : st' p ≡ n
  pub heads : (u : ℕ) → u ≢ p → st' u ≡ st u

-- L' is L with a block of n units more, at p
abbrev pub Adds : Ledger → Ledger → ℕ → ℕ → ℕ → Type 0
Adds L L' W p n = AddsBlock (free segment_rule L) (starts_at L) (free segment_rule L') (starts_at L') W p n

-- f' and st' have, of the block of m + k units at p, the first m alone: the k behind them are free (02, ticket 13)
pub record Cut (f : ℕ → Bool) (st : ℕ → ℕ) (f' : ℕ → Bool) (st' : ℕ → ℕ) (W p m k : ℕ) : Type 0 where
  pub some : 0 < m
  pub more : 0 < k
  pub inside : p + m + k ≤ W
  pub block : st p ≡ m + k
  pub freed : (u : ℕ) → p + m ≤ u → u < p + m + k → f' u ≡ true
  pub below : (u : ℕ) → u < p + m → f' u ≡ f u
  pub above : (u : ℕ) → p + m + k ≤ u → f' u ≡ f u
  pub head : st' p ≡ m
  pub heads : (u : ℕ) → u ≢ p → st' u ≡ st u

-- L' is L with the block at p cut to its first m units, k fewer
abbrev pub Cuts : Ledger → Ledger → ℕ → ℕ → ℕ → ℕ → Type 0
Cuts L L' W p m k = Cut (free segment_rule L) (starts_at L) (free segment_rule L') (starts_at L') W p m k
