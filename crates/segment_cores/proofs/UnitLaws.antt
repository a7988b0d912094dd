-- The segment pool's units: a block has one word more than were asked, and its record's address is the word after its
-- first. Assumes nothing.
use Prim.Native.Nat.{ℕ, ◌+◌}
use native.Mathlib.Nat.{div-one}
use native.Mathlib.Omega.{arith}
use mathlib.Core.Path.{◌≡◌, ◌∙◌}
use Rattle.ledger.specs.Units.{span, address_at}
use Rattle.stored_forms.specs.Segments.{segment_rule}

pub span_words : (n : ℕ) → span segment_rule n ≡ n + 1
unfolding span
span_words n = div-one (n + 1 + 0) ∙ omega arith

pub address_after : (k : ℕ) → address_at segment_rule k ≡ k + 1
unfolding address_at
address_after k = omega arith
