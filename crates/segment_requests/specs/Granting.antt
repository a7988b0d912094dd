-- What an allocation has found out before it takes the words. Assumes nothing.
use Rattle.std.specs.Prelude.{ℕ, ◌≡◌, ◌≢◌, true, false, ◌||◌, List, eqb, ltb, ℤ, length, Some}
use Rattle.std.proofs.Math.Option.{some}
use Rattle.words.specs.Lists.{Words}
use Rattle.ledger.specs.Records.{is_party, records_of}
use Rattle.ledger.specs.Units.{span, free, lowest_fit}
use Rattle.stored_forms.specs.Segments.{segment_rule}
use Rattle.calls.specs.Pool.{sound}
use Rattle.calls.specs.Engines.{segment_engine}
use Rattle.record_table.specs.Slots.{empty_slot}
use Rattle.segment_check.specs.declared.Head.{Head}
use Rattle.segment_check.specs.Gate.{segment_pool, Ranged}

-- The pool is sound, c is a party, n is a good size, slot `slot` is the lowest empty one, a ticket is left, and the lowest fit for n
-- words is at unit `at`.
pub record Grantable (h : Head) (s : ℕ) (v : List ℤ) (t x : Words) (c n slot at : ℕ) : Type 0 where
  pub ok : sound segment_engine (segment_pool s h v t x) ≡ true
  pub ranged : Ranged v
  pub party : is_party c ≡ true
  pub size : (eqb n 0 || ltb 16384 n) ≡ false
  pub empty : empty_slot (records_of t) ≡ Some slot
  pub ticket : h.next ≢ 0
  pub fit : lowest_fit (free segment_rule (records_of t)) (length v) (span segment_rule n) ≡ some at
