-- The pools of specs/FreerPools are such as 02's ticket 14 speaks of, and a request is granted in the first: its condition
-- is not empty. Assumes nothing.
use Prim.Native.Nat.{ℕ}
use mathlib.Core.Path.{◌≡◌, refl, sym, ◌∙◌}
use mathlib.Core.Bool.{true, false, true≢false}
use lib.Dec.{eqb, leb}
use Rattle.words.proofs.Tests.{eqb_false, le_of}
use Rattle.ledger.specs.Records.{full}
use Rattle.ledger.specs.Units.{free}
use Rattle.calls.specs.Pool.{Pool, Engine, ledger, word_count, rule_of, sound}
use Rattle.calls.specs.Step.{allocate, accepted, step}
use Rattle.calls.specs.Engines.{tree_engine, segment_engine}
use Rattle.calls.specs.Monotone.{sizes_of, Freer}
use Rattle.calls.specs.Computing.{tree_machine, segment_machine}
use Rattle.calls.proofs.RowLaws.{record_test}
use Rattle.worked_cases.specs.FreerPools.{tree_held, tree_free, segment_held, segment_free}

-- a second pool that is all free, by tests that compute
all_free : (E : Engine) (p q : Pool) → sound E q ≡ true → full (ledger q) ≡ false → eqb q.head.next 0 ≡ false
    → sizes_of E p ≡ sizes_of E q → leb (word_count p) (word_count q) ≡ true
    → ((u : ℕ) → free (rule_of E q) (ledger q) u ≡ true) → Freer E p q
all_free E p q ok slot ticket form size units = record {
  is_sound = ok;
  slot = λ h. true≢false (sym ((record_test q).1 h) ∙ slot);
  ticket = eqb_false q.head.next 0 ticket;
  form = form;
  size = le_of (word_count p) (word_count q) size;
  units = λ u l h. units u;
}

pub tree_freer : Freer tree_engine tree_held tree_free × (accepted (step tree_engine (allocate 1 4) tree_held).answer ≡ true)
unfolding tree_machine
tree_freer = (all_free tree_engine tree_held tree_free refl refl refl refl refl (λ u. refl), refl)

pub segment_freer : Freer segment_engine segment_held segment_free
    × (accepted (step segment_engine (allocate 1 11) segment_held).answer ≡ true)
unfolding segment_machine
segment_freer = (all_free segment_engine segment_held segment_free refl refl refl refl refl (λ u. refl), refl)
