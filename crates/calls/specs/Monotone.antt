-- Freeing early never harms the next request: what is granted is granted at no higher address where more is free, and
-- where fewer words are asked for. 02, ticket 14. Proved in proofs/Monotone, for each engine in proofs/Engines. Of
-- sequences of requests nothing is claimed. Assumes nothing.
use Rattle.std.specs.Prelude.{ℕ, ◌/◌, ◌≤◌, ◌<◌, ◌≡◌, true}
use Rattle.ledger.specs.declared.Rule.{Rule}
use Rattle.ledger.specs.Records.{is_party}
use Rattle.ledger.specs.Units.{free}
use Rattle.calls.specs.declared.Answer.{Answer}
use Rattle.calls.specs.Pool.{Pool, ledger, word_count, Engine, rule_of, sound}
use Rattle.calls.specs.Step.{allocate, accepted, step}
use Rattle.calls.specs.Demand1.{NoRecord, NoTicket}

-- What a pool's form says of a request: the unit rule, and the most words that can be asked for. S says nothing of
-- either, so that segment pools of any S are of one form.
abbrev pub sizes_of : Engine → Pool → Rule × ℕ
sizes_of E p = (rule_of E p, E.limit p.shape)

-- At least as much is free in the second pool, q. Of the first no more is asked than the grant in it, which says that p
-- is sound and has an empty record and a ticket left.
pub record Freer (E : Engine) (p q : Pool) : Type 0 where
  pub is_sound : sound E q ≡ true
  -- "both with an empty record and tickets left"
  pub slot : NoRecord q → ⊥
  pub ticket : NoTicket q → ⊥
  -- "of one form and size"; the second may be larger
  pub form : sizes_of E p ≡ sizes_of E q
  pub size : word_count p ≤ word_count q
  -- "every unit free in the first is free in the second"
  pub units : (u : ℕ) → u < word_count p / (rule_of E p).unit → free (rule_of E p) (ledger p) u ≡ true
      → free (rule_of E q) (ledger q) u ≡ true

-- where the answer x is a grant, y is one too, at no higher address
abbrev pub NoHigher : Answer → Answer → Type 0
NoHigher x y = accepted x ≡ true → (accepted y ≡ true) × (y.address ≤ x.address)

pub record Monotone (E : Engine) : Type 0 where
  -- whichever party asks, in either
  pub more_free : (p q : Pool) → Freer E p q → (c d n : ℕ) → is_party d ≡ true
      → NoHigher (step E (allocate c n) p).answer (step E (allocate d n) q).answer
  -- "any smaller one, down to 1 word"
  pub fewer_words : (p : Pool) (c d n m : ℕ) → is_party d ≡ true → 1 ≤ m → m ≤ n
      → NoHigher (step E (allocate c n) p).answer (step E (allocate d m) p).answer
