-- What a party is answered does not depend on the others. 02, ticket 6: "What release, find and look answer a party, the
-- head aside, depends only on its own records, its own words, its arguments, the form number, the lent lengths and whether
-- the pool is sound." Said of two pools that agree in these. Proved in proofs/Private, for each engine in proofs/Engines.
-- Assumes nothing.
use Rattle.std.specs.Prelude.{ℕ, ◌+◌, ◌≤◌, ◌<◌, ◌≡◌, ◌↔◌, [], length, get_or, take, drop}
use Rattle.std.proofs.Math.Option.{some}
use Rattle.words.specs.Lists.{Words}
use Rattle.ledger.specs.declared.Row.{Row}
use Rattle.ledger.specs.Records.{record_of}
use Rattle.calls.specs.Pool.{Pool, ledger, word_count, Engine, sound}
use Rattle.calls.specs.Step.{release, find, look, Slice, arena_part, placeholder, nothing, step}

-- r is a live record of p
abbrev pub Holds : Pool → Row → Type 0
Holds p r = record_of r.ticket (ledger p) ≡ some r

-- Two pools that are the same for party c. The shape is the form number, and S, which is an argument. Of the heads, of
-- other parties' records and of the slots nothing is asked.
pub record SameFor (E : Engine) (c : ℕ) (p q : Pool) : Type 0 where
  pub shape : p.shape ≡ q.shape
  -- the lent lengths
  pub arena : word_count p ≡ word_count q
  pub table : length p.table ≡ length q.table
  pub index : length p.index ≡ length q.index
  pub is_sound : sound E p ≡ sound E q
  -- its own records, and its own words
  pub records : (r : Row) → r.party ≡ c → Holds p r ↔ Holds q r
  pub words : (r : Row) → r.party ≡ c → Holds p r
      → (i : ℕ) → r.address ≤ i → i < r.address + r.words → get_or p.arena i 0 ≡ get_or q.arena i 0

-- the words that a slice shows
abbrev pub shown_in : Pool → Words → Slice → Words
shown_in p hold (arena_part a n) = take n (drop a p.arena)
shown_in p hold placeholder = hold
shown_in p hold nothing = []

pub record Private (E : Engine) : Type 0 where
  pub releases : (r : Row) (p q : Pool) → SameFor E r.party p q
      → (step E (release r) p).answer ≡ (step E (release r) q).answer
  pub finds : (r : Row) (p q : Pool) → SameFor E r.party p q → (step E (find r) p).answer ≡ (step E (find r) q).answer
  -- answer, slice, and the words that it shows
  pub looks : (r : Row) (hold : Words) (p q : Pool) → SameFor E r.party p q
      → ((step E (look r hold) p).answer ≡ (step E (look r hold) q).answer)
      × ((step E (look r hold) p).shown ≡ (step E (look r hold) q).shown)
      × (shown_in p hold (step E (look r hold) p).shown ≡ shown_in q hold (step E (look r hold) q).shown)
