-- The places that an allocation of the segment pool reports, and what is shown of them. 02, ticket 5. The machine's
-- outcome has no places: they are a number of the pool before the call. Assumes nothing.
use Rattle.std.specs.Prelude.{ℕ, ◌-◌, ◌≤◌, ◌≡◌, true, cond, eqb, ℤ, get_or}
use Rattle.std.specs.Int.{w32}
use Rattle.std.proofs.Common.{to_z}
use Rattle.words.specs.Lists.{Words}
use Rattle.ledger.specs.Units.{span}
use Rattle.stored_forms.specs.declared.Steps.{Steps}
use Rattle.stored_forms.specs.Segments.{segment_rule}
use Rattle.stored_forms.specs.Search.{places_to, most_places, steps, searched}
use Rattle.calls.specs.declared.Answer.{Answer}
use Rattle.calls.specs.Pool.{Pool, ledger, word_count}
use Rattle.calls.specs.Step.{allocate, accepted, step}
use Rattle.calls.specs.Engines.{segment_engine}

-- "It is 1 for 5 and 0 for other refusals; else" as `places_to` has it, of the block that begins with the control word
-- before the address
abbrev pub places_by : Pool → Answer → ℕ
places_by p x =
    cond (accepted x) (places_to p.shape (word_count p) (ledger p) (x.address - 1)) (cond (eqb x.number 5) 1 0)

-- of an allocation of n words for party c on the pool p
unfoldable pub places_of : Pool → ℕ → ℕ → ℕ
places_of p c n = places_by p (step segment_engine (allocate c n) p).answer

-- 01's search for n words in the lent memory, which has the arena's words with their sign
abbrev pub signed_at : Words → ℕ → ℤ
signed_at arena u = to_z w32 (get_or arena u 0)

unfoldable pub search_of : Pool → ℕ → Steps
search_of p n = searched (signed_at p.arena) (word_count p) p.shape p.index (span segment_rule n)

-- "Show that it equals the steps of 01's search and is at most 1 + log S + words per segment. With 16,384 words and 256
-- segments that is 73."
pub record PlacesCounted : Type 0 where
  -- a grant: the search ends at the block's control word
  pub granted : (p : Pool) (c n : ℕ) → let x = (step segment_engine (allocate c n) p).answer in
      accepted x ≡ true → search_of p n ≡ steps (x.address - 1) (places_of p c n)
  -- no room: it ends at the root
  pub no_room : (p : Pool) (c n : ℕ) → (step segment_engine (allocate c n) p).answer.number ≡ 5
      → search_of p n ≡ steps (word_count p) (places_of p c n)
  pub most : (p : Pool) (c n : ℕ) → places_of p c n ≤ most_places p.shape (word_count p)
  pub largest : (p : Pool) (c n : ℕ) → p.shape ≡ 256 → word_count p ≡ 16384 → places_of p c n ≤ 73
