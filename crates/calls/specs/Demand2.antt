-- Demand 2: exactly first fit, on any sound pool. 01, "The ledger": "Allocation takes the lowest starting unit from
-- which enough units are free, from the low end of the run. The new record goes into the lowest empty slot.";
-- "Release removes the record."; "Words of held blocks, the odd spare word of a tree block included, are never
-- touched by a call on another ticket or by a refused call." Trims: 02, ticket 13. Proved in proofs/Demand2. Assumes
-- nothing.
use Rattle.std.specs.Prelude.{ℕ, ◌+◌, ◌*◌, ◌/◌, ◌≤◌, ◌<◌, ◌≡◌, true, false, not, ◌&&◌, ◌||◌, List, [], ◌∷◌, get_or}
use Rattle.std.proofs.Math.Option.{some}
use Rattle.words.specs.Counted.{within}
use Rattle.words.specs.Lists.{Words}
use Rattle.ledger.specs.declared.Row.{Row}
use Rattle.ledger.specs.Records.{is_party, record_of, enter, vacate, keep, keepable, shortened, member, settle}
use Rattle.ledger.specs.Units.{span, first, past, covers, free}
use Rattle.ledger.specs.Runs.{AreRuns, free_runs}
use Rattle.calls.specs.Pool.{Pool, ledger, word_count, Engine, next_after, rule_of, sound}
use Rattle.calls.specs.Step.{Call, format, success, zero_answer, refusal, accepted, Act, ask, give, query, cut}
use Rattle.calls.specs.Step.{Kind, plans, reads, others, kind_of, new_row, answer_to, pool_after, acts_of, fills, blank, step}
use Rattle.calls.specs.Demand1.{BadSize, NoRecord, NoTicket, NoRoom}

-- unit k is the lowest from which the units for n words are free
pub record LowestFit (E : Engine) (p : Pool) (n k : ℕ) : Type 0 where
  pub inside : k + span (rule_of E p) n ≤ word_count p / (rule_of E p).unit
  pub enough : (u : ℕ) → k ≤ u → u < k + span (rule_of E p) n → free (rule_of E p) (ledger p) u ≡ true
  pub lowest : (j : ℕ) → j < k
      → ((u : ℕ) × (j ≤ u) × (u < j + span (rule_of E p) n) × (free (rule_of E p) (ledger p) u ≡ false))

-- The grant at unit k to party c: the answer, the record in the lowest empty slot, the next ticket, and exactly its units no
-- longer free; the words from its address to the end of its last unit, spare words included, read zero.
pub record Granted (E : Engine) (p : Pool) (c n k : ℕ) : Type 0 where
  pub answer : answer_to E p (ask c n) ≡ success (new_row E p c n k)
  pub holds : ledger (pool_after E p (ask c n)) ≡ enter (new_row E p c n k) (ledger p)
  pub next : (pool_after E p (ask c n)).head.next ≡ next_after p.head.next
  pub units : (u : ℕ) → free (rule_of E p) (ledger (pool_after E p (ask c n))) u
      ≡ (free (rule_of E p) (ledger p) u && not (covers (rule_of E p) u (new_row E p c n k)))
  pub zeros : (i : ℕ) → (new_row E p c n k).address ≤ i → i < (rule_of E p).unit * past (rule_of E p) (new_row E p c n k)
      → get_or (pool_after E p (ask c n)).arena i 0 ≡ 0

-- The release of the live record r: its slot is empty, the others' stay, the next ticket stays, and exactly its units
-- become free.
pub record Released (E : Engine) (p : Pool) (r : Row) : Type 0 where
  pub answer : answer_to E p (give r) ≡ success r
  pub holds : ledger (pool_after E p (give r)) ≡ settle (member r.ticket vacate ∷ []) (ledger p)
  pub next : (pool_after E p (give r)).head.next ≡ p.head.next
  pub units : (u : ℕ) → free (rule_of E p) (ledger (pool_after E p (give r))) u
      ≡ (free (rule_of E p) (ledger p) u || covers (rule_of E p) u r)

-- The trim of the live record r to n words. "The record now reads the kept number" in its slot, the others' stay, the next
-- ticket stays; "the units beyond its rounding become free", exactly; "and the kept words stay, with any spare words of
-- their rounding".
pub record Trimmed (E : Engine) (p : Pool) (r : Row) (n : ℕ) : Type 0 where
  pub answer : answer_to E p (cut r n) ≡ success (shortened n r)
  pub holds : ledger (pool_after E p (cut r n)) ≡ settle (member r.ticket (keep n) ∷ []) (ledger p)
  pub reads : record_of r.ticket (ledger (pool_after E p (cut r n))) ≡ some (shortened n r)
  pub next : (pool_after E p (cut r n)).head.next ≡ p.head.next
  pub units : (u : ℕ) → free (rule_of E p) (ledger (pool_after E p (cut r n))) u
      ≡ (free (rule_of E p) (ledger p) u
      || within (first (rule_of E p) r + span (rule_of E p) n) (past (rule_of E p) r) u)
  pub words : (i : ℕ) → r.address ≤ i → i < (rule_of E p).unit * (first (rule_of E p) r + span (rule_of E p) n)
      → get_or (pool_after E p (cut r n)).arena i 0 ≡ get_or p.arena i 0

-- The release or trim of exactly r. One that names r's ticket with another address or other words is refused, and r's words
-- stay.
abbrev pub NamesAs : Row → Kind → Type 0
NamesAs r (plans q s) = s ≡ r
NamesAs r reads = ⊥
NamesAs r others = ⊥

abbrev pub Names : Row → Act → Type 0
Names r a = NamesAs r (kind_of a)

abbrev pub Spares : Row → List Act → Type 0
Spares r [] = Unit {0}
Spares r (a ∷ more) = (Names r a → ⊥) × Spares r more

-- the block of r, spare words and control word included, holds in q what it holds in p
pub record Untouched (E : Engine) (p q : Pool) (r : Row) : Type 0 where
  pub holds : record_of r.ticket (ledger q) ≡ some r
  pub words : (i : ℕ) → (rule_of E p).unit * first (rule_of E p) r ≤ i → i < (rule_of E p).unit * past (rule_of E p) r
      → get_or q.arena i 0 ≡ get_or p.arena i 0

-- sound now, and after each of some acts
abbrev pub Throughout : Engine → Pool → List Act → Type 0
Throughout E p [] = sound E p ≡ true
Throughout E p (a ∷ more) = (sound E p ≡ true) × Throughout E (pool_after E p a) more

pub record Demand2 (E : Engine) : Type 0 where
  -- if the size is good and a record and a ticket are left, the grant is at the lowest fit, and there is one unless
  -- there is no room; whichever party asks
  pub grants : (p : Pool) → sound E p ≡ true → (c n : ℕ) → is_party c ≡ true
      → (BadSize E p n → ⊥) → (NoRecord p → ⊥) → (NoTicket p → ⊥)
      → (k : ℕ) → LowestFit E p n k → Granted E p c n k
  pub fit : (p : Pool) (n : ℕ) → (NoRoom E p n → ⊥) → ((k : ℕ) × LowestFit E p n k)
  -- "no room" exactly if there is none
  pub refuses : (p : Pool) → sound E p ≡ true → (c n : ℕ) → is_party c ≡ true
      → (BadSize E p n → ⊥) → (NoRecord p → ⊥) → (NoTicket p → ⊥)
      → NoRoom E p n → answer_to E p (ask c n) ≡ refusal 5
  -- a release is accepted exactly if it names a live record's ticket, address and words, by its own party
  pub releases : (p : Pool) → sound E p ≡ true → (r : Row) → record_of r.ticket (ledger p) ≡ some r → Released E p r
  pub others : (p : Pool) (r : Row) → (record_of r.ticket (ledger p) ≡ some r → ⊥)
      → accepted (answer_to E p (give r)) ≡ false
  -- so is a trim, if it keeps from 1 to the words asked; "Keeping everything changes nothing."
  pub trims : (p : Pool) → sound E p ≡ true → (r : Row) (n : ℕ) → record_of r.ticket (ledger p) ≡ some r
      → keepable n r ≡ true → Trimmed E p r n
  pub other_trims : (p : Pool) (r : Row) (n : ℕ)
      → (record_of r.ticket (ledger p) ≡ some r → keepable n r ≡ true → ⊥)
      → accepted (answer_to E p (cut r n)) ≡ false
  pub keeps_all : (p : Pool) → sound E p ≡ true → (r : Row)
      → (answer_to E p (cut r r.words) ≡ answer_to E p (query r)) × (pool_after E p (cut r r.words) ≡ p)
  -- find echoes the three of a live record, and changes nothing
  pub finds : (p : Pool) → sound E p ≡ true → (r : Row) → record_of r.ticket (ledger p) ≡ some r
      → (answer_to E p (query r) ≡ success r) × (pool_after E p (query r) ≡ p)
  -- what is stored after every act is the stored form of the ledger, whose free runs are the longest possible
  pub stays : (p : Pool) (a : Act) → sound E p ≡ true → sound E (pool_after E p a) ≡ true
  -- every act of a call is answered on a sound pool: a list's requests too
  pub throughout : (p : Pool) (c : Call Words) → sound E p ≡ true → Throughout E p (acts_of c)
  -- a formatted pool is sound, has no record, and its next ticket is the first number given; the answer is 0 and zeros
  pub formats : (p : Pool) (first : ℕ) → accepted (step E (format first) p).answer ≡ true
      → (sound E (step E (format first) p).pool ≡ true)
      × (ledger (step E (format first) p).pool ≡ blank E p)
      × ((step E (format first) p).pool.head.next ≡ first)
      × ((step E (format first) p).answer ≡ zero_answer)
  -- no act changes the arena's length, nor the form or S
  pub keeps : (p : Pool) (a : Act) → (word_count (pool_after E p a) ≡ word_count p) × ((pool_after E p a).shape ≡ p.shape)
  pub merged : (p : Pool)
      → AreRuns (free (rule_of E p) (ledger p)) (word_count p / (rule_of E p).unit)
      (free_runs (rule_of E p) (word_count p) (ledger p))
  -- words of held blocks: an act that is not the block's release or trim, and a call none of whose acts is, leave them
  pub spares : (p : Pool) (a : Act) → sound E p ≡ true → (r : Row) → record_of r.ticket (ledger p) ≡ some r
      → (Names r a → ⊥) → Untouched E p (pool_after E p a) r
  pub spares_call : (p : Pool) (c : Call Words) → sound E p ≡ true → fills c ≡ false → (r : Row)
      → record_of r.ticket (ledger p) ≡ some r → Spares r (acts_of c) → Untouched E p (step E c p).pool r
