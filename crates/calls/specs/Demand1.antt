-- Demand 1: any call on any memory gets the number that the table of 01 fixes, and a refused call leaves every word
-- as it stood. 01, "Calls and numbers"; a format's 6: 02, ticket 2; 11: ticket 3; 12 and copies: ticket 6; a trim's 2:
-- ticket 13. Proved in proofs/Demand1; what row 8 says of each engine's lengths is in proofs/Engines. That a call ends,
-- and stays inside what was lent, is shown elsewhere: `step` is a function on any memory, and the code's own proofs (the
-- gate) show that every call of the code ends and stays inside. Assumes nothing.
use Rattle.std.specs.Prelude.{ℕ, ◌+◌, ◌*◌, ◌/◌, ◌%◌, ◌≤◌, ◌<◌, ◌≡◌, ◌≢◌, ◌↔◌, ◌⊎◌, Bool, true, false, List, ◌++◌, length}
use Rattle.std.proofs.Math.Option.{some}
use Rattle.words.specs.Flags.{Says}
use Rattle.words.specs.Lists.{Words}
use Rattle.ledger.specs.declared.Row.{Row}
use Rattle.ledger.specs.Records.{row, is_party, slots, record_at, is_empty}
use Rattle.ledger.specs.Units.{span, free}
use Rattle.calls.specs.Pool.{Pool, with_table, ledger, word_count, Engine, rule_of, lengths, sound, StoredForm}
use Rattle.calls.specs.Step.{Call, format, copy, find, look, zero_answer, refusal, accepted, arena_part, placeholder}
use Rattle.calls.specs.Step.{Act, ask, give, query, cut, bad, Outcome, request, list_suits, copy_suits, copied}
use Rattle.calls.specs.Step.{counted_of, pool_after_all, answer_to, pool_after, acts_of, buffers_of, suits, fills, party_given}
use Rattle.calls.specs.Step.{right_party, own_answer, shown_by, buffers_after, known_form, right_lengths, refused_head}
use Rattle.calls.specs.Step.{step}

-- ---- the rows of the table, each said of the records, units and words themselves

-- 2: asked words are 0 or above the limit
abbrev pub BadSize : Engine → Pool → ℕ → Type 0
BadSize E p n = (n ≡ 0) ⊎ (E.limit p.shape < n)

-- 3: no empty record
abbrev pub NoRecord : Pool → Type 0
NoRecord p = (i : ℕ) → i < slots p.table → is_empty (record_at p.table i) ≡ false

-- 4: next ticket is 0
abbrev pub NoTicket : Pool → Type 0
NoTicket p = p.head.next ≡ 0

-- 5: no free run is long enough: wherever so many units lie, one of them is not free
abbrev pub NoRoom : Engine → Pool → ℕ → Type 0
NoRoom E p n =
    (k : ℕ) → k + span (rule_of E p) n ≤ word_count p / (rule_of E p).unit
    → ((u : ℕ) × (k ≤ u) × (u < k + span (rule_of E p) n) × (free (rule_of E p) (ledger p) u ≡ false))

-- 6: no live record has this ticket (0 always), or it is another party's (02, ticket 6)
abbrev pub Unknown : Pool → Row → Type 0
Unknown p r =
    (r.ticket ≡ 0)
    ⊎ ((i : ℕ) → i < slots p.table → (record_at p.table i).ticket ≡ r.ticket
    → (record_at p.table i).party ≢ r.party)

-- the party's record of this ticket has this address and these words; 7: it has not
abbrev pub Same : Pool → Row → Type 0
Same p r = (i : ℕ) × (i < slots p.table) × (record_at p.table i ≡ r)

-- 2, of a trim: the words to keep are 0 or above the words asked (02, ticket 13)
abbrev pub BadKeep : Row → ℕ → Type 0
BadKeep r n = (n ≡ 0) ⊎ (r.words < n)

-- ---- the number of one act on a sound pool, each exactly when its row says, in 01's order: 2, 3, 4, 5; 6, 7; for a
-- trim 6, 7, 2

pub record AskNumbers (E : Engine) (p : Pool) (n : ℕ) (x : ℕ) : Type 0 where
  pub two : (x ≡ 2) ↔ BadSize E p n
  pub three : (x ≡ 3) ↔ ((BadSize E p n → ⊥) × NoRecord p)
  pub four : (x ≡ 4) ↔ ((BadSize E p n → ⊥) × (NoRecord p → ⊥) × NoTicket p)
  pub five : (x ≡ 5) ↔ ((BadSize E p n → ⊥) × (NoRecord p → ⊥) × (NoTicket p → ⊥) × NoRoom E p n)
  pub zero : (x ≡ 0) ↔ ((BadSize E p n → ⊥) × (NoRecord p → ⊥) × (NoTicket p → ⊥) × (NoRoom E p n → ⊥))

pub record NameNumbers (p : Pool) (r : Row) (x : ℕ) : Type 0 where
  pub six : (x ≡ 6) ↔ Unknown p r
  pub seven : (x ≡ 7) ↔ ((Unknown p r → ⊥) × (Same p r → ⊥))
  pub zero : (x ≡ 0) ↔ ((Unknown p r → ⊥) × Same p r)

pub record CutNumbers (p : Pool) (r : Row) (n x : ℕ) : Type 0 where
  pub six : (x ≡ 6) ↔ Unknown p r
  pub seven : (x ≡ 7) ↔ ((Unknown p r → ⊥) × (Same p r → ⊥))
  pub two : (x ≡ 2) ↔ ((Unknown p r → ⊥) × Same p r × BadKeep r n)
  pub zero : (x ≡ 0) ↔ ((Unknown p r → ⊥) × Same p r × (BadKeep r n → ⊥))

-- 12 comes before them (and from the gate, before any act)
abbrev pub ActNumbers : Engine → Pool → Act → ℕ → Type 0
ActNumbers E p (ask c n) x = (is_party c ≡ false → x ≡ 12) × (is_party c ≡ true → AskNumbers E p n x)
ActNumbers E p (give r) x = NameNumbers p r x
ActNumbers E p (query r) x = NameNumbers p r x
ActNumbers E p (cut r n) x = CutNumbers p r n x
ActNumbers E p bad x = x ≡ 9

-- ---- 12: the party that a call gives is not 1 to 255

abbrev pub BadParty : Call Words → Type 0
BadParty c = (x : ℕ) × (party_given c ≡ some x) × ((x ≡ 0) ⊎ (255 < x))

-- ---- the number of a format, behind 11 and 8 (02, ticket 2): 6 for first ticket 0, else it is accepted

pub record FormatNumbers (right : Bool) (first x : ℕ) : Type 0 where
  pub six : (x ≡ 6) ↔ ((right ≡ true) × (first ≡ 0))
  pub zero : (x ≡ 0) ↔ ((right ≡ true) × (first ≢ 0))

-- ---- the number of a copy (02, ticket 6), which goes by the lengths of its two tables alone, and what it leaves: every
-- record of the new table, and nothing else written

pub record Copies (E : Engine) (old : Words) (p : Pool) (o : Outcome) : Type 0 where
  pub eight : (o.answer.number ≡ 8) ↔ (copy_suits old p.table ≡ false)
  pub zero : (o.answer.number ≡ 0) ↔ (copy_suits old p.table ≡ true)
  pub done : copy_suits old p.table ≡ true
      → (o.answer ≡ zero_answer) × (ledger o.pool ≡ copied old) × (length o.pool.table ≡ length p.table)
      × (o.pool ≡ with_table o.pool.table p)

-- ---- a refused call

-- its number with ticket, address and words 0; head (but for format's zeros), S, arena, table, index and answer
-- buffer as they were
pub record Refused (E : Engine) (c : Call Words) (p : Pool) (o : Outcome) : Type 0 where
  pub answer : o.answer ≡ refusal o.answer.number
  pub head : o.pool.head ≡ refused_head E c p
  pub shape : o.pool.shape ≡ p.shape
  pub arena : o.pool.arena ≡ p.arena
  pub table : o.pool.table ≡ p.table
  pub index : o.pool.index ≡ p.index
  pub buffers : o.buffers ≡ buffers_of c
  -- look hands back the placeholder
  pub shown : o.shown ≡ shown_by c (refusal o.answer.number)

-- a call on a sound pool and lengths that suit does its acts, one after another: each act's answer is `answer_to` on
-- the pool as the one before left it
pub record Performed (E : Engine) (c : Call Words) (p : Pool) (o : Outcome) : Type 0 where
  pub counted : o.counted ≡ counted_of E p (acts_of c)
  pub pool : o.pool ≡ pool_after_all E p (acts_of c)
  pub answer : o.answer ≡ own_answer c o.counted
  pub shown : o.shown ≡ shown_by c o.answer
  pub buffers : o.buffers ≡ buffers_after c o.counted

-- Row 9: "1, words, 0, 0 to allocate; 2, ticket, address, words to release"; every other four words are a bad request.
pub record RequestForms : Type 0 where
  pub asks : (c n : ℕ) → request c 1 n 0 0 ≡ ask c n
  pub gives : (c t a w : ℕ) → request c 2 t a w ≡ give (row t a w c)
  pub others : (c k x y z : ℕ) → ((k ≡ 1) × (y ≡ 0) × (z ≡ 0) → ⊥) → (k ≡ 2 → ⊥) → request c k x y z ≡ bad

-- ---- the demand

pub record Demand1 (E : Engine) : Type 0 where
  -- a refused call, and a request refused inside a list
  pub refused : (c : Call Words) (p : Pool) → accepted (step E c p).answer ≡ false → Refused E c p (step E c p)
  pub refused_act : (p : Pool) (a : Act) → accepted (answer_to E p a) ≡ false
      → (answer_to E p a ≡ refusal (answer_to E p a).number) × (pool_after E p a ≡ p)
  -- 11, 8, 1 and 12, exactly when their rows say; a format gives 11, 8, 6 or 0, a copy 8 or 0
  pub eleven : (c : Call Words) (p : Pool) → ((step E c p).answer.number ≡ 11) ↔ (known_form E c p ≡ false)
  pub eight : (c : Call Words) (p : Pool) → ((step E c p).answer.number ≡ 8)
      ↔ ((known_form E c p ≡ true) × (right_lengths E c p ≡ false))
  pub one : (c : Call Words) (p : Pool) → ((step E c p).answer.number ≡ 1)
      ↔ ((fills c ≡ false) × (right_lengths E c p ≡ true) × (StoredForm E p → ⊥))
  pub twelve : (c : Call Words) (p : Pool) → ((step E c p).answer.number ≡ 12)
      ↔ ((fills c ≡ false) × (right_lengths E c p ≡ true) × StoredForm E p × BadParty c)
  pub copies : (p : Pool) (old : Words) → Copies E old p (step E (copy old) p)
  pub formats : (p : Pool) (first : ℕ) → FormatNumbers (lengths E p) first (step E (format first) p).answer.number
  -- else the call does its acts, and every act's number is the one whose row holds
  pub performed : (c : Call Words) (p : Pool) → fills c ≡ false → suits c p ≡ true → sound E p ≡ true
      → right_party (party_given c) ≡ true → Performed E c p (step E c p)
  pub numbers : (p : Pool) (a : Act) → sound E p ≡ true → ActNumbers E p a (answer_to E p a).number
  -- and each is answered on the pool as the one before left it
  pub in_turn : (p : Pool) (xs ys : List Act)
      → counted_of E p (xs ++ ys) ≡ counted_of E p xs ++ counted_of E (pool_after_all E p xs) ys
  -- "Find and look change nothing." Look's number is find's; it hands back "the part of the arena that begins at the
  -- named record's address and has exactly its words asked, or, the caller's own placeholder slice, whole, when find
  -- would refuse".
  pub finds : (p : Pool) (r : Row) → (step E (find r) p).pool ≡ p
  pub looks : (p : Pool) (r : Row) (hold : Words)
      → ((step E (look r hold) p).answer ≡ (step E (find r) p).answer)
      × ((step E (look r hold) p).pool ≡ p)
      × (accepted (step E (find r) p).answer ≡ true
      → (step E (look r hold) p).shown ≡ arena_part r.address r.words)
      × (accepted (step E (find r) p).answer ≡ false → (step E (look r hold) p).shown ≡ placeholder)
  -- lists: 9 by the four words of a request; 8 by "a multiple of four long", 0 to 1,024 requests, and the answer
  -- buffer at least as long
  pub request_forms : RequestForms
  pub list_lengths : (rs bs : Words)
      → Says (list_suits rs bs) ((length rs % 4 ≡ 0) × (length rs ≤ 4096) × (length rs ≤ length bs))
  -- copies: "an old table", which has three words to each of 1 to 256 records, "into a new one of as many records"
  pub copy_lengths : (old new : Words)
      → Says (copy_suits old new)
      ((length old % 3 ≡ 0) × (3 ≤ length old) × (length old ≤ 768) × (length new ≡ 4 * (length old / 3)))
