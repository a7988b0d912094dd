-- Pool memory, an engine as what it stores, and soundness. 01, "Calls and numbers", rows 8 and 1. Assumes nothing.
use Rattle.std.specs.Prelude.{ℕ, suc, ◌*◌, ◌%◌, ◌<◌, ◌≤◌, ◌≡◌, Bool, true, cond, ◌&&◌, eqb, leb, length}
use Rattle.std.proofs.Math.Option.{Option}
use Rattle.words.specs.Lists.{Words, same_words}
use Rattle.words.specs.Places.{stamp}
use Rattle.ledger.specs.declared.Row.{Row}
use Rattle.ledger.specs.declared.Rule.{Rule}
use Rattle.ledger.specs.Records.{Ledger, record_words, records_of, table_of, slots, record_of}
use Rattle.ledger.specs.Units.{first, valid, owned}

-- What a call is passed and hands back: what the engine keeps there, which is root link and form number in the tree pool
-- and nothing in the segment pool, and the next ticket; 0 means none left.
pub record Head : Type 0 where
  pub own : Words
  pub next : ℕ

-- Head, lent memory, and the number that a call goes by: in the segment pool S, an argument that lies in neither; in
-- the tree pool, which has no index, the form, which the head has and format is given.
pub record Pool : Type 0 where
  pub head : Head
  pub shape : ℕ
  pub arena : Words
  pub table : Words
  pub index : Words

abbrev pub with_head : Head → Pool → Pool
with_head h p = record { head = h; shape = p.shape; arena = p.arena; table = p.table; index = p.index }

abbrev pub with_table : Words → Pool → Pool
with_table t p = record { head = p.head; shape = p.shape; arena = p.arena; table = t; index = p.index }

-- A table, a next ticket and an arena's length name at most one ledger.
abbrev pub ledger : Pool → Ledger
ledger p = records_of p.table

abbrev pub word_count : Pool → ℕ
word_count p = length p.arena

-- An engine, as what it stores of a ledger: each word of the arena that no holder owns, its part of the head, the index.
-- Every part takes the shape first, then the arena's length.
pub record Engine : Type 0 where
  -- the shapes that are not refused before all else (number 11)
  pub known : ℕ → Bool
  pub rule : ℕ → Rule
  pub range : ℕ → ℕ → Bool
  -- the most words that can be asked for (number 2)
  pub limit : ℕ → ℕ
  pub word : ℕ → ℕ → Ledger → ℕ → ℕ
  pub own_words : ℕ
  pub own : ℕ → ℕ → Ledger → Words
  pub index_words : ℕ → ℕ
  pub index : ℕ → ℕ → Ledger → Words

-- 1 to 256 records
abbrev pub most_records : ℕ
most_records = 256

-- the ticket after n: after 4,294,967,295 there is none
abbrev pub next_after : ℕ → ℕ
next_after n = cond (eqb n 4294967295) 0 (suc n)

unfoldable pub same_pool : Pool → Pool → Bool
same_pool p q =
    same_words p.head.own q.head.own && eqb p.head.next q.head.next && eqb p.shape q.shape
    && same_words p.arena q.arena && same_words p.table q.table && same_words p.index q.index

module _ (E : Engine) where
  abbrev pub rule_of : Pool → Rule
  rule_of p = E.rule p.shape

  -- the stored form of the ledger L with next ticket n, over what the holders wrote in p
  unfoldable pub store : Ledger → ℕ → Pool → Pool
  store L n p = record {
    head = record { own = E.own p.shape (word_count p) L; next = n };
    shape = p.shape;
    arena = stamp (owned (rule_of p) L) (E.word p.shape (word_count p) L) p.arena;
    table = table_of L;
    index = E.index p.shape (word_count p) L;
  }

  -- Row 8: every lent length and S lie in their ranges. A form that is not known has none.
  unfoldable pub lengths : Pool → Bool
  lengths p =
      E.known p.shape && E.range p.shape (word_count p)
      && eqb (length p.table % record_words) 0 && leb 1 (slots p.table) && leb (slots p.table) most_records
      && eqb (length p.index) (E.index_words p.shape)

  -- Row 1: head and lent memory are the stored form of a ledger, which can only be the one that the table and the
  -- next ticket name. `sound_form` in proofs/StoreLaws says it with "of some ledger".
  unfoldable pub stored : Pool → Bool
  stored p =
      valid (rule_of p) (word_count p) p.head.next (ledger p)
      && same_pool p (store (ledger p) p.head.next p)

  unfoldable pub sound : Pool → Bool
  sound p = lengths p && stored p

  -- The same with "of some ledger", as 01 says it.
  pub record StoredForm (p : Pool) : Type 0 where
    pub of : Ledger
    pub next : ℕ
    pub base : Pool
    pub right : lengths base ≡ true
    pub slots : length (table_of of) ≡ length base.table
    pub good : valid (rule_of base) (word_count base) next of ≡ true
    pub form : p ≡ store of next base

-- What the laws ask of an engine.
pub record Laws (E : Engine) : Type 0 where
  -- a unit has words
  pub unit : (s : ℕ) → 0 < (E.rule s).unit
  -- the index has its length
  pub indexed : (s W : ℕ) (L : Ledger) → E.range s W ≡ true → length (E.index s W L) ≡ E.index_words s
  -- the words of a held block before its address, if there are any, are the same in every ledger that holds it
  pub lead : (s W n₁ n₂ : ℕ) (L₁ L₂ : Ledger) (r : Row) (i : ℕ)
      → valid (E.rule s) W n₁ L₁ ≡ true → valid (E.rule s) W n₂ L₂ ≡ true
      → record_of r.ticket L₁ ≡ Option.some r → record_of r.ticket L₂ ≡ Option.some r
      → (E.rule s).unit * first (E.rule s) r ≤ i → i < r.address
      → E.word s W L₁ i ≡ E.word s W L₂ i
