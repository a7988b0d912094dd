-- Laws of the stored form: store after store, soundness both ways, and the pool with some plans carried out. Assumes
-- nothing.
use Prim.Native.Nat.{ℕ, ◌%◌}
use native.Mathlib.Omega.{arith}
use mathlib.Core.Path.{◌≡◌, refl, sym, ap, ◌∙◌, subst}
use mathlib.Core.Bool.{true, ◌&&◌}
use mathlib.Core.List.{List, [], ◌∷◌}
use mathlib.Core.Option.{none}
use lib.Dec.{eqb, leb}
use lib.ListN.{length, get_or, length-replicate}
use Rattle.words.specs.Flags.{Says}
use Rattle.words.specs.Places.{stamp}
use Rattle.words.proofs.Tests.{and_l, and_r, and_i, eqb_eq, eqb_same}
use Rattle.words.proofs.ListLaws.{same_words_eq, same_words_same}
use Rattle.words.proofs.PlaceLaws.{length_stamp, stamp_twice, stamp_keeps}
use Rattle.ledger.specs.Records.{Ledger, empty_row, Member, plan_for, settle, record_words, slots, table_of}
use Rattle.ledger.specs.Units.{valid, owned}
use Rattle.ledger.proofs.RecordLaws.{records_table, length_table_of, length_table_settle, settle_nil, settle_more}
use Rattle.ledger.proofs.UnitLaws.{owned_settle, valid_settle, valid_blank}
use Rattle.calls.specs.Pool.{Pool, ledger, word_count, Engine, Laws, StoredForm, rule_of, store, lengths, same_pool}
use Rattle.calls.specs.Pool.{stored, sound, most_records}
use Rattle.calls.specs.Step.{blank}

pub same_pool_eq : (p q : Pool) → same_pool p q ≡ true → p ≡ q
unfolding same_pool
same_pool_eq p q h =
    let own = same_words_eq p.head.own q.head.own (search (and_l, and_r)) in
    let next = eqb_eq p.head.next q.head.next (search (and_l, and_r)) in
    let shape = eqb_eq p.shape q.shape (search (and_l, and_r)) in
    let arena = same_words_eq p.arena q.arena (search (and_l, and_r)) in
    let table = same_words_eq p.table q.table (search (and_l, and_r)) in
    let index = same_words_eq p.index q.index (search (and_l, and_r)) in
    λ i. record {
      head = record { own = own i; next = next i };
      shape = shape i;
      arena = arena i;
      table = table i;
      index = index i;
    }

pub same_pool_same : (p : Pool) → same_pool p p ≡ true
unfolding same_pool
same_pool_same p =
    rw (
      same_words_same p.head.own,
      eqb_same p.head.next,
      eqb_same p.shape,
      same_words_same p.arena,
      same_words_same p.table,
      same_words_same p.index,
    )

module _ (E : Engine) where
  pub arena_store : (L : Ledger) (n : ℕ) (p : Pool)
      → (store E L n p).arena ≡ stamp (owned (rule_of E p) L) (E.word p.shape (word_count p) L) p.arena
  unfolding store
  arena_store L n p = refl

  -- a second ledger whose holders own no more than the first's: only the second counts
  pub store_twice : (L₁ L₂ : Ledger) (n₁ n₂ : ℕ) (p : Pool)
      → ((i : ℕ) → owned (rule_of E p) L₂ i ≡ true → owned (rule_of E p) L₁ i ≡ true)
      → store E L₂ n₂ (store E L₁ n₁ p) ≡ store E L₂ n₂ p
  unfolding store
  store_twice L₁ L₂ n₁ n₂ p h =
      let W = word_count p in
      let s = p.shape in
      rw (
        length_stamp (owned (rule_of E p) L₁) (E.word s W L₁) p.arena,
        stamp_twice (owned (rule_of E p) L₁) (owned (rule_of E p) L₂) (E.word s W L₁) (E.word s W L₂) h p.arena,
      )

  pub ledger_store : (L : Ledger) (n : ℕ) (p : Pool) → ledger (store E L n p) ≡ L
  unfolding store
  ledger_store L n p = records_table L

  pub next_store : (L : Ledger) (n : ℕ) (p : Pool) → (store E L n p).head.next ≡ n
  unfolding store
  next_store L n p = refl

  pub shape_store : (L : Ledger) (n : ℕ) (p : Pool) → (store E L n p).shape ≡ p.shape
  unfolding store
  shape_store L n p = refl

  pub words_store : (L : Ledger) (n : ℕ) (p : Pool) → word_count (store E L n p) ≡ word_count p
  unfolding store
  words_store L n p = length_stamp (owned (rule_of E p) L) (E.word p.shape (word_count p) L) p.arena

  -- what holders own stays
  pub store_keeps : (L : Ledger) (n : ℕ) (p : Pool) (i : ℕ) → owned (rule_of E p) L i ≡ true
      → get_or (store E L n p).arena i 0 ≡ get_or p.arena i 0
  unfolding store
  store_keeps L n p i h = stamp_keeps (owned (rule_of E p) L) (E.word p.shape (word_count p) L) p.arena i 0 h

  -- right lengths: the table is whole records; one with no record is as long
  pub whole_records : (p : Pool) → lengths E p ≡ true → length p.table % record_words ≡ 0
  unfolding lengths
  whole_records p h = eqb_eq (length p.table % record_words) 0 (search (and_l, and_r))

  pub blank_long : (p : Pool) → length p.table % record_words ≡ 0
      → length (table_of (blank E p)) ≡ length p.table
  blank_long p z = length_table_of (blank E p) ∙ rw (length-replicate (slots p.table) empty_row) (omega arith)

  module _ (laws : Laws E) where
    -- a valid ledger, stored over memory of the right lengths, is a sound pool
    module _ (p : Pool) (L : Ledger) (n : ℕ) (right : lengths E p ≡ true)
        (count : length (table_of L) ≡ length p.table)
        (good : valid (rule_of E p) (word_count p) n L ≡ true) where
      store_lengths : lengths E (store E L n p) ≡ true
      unfolding store lengths
      store_lengths =
          let W = word_count p in
          let s = p.shape in
          let r : E.range s W ≡ true = search (and_l, and_r) in
          rw (length_stamp (owned (rule_of E p) L) (E.word s W L) p.arena, count, laws.indexed s W L r)
          (and_i
          (E.known s && E.range s W && eqb (length p.table % record_words) 0 && leb 1 (slots p.table)
          && leb (slots p.table) most_records)
          (eqb (E.index_words s) (E.index_words s))
          (search and_l) (eqb_same (E.index_words s)))

      store_again : store E (ledger (store E L n p)) (store E L n p).head.next (store E L n p) ≡ store E L n p
      unfolding store
      store_again = rw (ledger_store L n p, next_store L n p) (store_twice L L n n p (λ i h. h))

      store_stored : stored E (store E L n p) ≡ true
      unfolding stored
      store_stored =
          let q = store E L n p in
          and_i (valid (rule_of E q) (word_count q) q.head.next (ledger q))
          (same_pool q (store E (ledger q) q.head.next q))
          (rw (ledger_store L n p, words_store L n p, next_store L n p, shape_store L n p) good)
          (ap (λ (x : Pool). same_pool q x) store_again ∙ same_pool_same q)

      pub store_sound : sound E (store E L n p) ≡ true
      unfolding sound
      store_sound = and_i (lengths E (store E L n p)) (stored E (store E L n p)) store_lengths store_stored

    -- ---- a sound pool

    module _ (p : Pool) (ok : sound E p ≡ true) where
      pub sound_lengths : lengths E p ≡ true
      unfolding sound
      sound_lengths = and_l (lengths E p) (stored E p) ok

      pub sound_stored : stored E p ≡ true
      unfolding sound
      sound_stored = and_r (lengths E p) (stored E p) ok

      pub sound_valid : valid (rule_of E p) (word_count p) p.head.next (ledger p) ≡ true
      unfolding stored
      sound_valid =
          and_l (valid (rule_of E p) (word_count p) p.head.next (ledger p))
          (same_pool p (store E (ledger p) p.head.next p)) sound_stored

      pub is_store : p ≡ store E (ledger p) p.head.next p
      unfolding stored
      is_store =
          same_pool_eq p (store E (ledger p) p.head.next p)
          (and_r (valid (rule_of E p) (word_count p) p.head.next (ledger p))
          (same_pool p (store E (ledger p) p.head.next p)) sound_stored)

      pub is_table : p.table ≡ table_of (ledger p)
      unfolding store
      is_table = ap (λ (q : Pool). q.table) is_store

      -- the pool with the plans of some tickets carried out
      pub settled_sound : (ms : List Member) → sound E (store E (settle ms (ledger p)) p.head.next p) ≡ true
      settled_sound ms =
          store_sound p (settle ms (ledger p)) p.head.next sound_lengths
          (length_table_settle ms (ledger p) ∙ ap length (sym is_table))
          (valid_settle (rule_of E p) (laws.unit p.shape) (word_count p) p.head.next ms (ledger p) sound_valid)

      pub settled_none : store E (settle [] (ledger p)) p.head.next p ≡ p
      settled_none = rw (settle_nil (ledger p)) (sym is_store)

    -- format: a pool with no record
    pub blank_sound : (p : Pool) (first : ℕ) → lengths E p ≡ true → sound E (store E (blank E p) first p) ≡ true
    blank_sound p first h =
        store_sound p (blank E p) first h (blank_long p (whole_records p h))
        (valid_blank (rule_of E p) (word_count p) first (slots p.table))

  -- one more plan carried out, of a ticket that has none yet
  unfoldable pub settled : Pool → List Member → Pool
  settled p ms = store E (settle ms (ledger p)) p.head.next p

  module _ (laws : Laws E) (p : Pool) (m : Member) (ms : List Member) (new : plan_for m.ticket ms ≡ none) where
    owned_more : (i : ℕ) → owned (rule_of E p) (settle (m ∷ ms) (ledger p)) i ≡ true
        → owned (rule_of E p) (settle ms (ledger p)) i ≡ true
    owned_more i h =
        owned_settle (rule_of E p) (laws.unit p.shape) (m ∷ []) (settle ms (ledger p)) i
        (subst (λ (L : Ledger). owned (rule_of E p) L i ≡ true) (sym (settle_more m ms new (ledger p))) h)

    pub settled_more : store E (settle (m ∷ []) (ledger (settled p ms))) (settled p ms).head.next (settled p ms)
        ≡ settled p (m ∷ ms)
    unfolding settled store
    settled_more =
        rw (
          ledger_store (settle ms (ledger p)) p.head.next p,
          next_store (settle ms (ledger p)) p.head.next p,
          settle_more m ms new (ledger p),
        )
        (store_twice (settle ms (ledger p)) (settle (m ∷ ms) (ledger p)) p.head.next p.head.next p owned_more)

-- Row 1, as 01 says it: a pool is sound exactly if its lengths are right and it is the stored form of some ledger.
pub sound_form : (E : Engine) → Laws E → (p : Pool) → Says (sound E p) (StoredForm E p)
sound_form E laws p = (
  (λ ok. record {
    of = ledger p;
    next = p.head.next;
    base = p;
    right = sound_lengths E laws p ok;
    slots = ap length (sym (is_table E laws p ok));
    good = sound_valid E laws p ok;
    form = is_store E laws p ok;
  }),
  (λ s. ap (λ (q : Pool). sound E q) s.form ∙ store_sound E laws s.base s.of s.next s.right s.slots
      s.good),
)
