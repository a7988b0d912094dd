-- A good session is had back from its state, which has the state's length. Assumes nothing.
use Prim.Native.Nat.{ℕ, ◌*◌, ◌-◌, ◌≤◌, ◌<◌}
use mathlib.Core.Path.{◌≡◌, refl, sym, ap, ap₂, ◌∙◌}
use mathlib.Core.Bool.{true}
use mathlib.Core.List.{[], ◌∷◌, ◌++◌, append_assoc}
use native.Mathlib.Nat.{zero-add}
use native.Mathlib.Omega.{arith}
use lib.ListN.{length, get_or, take, drop, replicate, length-append, length-replicate}
use lib.Seq.{take_at, drop_at}
use Rattle.words.specs.Lists.{Words, list_from, same_words}
use Rattle.words.proofs.Tests.{and_l, and_r, and_i, le_of}
use Rattle.words.proofs.ListLaws.{same_words_same}
use Rattle.ledger.specs.Records.{record_words, slots}
use Rattle.calls.specs.Pool.{Pool, word_count, ledger, most_records, lengths, store}
use Rattle.calls.specs.Engines.{tree_engine}
use Rattle.calls.proofs.Engines.{tree_laws}
use Rattle.calls.proofs.StoreLaws.{whole_records, sound_lengths, is_store}
use Rattle.tree_check.specs.Gate.{tree_pool}
use Rattle.text.specs.Numbers.{Bytes}
use Rattle.word_bytes.specs.Little.{word_at, bytes_of_words}
use Rattle.word_bytes.proofs.LittleLaws.{length_bytes, word_there, words_there}
use Rattle.session.specs.Meaning.{Standing, before, serving, stopped, most_text_words, text_form}
use Rattle.session.specs.State.{session, table_from, arena_from, state_bytes, stage_of, head_of, table_in, arena_in}
use Rattle.session.specs.State.{padded, bytes_of, pool_in, standing_in, session_in, right_pool, good, is_state}
use Rattle.session.proofs.GoodLaws.{right_sound, right_form, right_words, Good, good_of}

pub length_padded : (n : ℕ) (bs : Bytes) → length bs ≤ n → length (padded n bs) ≡ n
length_padded n bs h =
    omega (arith, length-append bs (replicate (n - length bs) 0), length-replicate {A = ℕ} (n - length bs) 0)

-- ---- four parts, one after another: words, a line, words, words

module _ (hs : Words) (k z₁ : Bytes) (ts : Words) (z₂ : Bytes) (ws : Words) (z₃ : Bytes) where
  abbrev first : Bytes
  first = bytes_of_words hs

  abbrev whole : Bytes
  whole = first ++ (k ++ z₁) ++ (bytes_of_words ts ++ z₂) ++ (bytes_of_words ws ++ z₃)

  module _ (six : length hs ≡ 6) (long : length (k ++ z₁) ≡ 68)
      (records : length (bytes_of_words ts ++ z₂) ≡ 4 * (most_records * record_words)) where
    split_first : whole ≡ first ++ ((k ++ z₁) ++ ((bytes_of_words ts ++ z₂) ++ (bytes_of_words ws ++ z₃)))
    split_first =
        append_assoc (first ++ (k ++ z₁)) (bytes_of_words ts ++ z₂) (bytes_of_words ws ++ z₃)
        ∙ append_assoc first (k ++ z₁) ((bytes_of_words ts ++ z₂) ++ (bytes_of_words ws ++ z₃))

    pub header_there : (i : ℕ) → i < 6 → word_at whole i ≡ get_or hs i 0
    header_there i h =
        ap (λ (b : Bytes). word_at b i) split_first
        ∙ ap (word_at (first ++ ((k ++ z₁) ++ ((bytes_of_words ts ++ z₂) ++ (bytes_of_words ws ++ z₃))))) (sym (zero-add i))
        ∙ word_there [] ((k ++ z₁) ++ ((bytes_of_words ts ++ z₂) ++ (bytes_of_words ws ++ z₃))) hs 0 (omega arith) i
        (omega arith)

    pub kept_there : take (length k) (drop 24 whole) ≡ k
    kept_there =
        let rest = (bytes_of_words ts ++ z₂) ++ (bytes_of_words ws ++ z₃) in
        ap (λ (b : Bytes). take (length k) (drop 24 b)) split_first
        ∙ ap (take (length k)) (drop_at first ((k ++ z₁) ++ rest) 24 (omega (arith, length_bytes hs))
        ∙ append_assoc k z₁ rest)
        ∙ take_at k (z₁ ++ rest) (length k) refl

    front_long : length (first ++ (k ++ z₁)) ≡ 4 * table_from
    front_long = omega (arith, length_bytes hs, length-append first (k ++ z₁))

    pub table_there : list_from (word_at whole) table_from (length ts) ≡ ts
    table_there =
        let front = first ++ (k ++ z₁) in
        let rest = bytes_of_words ws ++ z₃ in
        ap (λ (b : Bytes). list_from (word_at b) table_from (length ts))
        (ap (λ (b : Bytes). b ++ rest) (sym (append_assoc front (bytes_of_words ts) z₂))
        ∙ append_assoc (front ++ bytes_of_words ts) z₂ rest)
        ∙ words_there front (z₂ ++ rest) ts table_from front_long

    back_long : length (first ++ (k ++ z₁) ++ (bytes_of_words ts ++ z₂)) ≡ 4 * arena_from
    back_long = omega (arith, front_long, length-append (first ++ (k ++ z₁)) (bytes_of_words ts ++ z₂))

    pub arena_there : list_from (word_at whole) arena_from (length ws) ≡ ws
    arena_there =
        let front = first ++ (k ++ z₁) ++ (bytes_of_words ts ++ z₂) in
        ap (λ (b : Bytes). list_from (word_at b) arena_from (length ws)) (sym (append_assoc front (bytes_of_words ws) z₃))
        ∙ words_there front z₃ ws arena_from back_long

    pub whole_long : length (bytes_of_words ws ++ z₃) ≡ 4 * most_text_words → length whole ≡ state_bytes
    whole_long l =
        omega (arith, l, back_long, length-append (first ++ (k ++ z₁) ++ (bytes_of_words ts ++ z₂)) (bytes_of_words ws ++ z₃))

-- ---- a pool of the text program

few_slots_of : (p : Pool) → lengths tree_engine p ≡ true → slots p.table ≤ most_records
unfolding lengths
few_slots_of p h = le_of (slots p.table) most_records (search (and_l, and_r))

module _ (p : Pool) (h : right_pool (serving p) ≡ true) where
  right : lengths tree_engine p ≡ true
  right = sound_lengths tree_engine tree_laws p (right_sound p h)

  pub few_slots : slots p.table ≤ most_records
  few_slots = few_slots_of p right

  pub all_slots : record_words * slots p.table ≡ length p.table
  all_slots = omega (arith, whole_records tree_engine p right)

  -- the head has the root link and the form, and there is no index
  pub as_tree : tree_pool (record { root = get_or p.head.own 0 0; next = p.head.next; form = text_form }) p.arena
      p.table ≡ p
  unfolding store tree_engine
  as_tree =
      let q = store tree_engine (ledger p) p.head.next p in
      let e : p ≡ q = is_store tree_engine tree_laws p (right_sound p h) in
      let own : get_or p.head.own 0 0 ∷ text_form ∷ [] ≡ p.head.own =
      rw (ap (λ (x : Pool). x.head.own) e, right_form p h) in
      λ i. record {
        head = record { own = own i; next = p.head.next };
        shape = sym (right_form p h) i;
        arena = p.arena;
        table = p.table;
        index = sym (ap (λ (x : Pool). x.index) e) i;
      }

-- ---- the state's parts

head_long : (s : Standing) → length (head_of s) ≡ 4
head_long before = refl
head_long (serving p) = refl
head_long stopped = refl

table_fits : (s : Standing) → right_pool s ≡ true → length (table_in s) ≤ most_records * record_words
table_fits before h = omega arith
table_fits (serving p) h = omega (arith, few_slots p h, all_slots p h)
table_fits stopped h = omega arith

arena_fits : (s : Standing) → right_pool s ≡ true → length (arena_in s) ≤ most_text_words
arena_fits before h = omega arith
arena_fits (serving p) h = right_words p h
arena_fits stopped h = omega arith

module _ (s : Standing) (k : Bytes) (g : Good s k) where
  abbrev header : Words
  header = stage_of s ∷ length k ∷ head_of s

  abbrev spare : ℕ → Bytes → Bytes
  spare n bs = replicate (n - length bs) 0

  six : length header ≡ 6
  six = omega (arith, head_long s)

  line_long : length (padded 68 k) ≡ 68
  line_long = length_padded 68 k (omega (arith, g.short))

  table_long : length (padded (4 * (most_records * record_words)) (bytes_of_words (table_in s)))
      ≡ 4 * (most_records * record_words)
  table_long =
      length_padded (4 * (most_records * record_words)) (bytes_of_words (table_in s))
      (omega (arith, length_bytes (table_in s), table_fits s g.right))

  arena_long : length (padded (4 * most_text_words) (bytes_of_words (arena_in s))) ≡ 4 * most_text_words
  arena_long =
      length_padded (4 * most_text_words) (bytes_of_words (arena_in s))
      (omega (arith, length_bytes (arena_in s), arena_fits s g.right))

  abbrev z₁ : Bytes
  z₁ = spare 68 k

  abbrev z₂ : Bytes
  z₂ = spare (4 * (most_records * record_words)) (bytes_of_words (table_in s))

  abbrev z₃ : Bytes
  z₃ = spare (4 * most_text_words) (bytes_of_words (arena_in s))

  pub state_long : length (bytes_of (session s k)) ≡ state_bytes
  unfolding bytes_of
  state_long = whole_long header k z₁ (table_in s) z₂ (arena_in s) z₃ six line_long table_long arena_long

  header_at : (i : ℕ) → i < 6 → word_at (bytes_of (session s k)) i ≡ get_or header i 0
  unfolding bytes_of
  header_at = header_there header k z₁ (table_in s) z₂ (arena_in s) z₃ six line_long table_long

  kept_at : take (length k) (drop 24 (bytes_of (session s k))) ≡ k
  unfolding bytes_of
  kept_at = kept_there header k z₁ (table_in s) z₂ (arena_in s) z₃ six line_long table_long

  table_at : list_from (word_at (bytes_of (session s k))) table_from (length (table_in s)) ≡ table_in s
  unfolding bytes_of
  table_at = table_there header k z₁ (table_in s) z₂ (arena_in s) z₃ six line_long table_long

  arena_at : list_from (word_at (bytes_of (session s k))) arena_from (length (arena_in s)) ≡ arena_in s
  unfolding bytes_of
  arena_at = arena_there header k z₁ (table_in s) z₂ (arena_in s) z₃ six line_long table_long

  kept_back : take (word_at (bytes_of (session s k)) 1) (drop 24 (bytes_of (session s k))) ≡ k
  kept_back = rw (header_at 1 (omega arith)) kept_at

-- ---- back from the state

-- a pool of the text program, where its words are read
pool_back : (b : Bytes) (p : Pool) → right_pool (serving p) ≡ true → word_at b 2 ≡ word_count p → word_at b 3 ≡ slots p.table
    → word_at b 4 ≡ get_or p.head.own 0 0 → word_at b 5 ≡ p.head.next
    → list_from (word_at b) table_from (length p.table) ≡ p.table
    → list_from (word_at b) arena_from (length p.arena) ≡ p.arena → pool_in b ≡ p
pool_back b p h words records root next table arena =
    let ts : list_from (word_at b) table_from (record_words * word_at b 3) ≡ p.table =
    ap (λ (n : ℕ). list_from (word_at b) table_from (record_words * n)) records
    ∙ ap (list_from (word_at b) table_from) (all_slots p h) ∙ table in
    let ws : list_from (word_at b) arena_from (word_at b 2) ≡ p.arena =
    ap (list_from (word_at b) arena_from) words ∙ arena in
    (λ i. tree_pool (record { root = root i; next = next i; form = text_form }) (ws i) (ts i)) ∙ as_tree p h

standing_back : (s : Standing) (k : Bytes) → Good s k → standing_in (bytes_of (session s k)) ≡ s
standing_back before k g = rw (header_at before k g 0 (omega arith))
standing_back (serving p) k g =
    let at = header_at (serving p) k g in
    rw (at 0 (omega arith))
    (ap serving (pool_back (bytes_of (session (serving p) k)) p g.right (at 2 (omega arith)) (at 3 (omega arith))
    (at 4 (omega arith)) (at 5 (omega arith)) (table_at (serving p) k g) (arena_at (serving p) k g)))
standing_back stopped k g = rw (header_at stopped k g 0 (omega arith))

pub session_back : (s : Standing) (k : Bytes) → Good s k → session_in (bytes_of (session s k)) ≡ session s k
unfolding session_in
session_back s k g = ap₂ session (standing_back s k g) (kept_back s k g)

pub is_state_lem : (s : Standing) (k : Bytes) → Good s k → is_state (bytes_of (session s k)) ≡ true
unfolding is_state
is_state_lem s k g =
    rw (session_back s k g)
    (and_i (good (session s k)) (same_words (bytes_of (session s k)) (bytes_of (session s k))) (good_of s k g)
    (same_words_same (bytes_of (session s k))))
