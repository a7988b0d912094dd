-- What is lent to a call inside, and what is there after a state was read. Assumes nothing.
use Rattle.std.specs.Prelude.{ℕ, ◌*◌, ◌≤◌, ◌≡◌, ◌≢◌, Bool, true, cond, ◌&&◌, eqb, leb, length, take}
use Rattle.std.proofs.lemmas.List.Edits.{sets}
use Rattle.words.specs.Lists.{Words, list_from}
use Rattle.ledger.specs.Records.{record_words}
use Rattle.calls.specs.Pool.{most_records}
use Rattle.text.specs.Numbers.{Bytes}
use Rattle.word_bytes.specs.Little.{word_at, bytes_of_words}
use Rattle.session.specs.Meaning.{Standing, most_text_words, text_form}
use Rattle.session.specs.State.{session, table_from, arena_from, table_in, arena_in, session_in}
use Rattle.pool_text.specs.declared.Stage.{Stage}
use Rattle.pool_text.specs.declared.Stage.TheVariants.{Before, Serving, Stopped}
use Rattle.pool_text.specs.Session.{standing_of, Lent}
use Rattle.pool_bursts.specs.declared.Fields.{Fields}
use Rattle.pool_bursts.specs.Layout.{is_sized, well_formed}

-- a words and a table of t words suit a session of these six words: its pool lies in them, or there is room for any
abbrev pub Suits : Fields → ℕ → ℕ → Type 0
Suits f a t =
    (a ≤ most_text_words)
    × (t ≤ most_records * record_words)
    × (is_sized f ≡ true → f.stage ≡ 2 → (f.words ≤ a) × (record_words * f.slots ≤ t))
    × (f.stage ≢ 2 → (most_text_words ≤ a) × (most_records * record_words ≤ t))

-- where a session of these six words stands
abbrev pub stage_in : Fields → Stage
stage_in f =
    cond (eqb f.stage 2)
    (Serving (record {
      head = record { root = f.root; next = f.next; form = text_form };
      words = f.words;
      slots = f.slots;
    }))
    (cond (eqb f.stage 3) Stopped Before)

-- the first words of arena and table are those of the pool in a state of these six words
abbrev pub Fronts : Fields → Bytes → Words → Words → Type 0
Fronts f b arena table =
    is_sized f ≡ true → f.stage ≡ 2
    → (take f.words arena ≡ list_from (word_at b) arena_from f.words)
    × (take (record_words * f.slots) table ≡ list_from (word_at b) table_from (record_words * f.slots))

-- a pool's form is the text program's, and it lies in a words and a table of t words; before P there is room for any
abbrev pub is_placed : Stage → ℕ → ℕ → Bool
is_placed Before a t = leb most_text_words a && leb (most_records * record_words) t
is_placed (Serving o) a t = eqb o.head.form text_form && leb o.words a && leb (record_words * o.slots) t
is_placed Stopped a t = true

-- what is there after a state was read: the session that it is, in lent memory
abbrev pub Read : Stage → Bytes → Words → Words → Bytes → Type 0
Read stage line arena table state =
    Lent stage arena table
    × (length line ≤ 65)
    × (session (standing_of stage arena table) line ≡ session_in state)
    × (well_formed state ≡ true)

-- a state with the words of table and arena that a pool uses
abbrev pub with_pool : Bytes → Standing → Bytes
with_pool b s = sets (sets b (4 * table_from) (bytes_of_words (table_in s))) (4 * arena_from) (bytes_of_words (arena_in s))
