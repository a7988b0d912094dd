-- A session as the bytes of one lent buffer. 02, ticket 1: "One lent byte buffer carries state (before P, pool, or
-- stopped; unfinished line) from call to call; docs/ fix its length and layout". Assumes nothing.
--
--   bytes 0 to 23     six words: the stage, the bytes kept, the pool's words and slots, its root link, its next ticket
--   from byte 24      the unfinished line, 68 bytes
--   from byte 92      the table, 256 records
--   behind it         the arena, 8,192 words
--
-- Words are little-endian. Bytes that are not used are 0, so a session has one state.
use Rattle.std.specs.Prelude.{ℕ, ◌+◌, ◌*◌, ◌-◌, Bool, true, cond, ◌&&◌, ◌||◌, [], ◌∷◌, ◌++◌, eqb, leb, length, get_or, take, drop, replicate}
use Rattle.words.specs.Lists.{Words, all, list_from, same_words}
use Rattle.ledger.specs.declared.Row.{Row}
use Rattle.ledger.specs.Records.{record_words, slots, is_empty}
use Rattle.calls.specs.Pool.{Pool, ledger, word_count, most_records, sound}
use Rattle.calls.specs.Engines.{tree_engine}
use Rattle.tree_check.specs.Gate.{tree_pool}
use Rattle.text.specs.Numbers.{Bytes}
use Rattle.text.specs.Lines.{most_bytes}
use Rattle.word_bytes.specs.Little.{word_at, bytes_of_words, is_other}
use Rattle.session.specs.Meaning.{Standing, before, serving, stopped, most_text_words, text_form, text_party}

-- where the program stands, and the bytes kept of an unfinished line
pub record Session : Type 0 where
  pub standing : Standing
  pub kept : Bytes

abbrev pub session : Standing → Bytes → Session
session s k = record { standing = s; kept = k }

-- ---- the layout

-- the first words of table and arena, counted from the state's start
abbrev pub table_from : ℕ
table_from = 23

abbrev pub arena_from : ℕ
arena_from = table_from + most_records * record_words

abbrev pub state_bytes : ℕ
state_bytes = 4 * (arena_from + most_text_words)

-- ---- from a session to its bytes

-- 1 before P, 2 with a pool, 3 after a stop; so a buffer of zeros is no state
abbrev pub stage_of : Standing → ℕ
stage_of before = 1
stage_of (serving p) = 2
stage_of stopped = 3

-- the pool's words, slots, root link and next ticket; the form is not stored
abbrev pub head_of : Standing → Words
head_of before = 0 ∷ 0 ∷ 0 ∷ 0 ∷ []
head_of (serving p) = word_count p ∷ slots p.table ∷ get_or p.head.own 0 0 ∷ p.head.next ∷ []
head_of stopped = 0 ∷ 0 ∷ 0 ∷ 0 ∷ []

abbrev pub table_in : Standing → Words
table_in before = []
table_in (serving p) = p.table
table_in stopped = []

abbrev pub arena_in : Standing → Words
arena_in before = []
arena_in (serving p) = p.arena
arena_in stopped = []

-- bytes, and zeros behind them as far as n
abbrev pub padded : ℕ → Bytes → Bytes
padded n bs = bs ++ replicate (n - length bs) 0

unfoldable pub bytes_of : Session → Bytes
bytes_of s =
    bytes_of_words (stage_of s.standing ∷ length s.kept ∷ head_of s.standing)
    ++ padded 68 s.kept
    ++ padded (4 * (most_records * record_words)) (bytes_of_words (table_in s.standing))
    ++ padded (4 * most_text_words) (bytes_of_words (arena_in s.standing))

-- ---- from bytes to the session that they are, if any

abbrev pub pool_in : Bytes → Pool
pool_in b =
    tree_pool (record { root = word_at b 4; next = word_at b 5; form = text_form })
    (list_from (word_at b) arena_from (word_at b 2))
    (list_from (word_at b) table_from (record_words * word_at b 3))

abbrev pub standing_in : Bytes → Standing
standing_in b = cond (eqb (word_at b 0) 2) (serving (pool_in b)) (cond (eqb (word_at b 0) 3) stopped before)

unfoldable pub session_in : Bytes → Session
session_in b = session (standing_in b) (take (word_at b 1) (drop 24 b))

-- "the text program is party 1" (02, ticket 6), so its records are that party's
abbrev pub is_ours : Row → Bool
is_ours r = is_empty r || eqb r.party text_party

-- a sound pool of the text program
abbrev pub right_pool : Standing → Bool
right_pool before = true
right_pool (serving p) =
    sound tree_engine p && eqb p.shape text_form && leb (word_count p) most_text_words && all is_ours (ledger p)
right_pool stopped = true

-- a session that bytes may come to: its unfinished line has no line feed, and of one over 64 bytes 65 are kept
unfoldable pub good : Session → Bool
good s = leb (length s.kept) (most_bytes + 1) && all (is_other 10) s.kept && right_pool s.standing

-- bytes that are the state of such a session, which can only be the one that they are read as
unfoldable pub is_state : Bytes → Bool
is_state b = good (session_in b) && same_words b (bytes_of (session_in b))
