-- What code tests of a state's bytes before it reads them. Assumes nothing.
use Rattle.std.specs.Prelude.{ℕ, ◌+◌, ◌*◌, ◌-◌, Bool, cond, ◌&&◌, ◌||◌, [], ◌∷◌, eqb, leb, take, drop}
use Rattle.words.specs.Lists.{Words, all, is_zero}
use Rattle.ledger.specs.Records.{record_words}
use Rattle.calls.specs.Pool.{most_records}
use Rattle.text.specs.Numbers.{Bytes}
use Rattle.word_bytes.specs.Little.{word_at, is_other}
use Rattle.pool_bursts.specs.declared.Fields.{Fields}
use Rattle.session.specs.Meaning.{most_text_words}
use Rattle.session.specs.State.{table_from, arena_from}

-- the six words
abbrev pub fields_in : Bytes → Fields
fields_in b = record {
  stage = word_at b 0;
  kept = word_at b 1;
  words = word_at b 2;
  slots = word_at b 3;
  root = word_at b 4;
  next = word_at b 5;
}

-- the stage is one of three, with a pool's sizes in range or no sizes, and at most 65 bytes are kept
abbrev pub is_sized : Fields → Bool
is_sized f =
    leb f.kept 65
    && cond (eqb f.stage 2)
    (leb f.words most_text_words && leb f.slots most_records)
    ((eqb f.stage 1 || eqb f.stage 3) && is_zero f.words && is_zero f.slots && is_zero f.root
    && is_zero f.next)

-- a pool of at most 1,024 words and 16 records
abbrev pub is_small : Fields → Bool
is_small f = eqb f.stage 2 && leb f.words 1024 && leb f.slots 16

-- the bytes from a up to e
abbrev pub between : ℕ → ℕ → Bytes → Bytes
between a e b = take (e - a) (drop a b)

-- no line feed is kept, and what is not used is 0
abbrev pub is_clear : Fields → Bytes → Bool
is_clear f b =
    all (is_other 10) (between 24 (24 + f.kept) b)
    && all is_zero (between (24 + f.kept) (4 * table_from) b)
    && all is_zero (between (4 * (table_from + record_words * f.slots)) (4 * arena_from) b)
    && all is_zero (drop (4 * (arena_from + f.words)) b)

unfoldable pub well_formed : Bytes → Bool
well_formed b = is_sized (fields_in b) && is_clear (fields_in b) b

-- zeros wherever a session of these six words puts nothing of its pool
abbrev pub is_blank : Fields → Bytes → Bool
is_blank f b =
    all is_zero (take (4 * table_from) b)
    && all is_zero (between (4 * (table_from + record_words * f.slots)) (4 * arena_from) b)
    && all is_zero (drop (4 * (arena_from + f.words)) b)

-- the six words, in their order
abbrev pub field_words : Fields → Words
field_words f = f.stage ∷ f.kept ∷ f.words ∷ f.slots ∷ f.root ∷ f.next ∷ []
