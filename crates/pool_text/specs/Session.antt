-- A session of the text program in lent memory, read as the meaning's state. 01, "The text program". Assumes nothing.
use Rattle.std.specs.Prelude.{ℕ, ◌+◌, ◌*◌, ◌-◌, ◌≤◌, ◌≡◌, Bool, true, false, ◌&&◌, leb, length, take, drop, Option, Some, None}
use Rattle.std.proofs.lemmas.List.Edits.{sets}
use Rattle.words.specs.Lists.{Words}
use Rattle.ledger.specs.Records.{record_words}
use Rattle.calls.specs.Pool.{Pool, most_records, sound}
use Rattle.calls.specs.Engines.{tree_engine}
use Rattle.tree_check.specs.Gate.{tree_pool}
use Rattle.text.specs.Numbers.{Bytes}
use Rattle.text.specs.Fields.{Wrote}
use Rattle.text.specs.Lines.{Served}
use Rattle.text.specs.Rooms.{Burst, burst}
use Rattle.pool_text.specs.declared.Own.{Own}
use Rattle.pool_text.specs.declared.Stage.{Stage}
use Rattle.pool_text.specs.declared.Stage.TheVariants.{Before, Serving, Stopped}
use Rattle.pool_text.specs.declared.Place.{Place}
use Rattle.pool_text.specs.declared.Turn.{Turn}
use Rattle.session.specs.Meaning.{Standing, before, serving, stopped, serve}

-- the pool in the first words of arena and table
abbrev pub own_pool : Own → Words → Words → Pool
own_pool o arena table =
    tree_pool o.head (take o.words arena) (take (record_words * o.slots) table)

-- where the session stands, as the meaning has it
abbrev pub standing_of : Stage → Words → Words → Standing
standing_of Before arena table = before
standing_of (Serving o) arena table = serving (own_pool o arena table)
standing_of Stopped arena table = stopped

-- the largest pool that P can ask for has room in the lent memory, or the pool lies in it and is sound
abbrev pub ready : Stage → Words → Words → Bool
ready Before arena table = leb 8192 (length arena) && leb (most_records * record_words) (length table)
ready (Serving o) arena table =
    leb o.words (length arena)
    && leb (record_words * o.slots) (length table)
    && sound tree_engine (own_pool o arena table)
ready Stopped arena table = true

-- What is lent from call to call: at most 8,192 words ("here at most 8,192 words") and a table of 256 records.
abbrev pub Lent : Stage → Words → Words → Type 0
Lent stage arena table = (length arena ≤ 8192) × (length table ≤ most_records * record_words) × (ready stage arena table ≡ true)

-- what is there after a line whose meaning is m: the session in lent memory stands as m says, the bytes that m says
-- stand in the output from place `at` on, and r is the place after them
abbrev pub Became : Stage → Words → Words → Served Standing → Bytes → Bytes → ℕ → ℕ → Type 0
Became stage arena table m out left at r =
    Lent stage arena table × (standing_of stage arena table ≡ m.state) × Wrote out left at r m.said

-- the same where what m says is to be written yet
abbrev pub Came : Stage → Words → Words → Served Standing → Bytes → Type 0
Came stage arena table m said = Lent stage arena table × (standing_of stage arena table ≡ m.state) × (said ≡ m.said)

-- what is there after a line whose meaning is m was tried: it is done exactly if what m says has room, and else the
-- session stands as it did, with nothing written
abbrev pub Tries : Option Place → Stage → Words → Words → Words → Words → Served Standing → Bytes → Bytes → ℕ → Type 0
Tries (Some p) stage a t arena table m out left at =
    (leb (length m.said) (length out - at) ≡ true) × Became p.stage arena table m out left at p.at
Tries None stage a t arena table m out left at =
    (leb (length m.said) (length out - at) ≡ false)
    × Lent stage arena table
    × (standing_of stage arena table ≡ standing_of stage a t)
    × (left ≡ out)

-- ---- bursts

-- what is there after a burst: where the session stands, the unfinished line, the output, the place after what was
-- answered, and the bytes that were not taken
abbrev pub Landed : Type 0
Landed = Standing × Bytes × Bytes × ℕ × Bytes

-- what is there after a burst whose meaning is f, in an output that was written as far as `at`
abbrev pub landed : Bytes → ℕ → Burst Standing → Landed
landed out at f = (f.fed.state, f.fed.kept, sets out at f.fed.said, at + length f.fed.said, f.rest)

-- what is there now
abbrev pub here : Turn → Bytes → Words → Words → Bytes → Bytes → Landed
here t line arena table chunk out =
    (standing_of t.stage arena table, line, out, t.at, drop t.from chunk)

-- what the rest of the burst will have made
abbrev pub ahead : Turn → Bytes → Words → Words → Bytes → Bytes → Landed
ahead t line arena table chunk out =
    landed out t.at
    (burst serve (length out - t.at) (standing_of t.stage arena table) line (drop t.from chunk))

-- inside a burst
abbrev pub Going : Turn → Words → Words → Bytes → Bytes → Type 0
Going t arena table chunk out =
    Lent t.stage arena table × (t.from ≤ length chunk) × (t.at ≤ length out)
