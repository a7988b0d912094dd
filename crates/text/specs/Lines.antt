-- Lines out of bytes that come in any pieces, for any meaning of a line. 01, "The text program": "lines ended by a line
-- feed (a last line without one counts if not empty)". Assumes nothing.
use Rattle.std.specs.Prelude.{ℕ, cond, List, [], ◌∷◌, ◌++◌, length, ltb, eqb}
use Rattle.text.specs.Numbers.{Bytes}

-- "Lines over 64 bytes, the line feed not counted, are bad lines."
abbrev pub most_bytes : ℕ
most_bytes = 64

-- the unfinished line with one byte more; of a line that is over-long the first 65 bytes are kept
unfoldable pub keep : Bytes → ℕ → Bytes
keep k b = cond (ltb most_bytes (length k)) k (k ++ b ∷ [])

-- the state after a line, and what it is answered
pub record Served (S : Type 0) : Type 0 where
  pub state : S
  pub said : Bytes

-- the state after bytes, the unfinished line, and what the lines were answered
pub record Fed (S : Type 0) : Type 0 where
  pub state : S
  pub kept : Bytes
  pub said : Bytes

-- the same after something was said
abbrev pub also : {S : Type 0} → Bytes → Fed S → Fed S
also said f = record { state = f.state; kept = f.kept; said = said ++ f.said }

module _ {S : Type 0} (serve : S → Bytes → Served S) where
  -- the bytes one after another, after a state and an unfinished line
  abbrev pub feed : S → Bytes → Bytes → Fed S
  feed s k [] = record { state = s; kept = k; said = [] }
  feed s k (b ∷ bs) =
      cond (eqb b 10) (also (serve s k).said (feed (serve s k).state [] bs)) (feed s (keep k b) bs)

  -- the end of the bytes: "a last line without one counts if not empty"
  abbrev pub finish : S → Bytes → Served S
  finish s [] = record { state = s; said = [] }
  finish s (b ∷ bs) = serve s (b ∷ bs)

  -- what was fed, and the end
  abbrev pub ended : Fed S → Served S
  ended f =
      let e = finish f.state f.kept in
      record { state = e.state; said = f.said ++ e.said }

-- ---- whole lines

-- "a last line without one counts if not empty"
abbrev pub last_line : Bytes → List Bytes
last_line [] = []
last_line (b ∷ bs) = (b ∷ bs) ∷ []

-- the lines of the bytes, after the bytes u of an unfinished one
abbrev pub lines_from : Bytes → Bytes → List Bytes
lines_from u [] = last_line u
lines_from u (b ∷ bs) = cond (eqb b 10) (u ∷ lines_from [] bs) (lines_from (u ++ b ∷ []) bs)

-- "lines ended by a line feed"
abbrev pub lines_of : Bytes → List Bytes
lines_of bs = lines_from [] bs

module _ {S : Type 0} (serve : S → Bytes → Served S) where
  -- the lines one after another
  abbrev pub serve_all : S → List Bytes → Served S
  serve_all s [] = record { state = s; said = [] }
  serve_all s (l ∷ ls) =
      let r = serve s l in
      let rest = serve_all r.state ls in
      record { state = rest.state; said = r.said ++ rest.said }

-- ---- one line

-- a line as far as its line feed, or as far as there are bytes, and the bytes from there on
pub record Run : Type 0 where
  pub kept : Bytes
  pub rest : Bytes

-- the bytes kept one after another, as far as a line feed
unfoldable pub run : Bytes → Bytes → Run
run k [] = record { kept = k; rest = [] }
run k (b ∷ bs) = cond (eqb b 10) (record { kept = k; rest = b ∷ bs }) (run (keep k b) bs)
