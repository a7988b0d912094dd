-- The calls on a session in a byte buffer. 02, ticket 1. Assumes nothing.
use Rattle.std.specs.Prelude.{ℕ, ◌-◌, cond, [], eqb, leb, length}
use Rattle.std.proofs.lemmas.List.Edits.{sets}
use Rattle.text.specs.Numbers.{Bytes}
use Rattle.text.specs.Lines.{Served, finish}
use Rattle.text.specs.Rooms.{Burst, burst}
use Rattle.session.specs.Meaning.{Standing, before, serve}
use Rattle.session.specs.State.{Session, session, state_bytes, bytes_of, session_in, is_state}

-- All that a call hands back and leaves: its number, how many bytes of the burst it took and how many of the answer
-- buffer it wrote, the state, and the answer buffer.
pub record Reply : Type 0 where
  pub number : ℕ
  pub taken : ℕ
  pub written : ℕ
  pub state : Bytes
  pub answers : Bytes

-- "and nothing changes"
abbrev pub unchanged : ℕ → Bytes → Bytes → Reply
unchanged n st out = record { number = n; taken = 0; written = 0; state = st; answers = out }

-- said, in a buffer
abbrev pub answering : ℕ → ℕ → Session → Bytes → Bytes → Reply
answering n taken s said out =
    record { number = n; taken = taken; written = length said; state = bytes_of s; answers = sets out 0 said }

-- "Another length is 8, no such state 1"
abbrev pub gated : Bytes → Bytes → Reply → Reply
gated st out r =
    cond (eqb (length st) state_bytes) (cond (is_state st) r (unchanged 1 st out)) (unchanged 8 st out)

-- "a start call fills it"
unfoldable pub start_call : Bytes → Reply
start_call st = cond (eqb (length st) state_bytes) (answering 0 0 (session before []) [] []) (unchanged 8 st [])

-- "If the room is too short for the next line's answer, the call stops [..], answers 10 and says how many bytes it took;
-- else it takes all."
abbrev pub burst_done : Burst Standing → Bytes → Bytes → Reply
burst_done f bytes out =
    answering (cond (eqb (length f.rest) 0) 0 10) (length bytes - length f.rest)
    (session f.fed.state f.fed.kept) f.fed.said out

unfoldable pub burst_call : Bytes → Bytes → Bytes → Reply
burst_call st bytes out =
    let s = session_in st in
    gated st out (burst_done (burst serve (length out) s.standing s.kept bytes) bytes out)

-- "An end call serves and clears a last line that has no line feed; without room it is 10 and changes nothing."
abbrev pub end_done : Served Standing → Bytes → Bytes → Reply
end_done r st out =
    cond (leb (length r.said) (length out)) (answering 0 0 (session r.state []) r.said out) (unchanged 10 st out)

unfoldable pub end_call : Bytes → Bytes → Reply
end_call st out = let s = session_in st in gated st out (end_done (finish serve s.standing s.kept) st out)
