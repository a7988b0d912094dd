-- Bytes handed over to the session in a state. 02, ticket 1. Assumes nothing.
use Rattle.std.specs.Prelude.{ℕ, ◌≡◌, ◌≤◌, ◌<◌, true, length, drop}
use Rattle.text.specs.Numbers.{Bytes}
use Rattle.text.specs.Lines.{feed}
use Rattle.session.specs.Meaning.{serve}
use Rattle.session.specs.State.{session, state_bytes, bytes_of, session_in, is_state}

-- a session's state, in a buffer of its length
abbrev pub Ready : Bytes → Type 0
Ready st = (length st ≡ state_bytes) × (is_state st ≡ true)

-- the state after the bytes, whatever they are cut into and whatever room there is for answers
unfoldable pub after : Bytes → Bytes → Bytes
after st bs =
    let s = session_in st in
    let f = feed serve s.standing s.kept bs in
    bytes_of (session f.state f.kept)

-- the state is the one that the first n of the bytes lead to, so that the others lead on from it to where all do
abbrev pub Took : Bytes → Bytes → Bytes → ℕ → Type 0
Took st st' bytes n = (0 < n) × (n ≤ length bytes) × (after st' (drop n bytes) ≡ after st bytes)
