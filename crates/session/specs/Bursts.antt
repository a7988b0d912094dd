-- The promise over a session's calls. 02, ticket 1: "From a start call on, with the state handed on as left, any cutting
-- of the same bytes, with zero-length bursts among them, must yield the same answers and end pool as one burst with room
-- enough, and after a served end call those of 01's text program, if bytes not taken are handed over again until they
-- are taken." Proved in proofs/Bursts. Assumes nothing.
use Rattle.std.specs.Prelude.{ℕ, ◌*◌, ◌≤◌, ◌<◌, ◌≡◌, ◌⊎◌, List, [], ◌∷◌, ◌++◌, length, take, drop}
use Rattle.text.specs.Numbers.{Bytes}
use Rattle.session.specs.Meaning.{program, program_end}
use Rattle.session.specs.State.{session, state_bytes, bytes_of}
use Rattle.session.specs.Calls.{Reply, start_call, burst_call, end_call}

-- a burst, and the buffer for its answers
pub record Delivery : Type 0 where
  pub bytes : Bytes
  pub answers : Bytes

abbrev pub delivery : Bytes → Bytes → Delivery
delivery bytes out = record { bytes = bytes; answers = out }

-- what a call answered
abbrev pub said : Reply → Bytes
said r = take r.written r.answers

-- where calls lead: the state that they leave, and their answers together
pub record Talk : Type 0 where
  pub state : Bytes
  pub said : Bytes

abbrev pub talk : Bytes → List Delivery → Talk
talk st [] = record { state = st; said = [] }
talk st (o ∷ os) =
    let r = burst_call st o.bytes o.answers in
    let rest = talk r.state os in
    record { state = rest.state; said = said r ++ rest.said }

-- The calls hand over exactly the bytes xs, in some cutting, "if bytes not taken are handed over again until they are
-- taken".
abbrev pub HandsOver : Bytes → Bytes → List Delivery → Type 0
HandsOver st xs [] = xs ≡ []
HandsOver st xs (o ∷ os) =
    let r = burst_call st o.bytes o.answers in
    (ys : Bytes) × (xs ≡ o.bytes ++ ys) × HandsOver r.state (drop r.taken o.bytes ++ ys) os

-- each call is served: its number is 0 or 10
abbrev pub ZeroOrTen : ℕ → Type 0
ZeroOrTen n = (n ≡ 0) ⊎ (n ≡ 10)

abbrev pub AllZeroOrTen : Bytes → List Delivery → Type 0
AllZeroOrTen st [] = Unit {0}
AllZeroOrTen st (o ∷ os) =
    let r = burst_call st o.bytes o.answers in
    ZeroOrTen r.number × AllZeroOrTen r.state os

-- no answer is longer: K, three tabs, three numbers of ten digits, a line feed
abbrev pub most_answer : ℕ
most_answer = 35

-- from a start call on
module _ (buffer : Bytes) where
  abbrev pub begun : Bytes
  begun = (start_call buffer).state

  pub record Bursts : Type 0 where
    -- "as one burst with room enough"
    pub one_burst : (xs out : Bytes) (os : List Delivery) → HandsOver begun xs os
        → (let r = burst_call begun xs out in
        r.number ≡ 0 → talk begun os ≡ record { state = r.state; said = said r })
    -- "and after a served end call those of 01's text program"
    pub program : (xs out : Bytes) (os : List Delivery) → HandsOver begun xs os
        → (let t = talk begun os in
        let e = end_call t.state out in
        e.number ≡ 0 → (t.said ++ said e ≡ program xs) × (e.state ≡ bytes_of (session (program_end xs) [])))
    -- "the lines it took are done, as if they had come alone"
    pub alone : (os : List Delivery) (bytes out : Bytes)
        → (let st = (talk begun os).state in
        let r = burst_call st bytes out in
        burst_call st (take r.taken bytes) out ≡ record {
          number = 0;
          taken = r.taken;
          written = r.written;
          state = r.state;
          answers = r.answers;
        })
    -- no call is refused, whatever it is handed
    pub served : (os : List Delivery) → AllZeroOrTen begun os
    pub end_served : (os : List Delivery) (out : Bytes) → ZeroOrTen (end_call (talk begun os).state out).number
    -- with room for any answer a burst that is not empty is taken, at least one byte of it
    pub progress : (os : List Delivery) (bytes out : Bytes) → most_answer ≤ length out → 0 < length bytes
        → 0 < (burst_call (talk begun os).state bytes out).taken
    -- and an end call is served
    pub ends : (os : List Delivery) (out : Bytes) → most_answer ≤ length out → (end_call (talk begun os).state out).number ≡ 0
    -- any bytes can be handed over: at once, if there is room for any answer to each of them
    pub at_once : (xs out : Bytes) → most_answer * length xs ≤ length out → HandsOver begun xs (delivery xs out ∷ [])

-- whatever buffer of a state's length the start call was lent
abbrev pub AllBursts : Type 0
AllBursts = (buffer : Bytes) → length buffer ≡ state_bytes → Bursts buffer
