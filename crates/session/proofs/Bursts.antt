-- The promise over bursts: specs/Bursts. Assumes nothing.
use Prim.Native.Nat.{ℕ, ◌+◌, ◌*◌, ◌-◌, ◌≤◌, ◌<◌}
use mathlib.Core.Path.{◌≡◌, refl, sym, ap, ap₂, ◌∙◌, subst}
use mathlib.Core.Logic.{inl, inr}
use mathlib.Core.Bool.{Bool, true, false, cond}
use mathlib.Core.List.{List, [], ◌∷◌, ◌++◌, map, append-nil}
use native.Mathlib.Omega.{arith}
use lib.Dec.{eqb, leb}
use lib.ListN.{length, take, drop, length-append}
use lib.Seq.{sets, sets-eq, take_at, drop_at}
use borrow.Author.Tests.{leb-true}
use Rattle.words.proofs.Tests.{eqb_eq, of_le}
use Rattle.text.specs.Numbers.{Bytes}
use Rattle.text.specs.Lines.{Served, Fed, feed, finish, ended, lines_of, serve_all}
use Rattle.text.specs.Rooms.{Burst, Offer, burst}
use Rattle.text.specs.Rooms as rooms
use Rattle.text.proofs.RoomLaws.{Took, burst_took, burst_whole, burst_taken, burst_alone, answers_fit, any_handing, said_short}
use Rattle.text.proofs.RoomLaws as RoomLaws
use Rattle.text.proofs.WholeLines.{whole_lines}
use Rattle.session.specs.Meaning.{Standing, before, serve, program, program_end}
use Rattle.session.specs.State.{Session, session, state_bytes, bytes_of}
use Rattle.session.specs.Calls.{Reply, unchanged, answering, gated, start_call, burst_done, burst_call, end_done, end_call}
use Rattle.session.specs.Bursts.{Delivery, delivery, Talk, talk, HandsOver, AllZeroOrTen, begun, most_answer, Bursts, AllBursts}
use Rattle.session.specs.Bursts as bursts
use Rattle.session.proofs.LineLaws.{said_long, enough}
use Rattle.session.proofs.GoodLaws.{Good, good_begun, good_feed}
use Rattle.session.proofs.StateLaws.{state_long, session_back, is_state_lem}

-- ---- one call on the state of a good session

module _ (s : Standing) (k : Bytes) (g : Good s k) where
  abbrev state : Bytes
  state = bytes_of (session s k)

  opens : (out : Bytes) (r : Reply) → gated state out r ≡ r
  opens out r = rw (state_long s k g, is_state_lem s k g)

  pub burst_there : (bytes out : Bytes)
      → burst_call state bytes out ≡ burst_done (burst serve (length out) s k bytes) bytes out
  unfolding burst_call
  burst_there bytes out =
      opens out _
      ∙ ap (λ (x : Session). burst_done (burst serve (length out) x.standing x.kept bytes) bytes out)
      (session_back s k g)

  pub end_there : (out : Bytes) → end_call state out ≡ end_done (finish serve s k) state out
  unfolding end_call
  end_there out =
      opens out _
      ∙ ap (λ (x : Session). end_done (finish serve x.standing x.kept) state out) (session_back s k g)

  -- a burst leaves a good session
  pub good_burst : (room : ℕ) (bytes : Bytes)
      → (let f = (burst serve room s k bytes).fed in Good f.state f.kept)
  good_burst room bytes =
      let t = burst_took serve room s k bytes in
      subst (λ (f : Fed Standing). Good f.state f.kept) t.alone (good_feed s k t.taken g)

-- what was written is what was said
said_back : (xs out : Bytes) → length xs ≤ length out → take (length xs) (sets out 0 xs) ≡ xs
said_back xs out h = rw (sets-eq xs out 0 (omega arith)) (take_at xs (drop (0 + length xs) out) (length xs) refl)

-- the bytes that were not taken
rest_back : (s : Standing) (k bytes : Bytes) (room : ℕ)
    → (let f = burst serve room s k bytes in drop (length bytes - length f.rest) bytes ≡ f.rest)
rest_back s k bytes room =
    let f = burst serve room s k bytes in
    let t = burst_took serve room s k bytes in
    let n : length bytes - length f.rest ≡ length t.taken =
    omega (arith, ap length t.split, length-append t.taken f.rest) in
    ap (λ (m : ℕ). drop m bytes) n
    ∙ ap (drop (length t.taken)) t.split
    ∙ drop_at t.taken f.rest (length t.taken) refl

-- the bytes that a burst took, handed over alone
module _ (s : Standing) (k : Bytes) (g : Good s k) (bytes out : Bytes) where
  abbrev done : Burst Standing
  done = burst serve (length out) s k bytes

  taken_back : take (length bytes - length done.rest) bytes ≡ (burst_took serve (length out) s k bytes).taken
  taken_back =
      let t = burst_took serve (length out) s k bytes in
      let n : length bytes - length done.rest ≡ length t.taken =
      omega (arith, ap length t.split, length-append t.taken done.rest) in
      ap (λ (m : ℕ). take m bytes) n
      ∙ ap (take (length t.taken)) t.split
      ∙ take_at t.taken done.rest (length t.taken) refl

  pub alone_there : (let r = burst_call (bytes_of (session s k)) bytes out in
      burst_call (bytes_of (session s k)) (take r.taken bytes) out ≡ record {
        number = 0;
        taken = r.taken;
        written = r.written;
        state = r.state;
        answers = r.answers;
      })
  alone_there =
      let t = burst_took serve (length out) s k bytes in
      let (all, same) = burst_alone serve (length out) s k bytes in
      let n : length t.taken ≡ length bytes - length done.rest =
      omega (arith, ap length t.split, length-append t.taken done.rest) in
      let m : length bytes - length done.rest - 0 ≡ length bytes - length done.rest = omega arith in
      rw (burst_there s k g bytes out, taken_back, burst_there s k g t.taken out, all, same, n)
      (ap (λ (x : ℕ). record {
        number = 0;
        taken = x;
        written = length done.fed.said;
        state = bytes_of (session done.fed.state done.fed.kept);
        answers = sets out 0 done.fed.said;
      }) m)

-- ---- calls one after another

abbrev offer : Delivery → Offer
offer o = record { bytes = o.bytes; room = length o.answers }

-- where bytes lead, as calls have it
abbrev landed : Fed Standing → Talk
landed f = record { state = bytes_of (session f.state f.kept); said = f.said }

talk_there : (s : Standing) (k : Bytes) → Good s k → (os : List Delivery)
    → talk (bytes_of (session s k)) os ≡ landed (rooms.fed_by serve s k (map offer os))
talk_there s k g [] = refl
talk_there s k g (o ∷ os) =
    let f = burst serve (length o.answers) s k o.bytes in
    let t = f.fed in
    let after = good_burst s k g (length o.answers) o.bytes in
    rw (burst_there s k g o.bytes o.answers)
    (ap₂ (λ (x : Talk) (xs : Bytes). record { state = x.state; said = xs ++ x.said })
    (talk_there t.state t.kept after os)
    (said_back t.said o.answers (answers_fit serve (length o.answers) s k o.bytes)))

hands_there : (s : Standing) (k : Bytes) → Good s k → (xs : Bytes) (os : List Delivery)
    → HandsOver (bytes_of (session s k)) xs os → rooms.Offers serve s k xs (map offer os)
hands_there s k g xs [] h = h
hands_there s k g xs (o ∷ os) h =
    let room = length o.answers in
    let f = burst serve room s k o.bytes in
    let t = f.fed in
    let after = good_burst s k g room o.bytes in
    let there = burst_there s k g o.bytes o.answers in
    let on = subst (λ (r : Reply). HandsOver r.state (drop r.taken o.bytes ++ h.0) os) there h.2 in
    let rest = subst (λ (x : Bytes). HandsOver (bytes_of (session t.state t.kept)) (x ++ h.0) os)
    (rest_back s k o.bytes room) on in
    (h.0, h.1, hands_there t.state t.kept after (f.rest ++ h.0) os rest)

served_there : (s : Standing) (k : Bytes) → Good s k → (os : List Delivery) → AllZeroOrTen (bytes_of (session s k)) os
served_there s k g [] = tt
served_there s k g (o ∷ os) =
    let f = burst serve (length o.answers) s k o.bytes in
    rw (burst_there s k g o.bytes o.answers) (
      number (eqb (length f.rest) 0),
      served_there f.fed.state f.fed.kept (good_burst s k g (length o.answers) o.bytes) os,
    )
  where
    number : (b : Bool) → bursts.ZeroOrTen (cond b 0 10)
    number true = inl refl
    number false = inr refl

good_talk : (s : Standing) (k : Bytes) → Good s k → (os : List Delivery)
    → (let f = rooms.fed_by serve s k (map offer os) in Good f.state f.kept)
good_talk s k g [] = g
good_talk s k g (o ∷ os) =
    let t = (burst serve (length o.answers) s k o.bytes).fed in
    good_talk t.state t.kept (good_burst s k g (length o.answers) o.bytes) os

-- ---- what a number says

nothing : (l : Bytes) → length l ≡ 0 → l ≡ []
nothing [] e = refl
nothing (x ∷ l) e = absurd (omega arith)

all_taken : (l : Bytes) → ◌≡◌ {A = ℕ} (cond (eqb (length l) 0) 0 10) 0 → l ≡ []
all_taken l e = go (eqb (length l) 0) refl e
  where
    go : (t : Bool) → eqb (length l) 0 ≡ t → ◌≡◌ {A = ℕ} (cond t 0 10) 0 → l ≡ []
    go true q e = nothing l (eqb_eq (length l) 0 q)
    go false q e = absurd (omega arith)

-- an end call that is served
ended_there : (r : Served Standing) (st out : Bytes) → (end_done r st out).number ≡ 0
    → (end_done r st out ≡ answering 0 0 (session r.state []) r.said out) × (length r.said ≤ length out)
ended_there r st out z = go (leb (length r.said) (length out)) refl z
  where
    done : Reply
    done = answering 0 0 (session r.state []) r.said out

    go : (t : Bool) → leb (length r.said) (length out) ≡ t → (cond t done (unchanged 10 st out)).number ≡ 0
        → (cond t done (unchanged 10 st out) ≡ done) × (length r.said ≤ length out)
    go true q e = (refl, leb-true (length r.said) (length out) q)
    go false q e = absurd (omega arith)

-- the number of an end call
end_number : (r : Served Standing) (st out : Bytes) → bursts.ZeroOrTen (end_done r st out).number
end_number r st out = go (leb (length r.said) (length out))
  where
    go : (t : Bool)
        → bursts.ZeroOrTen (cond t (answering 0 0 (session r.state []) r.said out) (unchanged 10 st out)).number
    go true = inl refl
    go false = inr refl

-- a last line's answer is no longer than any
last_short : (s : Standing) (k : Bytes) → length (finish serve s k).said ≤ most_answer
last_short s [] = omega arith
last_short s (b ∷ k) = said_long s (b ∷ k)

end_fits : (s : Standing) (k st out : Bytes) → most_answer ≤ length out → (end_done (finish serve s k) st out).number ≡ 0
end_fits s k st out room =
    rw (of_le (length (finish serve s k).said) (length out) (omega (arith, last_short s k))) refl

-- ---- from a start call on

module _ (buffer : Bytes) (long : length buffer ≡ state_bytes) where
  starts : start_call buffer ≡ answering 0 0 (session before []) [] []
  unfolding start_call
  starts = rw long

  started : begun buffer ≡ bytes_of (session before [])
  started = ap (λ (r : Reply). r.state) starts

  -- after calls that hand over xs
  module _ (xs : Bytes) (os : List Delivery) (h : HandsOver (begun buffer) xs os) where
    abbrev f : Fed Standing
    f = feed serve before [] xs

    pub talked : talk (begun buffer) os ≡ landed f
    talked =
        ap (λ (b : Bytes). talk b os) started
        ∙ talk_there before [] good_begun os
        ∙ ap landed (any_handing serve before [] xs (map offer os)
        (hands_there before [] good_begun xs os (subst (λ (b : Bytes). HandsOver b xs os) started h)))

    good_f : Good f.state f.kept
    good_f = good_feed before [] xs good_begun

    -- as one burst that is taken whole
    one_burst : (out : Bytes) → (burst_call (begun buffer) xs out).number ≡ 0
        → (let r = burst_call (begun buffer) xs out in
        talk (begun buffer) os ≡ record { state = r.state; said = bursts.said r })
    one_burst out z =
        let b = burst serve (length out) before [] xs in
        let there : burst_call (begun buffer) xs out ≡ burst_done b xs out =
        ap (λ (st : Bytes). burst_call st xs out) started ∙ burst_there before [] good_begun xs out in
        let none = all_taken b.rest (ap (λ (r : Reply). r.number) (sym there) ∙ z) in
        let fed : b.fed ≡ f = burst_whole serve (length out) before [] xs none in
        talked
        ∙ sym (ap (λ (r : Reply). record { state = r.state; said = bursts.said r }) there
        ∙ ap (λ (said : Bytes). record { state = bytes_of (session b.fed.state b.fed.kept); said = said })
        (said_back b.fed.said out (answers_fit serve (length out) before [] xs))
        ∙ ap landed fed)

    -- as the text program
    as_program : (out : Bytes) → (end_call (talk (begun buffer) os).state out).number ≡ 0
        → (let t = talk (begun buffer) os in
        let e = end_call t.state out in
        (t.said ++ bursts.said e ≡ program xs) × (e.state ≡ bytes_of (session (program_end xs) [])))
    unfolding program program_end
    as_program out z =
        let r = finish serve f.state f.kept in
        let whole : ended serve f ≡ serve_all serve before (lines_of xs) = whole_lines serve enough before [] xs in
        let there : end_call (talk (begun buffer) os).state out ≡ end_done r (bytes_of (session f.state f.kept)) out =
        ap (λ (t : Talk). end_call t.state out) talked ∙ end_there f.state f.kept good_f out in
        let (is, h) = ended_there r _ out (ap (λ (e : Reply). e.number) (sym there) ∙ z) in
        let e = there ∙ is in
        let last : bursts.said (end_call (talk (begun buffer) os).state out) ≡ r.said =
        ap bursts.said e ∙ said_back r.said out h in (
          ap₂ (λ (x y : Bytes). x ++ y) (ap (λ (t : Talk). t.said) talked) last ∙ ap (λ (x : Served Standing). x.said) whole,
          ap (λ (x : Reply). x.state) e ∙ ap (λ (x : Served Standing). bytes_of (session x.state [])) whole,
        )

  progress_there : (os : List Delivery) (bytes out : Bytes) → most_answer ≤ length out → 0 < length bytes
      → 0 < (burst_call (talk (begun buffer) os).state bytes out).taken
  progress_there os bytes out room some =
      let f = rooms.fed_by serve before [] (map offer os) in
      let at = ap (λ (b : Bytes). talk b os) started ∙ talk_there before [] good_begun os in
      rw (at, burst_there f.state f.kept (good_talk before [] good_begun os) bytes out)
      (omega (arith, some, RoomLaws.progress serve most_answer (length out) said_long room f.state f.kept bytes some))

  -- the end call after any calls
  end_after : (os : List Delivery) (out : Bytes)
      → (let f = rooms.fed_by serve before [] (map offer os) in
      end_call (talk (begun buffer) os).state out
      ≡ end_done (finish serve f.state f.kept) (bytes_of (session f.state f.kept)) out)
  end_after os out =
      let f = rooms.fed_by serve before [] (map offer os) in
      ap (λ (t : Talk). end_call t.state out)
      (ap (λ (b : Bytes). talk b os) started ∙ talk_there before [] good_begun os)
      ∙ end_there f.state f.kept (good_talk before [] good_begun os) out

  handed_at_once : (xs out : Bytes) → most_answer * length xs ≤ length out → HandsOver (begun buffer) xs (delivery xs out ∷ [])
  handed_at_once xs out room =
      let f = burst serve (length out) before [] xs in
      let none = burst_taken serve (length out) before [] xs
      (omega (arith, room, said_short serve most_answer said_long before [] xs)) in
      let there : burst_call (begun buffer) xs out ≡ burst_done f xs out =
      ap (λ (st : Bytes). burst_call st xs out) started ∙ burst_there before [] good_begun xs out in (
        [],
        sym (append-nil xs),
        ap (λ (r : Reply). drop r.taken xs ++ []) there
            ∙ append-nil _ ∙ rest_back before [] xs (length out) ∙ none,
      )

  of_buffer : Bursts buffer
  of_buffer = record {
    one_burst = λ xs out os h. one_burst xs os h out;
    program = λ xs out os h. as_program xs os h out;
    served = λ os. subst (λ (b : Bytes). AllZeroOrTen b os) (sym started) (served_there before [] good_begun os);
    alone = λ os bytes out.
        let f = rooms.fed_by serve before [] (map offer os) in
        rw (ap (λ (b : Bytes). talk b os) started ∙ talk_there before [] good_begun os)
        (alone_there f.state f.kept (good_talk before [] good_begun os) bytes out);
    end_served = λ os out.
        let f = rooms.fed_by serve before [] (map offer os) in
        rw (end_after os out) (end_number (finish serve f.state f.kept) (bytes_of (session f.state f.kept)) out);
    progress = progress_there;
    ends = λ os out room.
        let f = rooms.fed_by serve before [] (map offer os) in
        rw (end_after os out) (end_fits f.state f.kept (bytes_of (session f.state f.kept)) out room);
    at_once = handed_at_once;
  }

pub all_bursts : AllBursts
all_bursts buffer long = of_buffer buffer long
