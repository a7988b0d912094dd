-- Bytes handed over by one call after another lead where all of them do. Assumes nothing.
use Prim.Native.Nat.{ℕ, ◌+◌, ◌-◌, ◌≤◌, ◌<◌}
use mathlib.Core.Path.{◌≡◌, refl, sym, ap, ap₂, ◌∙◌, subst}
use mathlib.Core.Bool.{Bool, true, false, cond}
use mathlib.Core.List.{[], ◌++◌, append_assoc}
use native.Mathlib.Omega.{arith}
use lib.Dec.{leb}
use lib.ListN.{length, take, drop, length-append, take-append-drop}
use lib.Seq.{drop_at, drop-drop, drop-append-le}
use Rattle.words.proofs.Tests.{and_l, and_r, le_of}
use Rattle.words.proofs.ListLaws.{same_words_eq}
use Rattle.text.specs.Numbers.{Bytes}
use Rattle.text.specs.Lines.{Fed, Served, feed, finish}
use Rattle.text.specs.Rooms.{Burst, burst}
use Rattle.text.proofs.CutLaw.{cut, more}
use Rattle.text.proofs.RoomLaws.{Took, burst_took, answers_fit, progress}
use Rattle.session.specs.Meaning.{Standing, before, serve}
use Rattle.session.specs.State.{Session, session, state_bytes, bytes_of, session_in, good, is_state}
use Rattle.session.specs.Calls.{Reply, start_call, burst_done, burst_call, end_call, unchanged, answering}
use Rattle.session.specs.Bursts.{most_answer}
use Rattle.session.proofs.LineLaws.{said_long}
use Rattle.session.proofs.GoodLaws.{Good, good_parts, good_begun}
use Rattle.session.proofs.StateLaws.{state_long, session_back, is_state_lem}
use Rattle.session.proofs.Bursts.{burst_there, end_there, good_burst}
use Rattle.text_session.specs.Handing.{Ready, after}

-- where bytes lead
abbrev led : Fed Standing → Bytes
led f = bytes_of (session f.state f.kept)

good_ready : (s : Standing) (k : Bytes) → Good s k → Ready (bytes_of (session s k))
good_ready s k g = (state_long s k g, is_state_lem s k g)

pub start_ready : (st : Bytes) → length st ≡ state_bytes → Ready (start_call st).state
unfolding start_call
start_ready st long = rw long (good_ready before [] good_begun)

module _ (st : Bytes) (h : Ready st) where
  abbrev x : Standing
  x = (session_in st).standing

  abbrev k : Bytes
  k = (session_in st).kept

  good_here : Good x k
  unfolding is_state
  good_here = good_parts x k (and_l (good (session_in st)) _ h.1)

  bytes_here : bytes_of (session x k) ≡ st
  unfolding is_state
  bytes_here = sym (same_words_eq st (bytes_of (session_in st)) (and_r (good (session_in st)) _ h.1))

  pub after_nothing : after st [] ≡ st
  unfolding after
  after_nothing = bytes_here

  -- an end call writes no more than there is room for
  pub end_fits : (out : Bytes) → (end_call st out).written ≤ length out
  end_fits out =
      let there = ap (λ (b : Bytes). end_call b out) (sym bytes_here) ∙ end_there x k good_here out in
      subst (λ (r : Reply). r.written ≤ length out) (sym there) (fits (leb (length r.said) (length out)) refl)
    where
      r : Served Standing
      r = finish serve x k

      fits : (b : Bool) → leb (length r.said) (length out) ≡ b
          → (cond b (answering 0 0 (session r.state []) r.said out) (unchanged 10 (bytes_of (session x k)) out)).written
          ≤ length out
      fits true e = le_of (length r.said) (length out) e
      fits false e = omega arith

  module _ (c out : Bytes) where
    abbrev f : Burst Standing
    f = burst serve (length out) x k c

    abbrev r : Reply
    r = burst_call st c out

    there : r ≡ burst_done f c out
    there = ap (λ (b : Bytes). burst_call b c out) (sym bytes_here) ∙ burst_there x k good_here c out

    good_next : Good f.fed.state f.fed.kept
    good_next = good_burst x k good_here (length out) c

    pub ready_next : Ready r.state
    ready_next = subst (λ (y : Reply). Ready y.state) (sym there) (good_ready f.fed.state f.fed.kept good_next)

    pub burst_fits : r.written ≤ length out
    burst_fits =
        subst (λ (y : Reply). y.written ≤ length out) (sym there) (answers_fit serve (length out) x k c)

    taken_is : r.taken ≡ length c - length f.rest
    taken_is = ap (λ (y : Reply). y.taken) there

    pub takes : r.taken ≤ length c
    takes = omega (arith, taken_is)

    pub takes_some : most_answer ≤ length out → 0 < length c → 0 < r.taken
    takes_some room some =
        omega (arith, taken_is, some, progress serve most_answer (length out) said_long room x k c some)

    abbrev t : Took serve x k c f
    t = burst_took serve (length out) x k c

    -- the bytes that were not taken
    rest_is : drop r.taken c ≡ f.rest
    rest_is =
        let n : r.taken ≡ length t.taken =
        omega (arith, taken_is, ap length t.split, length-append t.taken f.rest) in
        ap (λ (m : ℕ). drop m c) n
        ∙ ap (drop (length t.taken)) t.split
        ∙ drop_at t.taken f.rest (length t.taken) refl

    goes_on : (ys : Bytes) → after r.state (drop r.taken c ++ ys) ≡ after st (c ++ ys)
    unfolding after
    goes_on ys =
        let zs = f.rest ++ ys in
        let all : c ++ ys ≡ t.taken ++ zs =
        ap (λ (l : Bytes). l ++ ys) t.split ∙ append_assoc t.taken f.rest ys in
        ap₂ (λ (b l : Bytes). after b (l ++ ys)) (ap (λ (y : Reply). y.state) there) rest_is
        ∙ ap (λ (s : Session). led (feed serve s.standing s.kept zs))
        (session_back f.fed.state f.fed.kept good_next)
        ∙ sym (ap (λ (l : Bytes). led (feed serve x k l)) all
        ∙ ap led (cut serve x k t.taken zs)
        ∙ ap (λ (y : Fed Standing). led (more serve y zs)) t.alone)

-- a piece at the front of some bytes
module _ (st : Bytes) (h : Ready st) (bytes out : Bytes) (end : ℕ) where
  abbrev c : Bytes
  c = take end bytes

  pub piece_on : (let y = burst_call st c out in after y.state (drop y.taken bytes)) ≡ after st bytes
  piece_on =
      let y = burst_call st c out in
      let all : c ++ drop end bytes ≡ bytes = take-append-drop end bytes in
      ap (after y.state)
      (ap (drop y.taken) (sym all) ∙ drop-append-le y.taken c (drop end bytes) (takes st h c out))
      ∙ goes_on st h c out (drop end bytes)
      ∙ ap (after st) all
