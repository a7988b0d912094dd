-- The calls, from what their parts promise. Assumes nothing.
use Prim.Native.Nat.{ℕ, ◌*◌, ◌-◌, ◌≤◌, ◌<◌}
use mathlib.Core.Path.{◌≡◌, refl, sym, ap, ◌∙◌}
use mathlib.Core.Logic.{◌≢◌}
use mathlib.Core.Bool.{Bool, true, false, cond, ◌&&◌, false≢true}
use mathlib.Core.List.{[], ◌∷◌}
use native.Mathlib.Nat.{zero-add, sub-zero}
use native.Mathlib.Omega.{arith}
use lib.Dec.{eqb, leb}
use lib.ListN.{length, take, drop, length-drop}
use lib.Seq.{length-take-le}
use Rattle.words.specs.Lists.{Words}
use Rattle.words.proofs.Tests.{and_l, and_r, and_i, eqb_eq, eqb_ne, le_of, of_le}
use Rattle.ledger.specs.Records.{record_words}
use Rattle.calls.specs.Pool.{most_records}
use Rattle.text.specs.Numbers.{Bytes}
use Rattle.text.specs.Fields.{Wrote}
use Rattle.text.specs.Lines.{Served, finish}
use Rattle.text.specs.Rooms.{Burst}
use Rattle.word_bytes.specs.Little.{Small}
use Rattle.session.specs.Meaning.{Standing, before, serve, most_text_words, text_form}
use Rattle.session.specs.State.{Session, session, state_bytes, session_in, bytes_of, right_pool, is_state}
use Rattle.session.specs.Calls.{Reply, unchanged, answering, gated, start_call, burst_done, end_done}
use Rattle.session.proofs.GoodLaws.{right_sound}
use Rattle.pool_text.specs.declared.Own.{Own}
use Rattle.pool_text.specs.declared.Stage.{Stage}
use Rattle.pool_text.specs.declared.Stage.TheVariants.{Before, Serving, Stopped}
use Rattle.pool_text.specs.Session.{Landed, landed, own_pool, standing_of, Lent}
use Rattle.pool_text.proofs.StandLaws.{lent_own}
use Rattle.pool_bursts.specs.declared.Fields.{Fields}
use Rattle.pool_bursts.specs.Layout.{fields_in, is_sized, is_small, is_clear, well_formed}
use Rattle.pool_bursts.specs.Inside.{Suits, stage_in, is_placed}
use Rattle.pool_bursts.proofs.LayoutLaws.{few_words, few_slots}
use Rattle.pool_bursts.proofs.StateIs.{state_is}

-- ---- a state that was read

module _ (o : Own) (a t : ℕ) (h : is_placed (Serving o) a t ≡ true) where
  pub placed_form : o.head.form ≡ text_form
  placed_form = eqb_eq o.head.form text_form (and_l _ _ (and_l _ _ h))

  pub placed_words : o.words ≤ a
  placed_words = le_of o.words a (and_r (eqb o.head.form text_form) _ (and_l _ _ h))

  pub placed_slots : record_words * o.slots ≤ t
  placed_slots =
      le_of (record_words * o.slots) t (and_r (eqb o.head.form text_form && leb o.words a) _ h)

-- the lent words of a small pool, and those of any
pub suits_small : (f : Fields) → is_small f ≡ true → Suits f 1024 64
suits_small f h =
    let stage = eqb_eq f.stage 2 (and_l _ _ (and_l _ _ h)) in
    let words = le_of f.words 1024 (and_r (eqb f.stage 2) _ (and_l _ _ h)) in
    let few = le_of f.slots 16 (and_r (eqb f.stage 2 && leb f.words 1024) _ h) in
    (omega arith, omega arith, (λ s e. (words, omega (arith, few))), (λ n. absurd (n stage)))

pub suits_any : (f : Fields) → Suits f most_text_words (most_records * record_words)
suits_any f = (
  omega arith,
  omega arith,
  (λ s e. (few_words f s, omega (arith, few_slots f s))),
  (λ n. (omega arith, omega arith)),
)

-- a session lies in words that suit it
pub placed_in : (f : Fields) (a t : ℕ) → is_sized f ≡ true → Suits f a t → is_placed (stage_in f) a t ≡ true
placed_in f a t sized suits = go (eqb f.stage 2) refl
  where
    own : Own
    own = record {
      head = record { root = f.root; next = f.next; form = text_form };
      words = f.words;
      slots = f.slots;
    }

    on : f.stage ≢ 2 → (w : Bool) → is_placed (cond w Stopped Before) a t ≡ true
    on n true = refl
    on n false =
        let room = suits.3 n in
        and_i (leb most_text_words a) (leb (most_records * record_words) t) (of_le most_text_words a room.0)
        (of_le (most_records * record_words) t room.1)

    go : (v : Bool) → eqb f.stage 2 ≡ v
        → is_placed (cond v (Serving own) (cond (eqb f.stage 3) Stopped Before)) a t ≡ true
    go true q =
        let here = suits.2 sized (eqb_eq f.stage 2 q) in
        and_i (leb f.words a) (leb (record_words * f.slots) t) (of_le f.words a here.0)
        (of_le (record_words * f.slots) t here.1)
    go false q = on (λ e. false≢true (sym q ∙ ap (λ (m : ℕ). eqb m 2) e)) (eqb f.stage 3)

-- a session whose pool is right is lent
pub lent_of : (st : Stage) (a t : Words) → length a ≤ most_text_words → length t ≤ most_records * record_words
    → is_placed st (length a) (length t) ≡ true → right_pool (standing_of st a t) ≡ true → Lent st a t
lent_of Before a t la lt h f = (la, lt, h)
lent_of (Serving o) a t la lt h f =
    lent_own o a t la lt (placed_words o (length a) (length t) h) (placed_slots o (length a) (length t) h)
    (right_sound (own_pool o a t) f)
lent_of Stopped a t la lt h f = (la, lt, refl)

pub formed_sized : (b : Bytes) (f : Fields) → f ≡ fields_in b → well_formed b ≡ true → is_sized f ≡ true
unfolding well_formed
formed_sized b f e h = ap is_sized e ∙ and_l (is_sized (fields_in b)) (is_clear (fields_in b) b) h

module _ (b : Bytes) (small : Small b) (long : length b ≡ state_bytes) where
  pub not_formed : well_formed b ≡ false → is_state b ≡ false
  not_formed h = state_is b small long ∙ rw h

  pub formed_is : well_formed b ≡ true → (s : Standing) (k : Bytes) → session s k ≡ session_in b → right_pool s ≡ is_state b
  unfolding session_in
  formed_is h s k e =
      ap (λ (x : Session). right_pool x.standing) e ∙ sym (state_is b small long ∙ rw h)

-- ---- the gate of a call

module _ (st out : Bytes) (r : Reply) where
  pub gated_eight : length st ≢ state_bytes → gated st out r ≡ unchanged 8 st out
  gated_eight h = rw (eqb_ne (length st) state_bytes h)

  pub gated_one : length st ≡ state_bytes → is_state st ≡ false → gated st out r ≡ unchanged 1 st out
  gated_one h f = rw (h, f)

  pub gated_open : length st ≡ state_bytes → is_state st ≡ true → gated st out r ≡ r
  gated_open h f = rw (h, f)

-- a start call
pub start_eight : (st : Bytes) → length st ≢ state_bytes → start_call st ≡ unchanged 8 st []
unfolding start_call
start_eight st h = rw (eqb_ne (length st) state_bytes h)

pub start_fills : (st : Bytes) → length st ≡ state_bytes → start_call st ≡ answering 0 0 (session before []) [] []
unfolding start_call
start_fills st h = rw h

-- ---- a burst that was served

pub burst_replied : (f : Burst Standing) (bytes out left st : Bytes) (s : Standing) (k : Bytes) (n from at : ℕ)
    → from ≤ length bytes → (s, k, left, at, drop from bytes) ≡ landed out 0 f
    → st ≡ bytes_of (session s k) → n ≡ cond (eqb (length bytes - from) 0) 0 10
    → record { number = n; taken = from; written = at; state = st; answers = left } ≡ burst_done f bytes out
burst_replied f bytes out left st s k n from at h e state number =
    let rest : length f.rest ≡ length bytes - from =
    ap (λ (x : Landed). length x.4) (sym e) ∙ length-drop from bytes in
    let told : n ≡ cond (eqb (length f.rest) 0) 0 10 =
    number ∙ ap (λ (m : ℕ). cond (eqb m 0) 0 10) (sym rest) in
    let took : from ≡ length bytes - length f.rest = omega (arith, rest, h) in
    let wrote : at ≡ length f.fed.said = ap (λ (x : Landed). x.3) e ∙ zero-add (length f.fed.said) in
    let left_is = ap (λ (x : Landed). x.2) e in
    let state_is = state ∙ ap (λ (x : Landed). bytes_of (session x.0 x.1)) e in
    λ i. record { number = told i; taken = took i; written = wrote i; state = state_is i; answers = left_is i }

-- ---- a last line

finish_some : (s : Standing) (k : Bytes) → 0 < length k → finish serve s k ≡ serve s k
finish_some s [] h = absurd (omega arith)
finish_some s (b ∷ k) h = refl

-- there is none
pub end_none : (s : Standing) (line st out left : Bytes) (kept : ℕ) → kept ≡ 0 → left ≡ bytes_of (session s [])
    → record { number = 0; taken = 0; written = 0; state = left; answers = out }
    ≡ end_done (finish serve s (take kept line)) st out
end_none s line st out left kept z e =
    rw (z, of_le 0 (length out) (omega arith))
    (ap (λ (x : Bytes). record { number = 0; taken = 0; written = 0; state = x; answers = out }) e)

module _ (s : Standing) (line : Bytes) (kept : ℕ) (few : kept ≤ length line) (some : kept ≢ 0) where
  -- as code takes its bytes
  pub last_line_lem : serve s (take (kept - 0) line) ≡ finish serve s (take kept line)
  last_line_lem =
      ap (λ (n : ℕ). serve s (take n line)) (sub-zero kept)
      ∙ sym (finish_some s (take kept line) (omega (arith, length-take-le kept line few, some)))

-- it has no room, or it was served
module _ (m : Served Standing) (st out : Bytes) where
  pub end_full : leb (length m.said) (length out) ≡ false → end_done m st out ≡ unchanged 10 st out
  end_full f = rw f

  pub end_replied : leb (length m.said) (length out) ≡ true → (s : Standing) (left to : Bytes) (at : ℕ)
      → s ≡ m.state → Wrote out to 0 at m.said → left ≡ bytes_of (session s [])
      → record { number = 0; taken = 0; written = at; state = left; answers = to } ≡ end_done m st out
  end_replied f s left to at e w state =
      let wrote : at ≡ length m.said = w.0 ∙ zero-add (length m.said) in
      let state_is = state ∙ ap (λ (x : Standing). bytes_of (session x [])) e in
      rw f (λ i. record { number = 0; taken = 0; written = wrote i; state = state_is i; answers = w.1 i })
