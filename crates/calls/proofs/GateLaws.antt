-- Laws of the gate and of the step: what the gate's number says, and which way a call goes. Assumes nothing.
use Prim.Native.Nat.{ℕ}
use native.Mathlib.Omega.{arith}
use native.Mathlib.Decide.{ℕ_discrete}
use mathlib.Core.Path.{◌≡◌, refl, sym, ap, ◌∙◌}
use mathlib.Core.Logic.{◌≢◌, ◌↔◌}
use mathlib.Core.Bool.{Bool, true, false, cond, ◌&&◌, ◌||◌, true≢false, false≢true}
use lib.Dec.{eqb}
use Rattle.words.specs.Lists.{Words}
use Rattle.words.proofs.Tests.{and_l, and_r, and_i, or_map, eqb_ne}
use Rattle.calls.specs.Pool.{Pool, Engine, lengths, stored, sound}
use Rattle.calls.specs.Step.{Call, format, copy, single, look, list, accepted, Outcome, suits, fills, makes_head}
use Rattle.calls.specs.Step.{table_alone, party_given, right_party, known_form, right_lengths, behind, gate}
use Rattle.calls.specs.Step.{pool_number, GateIs, refused_by, format_done, acts_done, perform, step}

-- refused by the gate's number, or performed
pub data Way (E : Engine) (c : Call Words) (p : Pool) (o : Outcome) : Type 0 where
  stops : (n : ℕ) → gate E c p ≡ n → n ≢ 0 → o ≡ refused_by E c p n → Way E c p o
  runs : gate E c p ≡ 0 → o ≡ perform E c p → Way E c p o

-- lengths are right in a known form alone
lengths_known : (E : Engine) (p : Pool) → lengths E p ≡ true → E.known p.shape ≡ true
unfolding lengths
lengths_known E p h = search (and_l, and_r)

-- a format whose first ticket is 0
abbrev zero_first : Call Words → Bool
zero_first (format first) = eqb first 0
zero_first (copy old) = false
zero_first (single a) = false
zero_first (look r hold) = false
zero_first (list c rs bs) = false

-- a call that fills nothing is lent all of the pool, and makes no head
pub fills_alone : {B : Type 0} (c : Call B) → fills c ≡ false → table_alone c ≡ false
fills_alone (format first) f = absurd (true≢false f)
fills_alone (copy old) f = absurd (true≢false f)
fills_alone (single a) f = refl
fills_alone (look r hold) f = refl
fills_alone (list c rs bs) f = refl

pub fills_head : {B : Type 0} (c : Call B) → fills c ≡ false → makes_head c ≡ false
fills_head (format first) f = absurd (true≢false f)
fills_head (copy old) f = absurd (true≢false f)
fills_head (single a) f = refl
fills_head (look r hold) f = refl
fills_head (list c rs bs) f = refl

module _ (E : Engine) (c : Call Words) (p : Pool) where
  pub way : Way E c p (step E c p)
  unfolding step
  way = go (ℕ_discrete (gate E c p) 0)
    where
      go : Dec (gate E c p ≡ 0) → Way E c p (step E c p)
      go (yes z) = runs z (rw z)
      go (no z) = stops (gate E c p) refl z (rw (eqb_ne (gate E c p) 0 z))

  pub step_stops : (n : ℕ) → gate E c p ≡ n → n ≢ 0 → step E c p ≡ refused_by E c p n
  unfolding step
  step_stops n e z = rw (e, eqb_ne n 0 z)

  -- a call that fills nothing does its acts, behind a test of row 1
  pub perform_acts : fills c ≡ false → perform E c p ≡ acts_done E c p
  unfolding perform
  perform_acts = go c
    where
      go : (c : Call Words) → fills c ≡ false → perform E c p ≡ acts_done E c p
      go (format first) f = absurd (true≢false f)
      go (copy old) f = absurd (true≢false f)
      go (single a) f = refl
      go (look r hold) f = refl
      go (list c rs bs) f = refl

  behind_is : behind E c p
      ≡ cond (fills c) (cond (zero_first c) 6 0) (cond (stored E p) (cond (right_party (party_given c)) 0 12) 1)
  unfolding behind
  behind_is = go c
    where
      go : (c : Call Words) → behind E c p
          ≡ cond (fills c) (cond (zero_first c) 6 0) (cond (stored E p) (cond (right_party (party_given c)) 0 12) 1)
      go (format first) = refl
      go (copy old) = refl
      go (single a) = refl
      go (look r hold) = refl
      go (list c rs bs) = refl

-- ---- the gate's number: 11, 8, 6, 1, 12 or 0

-- two statements that both hold, or of which neither does
pub both : {P Q : Type 0} → P → Q → P ↔ Q
both p q = (λ h. q, λ h. p)

pub neither : {P Q : Type 0} → (P → ⊥) → (Q → ⊥) → P ↔ Q
neither f g = (λ p. absurd (f p), λ q. absurd (g q))

-- k: the form is known; a: the lengths suit; f: the call fills memory anew; z: with first ticket 0; s: the pool is
-- stored; h: the party is one
pub record GateNumber (k a f z s h : Bool) (n : ℕ) : Type 0 where
  pub eleven : (n ≡ 11) ↔ (k ≡ false)
  pub eight : (n ≡ 8) ↔ ((k ≡ true) × (a ≡ false))
  pub one : (n ≡ 1) ↔ ((f ≡ false) × (a ≡ true) × (s ≡ false))
  pub twelve : (n ≡ 12) ↔ ((f ≡ false) × (a ≡ true) × (s ≡ true) × (h ≡ false))
  pub six : (n ≡ 6) ↔ ((f ≡ true) × (a ≡ true) × (z ≡ true))
  pub zero : (n ≡ 0) ↔ ((a ≡ true) × (f ≡ false → (s ≡ true) × (h ≡ true)) × (f ≡ true → z ≡ false))

gate_cases : (k a f z s h : Bool) → (a ≡ true → k ≡ true)
    → GateNumber k a f z s h (cond k (cond a (cond f (cond z 6 0) (cond s (cond h 0 12) 1)) 8) 11)
gate_cases false true f z s h l = absurd (false≢true (l refl))
gate_cases false false f z s h l = record {
  eleven = both refl refl;
  eight = neither (λ h. omega arith) (λ h. false≢true h.0);
  one = neither (λ h. omega arith) (λ h. false≢true h.1);
  twelve = neither (λ h. omega arith) (λ h. false≢true h.1);
  six = neither (λ h. omega arith) (λ h. false≢true h.1);
  zero = neither (λ h. omega arith) (λ h. false≢true h.0);
}
gate_cases true false f z s h l = record {
  eleven = neither (λ h. omega arith) true≢false;
  eight = both refl (refl, refl);
  one = neither (λ h. omega arith) (λ h. false≢true h.1);
  twelve = neither (λ h. omega arith) (λ h. false≢true h.1);
  six = neither (λ h. omega arith) (λ h. false≢true h.1);
  zero = neither (λ h. omega arith) (λ h. false≢true h.0);
}
gate_cases true true true true s h l = record {
  eleven = neither (λ h. omega arith) true≢false;
  eight = neither (λ h. omega arith) (λ h. true≢false h.1);
  one = neither (λ h. omega arith) (λ h. true≢false h.0);
  twelve = neither (λ h. omega arith) (λ h. true≢false h.0);
  six = both refl (refl, refl, refl);
  zero = neither (λ h. omega arith) (λ h. true≢false (h.2 refl));
}
gate_cases true true true false s h l = record {
  eleven = neither (λ h. omega arith) true≢false;
  eight = neither (λ h. omega arith) (λ h. true≢false h.1);
  one = neither (λ h. omega arith) (λ h. true≢false h.0);
  twelve = neither (λ h. omega arith) (λ h. true≢false h.0);
  six = neither (λ h. omega arith) (λ h. false≢true h.2);
  zero = both refl (refl, λ h. absurd (true≢false h), λ h. refl);
}
gate_cases true true false z false h l = record {
  eleven = neither (λ h. omega arith) true≢false;
  eight = neither (λ h. omega arith) (λ h. true≢false h.1);
  one = both refl (refl, refl, refl);
  twelve = neither (λ h. omega arith) (λ h. false≢true h.2);
  six = neither (λ h. omega arith) (λ h. false≢true h.0);
  zero = neither (λ h. omega arith) (λ h. false≢true (h.1 refl).0);
}
gate_cases true true false z true false l = record {
  eleven = neither (λ h. omega arith) true≢false;
  eight = neither (λ h. omega arith) (λ h. true≢false h.1);
  one = neither (λ h. omega arith) (λ h. true≢false h.2);
  twelve = both refl (refl, refl, refl, refl);
  six = neither (λ h. omega arith) (λ h. false≢true h.0);
  zero = neither (λ h. omega arith) (λ h. false≢true (h.1 refl).1);
}
gate_cases true true false z true true l = record {
  eleven = neither (λ h. omega arith) true≢false;
  eight = neither (λ h. omega arith) (λ h. true≢false h.1);
  one = neither (λ h. omega arith) (λ h. true≢false h.2);
  twelve = neither (λ h. omega arith) (λ h. true≢false h.3);
  six = neither (λ h. omega arith) (λ h. false≢true h.0);
  zero = both refl (refl, λ h. (refl, refl), λ h. absurd (false≢true h));
}

module _ (E : Engine) (c : Call Words) (p : Pool) where
  pub gate_number : GateNumber (known_form E c p) (right_lengths E c p) (fills c) (zero_first c) (stored E p)
      (right_party (party_given c)) (gate E c p)
  unfolding gate
  gate_number =
      rw (behind_is E c p)
      (gate_cases (known_form E c p) (right_lengths E c p) (fills c) (zero_first c) (stored E p) (right_party (party_given c))
      (λ h. or_map (table_alone c) (lengths E p) (table_alone c) (E.known p.shape) (λ e. e) (lengths_known E p)
      (and_l (table_alone c || lengths E p) (suits c p) h)))

  module _ (f : fills c ≡ false) where
    -- the lengths of all that is lent
    pub lengths_lent : right_lengths E c p ≡ (lengths E p && suits c p)
    lengths_lent = rw (fills_alone c f)

    -- a sound pool, lengths that suit, and a party
    pub gate_sound : suits c p ≡ true → sound E p ≡ true → right_party (party_given c) ≡ true → gate E c p ≡ 0
    unfolding sound
    gate_sound s ok h =
        gate_number.zero.1 (
          lengths_lent ∙ and_i (lengths E p) (suits c p) (and_l (lengths E p) (stored E p) ok) s,
          (λ _. (and_r (lengths E p) (stored E p) ok, h)),
          (λ t. absurd (true≢false (sym t ∙ f))),
        )

    pub sound_gate : gate E c p ≡ 0 → (sound E p ≡ true) × (suits c p ≡ true) × (right_party (party_given c) ≡ true)
    unfolding sound
    sound_gate z =
        let (a, s, _) = gate_number.zero.0 z in
        let lent = sym lengths_lent ∙ a in (
          and_i (lengths E p) (stored E p) (and_l (lengths E p) (suits c p) lent) (s f).0,
          and_r (lengths E p) (suits c p) lent,
          (s f).1,
        )

    pub step_sound : suits c p ≡ true → sound E p ≡ true → right_party (party_given c) ≡ true
        → step E c p ≡ acts_done E c p
    unfolding step
    step_sound s ok h = rw (gate_sound s ok h) (perform_acts E c p f)

    -- no party
    pub gate_partied : suits c p ≡ true → sound E p ≡ true → right_party (party_given c) ≡ false → gate E c p ≡ 12
    unfolding sound
    gate_partied s ok h =
        gate_number.twelve.1 (
          f,
          lengths_lent ∙ and_i (lengths E p) (suits c p) (and_l (lengths E p) (stored E p) ok) s,
          and_r (lengths E p) (stored E p) ok,
          h,
        )

module _ (E : Engine) where
  -- a format that is accepted had the right lengths
  pub format_done_lem : (p : Pool) (first : ℕ) → accepted (step E (format first) p).answer ≡ true
      → (lengths E p ≡ true) × (step E (format first) p ≡ format_done E first p)
  unfolding perform
  format_done_lem p first h = by (step E (format first) p) (way E (format first) p) h
    where
      by : (o : Outcome) → Way E (format first) p o → accepted o.answer ≡ true
          → (lengths E p ≡ true) × (o ≡ format_done E first p)
      by o (stops n g z e) h =
          absurd (false≢true (sym (eqb_ne n 0 z) ∙ ap (λ (q : Outcome). accepted q.answer) (sym e) ∙ h))
      by o (runs g e) h = (and_l (lengths E p) true ((gate_number E (format first) p).zero.0 g).0, e)

-- ---- what the gate says of the pool itself, before any call

module _ (E : Engine) (p : Pool) where
  -- by the tests that lead to it
  pub is_eleven : E.known p.shape ≡ false → GateIs E p 11
  unfolding pool_number
  is_eleven k = rw k

  pub is_eight : E.known p.shape ≡ true → lengths E p ≡ false → GateIs E p 8
  unfolding pool_number
  is_eight k l = rw (k, l)

  pub is_one : lengths E p ≡ true → stored E p ≡ false → GateIs E p 1
  unfolding pool_number
  is_one l s = rw (lengths_known E p l, l, s)

  pub is_zero : lengths E p ≡ true → stored E p ≡ true → GateIs E p 0
  unfolding pool_number
  is_zero l s = rw (lengths_known E p l, l, s)

  module _ (x : ℕ) (is : GateIs E p x) where
    pub gate_opens : x ≡ 0 → sound E p ≡ true
    unfolding pool_number sound
    gate_opens z = go (E.known p.shape) (lengths E p) (stored E p) (sym is ∙ z)
      where
        go : (k a s : Bool) → ◌≡◌ {A = ℕ} (cond k (cond a (cond s 0 1) 8) 11) 0 → (a && s) ≡ true
        go true true true h = refl
        go true true false h = absurd (omega arith)
        go true false s h = absurd (omega arith)
        go false a s h = absurd (omega arith)

    -- a call that fills nothing and suits its buffers is refused by that number
    pub gate_refuses : x ≢ 0 → (c : Call Words) → fills c ≡ false → suits c p ≡ true → step E c p ≡ refused_by E c p x
    unfolding gate pool_number
    gate_refuses n c f s =
        step_stops E c p x
        (rw (behind_is E c p, fills_alone c f, f, s)
        (go (E.known p.shape) (lengths E p) (stored E p) (right_party (party_given c)) (λ z. n (is ∙ z)) ∙ sym is)) n
      where
        go : (k a s h : Bool) → (◌≡◌ {A = ℕ} (cond k (cond a (cond s 0 1) 8) 11) 0 → ⊥)
            → ◌≡◌ {A = ℕ} (cond k (cond (a && true) (cond s (cond h 0 12) 1) 8) 11)
            (cond k (cond a (cond s 0 1) 8) 11)
        go true true true h n = absurd (n refl)
        go true true false h n = refl
        go true false s h n = refl
        go false a s h n = refl
