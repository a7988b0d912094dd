-- One block more inside a free run: at most three control words differ. Assumes nothing.
use Prim.Native.Nat.{ℕ, zero, suc, ◌+◌, ◌-◌, ◌<◌, ◌≤◌}
use native.Mathlib.Decide.{dec_lt, ℕ_discrete}
use native.Mathlib.Omega.{arith}
use mathlib.Core.Bool.{Bool, true, false, not}
use mathlib.Core.Logic.{◌≢◌}
use mathlib.Core.Path.{◌≡◌, refl, sym, ap, ◌∙◌}
use lib.IntN.{ℤ, pos, neg_ℤ}
use Rattle.words.proofs.Tests.{not_true}
use Rattle.stored_forms.specs.Segments.{opens}
use Rattle.segment_cores.specs.Views.{word, Whole, RunOf, Rest, AddsBlock}
use Rattle.segment_cores.proofs.WordLaws.{clash, run_of, run_moves, opens_before, word_held, word_body}
use Rattle.segment_cores.proofs.WordLaws.{word_open, word_shut, word_past, unstarted, past_unstarted}

-- the control words before and after, with x free units from a on below the block at p and y above it
pub record ControlsChange (b c : ℕ → ℤ) (a x p n y : ℕ) : Type 0 where
  pub same : (u : ℕ) → u ≢ a → u ≢ p → (u ≡ p + n → y ≡ 0) → c u ≡ b u
  pub run : b a ≡ pos (x + n + y)
  pub quiet : (u : ℕ) → a < u → u < p + n + y → b u ≡ pos 0
  pub left : 0 < x → c a ≡ pos x
  pub block : c p ≡ neg_ℤ (pos n)
  pub body : (u : ℕ) → p < u → u < p + n → c u ≡ pos 0
  pub right : 0 < y → c (p + n) ≡ pos y

module _ (f : ℕ → Bool) (st : ℕ → ℕ) (f' : ℕ → Bool) (st' : ℕ → ℕ) (W : ℕ) (A : Whole f st W) (B : Whole f' st' W)
    (p n : ℕ) (P : AddsBlock f st f' st' W p n) (a x y : ℕ) (L : Rest f a x p) (R : RunOf f (p + n) (W - (p + n)) y) where
  y_fits : p + n + y ≤ W
  y_fits = omega (arith, R.fits, P.inside)

  -- the run from a on
  pub all_free : (u : ℕ) → a ≤ u → u < p + n + y → f u ≡ true
  all_free u h k = go (dec_lt u p) (dec_lt u (p + n))
    where
      go : Dec (u < p) → Dec (u < p + n) → f u ≡ true
      go (yes q) r = L.passes u h q
      go (no q) (yes r) = P.gap u (omega arith) r
      go (no q) (no r) = R.passes u (omega arith) (omega arith)

  no_start : (u : ℕ) → a ≤ u → u < p + n + y → st u ≡ 0
  no_start u h k = unstarted f st W A u (all_free u h k)

  whole_run : RunOf f a (W - a) (x + n + y)
  whole_run = record {
    passes = λ k h l. all_free k h (omega (arith, L.upto));
    fits = omega (arith, L.upto, y_fits);
    stops = λ l.
        let e : a + (x + n + y) ≡ p + n + y = omega (arith, L.upto) in
        ap f e ∙ R.stops (omega (arith, L.upto));
  }

  quiet_at : (u : ℕ) → a < u → u < p + n + y → word f st W u ≡ pos 0
  quiet_at u h k =
      word_shut f st W u (all_free u (omega arith) k) (no_start u (omega arith) k)
      (opens_before f u (omega arith) ∙ ap not (all_free (u - 1) (omega arith) (omega arith)))

  -- readings that agree at u and before it, and on the run from u on
  same_at : (u : ℕ) → st' u ≡ st u → f' u ≡ f u → opens f' u ≡ opens f u
      → ((z : ℕ) → RunOf f u (W - u) z → RunOf f' u (W - u) z) → word f' st' W u ≡ word f st W u
  same_at u s t o r = go (dec_lt 0 (st u)) (f u) refl (opens f u) refl
    where
      go : Dec (0 < st u) → (b : Bool) → f u ≡ b → (c : Bool) → opens f u ≡ c → word f' st' W u ≡ word f st W u
      go (yes l) b e c d = word_held f' st' W u (st u) s l ∙ sym (word_held f st W u (st u) refl l)
      go (no l) false e c d =
          word_body f' st' W u (t ∙ e) (omega (arith, s)) ∙ sym (word_body f st W u e (omega arith))
      go (no l) true e false d =
          word_shut f' st' W u (t ∙ e) (omega (arith, s)) (o ∙ d) ∙ sym (word_shut f st W u e (omega arith) d)
      go (no l) true e true d =
          let is = run_of f u (W - u) in
          word_open f' st' W u _ (t ∙ e) (omega (arith, s)) (o ∙ d) (r _ is)
          ∙ sym (word_open f st W u _ e (omega arith) d is)

  opens_low : (u : ℕ) → u ≤ p → opens f' u ≡ opens f u
  opens_low zero h = refl
  opens_low (suc u) h = ap not (P.below u (omega arith))

  -- below the run: a run that begins there ends before a
  low : (u : ℕ) → u < a → word f' st' W u ≡ word f st W u
  low u h =
      same_at u (P.heads u (omega (arith, L.upto))) (P.below u (omega (arith, L.upto)))
      (opens_low u (omega (arith, L.upto)))
      (λ z r. run_moves f f' u (W - u) z r (λ k i j l. P.below k (omega (arith, ends z r, L.upto))))
    where
      shut : f (a - 1) ≡ false
      shut = not_true (f (a - 1)) (sym (opens_before f a (omega arith)) ∙ L.opened)

      ends : (z : ℕ) → RunOf f u (W - u) z → u + z < a
      ends z r = go (dec_lt (u + z) a)
        where
          go : Dec (u + z < a) → u + z < a
          go (yes l) = l
          go (no l) = clash (r.passes (a - 1) (omega arith) (omega arith)) shut

  left_at : (u : ℕ) → a < u → u < p → word f' st' W u ≡ pos 0
  left_at u h k =
      word_shut f' st' W u (P.below u k ∙ L.passes u (omega arith) k)
      (P.heads u (omega arith) ∙ no_start u (omega arith) (omega arith))
      (opens_before f' u (omega arith) ∙ ap not (P.below (u - 1) (omega arith) ∙ L.passes (u - 1) (omega arith)
      (omega arith)))

  body_at : (u : ℕ) → p < u → u < p + n → word f' st' W u ≡ pos 0
  body_at u h k =
      word_body f' st' W u (P.held u (omega arith) k)
      (P.heads u (omega arith) ∙ no_start u (omega (arith, L.upto)) (omega arith))

  high : (u : ℕ) → p + n < u → word f' st' W u ≡ word f st W u
  high u h =
      same_at u (P.heads u (omega arith)) (P.above u (omega arith))
      (opens_before f' u (omega arith) ∙ ap not (P.above (u - 1) (omega arith))
      ∙ sym (opens_before f u (omega arith)))
      (λ z r. run_moves f f' u (W - u) z r (λ k i j l. P.above k (omega arith)))

  -- at the block's end, where the run ends too
  at_end : y ≡ 0 → word f' st' W (p + n) ≡ word f st W (p + n)
  at_end z = go (dec_lt (p + n) W)
    where
      go : Dec (p + n < W) → word f' st' W (p + n) ≡ word f st W (p + n)
      go (yes l) =
          let e : p + n + y ≡ p + n = omega arith in
          let shut : f (p + n) ≡ false = ap f (sym e) ∙ R.stops (omega arith) in
          let heads = P.heads (p + n) (omega (arith, P.some)) in
          held_too shut heads (dec_lt 0 (st (p + n)))
        where
          held_too : f (p + n) ≡ false → st' (p + n) ≡ st (p + n) → Dec (0 < st (p + n))
              → word f' st' W (p + n) ≡ word f st W (p + n)
          held_too shut heads (yes q) =
              word_held f' st' W (p + n) (st (p + n)) heads q ∙ sym (word_held f st W (p + n) (st (p + n)) refl q)
          held_too shut heads (no q) =
              word_body f' st' W (p + n) (P.above (p + n) (omega arith) ∙ shut) (omega (arith, heads))
              ∙ sym (word_body f st W (p + n) shut (omega arith))
      go (no l) =
          word_past f' st' W (p + n) (omega arith) (past_unstarted f' st' W B (p + n) (omega arith))
          ∙ sym (word_past f st W (p + n) (omega arith) (past_unstarted f st W A (p + n) (omega arith)))

  pub placed : ControlsChange (word f st W) (word f' st' W) a x p n y
  placed = record {
    same = λ u i j k. go u i j k (dec_lt u a) (dec_lt u p) (dec_lt u (p + n)) (ℕ_discrete u (p + n));
    run =
        word_open f st W a (x + n + y) (all_free a (omega arith) a_in) (no_start a (omega arith) a_in) L.opened
        whole_run;
    quiet = quiet_at;
    left = left_word;
    block = word_held f' st' W p n P.head P.some;
    body = body_at;
    right = right_word;
  }
    where
      a_in : a < p + n + y
      a_in = omega (arith, L.upto, P.some)

      left_word : 0 < x → word f' st' W a ≡ pos x
      left_word h =
          let below : a < p = omega (arith, L.upto) in
          word_open f' st' W a x (P.below a below ∙ L.passes a (omega arith) below)
          (P.heads a (omega arith) ∙ no_start a (omega arith) a_in) (opens_low a (omega arith) ∙ L.opened)
          (record {
            passes = λ k i j. P.below k (omega (arith, L.upto)) ∙ L.passes k i (omega (arith, L.upto));
            fits = omega (arith, L.upto, P.inside);
            stops = λ l. ap f' L.upto ∙ P.held p (omega arith) (omega (arith, P.some));
          })

      right_word : 0 < y → word f' st' W (p + n) ≡ pos y
      right_word h =
          let e = p + n in
          let last = P.held (e - 1) (omega (arith, P.some)) (omega (arith, P.some)) in
          word_open f' st' W e y (P.above e (omega arith) ∙ R.passes e (omega arith) (omega arith))
          (P.heads e (omega (arith, P.some)) ∙ no_start e (omega (arith, L.upto)) (omega arith))
          (opens_before f' e (omega (arith, P.some)) ∙ ap not last)
          (run_moves f f' e (W - e) y R (λ k i j l. P.above k i))

      go : (u : ℕ) → u ≢ a → u ≢ p → (u ≡ p + n → y ≡ 0) → Dec (u < a) → Dec (u < p) → Dec (u < p + n)
          → Dec (u ≡ p + n)
          → word f' st' W u ≡ word f st W u
      go u i j k (yes q) r s t = low u q
      go u i j k (no q) (yes r) s t = left_at u (omega arith) r ∙ sym (quiet_at u (omega arith) (omega arith))
      go u i j k (no q) (no r) (yes s) t =
          body_at u (omega arith) s ∙ sym (quiet_at u (omega (arith, L.upto)) (omega arith))
      go u i j k (no q) (no r) (no s) (yes t) = rw t (at_end (k t))
      go u i j k (no q) (no r) (no s) (no t) = high u (omega arith)
