-- The control words of whole readings are those of blocks. Assumes nothing.
use Prim.Native.Nat.{ℕ, zero, suc, ◌+◌, ◌-◌, ◌<◌, ◌≤◌}
use native.Mathlib.Decide.{dec_lt, ℕ_discrete}
use native.Mathlib.Omega.{arith}
use mathlib.Core.Bool.{Bool, true, false, not}
use mathlib.Core.List.{List}
use mathlib.Core.Path.{◌≡◌, refl, sym, ap, ◌∙◌}
use lib.IntN.{ℤ, pos, nat_abs}
use lib.ListN.{length, get_or}
use Rattle.words.proofs.Tests.{eqb_ne}
use Rattle.stored_forms.specs.Segments.{free_from, opens}
use Rattle.segment_index.proofs.SignLaws.{abs_neg}
use Rattle.segment_blocks.specs.Blocks.{Blocks}
use Rattle.segment_cores.specs.Views.{word, owned_by, Whole, RunOf}
use Rattle.segment_cores.proofs.WordLaws.{clash, run_of, opens_before, word_held, word_body, word_open}
use Rattle.segment_cores.proofs.WordLaws.{word_shut, word_past, unstarted, past_unstarted}

module _ (f : ℕ → Bool) (st : ℕ → ℕ) (W : ℕ) (Q : Whole f st W) where
  -- what a control word is of
  pub data Kind (u : ℕ) : Type 0 where
    held : 0 < st u → nat_abs (word f st W u) ≡ st u → Kind u
    free : (z : ℕ) → 0 < z → RunOf f u (W - u) z → opens f u ≡ true → word f st W u ≡ pos z → Kind u
    none : word f st W u ≡ pos 0 → Kind u

  size_held : (u : ℕ) → 0 < st u → nat_abs (word f st W u) ≡ st u
  size_held u h = ap nat_abs (word_held f st W u (st u) refl h) ∙ abs_neg (pos (st u))

  run_free : (u : ℕ) → u < W → f u ≡ true → opens f u ≡ true
      → (z : ℕ) × (0 < z) × RunOf f u (W - u) z × (word f st W u ≡ pos z)
  run_free u h t o = go (free_from f u (W - u)) (run_of f u (W - u))
    where
      go : (z : ℕ) → RunOf f u (W - u) z → (z : ℕ) × (0 < z) × RunOf f u (W - u) z × (word f st W u ≡ pos z)
      go zero r = let e : u + 0 ≡ u = omega arith in clash t (ap f (sym e) ∙ r.stops (omega arith))
      go (suc z) r = (suc z, omega arith, r, word_open f st W u (suc z) t (unstarted f st W Q u t) o r)

  pub kind : (u : ℕ) → u < W → Kind u
  kind u h = go (dec_lt 0 (st u)) (f u) refl (opens f u) refl
    where
      go : Dec (0 < st u) → (b : Bool) → f u ≡ b → (c : Bool) → opens f u ≡ c → Kind u
      go (yes l) b t c o = held l (size_held u l)
      go (no l) false t c o = none (word_body f st W u t (omega arith))
      go (no l) true t false o = none (word_shut f st W u t (omega arith) o)
      go (no l) true t true o = let (z, p, r, e) = run_free u h t o in free z p r o e

  -- a block begins where a block ends, and at 0
  module _ (u : ℕ) (h : u < W) where
    pub begins_free : f u ≡ true → opens f u ≡ true → 0 < nat_abs (word f st W u)
    begins_free t o = let (z, p, r, e) = run_free u h t o in rw e p

    begins_held : f u ≡ false → ((w : ℕ) → w < u → u < w + st w → ⊥) → 0 < nat_abs (word f st W u)
    begins_held t n = go (Q.belongs u t)
      where
        go : (w : ℕ) × (w ≤ u) × (u < w + st w) → 0 < nat_abs (word f st W u)
        go (w, a, b) = here (ℕ_discrete w u)
          where
            here : Dec (w ≡ u) → 0 < nat_abs (word f st W u)
            here (yes e) = rw (size_held u (omega (arith, ap st e))) (omega (arith, ap st e))
            here (no e) = absurd (n w (omega arith) b)

  start : 0 < W → 0 < nat_abs (word f st W 0)
  start h = go (f 0) refl
    where
      go : (b : Bool) → f 0 ≡ b → 0 < nat_abs (word f st W 0)
      go true t = begins_free 0 h t refl
      go false t = begins_held 0 h t (λ w a b. omega arith)

  fits : (u : ℕ) → u < W → u + nat_abs (word f st W u) ≤ W
  fits u h = go (kind u h)
    where
      go : Kind u → u + nat_abs (word f st W u) ≤ W
      go (held l e) = omega (arith, Q.fits u l)
      go (free z p r o e) = omega (arith, r.fits, ap nat_abs e)
      go (none e) = omega (arith, ap nat_abs e)

  past : (u : ℕ) → W ≤ u → word f st W u ≡ pos 0
  past u h = word_past f st W u h (past_unstarted f st W Q u h)

  quiet : (u k : ℕ) → u < k → k < u + nat_abs (word f st W u) → word f st W k ≡ pos 0
  quiet u k a b = go (dec_lt u W)
    where
      in_run : (z : ℕ) → RunOf f u (W - u) z → k < u + z → word f st W k ≡ pos 0
      in_run z r l =
          let t = r.passes k (omega arith) l in
          let before = opens_before f k (omega arith) ∙ ap not (r.passes (k - 1) (omega arith) (omega arith)) in
          word_shut f st W k t (unstarted f st W Q k t) before

      on : Kind u → word f st W k ≡ pos 0
      on (held l e) = word_body f st W k (Q.covers u k (omega arith) (omega arith)) (Q.alone u k a (omega arith))
      on (free z p r o e) = in_run z r (omega (arith, ap nat_abs e))
      on (none e) = absurd (omega (arith, ap nat_abs e))

      go : Dec (u < W) → word f st W k ≡ pos 0
      go (yes l) = on (kind u l)
      go (no l) = absurd (omega (arith, ap nat_abs (past u (omega arith))))

  next : (u : ℕ) → u < W → 0 < nat_abs (word f st W u) → u + nat_abs (word f st W u) < W
      → 0 < nat_abs (word f st W (u + nat_abs (word f st W u)))
  next u h s l = go (kind u h)
    where
      -- no block reaches past the end of another
      alone : (m : ℕ) → st u ≡ m → 0 < m → (w : ℕ) → w < u + m → u + m < w + st w → ⊥
      alone m e p w a b = at (dec_lt w u) (ℕ_discrete w u)
        where
          at : Dec (w < u) → Dec (w ≡ u) → ⊥
          at (yes x) y = omega (arith, Q.alone w u x (omega arith))
          at (no x) (yes y) = omega (arith, ap st y)
          at (no x) (no y) = omega (arith, Q.alone u w (omega arith) (omega arith))

      after_held : (m : ℕ) → st u ≡ m → 0 < m → u + m < W → (b : Bool) → f (u + m) ≡ b
          → 0 < nat_abs (word f st W (u + m))
      after_held m e p k false t = begins_held (u + m) k t (alone m e p)
      after_held m e p k true t =
          let last = Q.covers u (u + m - 1) (omega arith) (omega arith) in
          begins_free (u + m) k t (opens_before f (u + m) (omega arith) ∙ ap not last)

      -- nor into a free run
      after_free : (z : ℕ) → 0 < z → RunOf f u (W - u) z → u + z < W → 0 < nat_abs (word f st W (u + z))
      after_free z p r k =
          let last = r.passes (u + z - 1) (omega arith) (omega arith) in
          begins_held (u + z) k (r.stops (omega arith))
          (λ w a b. clash last (Q.covers w (u + z - 1) (omega arith) (omega arith)))

      go : Kind u → 0 < nat_abs (word f st W (u + nat_abs (word f st W u)))
      go (held p e) = rw e (after_held (st u) refl p (omega (arith, e)) (f (u + st u)) refl)
      go (free z p r o e) = rw e (after_free z p r (omega (arith, ap nat_abs e)))
      go (none e) = absurd (omega (arith, ap nat_abs e))

  -- an arena that has the control word at each place that is no holder's
  module _ (v : List ℤ) (long : length v ≡ W)
      (stored : (u : ℕ) → u < W → owned_by f st u ≡ false → get_or v u (pos 0) ≡ word f st W u) where
    not_owned : (u : ℕ) → u < W → 0 < nat_abs (word f st W u) → owned_by f st u ≡ false
    not_owned u h s = go (kind u h)
      where
        go : Kind u → owned_by f st u ≡ false
        go (held l e) = rw (Q.covers u u (omega arith) (omega arith), eqb_ne (st u) 0 (omega arith))
        go (free z p r o e) = rw (r.passes u (omega arith) (omega arith))
        go (none e) = absurd (omega (arith, ap nat_abs e))

    pub whole_blocks : Blocks v (word f st W)
    whole_blocks = record {
      start = λ h. start (rw long at h);
      fits = λ u h. rw long (fits u (rw long at h));
      quiet = quiet;
      next = λ u h s l. next u (rw long at h) s (rw long at l);
      past = λ u h. past u (rw long at h);
      shown = λ u h s. stored u (rw long at h) (not_owned u (rw long at h) s);
    }
