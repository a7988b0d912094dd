-- Laws of the blocks of a sound pool: those of a valid ledger are kept, and blocks that are kept pass the tests one
-- after another. Assumes nothing.
use Prim.Native.Nat.{ℕ, zero, suc, ◌+◌, ◌-◌, ◌≤◌, ◌<◌}
use native.Mathlib.Decide.{dec_lt}
use native.Mathlib.Nat.{add-zero}
use native.Mathlib.Omega.{arith}
use mathlib.Core.Bool.{Bool, true, false, cond, false≢true}
use mathlib.Core.List.{List}
use mathlib.Core.Path.{◌≡◌, refl, sym, ap, ◌∙◌, subst}
use lib.IntN.{ℤ, pos, nat_abs}
use lib.ListN.{length, get_or}
use Rattle.words.specs.Counted.{sum_to}
use Rattle.words.specs.Lists.{Words}
use Rattle.words.specs.Signed.{is_zero_z, zero_at_z}
use Rattle.words.proofs.CountedLaws.{every_of}
use Rattle.words.proofs.Tests.{false_of}
use Rattle.segment_index.specs.Control.{free_size}
use Rattle.segment_index.proofs.SignLaws.{free_neg}
use Rattle.segment_blocks.specs.Blocks.{Blocks, Scan}
use Rattle.segment_cores.specs.Views.{word, owned_by, Whole, RunOf}
use Rattle.segment_cores.proofs.WholeLaws.{Kind, held, free as free-kind, none, kind, whole_blocks}
use Rattle.segment_cores.proofs.WordLaws.{clash, word_held}
use Rattle.segment_check.specs.Right.{run_right}
use Rattle.segment_check.specs.BitMaps.{bit_at}
use Rattle.segment_check.specs.Adjoining.{HeldBlock, FreeBlock, Kept, Led}
use Rattle.segment_check.proofs.AdjoiningLaws.{free_block, free_whole}

-- ---- units that pass, counted

-- 1 where a test passes
abbrev one : Bool → ℕ
one b = cond b 1 0

-- how many of the first n units pass
abbrev pub passing : (ℕ → Bool) → ℕ → ℕ
passing f n = sum_to (λ u. one (f u)) n

-- a stretch of units of one kind
pub count_stretch : (f : ℕ → Bool) (b : Bool) (u n : ℕ) → ((k : ℕ) → u ≤ k → k < u + n → f k ≡ b)
    → passing f (u + n) ≡ passing f u + cond b n 0
count_stretch f b u zero h = ap (passing f) (add-zero u) ∙ none b
  where
    none : (b : Bool) → passing f u ≡ passing f u + cond b 0 0
    none true = omega arith
    none false = omega arith
count_stretch f b u (suc n) h =
    let up : u + suc n ≡ suc (u + n) = omega arith in
    let ih = count_stretch f b u n (λ k x y. h k x (omega arith)) in
    ap (passing f) up ∙ more b ih (ap one (h (u + n) (omega arith) (omega arith)))
  where
    more : (b : Bool) → passing f (u + n) ≡ passing f u + cond b n 0 → one (f (u + n)) ≡ one b
        → passing f (u + n) + one (f (u + n)) ≡ passing f u + cond b (suc n) 0
    more true ih here = omega arith
    more false ih here = omega arith

-- ---- the blocks of whole readings that an arena stores

module _ (f : ℕ → Bool) (st : ℕ → ℕ) (v : List ℤ) (Q : Whole f st (length v))
    (stored : (u : ℕ) → u < length v → owned_by f st u ≡ false → get_or v u (pos 0) ≡ word f st (length v) u)
    (map : Words) (sets : (u : ℕ) → 0 < st u → bit_at map u ≡ true) where
  abbrev W : ℕ
  W = length v

  abbrev c : ℕ → ℤ
  c = word f st W

  blocks : Blocks v c
  blocks = whole_blocks f st W Q v refl stored

  none_free : (u : ℕ) → 0 < st u → free_size (c u) ≡ 0
  none_free u p = ap free_size (word_held f st W u (st u) refl p) ∙ free_neg (st u)

  heads : (u : ℕ) → u < W → 0 < nat_abs (c u) → free_size (c u) ≡ 0 → bit_at map u ≡ true
  heads u l b z = go (kind f st W Q u l)
    where
      go : Kind f st W Q u → bit_at map u ≡ true
      go (held p e) = sets u p
      go (free-kind n p r o e) = absurd (omega (arith, ap free_size e))
      go (none e) = absurd (omega (arith, ap nat_abs e))

  zeros : (u : ℕ) → u < W → 0 < free_size (c u) → run_right v u (u + free_size (c u)) ≡ true
  zeros u l p = go (kind f st W Q u l)
    where
      go : Kind f st W Q u → run_right v u (u + free_size (c u)) ≡ true
      go (held q e) = absurd (omega (arith, none_free u q))
      go (none e) = absurd (omega (arith, ap free_size e))
      go (free-kind n q r o e) =
          let is : free_size (c u) ≡ n = ap free_size e in
          let size : nat_abs (c u) ≡ n = ap nat_abs e in
          free_block v u (free_size (c u)) p (ap free_size (blocks.shown u l (omega arith)))
          (every_of (zero_at_z v) (u + 1) (u + free_size (c u) - (u + 1))
          (λ k a b. ap is_zero_z (stored k (omega (arith, r.fits)) (rw (r.passes k (omega arith) (omega arith)))
          ∙ blocks.quiet u k (omega arith) (omega arith))))

  apart : (u : ℕ) → u < W → 0 < free_size (c u) → free_size (c (u + free_size (c u))) ≡ 0
  apart u l p = go (kind f st W Q u l)
    where
      after : (n : ℕ) → RunOf f u (W - u) n → Dec (u + n < W) → free_size (c (u + n)) ≡ 0
      after n r (no h) = ap free_size (blocks.past (u + n) (omega arith))
      after n r (yes h) = next (kind f st W Q (u + n) h)
        where
          next : Kind f st W Q (u + n) → free_size (c (u + n)) ≡ 0
          next (held q e) = none_free (u + n) q
          next (none e) = ap free_size e
          next (free-kind m q r' o e) = clash (r'.passes (u + n) (omega arith) (omega arith)) (r.stops (omega arith))

      go : Kind f st W Q u → free_size (c (u + free_size (c u))) ≡ 0
      go (held q e) = absurd (omega (arith, none_free u q))
      go (none e) = absurd (omega (arith, ap free_size e))
      go (free-kind n q r o e) =
          ap (λ m. free_size (c (u + m))) (ap free_size e) ∙ after n r (dec_lt (u + n) W)

  sums : (u : ℕ) → u < W → 0 < nat_abs (c u) → passing f (u + nat_abs (c u)) ≡ passing f u + free_size (c u)
  sums u l b = go (kind f st W Q u l)
    where
      go : Kind f st W Q u → passing f (u + nat_abs (c u)) ≡ passing f u + free_size (c u)
      go (none e) = absurd (omega (arith, ap nat_abs e))
      go (held q e) =
          ap (λ m. passing f (u + m)) e ∙ count_stretch f false u (st u) (λ k x y. Q.covers u k x y)
          ∙ ap (λ m. passing f u + m) (sym (none_free u q))
      go (free-kind n q r o e) =
          ap (λ m. passing f (u + m)) (ap nat_abs e) ∙ count_stretch f true u n (λ k x y. r.passes k x y)
          ∙ ap (λ m. passing f u + m) (sym (ap free_size e))

  pub whole_kept : Kept v map c (passing f)
  whole_kept = record { heads = heads; zeros = zeros; apart = apart; sums = sums }

-- ---- a block that is kept passes its test

module _ (v : List ℤ) (map : Words) (c : ℕ → ℤ) (sum : ℕ → ℕ) (K : Kept v map c sum) (at : ℕ) (S : Scan v c at)
    (l : at < length v) where
  abbrev z : ℤ
  z = get_or v at (pos 0)

  begins : 0 < nat_abs (c at)
  begins = S.begins l

  shown : z ≡ c at
  shown = S.blocks.shown at l begins

  pub kept_held : free_size z ≡ 0 → HeldBlock v map at (nat_abs z) × (0 < nat_abs z)
  kept_held e = (
    record {
      size = refl;
      inside = omega (arith, ap nat_abs shown, S.blocks.fits at l);
      set = K.heads at l begins (sym (ap free_size shown) ∙ e);
    },
    omega (arith, ap nat_abs shown, begins),
  )

  pub led_held : (free n : ℕ) (after : Bool) → Led c sum at free after → free_size z ≡ 0 → n ≡ nat_abs z
      → Led c sum (at + n) free false
  led_held free n after D e is = record {
    count =
        let more = K.sums at l begins in
        let size : n ≡ nat_abs (c at) = is ∙ ap nat_abs shown in
        let none = sym (ap free_size shown) ∙ e in
        let there = ap (λ m. sum (at + m)) size in
        omega (arith, D.count);
    turn = λ q. absurd (false≢true q);
  }

  module _ (free n : ℕ) (after : Bool) (D : Led c sum at free after) (some : 0 < n) (is : n ≡ free_size z) where
    size : n ≡ free_size (c at)
    size = is ∙ ap free_size shown

    whole : nat_abs (c at) ≡ n
    whole = sym (size ∙ free_whole (c at) (λ e. omega (arith, size)))

    pub kept_free : FreeBlock v at after n
    kept_free = record {
      apart = false_of after (λ e. omega (arith, D.turn e, size));
      inside = omega (arith, whole, S.blocks.fits at l);
      right = subst (λ m. run_right v at (at + m) ≡ true) (sym size) (K.zeros at l (omega (arith, size)));
    }

    pub led_free : Led c sum (at + n) (free + n) true
    led_free = record {
      count =
          let more = K.sums at l begins in
          let there = ap (λ m. sum (at + m)) whole in
          omega (arith, D.count, size);
      turn = λ q. ap (λ m. free_size (c (at + m))) size ∙ K.apart at l (omega (arith, size));
    }
