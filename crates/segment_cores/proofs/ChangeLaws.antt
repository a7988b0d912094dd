-- A grant, a release and a trim on a sound pool: the control words that they touch, and the stored form that they leave.
-- Assumes nothing.
use Prim.Native.Nat.{ℕ, zero, suc, ◌+◌, ◌-◌, ◌<◌, ◌≤◌}
use native.Mathlib.Decide.{dec_lt, ℕ_discrete}
use native.Mathlib.Omega.{arith}
use mathlib.Core.Bool.{Bool, true, false}
use mathlib.Core.List.{List}
use mathlib.Core.Logic.{◌≢◌}
use mathlib.Core.Path.{◌≡◌, refl, sym, ap, ◌∙◌}
use lib.IntN.{ℤ, pos, neg_ℤ, nat_abs}
use lib.ListN.{length, get_or, set}
use Rattle.words.specs.Lists.{Words}
use Rattle.words.specs.Places.{stamp, wiped}
use Rattle.words.proofs.PlaceLaws.{length_stamp, stamp_same, stamp_sets, length_wiped}
use Rattle.ledger.specs.Records.{Ledger}
use Rattle.ledger.specs.Units.{valid, free, owned}
use Rattle.stored_forms.specs.Segments.{segment_rule, control_word, segment_index, starts_at, weight}
use Rattle.segment_index.proofs.SignLaws.{abs_neg}
use Rattle.segment_index.specs.Index.{index_of}
use Rattle.segment_blocks.specs.Blocks.{Blocks}
use Rattle.segment_blocks.specs.Upkeep.{Touched}
use Rattle.segment_cores.specs.Stores.{arena_of, Sound, Granting, Releasing, Trimming, Becomes, grant_stores}
use Rattle.segment_cores.specs.Stores.{merged, trimmed}
use Rattle.segment_cores.specs.Views.{word, owned_by, Whole, RunOf, Rest}
use Rattle.segment_cores.proofs.CutLaws.{parted, cut_placed, same_control, trims}
use Rattle.segment_cores.proofs.PlaceLaws.{ControlsChange, placed}
use Rattle.segment_cores.proofs.StoreLaws.{released, grants}
use Rattle.segment_cores.proofs.ViewLaws.{ledger_whole, ledger_owned, control_word_lem}
use Rattle.segment_cores.proofs.WholeLaws.{Kind, held, free as free-kind, none, kind, whole_blocks}
use Rattle.segment_cores.proofs.WholeLaws.{begins_free}
use Rattle.segment_cores.proofs.WordLaws.{clash, word_held}

-- the readings of a ledger
abbrev pub controls : Ledger → ℕ → ℕ → ℤ
controls L W = word (free segment_rule L) (starts_at L) W

pub index_view : (s W : ℕ) (L : Ledger) → segment_index s W L ≡ index_of (controls L W) W s
unfolding segment_index control_word word
index_view s W L = refl

module _ (next : ℕ) (L : Ledger) (v : List ℤ) (good : valid segment_rule (length v) next L ≡ true) where
  -- over any list of the same length
  pub arena_view : (w : List ℤ) → length w ≡ length v
      → arena_of L w ≡ stamp (owned_by (free segment_rule L) (starts_at L)) (controls L (length v)) w
  unfolding arena_of
  arena_view w e =
      stamp_same (owned segment_rule L) (owned_by (free segment_rule L) (starts_at L)) (control_word (length w) L)
      (controls L (length v)) w
      (λ k l. ledger_owned (length v) next L good k)
      (λ k l. control_word_lem (length w) L k ∙ ap (λ (W : ℕ). controls L W k) e)

  -- an arena that is stored over another: its blocks, and its words that are no holder's
  module _ (v' w : List ℤ) (e : length w ≡ length v) (is : v' ≡ arena_of L w) where
    pub stored_long : length v' ≡ length v
    unfolding arena_of
    stored_long = ap length is ∙ length_stamp (owned segment_rule L) (control_word (length w) L) w ∙ e

    pub stored_word : (u : ℕ) → u < length v → owned_by (free segment_rule L) (starts_at L) u ≡ false
        → get_or v' u (pos 0) ≡ controls L (length v) u
    stored_word u l o =
        ap (λ (x : List ℤ). get_or x u (pos 0)) (is ∙ arena_view w e)
        ∙ stamp_sets (owned_by (free segment_rule L) (starts_at L)) (controls L (length v)) w u (pos 0) (rw e l) o

    pub stored_blocks : Blocks v' (controls L (length v))
    stored_blocks =
        whole_blocks (free segment_rule L) (starts_at L) (length v) (ledger_whole (length v) next L good) v'
        stored_long stored_word

-- the blocks of a sound pool
module _ (L : Ledger) (v : List ℤ) (t : Words) (s g : ℕ) (S : Sound L v t s g) where
  pub sound_whole : Whole (free segment_rule L) (starts_at L) (length v)
  sound_whole = ledger_whole (length v) S.next L S.good

  pub sound_word : (u : ℕ) → u < length v → owned_by (free segment_rule L) (starts_at L) u ≡ false
      → get_or v u (pos 0) ≡ controls L (length v) u
  sound_word = stored_word S.next L v S.good v v refl S.arena

  pub sound_blocks : Blocks v (controls L (length v))
  sound_blocks = stored_blocks S.next L v S.good v v refl S.arena

  pub sound_index : t ≡ index_of (controls L (length v)) (length v) s
  sound_index = S.index ∙ index_view s (length v) L

-- ---- a grant

module _ (L L' : Ledger) (v : List ℤ) (t : Words) (s g p n : ℕ) (G : Granting L L' v t s g p n) where
  abbrev W : ℕ
  W = length v

  abbrev f : ℕ → Bool
  f = free segment_rule L

  A : Whole f (starts_at L) W
  A = sound_whole L v t s g G.sound

  B : Whole (free segment_rule L') (starts_at L') W
  B = ledger_whole W G.next L' G.good

  pub grant_inside : p < length v
  grant_inside = omega (arith, G.adds.inside, G.adds.some)

  rest : Rest f p 0 p
  rest = record { upto = omega arith; passes = λ u a b. absurd (omega arith); opened = G.opened }

  -- the run's control word says how much is left
  run_word : (z : ℕ) × (n ≤ z) × RunOf f p (W - p) z × (get_or v p (pos 0) ≡ pos z)
  run_word = go (kind f (starts_at L) W A p grant_inside)
    where
      here : f p ≡ true
      here = G.adds.gap p (omega arith) (omega (arith, G.adds.some))

      shown : get_or v p (pos 0) ≡ controls L W p
      shown = sound_word L v t s g G.sound p grant_inside (rw here)

      long : (z : ℕ) → RunOf f p (W - p) z → n ≤ z
      long z r = at (dec_lt z n)
        where
          at : Dec (z < n) → n ≤ z
          at (yes l) =
              clash (G.adds.gap (p + z) (omega arith) (omega arith)) (r.stops (omega (arith, G.adds.inside)))
          at (no l) = omega arith

      go : Kind f (starts_at L) W A p → (z : ℕ) × (n ≤ z) × RunOf f p (W - p) z × (get_or v p (pos 0) ≡ pos z)
      go (held l e) = clash here (A.covers p p (omega arith) (omega arith))
      go (free-kind z q r o e) = (z, long z r, r, shown ∙ e)
      go (none e) =
          absurd (omega (arith, (sound_blocks L v t s g G.sound).fits p grant_inside, ap nat_abs e, begun))
        where
          begun : 0 < nat_abs (controls L W p)
          begun = begins_free f (starts_at L) W A p grant_inside here G.opened

  pub grant_large : n ≤ nat_abs (get_or v p (pos 0))
  grant_large = let (z, l, r, e) = run_word in omega (arith, ap nat_abs e)

  module _ (y : ℕ) (is : y ≡ nat_abs (get_or v p (pos 0)) - n) where
    run_left : RunOf f (p + n) (W - (p + n)) y
    run_left =
        let (z, l, r, e) = run_word in
        let q : y ≡ z - n = is ∙ ap (λ (x : ℤ). nat_abs x - n) e in
        record {
          passes = λ k a b. r.passes k (omega arith) (omega arith);
          fits = omega (arith, r.fits);
          stops = λ h. let i : p + n + y ≡ p + z = omega arith in ap f i ∙ r.stops (omega arith);
        }

    pub grant_fits : p + n + y ≤ length v
    grant_fits = omega (arith, run_left.fits, G.adds.inside)

    D : ControlsChange (controls L W) (controls L' W) p 0 p n y
    D = placed f (starts_at L) (free segment_rule L') (starts_at L') W A B p n G.adds p 0 y rest run_left

    cleaned : List ℤ
    cleaned = wiped (pos 0) (p + 1) (p + n) v

    clean_long : length cleaned ≡ W
    unfolding cleaned
    clean_long = length_wiped (pos 0) (p + 1) (p + n) v

    grant_arena : grant_stores v p n y ≡ arena_of L' (wiped (pos 0) (p + 1) (p + n) v)
    unfolding cleaned
    grant_arena =
        grants f (starts_at L) (free segment_rule L') (starts_at L') v A B p n G.adds y rest run_left
        (sound_word L v t s g G.sound)
        ∙ sym (arena_view G.next L' v G.good cleaned clean_long)

    module _ (v' : List ℤ) (stores : v' ≡ grant_stores v p n y) where
      arena_is : v' ≡ arena_of L' cleaned
      unfolding cleaned
      arena_is = stores ∙ grant_arena

      long : length v' ≡ W
      long = stored_long G.next L' v G.good v' cleaned clean_long arena_is

      blocks : Blocks v' (controls L' W)
      blocks = stored_blocks G.next L' v G.good v' cleaned clean_long arena_is

      block_size : nat_abs (controls L' W p) ≡ n
      block_size = ap nat_abs D.block ∙ abs_neg (pos n)

      pub grant_touches : Touched (controls L W) (controls L' W) v' t s g p p (p + n) (p + n) y
      grant_touches = record {
        sizes = rw long G.sound.sizes;
        was = rw long (sound_index L v t s g G.sound);
        blocks = blocks;
        same = λ u i j k. ap weight (D.same u i j k);
        after = omega (arith, block_size, G.adds.some);
        low = omega arith;
        mid = omega (arith, G.adds.some);
        high = omega arith;
        top = rw long G.adds.inside;
        last = λ h. rw long (omega (arith, grant_fits));
        quiet = λ u a b. D.body u a b;
        begins =
            λ h.
            rw block_size at (blocks.next p (rw long grant_inside) (omega (arith, block_size, G.adds.some))
            (rw block_size h));
      }

      pub grant_becomes : (t' : Words) → t' ≡ index_of (controls L' W) (length v') s
          → Becomes L' (wiped (pos 0) (p + 1) (p + n) v) s v' t'
      unfolding cleaned
      grant_becomes t' e = record {
        arena = arena_is;
        index = e ∙ rw (long, clean_long) (sym (index_view s W L'));
      }

-- ---- a release

module _ (L L' : Ledger) (v : List ℤ) (t : Words) (s d g p n : ℕ) (F : Releasing L L' v t s d g p n) (x y : ℕ)
    (fits : x ≤ p) (low : Rest (free segment_rule L') (p - x) x p)
    (right : RunOf (free segment_rule L') (p + n) (length v - (p + n)) y) where
  abbrev U : ℕ
  U = length v

  abbrev a : ℕ
  a = p - x

  N : Whole (free segment_rule L') (starts_at L') U
  N = ledger_whole U F.next L' F.good

  M : Whole (free segment_rule L) (starts_at L) U
  M = sound_whole L v t s g F.sound

  R : ControlsChange (controls L' U) (controls L U) a x p n y
  R = placed (free segment_rule L') (starts_at L') (free segment_rule L) (starts_at L) U N M p n F.adds a x y low right

  release_fits : p + n + y ≤ length v
  release_fits = omega (arith, right.fits, F.adds.inside)

  module _ (v' : List ℤ) (stores : v' ≡ merged v p n x y) where
    now_is : v' ≡ arena_of L' v
    now_is =
        stores
        ∙ released (free segment_rule L') (starts_at L') (free segment_rule L) (starts_at L) v N M p n F.adds a x y
        low right
        (λ u l h o. sound_word L v t s g F.sound u l o)
        ∙ sym (arena_view F.next L' v F.good v refl)

    now_long : length v' ≡ U
    now_long = stored_long F.next L' v F.good v' v refl now_is

    now_blocks : Blocks v' (controls L' U)
    now_blocks = stored_blocks F.next L' v F.good v' v refl now_is

    pub release_touches : Touched (controls L U) (controls L' U) v' t s g (p - x) p (p + n) (p + n + y) y
    release_touches = record {
      sizes = rw now_long F.sound.sizes;
      was = rw now_long (sound_index L v t s g F.sound);
      blocks = now_blocks;
      same = λ u i j k. ap weight (sym (R.same u i j k));
      after = rw R.run (omega (arith, F.adds.some));
      low = omega arith;
      mid = omega (arith, F.adds.some);
      high = omega arith;
      top = rw now_long release_fits;
      last = λ h. rw now_long (omega (arith, release_fits));
      quiet = λ u i j. R.quiet u i j;
      begins = λ h.
          rw end_is at (now_blocks.next a (rw now_long (omega (arith, release_fits, F.adds.some)))
          (rw R.run (omega (arith, F.adds.some))) (rw end_is h));
    }
      where
        end_is : a + nat_abs (controls L' U a) ≡ p + n + y
        end_is = rw R.run (omega arith)

    pub release_becomes : (t' : Words) → t' ≡ index_of (controls L' U) (length v') s → Becomes L' v s v' t'
    release_becomes t' e = record { arena = now_is; index = e ∙ rw now_long (sym (index_view s U L')) }

-- ---- a trim

weight_neg : (n : ℕ) → 0 < n → weight (neg_ℤ (pos n)) ≡ 1
weight_neg zero h = absurd (omega arith)
weight_neg (suc n) h = refl

module _ (L L' : Ledger) (v : List ℤ) (t : Words) (s g p m k : ℕ) (T : Trimming L L' v t s g p m k) (y : ℕ)
    (right : RunOf (free segment_rule L') (p + m + k) (length v - (p + m + k)) y) where
  abbrev Z : ℕ
  Z = length v

  old : Whole (free segment_rule L) (starts_at L) Z
  old = sound_whole L v t s g T.sound

  new : Whole (free segment_rule L') (starts_at L') Z
  new = ledger_whole Z T.next L' T.good

  -- the control words with the block in two parts
  abbrev parts : ℕ → ℤ
  parts = word (free segment_rule L) (parted (starts_at L) p m k) Z

  K : ControlsChange (controls L' Z) parts (p + m) 0 (p + m) k y
  K = cut_placed (free segment_rule L) (starts_at L) (free segment_rule L') (starts_at L') Z old new p m k T.cuts y right

  same_weight : (u : ℕ) → u ≢ p + m → (u ≡ p + m + k → y ≡ 0) → weight (controls L' Z u) ≡ weight (controls L Z u)
  same_weight u i j = go (ℕ_discrete u p)
    where
      go : Dec (u ≡ p) → weight (controls L' Z u) ≡ weight (controls L Z u)
      go (yes e) =
          rw (
            e,
            word_held (free segment_rule L') (starts_at L') Z p m T.cuts.head T.cuts.some,
            word_held (free segment_rule L) (starts_at L) Z p (m + k) T.cuts.block (omega (arith, T.cuts.some)),
          ) (weight_neg m T.cuts.some ∙ sym (weight_neg (m + k) (omega (arith, T.cuts.some))))
      go (no d) =
          ap weight (same_control (free segment_rule L) (starts_at L) (free segment_rule L') (starts_at L') Z old new
          p m k T.cuts y right u d i j)

  pub trim_fits : p + m + k + y ≤ length v
  trim_fits = omega (arith, right.fits, T.cuts.inside)

  module _ (v' : List ℤ) (stores : v' ≡ trimmed v p m k y) where
    left_is : v' ≡ arena_of L' v
    left_is =
        stores
        ∙ trims (free segment_rule L) (starts_at L) (free segment_rule L') (starts_at L') Z old new p m k T.cuts y right
        v (set v p (neg_ℤ (pos m))) refl refl (sound_word L v t s g T.sound)
        ∙ sym (arena_view T.next L' v T.good v refl)

    left_long : length v' ≡ Z
    left_long = stored_long T.next L' v T.good v' v refl left_is

    left_blocks : Blocks v' (controls L' Z)
    left_blocks = stored_blocks T.next L' v T.good v' v refl left_is

    pub trim_touches : Touched (controls L Z) (controls L' Z) v' t s g (p + m) (p + m) (p + m + k) (p + m + k + y) y
    trim_touches = record {
      sizes = rw left_long T.sound.sizes;
      was = rw left_long (sound_index L v t s g T.sound);
      blocks = left_blocks;
      same = λ u i j l. same_weight u i l;
      after = rw K.run (omega (arith, T.cuts.more));
      low = omega arith;
      mid = omega (arith, T.cuts.more);
      high = omega arith;
      top = rw left_long trim_fits;
      last = λ h. rw left_long (omega (arith, trim_fits));
      quiet = λ u i j. K.quiet u i j;
      begins = λ h.
          rw ends at (left_blocks.next (p + m) (rw left_long (omega (arith, trim_fits, T.cuts.more)))
          (rw K.run (omega (arith, T.cuts.more))) (rw ends h));
    }
      where
        ends : p + m + nat_abs (controls L' Z (p + m)) ≡ p + m + k + y
        ends = rw K.run (omega arith)

    pub trim_becomes : (t' : Words) → t' ≡ index_of (controls L' Z) (length v') s → Becomes L' v s v' t'
    trim_becomes t' e = record { arena = left_is; index = e ∙ rw left_long (sym (index_view s Z L')) }
