-- The pool that format makes: one free run, from word 0 to the end. Assumes nothing.
use Prim.Native.Nat.{ℕ, zero, suc, ◌-◌, ◌<◌}
use native.Mathlib.Decide.{ℕ_discrete}
use native.Mathlib.Omega.{arith}
use mathlib.Core.Bool.{Bool, false, not}
use mathlib.Core.List.{List}
use mathlib.Core.Path.{◌≡◌, refl, sym, ap, ◌∙◌}
use lib.IntN.{ℤ, pos}
use lib.ListN.{length, get_or, set, replicate, length-set, length-replicate, get_or-replicate}
use lib.Seq.{get_or-set_same, get_or-set_other}
use Rattle.words.specs.Lists.{Words, any}
use Rattle.words.proofs.PlaceLaws.{stamp_is}
use Rattle.ledger.specs.Records.{Ledger, empty_row}
use Rattle.ledger.specs.Units.{covers, free}
use Rattle.ledger.proofs.UnitLaws.{valid_blank}
use Rattle.stored_forms.specs.Segments.{segment_rule, starts_at}
use Rattle.segment_index.specs.Index.{index_of}
use Rattle.segment_blocks.specs.Upkeep.{Sizes, Ground}
use Rattle.segment_cores.specs.Stores.{arena_of, Unheld, Becomes}
use Rattle.segment_cores.specs.Views.{owned_by, RunOf}
use Rattle.segment_cores.proofs.ChangeLaws.{controls, arena_view, stored_long, stored_blocks, index_view}
use Rattle.segment_cores.proofs.ViewLaws.{ledger_whole}
use Rattle.segment_cores.proofs.WordLaws.{clash, opens_before, word_open, word_shut, unstarted}

-- a table of empty records holds nothing
pub blank_unheld : (k W : ℕ) → Unheld (replicate k empty_row) W
unfolding free covers
blank_unheld k W = record { next = 0; good = valid_blank segment_rule W 0 k; clear = λ u. ap not (none k u) }
  where
    none : (k u : ℕ) → any (covers segment_rule u) (replicate k empty_row) ≡ false
    none zero u = refl
    none (suc k) u = none k u

module _ (L : Ledger) (v : List ℤ) (s g : ℕ) (Z : Sizes (length v) s g) (H : Unheld L (length v)) where
  abbrev W : ℕ
  W = length v

  abbrev f : ℕ → Bool
  f = free segment_rule L

  no_start : (u : ℕ) → starts_at L u ≡ 0
  no_start u = unstarted f (starts_at L) W (ledger_whole W H.next L H.good) u (H.clear u)

  one_run : RunOf f 0 (W - 0) W
  one_run = record { passes = λ k a b. H.clear k; fits = omega arith; stops = λ l. absurd (omega arith) }

  abbrev new : List ℤ
  new = set (replicate W (pos 0)) 0 (pos W)

  new_word : (u : ℕ) → u < W → get_or new u (pos 0) ≡ controls L W u
  new_word u l = go (ℕ_discrete u 0)
    where
      go : Dec (u ≡ 0) → get_or new u (pos 0) ≡ controls L W u
      go (yes e) =
          let long = length-replicate {A = ℤ} W (pos 0) in
          rw e (get_or-set_same (replicate W (pos 0)) 0 (pos W) (pos 0) (rw long (omega arith))
          ∙ sym (word_open f (starts_at L) W 0 W (H.clear 0) (no_start 0) refl one_run))
      go (no e) =
          get_or-set_other (replicate W (pos 0)) 0 u (pos W) (pos 0) e ∙ get_or-replicate W u (pos 0) (pos 0) l
          ∙ sym (word_shut f (starts_at L) W u (H.clear u) (no_start u)
          (opens_before f u (omega arith) ∙ ap not (H.clear (u - 1))))

  module _ (v' : List ℤ) (stores : v' ≡ set (replicate (length v) (pos 0)) 0 (pos (length v))) where
    blank_arena : v' ≡ arena_of L v
    blank_arena =
        stores
        ∙ stamp_is (owned_by f (starts_at L)) (controls L W) v new (pos 0)
        (length-set (replicate W (pos 0)) 0 (pos W) ∙ length-replicate {A = ℤ} W (pos 0))
        (λ u l o. clash o (not_owned u)) (λ u l o. new_word u l)
        ∙ sym (arena_view H.next L v H.good v refl)
      where
        not_owned : (u : ℕ) → owned_by f (starts_at L) u ≡ false
        not_owned u = rw (H.clear u)

    blank_long : length v' ≡ length v
    blank_long = stored_long H.next L v H.good v' v refl blank_arena

    pub blank_ground : Ground v' (controls L (length v)) s g
    blank_ground = record {
      sizes = rw blank_long Z;
      blocks = stored_blocks H.next L v H.good v' v refl blank_arena;
    }

    pub blank_becomes : (t' : Words) → t' ≡ index_of (controls L (length v)) (length v') s → Becomes L v s v' t'
    blank_becomes t' e = record { arena = blank_arena; index = e ∙ rw blank_long (sym (index_view s W L)) }
