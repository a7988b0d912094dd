-- The stored form in 32 bits: the words of an arena of signed words are the stored form where the arena is. Assumes
-- nothing.
use Prim.Native.Nat.{ℕ, zero, suc, ◌≤◌, ◌<◌, ◌^◌}
use native.Mathlib.Omega.{arith}
use mathlib.Core.Bool.{Bool, true, false}
use mathlib.Core.List.{List, [], ◌∷◌, map}
use mathlib.Core.Path.{◌≡◌, refl, sym, ap, ◌∙◌}
use lib.IntN.{ℤ, pos}
use lib.ListN.{length, get_or}
use lib.Seq.{ext_get_or}
use lib.Signed.{mag}
use mir.Facts.{to_z-of_z}
use mir.Syntax.{w32}
use mir.Val.{SFits, to_z, of_z}
use Rattle.words.specs.Places.{stamp}
use Rattle.words.proofs.PlaceLaws.{map_stamp, length_stamp, stamp_keeps, stamp_sets}
use Rattle.ledger.specs.Records.{Ledger}
use Rattle.ledger.specs.Units.{valid, owned}
use Rattle.stored_forms.specs.Segments.{segment_rule, control_word, segment_word, most_words}
use Rattle.stored_forms.proofs.SegmentLaws.{control_fits}
use Rattle.segment_cores.specs.Stores.{arena_of}

map_at : (v : List ℤ) (i : ℕ) → i < length v → get_or (map (of_z w32) v) i 0 ≡ of_z w32 (get_or v i (pos 0))
map_at [] i h = absurd (omega arith)
map_at (z ∷ v) zero h = refl
map_at (z ∷ v) (suc i) h = map_at v i (omega arith)

-- the words of the stored arena
pub arena_words : (L : Ledger) (v : List ℤ)
    → map (of_z w32) (arena_of L v) ≡ stamp (owned segment_rule L) (segment_word (length v) L) (map (of_z w32) v)
unfolding arena_of segment_word
arena_words L v = map_stamp (of_z w32) (owned segment_rule L) (control_word (length v) L) v

module _ (next : ℕ) (L : Ledger) (v : List ℤ) (good : valid segment_rule (length v) next L ≡ true)
    (few : length v ≤ most_words) (fits : (i : ℕ) → mag (get_or v i (pos 0)) < 2 ^ 31) where
  same_at : map (of_z w32) v ≡ map (of_z w32) (arena_of L v) → (i : ℕ) → i < length v
      → get_or v i (pos 0) ≡ get_or (arena_of L v) i (pos 0)
  unfolding arena_of
  same_at e i l =
      let long = length_stamp (owned segment_rule L) (control_word (length v) L) v in
      let bits = sym (map_at v i l) ∙ ap (λ ws. get_or ws i 0) e ∙ map_at (arena_of L v) i (rw long l) in
      sym (to_z-of_z {w = w32} (record { sfits = fits i })) ∙ ap (to_z w32) bits ∙ to_z-of_z {w = w32} (new_fits (owned segment_rule L i) refl)
    where
      new_fits : (b : Bool) → owned segment_rule L i ≡ b → SFits w32 (get_or (arena_of L v) i (pos 0))
      new_fits true o =
          rw (stamp_keeps (owned segment_rule L) (control_word (length v) L) v i (pos 0) o) (record { sfits = fits i })
      new_fits false o =
          rw (stamp_sets (owned segment_rule L) (control_word (length v) L) v i (pos 0) l o)
          (control_fits (length v) next L good i few)

  -- and an arena whose words are the stored form is stored
  pub words_arena : map (of_z w32) v ≡ stamp (owned segment_rule L) (segment_word (length v) L) (map (of_z w32) v)
      → v ≡ arena_of L v
  unfolding arena_of
  words_arena e =
      ext_get_or (pos 0) v (arena_of L v) (sym (length_stamp (owned segment_rule L) (control_word (length v) L) v))
      (λ i l. same_at (e ∙ sym (arena_words L v)) i l)
