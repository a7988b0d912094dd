-- The laws of both engines, what row 8 says of each one's lengths, and the three demands and the claims on restarts, on
-- freeing early and on parties for each. 01, "The pool and its two engines": "Both engines are held to the ledger." Assumes nothing.
use Prim.Native.Nat.{ℕ, ◌+◌, ◌*◌, ◌%◌, ◌^◌, ◌≤◌, ◌<◌}
use native.Mathlib.Nat.{div-one}
use native.Mathlib.Omega.{arith}
use mathlib.Core.Path.{◌≡◌, refl, sym, ap, ◌∙◌}
use mathlib.Core.Bool.{true, false, true≢false}
use mathlib.Core.List.{List, ◌∷◌, ◌++◌}
use lib.ListN.{length, get_or}
use mir.Syntax.{w32}
use mir.Val.{of_z}
use Rattle.words.specs.Flags.{Says}
use Rattle.words.specs.Lists.{Words}
use Rattle.words.proofs.Tests.{and_l, and_r, eqb_eq, eqb_same, le_of, of_le, false_of}
use Rattle.words.proofs.ListLaws.{length_list_from}
use Rattle.words.proofs.PlaceLaws.{stamp_sets}
use Rattle.ledger.specs.Records.{slots}
use Rattle.ledger.specs.Units.{address_at, free, owned}
use Rattle.ledger.specs.Runs.{Run, free_runs}
use Rattle.ledger.proofs.UnitLaws.{valid_record, owned_covered}
use Rattle.stored_forms.specs.Tree.{is_form, form_of, form_rule, tree_range}
use Rattle.stored_forms.specs.Segments.{segment_rule, control_word, segment_word, index_word, segment_index, depth}
use Rattle.stored_forms.specs.Segments.{segment_range}
use Rattle.stored_forms.proofs.NodeLaws.{form_unit}
use Rattle.stored_forms.proofs.SegmentLaws.{lead_segment, power_is, free_run_maximal, control_free, control_free_inside}
use Rattle.calls.specs.Pool.{Pool, Engine, ledger, word_count, Laws, lengths, sound}
use Rattle.calls.specs.Engines.{tree_engine, segment_engine}
use Rattle.calls.specs.Demand1.{Demand1}
use Rattle.calls.specs.Demand2.{Demand2}
use Rattle.calls.specs.Monotone.{Monotone}
use Rattle.calls.specs.Demand3.{Demand3}
use Rattle.calls.specs.Restart.{Restart}
use Rattle.calls.specs.Private.{Private}
use Rattle.calls.proofs.StoreLaws.{arena_store, sound_valid, is_store}
use Rattle.calls.proofs.Demand1.{demand1}
use Rattle.calls.proofs.Demand2.{demand2}
use Rattle.calls.proofs.Monotone.{monotone}
use Rattle.calls.proofs.Demand3.{demand3}
use Rattle.calls.proofs.Restart.{restart}
use Rattle.calls.proofs.Private.{private}

-- a block of the tree pool has no word before its address
pub tree_laws : Laws tree_engine
unfolding tree_engine address_at
tree_laws =
    record {
      unit = form_unit;
      indexed = λ s W L e. refl;
      lead = λ s W n₁ n₂ L₁ L₂ r i good₁ good₂ held₁ held₂ a b.
          let place = (valid_record (form_rule (form_of s)) (form_unit s) W n₁ L₁ good₁ r.ticket r held₁).place in
          absurd (omega arith);
    }

-- and one of the segment pool has one, the control word
pub segment_laws : Laws segment_engine
unfolding segment_engine segment_index
segment_laws =
    record {
      unit = λ s. omega arith;
      indexed = λ S W L e. length_list_from (index_word (control_word W L) W S) 0 (3 * S);
      lead = λ s W n₁ n₂ L₁ L₂ r i good₁ good₂ held₁ held₂ a b.
          lead_segment W n₁ n₂ L₁ L₂ good₁ good₂ r held₁ held₂ i (omega arith) b;
    }

-- ---- row 8: "a lent length or S lies outside the ranges above"

-- Of any engine: its own range of words, "tables are 4 to 1,024 words, a multiple of four" (02, ticket 6), and the index.
engine_lengths : (E : Engine) (p : Pool) → Says (lengths E p)
    ((E.known p.shape ≡ true) × (E.range p.shape (word_count p) ≡ true)
    × (length p.table % 4 ≡ 0) × (4 ≤ length p.table) × (length p.table ≤ 1024)
    × (length p.index ≡ E.index_words p.shape))
unfolding lengths
engine_lengths E p =
    let t = slots p.table in (
      (λ h.
          let few = le_of 1 t (search (and_l, and_r)) in
          let many = le_of t 256 (search (and_l, and_r)) in
          let whole = eqb_eq (length p.table % 4) 0 (search (and_l, and_r)) in (
            search (and_l, and_r) depth 8,
            search (and_l, and_r) depth 8,
            whole,
            omega arith,
            omega arith,
            eqb_eq (length p.index) (E.index_words p.shape) (search (and_l, and_r)),
          )),
      (λ h.
          let few : 1 ≤ t = omega arith in
          let many : t ≤ 256 = omega arith in
          rw (h.0, h.1, h.2, of_le 1 t few, of_le t 256 many, h.5, eqb_same (E.index_words p.shape))),
    )

-- Tree pool: whole units, from one to the most words of the form, whose number is 1, 2 or 3 (02, tickets 3 and 11). It
-- has no index.
pub tree_lengths : (p : Pool) → Says (lengths tree_engine p)
    ((is_form p.shape ≡ true) × ((form_of p.shape).unit ≤ word_count p) × (word_count p ≤ (form_of p.shape).most)
    × (word_count p % (form_of p.shape).unit ≡ 0)
    × (length p.table % 4 ≡ 0) × (4 ≤ length p.table) × (length p.table ≤ 1024) × (length p.index ≡ 0))
unfolding tree_engine tree_range
tree_lengths p =
    let W = word_count p in
    let F = form_of p.shape in (
      (λ h.
          let (known, range, whole, few, many, index) = (engine_lengths tree_engine p).0 h in (
            known,
            le_of F.unit W (search (and_l, and_r)),
            le_of W F.most (search (and_l, and_r)),
            eqb_eq (W % F.unit) 0 (search (and_l, and_r)),
            whole,
            few,
            many,
            index,
          )),
      (λ h.
          (engine_lengths tree_engine p).1
          (h.0, rw (of_le F.unit W h.1, of_le W F.most h.2, h.3) refl, h.4, h.5, h.6, h.7)),
    )

-- Segment pool: W "of them, 2 to 16,384", S "a power of two, 1 to 256", and "Index: 3S unsigned words".
pub segment_lengths : (p : Pool) → Says (lengths segment_engine p)
    ((2 ≤ word_count p) × (word_count p ≤ 16384) × ((d : ℕ) × (d ≤ 8) × (p.shape ≡ 2 ^ d))
    × (length p.table % 4 ≡ 0) × (4 ≤ length p.table) × (length p.table ≤ 1024)
    × (length p.index ≡ 3 * p.shape))
unfolding segment_engine segment_range
segment_lengths p =
    let W = word_count p in (
      (λ h.
          let (known, range, whole, few, many, index) = (engine_lengths segment_engine p).0 h in (
            le_of 2 W (search (and_l, and_r)),
            le_of W 16384 (search (and_l, and_r)),
            (power_is p.shape depth).0 (search (and_l, and_r)),
            whole,
            few,
            many,
            index,
          )),
      (λ h.
          (engine_lengths segment_engine p).1 (
            refl,
            rw (of_le 2 W h.0, of_le W 16384 h.1, (power_is p.shape depth).1 h.2) refl,
            h.3,
            h.4,
            h.5,
            h.6,
          )),
    )

pub tree_demand1 : Demand1 tree_engine
tree_demand1 = demand1 tree_engine tree_laws

pub segment_demand1 : Demand1 segment_engine
segment_demand1 = demand1 segment_engine segment_laws

pub tree_demand2 : Demand2 tree_engine
tree_demand2 = demand2 tree_engine tree_laws

pub segment_demand2 : Demand2 segment_engine
segment_demand2 = demand2 segment_engine segment_laws

-- The free blocks of a sound segment pool are the maximal free runs, which `merged` of demand 2 names: "positive if
-- free", "Other words of a free block are zero."
module _ (p : Pool) (ok : sound segment_engine p ≡ true) where
  free_word : (u : ℕ) → u < word_count p → free segment_rule (ledger p) u ≡ true
      → get_or p.arena u 0 ≡ segment_word (word_count p) (ledger p) u
  unfolding segment_engine
  free_word u l h =
      let L = ledger p in
      let own : owned segment_rule L u ≡ false =
      false_of (owned segment_rule L u)
      (λ o. true≢false (sym h ∙ sym (ap (free segment_rule L) (div-one u))
      ∙ owned_covered segment_rule (omega arith) (word_count p) p.head.next L
      (sound_valid segment_engine segment_laws p ok) u o)) in
      ap (λ (q : Pool). get_or q.arena u 0) (is_store segment_engine segment_laws p ok)
      ∙ ap (λ (x : Words). get_or x u 0) (arena_store segment_engine L p.head.next p)
      ∙ stamp_sets (owned segment_rule L) (segment_word (word_count p) L) p.arena u 0 l own

  pub segment_free_blocks : (xs : List Run) (r : Run) (ys : List Run)
      → free_runs segment_rule (word_count p) (ledger p) ≡ xs ++ r ∷ ys
      → (get_or p.arena r.start 0 ≡ r.size)
      × ((u : ℕ) → r.start < u → u < r.start + r.size → get_or p.arena u 0 ≡ 0)
  unfolding segment_word segment_engine
  segment_free_blocks xs r ys e =
      let W = word_count p in
      let L = ledger p in
      let good = sound_valid segment_engine segment_laws p ok in
      let run = free_run_maximal W L xs r ys e in
      let long = run.long in
      let inside = run.inside in (
        free_word r.start (omega arith) (run.passes r.start (omega arith) (omega arith))
            ∙ ap (of_z w32) (control_free W p.head.next L good r run),
        (λ u a b. free_word u (omega arith) (run.passes u (omega arith) b)
            ∙ ap (of_z w32) (control_free_inside W p.head.next L good r run u a b)),
      )

pub tree_monotone : Monotone tree_engine
tree_monotone = monotone tree_engine tree_laws

pub segment_monotone : Monotone segment_engine
segment_monotone = monotone segment_engine segment_laws

pub tree_demand3 : Demand3 tree_engine
tree_demand3 = demand3 tree_engine tree_laws

pub segment_demand3 : Demand3 segment_engine
segment_demand3 = demand3 segment_engine segment_laws

pub tree_restart : Restart tree_engine
tree_restart = restart tree_engine

pub segment_restart : Restart segment_engine
segment_restart = restart segment_engine

pub tree_private : Private tree_engine
tree_private = private tree_engine

pub segment_private : Private segment_engine
segment_private = private segment_engine
