-- A grant adds a block to the readings of a ledger, a release takes one away, and a trim cuts one. Assumes nothing.
use Prim.Native.Nat.{ℕ, zero, suc, ◌+◌, ◌-◌, ◌<◌, ◌≤◌}
use native.Mathlib.Nat.{one-mul}
use native.Mathlib.Omega.{arith}
use mathlib.Core.Bool.{Bool, true, false, cond, not, ◌&&◌, ◌||◌, true≢false, and-true, and-false, or-false, or-true}
use mathlib.Core.List.{[], ◌∷◌}
use mathlib.Core.Logic.{◌≢◌}
use mathlib.Core.Option.{some}
use mathlib.Core.Path.{◌≡◌, refl, sym, ap, ◌∙◌}
use lib.Dec.{eqb, leb}
use lib.ListN.{length, get_or, set}
use Rattle.words.proofs.CountedLaws.{every_at}
use Rattle.words.specs.Counted.{within}
use Rattle.words.proofs.Tests.{and_l, eqb_ne, eqb_same, false_of, le_of, within_in, within_of}
use Rattle.ledger.specs.Records.{Ledger, row, empty_row, is_empty, is_live, record_of, full, enter}
use Rattle.ledger.specs.Records.{Plan, vacate, keep, keepable, shortened, carry_out, feasible, member, settle}
use Rattle.ledger.specs.Units.{span, address_at, first, past, valid, covers, free, lowest_fit}
use Rattle.ledger.specs.Units.{kept_units, tail_units}
use Rattle.ledger.specs.declared.Row.{Row}
use Rattle.ledger.proofs.FitLaws.{fit_lowest}
use Rattle.ledger.proofs.RecordLaws.{record_slot, record_ticket, record_settled, settle_slot}
use Rattle.ledger.proofs.RunLaws.{freed_tail}
use Rattle.ledger.proofs.UnitLaws.{Fitted, valid_record, valid_apart, span_pos, first_new, past_new, covers_in}
use Rattle.ledger.proofs.UnitLaws.{covers_of, free_not, free_settle, free_enter, valid_settle}
use Rattle.stored_forms.specs.Segments.{segment_rule, starts_at}
use Rattle.stored_forms.proofs.SegmentLaws.{starts_held}
use Rattle.segment_cores.specs.Views.{Adds, Cuts}
use Rattle.segment_cores.proofs.ViewLaws.{free_nowhere}

-- a record begins at unit u
abbrev begins : ℕ → Row → Bool
begins u r = is_live r && eqb (first segment_rule r) u

-- what `starts_at` gives by the test of its first record
abbrev size_or : Row → ℕ → Bool → ℕ
size_or r n b = cond b (span segment_rule r.words) n

-- ---- a grant

starts_other : (new : Row) (L : Ledger) (u : ℕ) → begins u new ≡ false → starts_at (enter new L) u ≡ starts_at L u
starts_other new [] u h = refl
starts_other new (r ∷ L) u h = go (is_empty r) refl (starts_other new L u h)
  where
    go : (b : Bool) → is_empty r ≡ b → starts_at (enter new L) u ≡ starts_at L u
        → starts_at (cond b (new ∷ L) (r ∷ enter new L)) u ≡ starts_at (r ∷ L) u
    go true e ih =
        ap (size_or new (starts_at L u)) h ∙ sym (ap
        (λ b. size_or r (starts_at L u) (not b && eqb (first segment_rule r) u)) e)
    go false e ih = ap (λ n. size_or r n (begins u r)) ih

starts_new : (new : Row) (L : Ledger) (u : ℕ) → full L ≡ false → begins u new ≡ true
    → ((i : ℕ) → i < length L → begins u (get_or L i empty_row) ≡ false)
    → starts_at (enter new L) u ≡ span segment_rule new.words
starts_new new [] u f h n = absurd (true≢false f)
starts_new new (r ∷ L) u f h n = go (is_empty r) refl f (λ g. starts_new new L u g h (λ i l. n (suc i) (omega arith)))
  where
    go : (b : Bool) → is_empty r ≡ b → (not b && full L) ≡ false
        → (full L ≡ false → starts_at (enter new L) u ≡ span segment_rule new.words)
        → starts_at (cond b (new ∷ L) (r ∷ enter new L)) u ≡ span segment_rule new.words
    go true e f ih = ap (size_or new (starts_at L u)) h
    go false e f ih = ap (size_or r (starts_at (enter new L) u)) (n 0 (omega arith)) ∙ ih f

-- n words are entered for party c under a ticket at unit k, from which enough units are free
module _ (W next : ℕ) (L : Ledger) (good : valid segment_rule W next L ≡ true) (room : full L ≡ false) (t n c k : ℕ)
    (some-ticket : t ≢ 0) (asked : 1 ≤ n) (fit : lowest_fit (free segment_rule L) W (span segment_rule n) ≡ some k) where
  new : Row
  new = row t (address_at segment_rule k) n c

  abbrev m : ℕ
  m = span segment_rule n

  new_live : is_live new ≡ true
  unfolding new
  new_live = rw (eqb_ne t 0 some-ticket)

  new_first : first segment_rule new ≡ k
  unfolding new
  new_first = first_new segment_rule (omega arith) t k n c

  new_past : past segment_rule new ≡ k + m
  unfolding new
  new_past = past_new segment_rule (omega arith) t k n c

  some_units : 1 ≤ m
  some_units = span_pos segment_rule (omega arith) n asked

  gap_free : (u : ℕ) → k ≤ u → u < k + m → free segment_rule L u ≡ true
  gap_free u a b = every_at (free segment_rule L) k m (fit_lowest (free segment_rule L) W m k fit).passes u a b

  now_held : (u : ℕ) → k ≤ u → u < k + m → free segment_rule (enter new L) u ≡ false
  now_held u a b =
      let here = covers_in segment_rule u new new_live (omega (arith, new_first)) (omega (arith, new_past)) in
      free_enter segment_rule new L room u ∙ ap (λ x. free segment_rule L u && not x) here
      ∙ and-false (free segment_rule L u)

  other : (u : ℕ) → (k ≤ u → u < k + m → ⊥) → free segment_rule (enter new L) u ≡ free segment_rule L u
  other u h =
      let off = false_of (covers segment_rule u new) (λ x.
      let (l, a, b) = covers_of segment_rule u new x in h (omega (arith, new_first)) (omega (arith, new_past))) in
      free_enter segment_rule new L room u ∙ ap (λ x. free segment_rule L u && not x) off ∙ and-true (free segment_rule L u)

  pub grant_adds : Adds L (enter (row t (address_at segment_rule k) n c) L) W k (span segment_rule n)
  unfolding new
  grant_adds = record {
    some = some_units;
    inside = (fit_lowest (free segment_rule L) W m k fit).room;
    gap = gap_free;
    held = now_held;
    below = λ u a. other u (λ x y. omega arith);
    above = λ u a. other u (λ x y. omega arith);
    head =
        starts_new new L k room (rw (new_live, new_first, eqb_same k))
        (free_nowhere W next L good k (gap_free k (omega arith) (omega (arith, some_units))));
    heads = λ u d.
        starts_other new L u (rw (new_first, eqb_ne k u (λ e. d (sym e))) (and-false (is_live new)));
  }

-- ---- a release and a trim

-- a record is exchanged for one that begins at no other unit
starts_changed : (L : Ledger) (i : ℕ) (s : Row) (u : ℕ) → begins u (get_or L i empty_row) ≡ false → begins u s ≡ false
    → starts_at (set L i s) u ≡ starts_at L u
starts_changed [] i s u h l = refl
starts_changed (r ∷ L) zero s u h l = ap (size_or s (starts_at L u)) l ∙ sym (ap (size_or r (starts_at L u)) h)
starts_changed (r ∷ L) (suc i) s u h l = ap (λ n. size_or r n (begins u r)) (starts_changed L i s u h l)

-- a plan is carried out that feasible the record of its ticket
module _ (W next : ℕ) (L : Ledger) (good : valid segment_rule W next L ≡ true) (t : ℕ) (q : Plan) (r : Row)
    (live : record_of t L ≡ some r) (suit : feasible q r ≡ true) where
  abbrev gone : Ledger
  gone = settle (member t q ∷ []) L

  abbrev p : ℕ
  p = first segment_rule r

  abbrev a : ℕ
  a = p + kept_units segment_rule q

  abbrev e : ℕ
  e = a + tail_units segment_rule q r

  facts : Fitted segment_rule W next r
  facts = valid_record segment_rule (omega arith) W next L good t r live

  tail : (u : ℕ) → free segment_rule gone u ≡ (free segment_rule L u || within a e u)
  tail u =
      free_settle segment_rule (omega arith) W next L good t q r live u
      ∙ ap (λ x. free segment_rule L u || x) (freed_tail segment_rule (omega arith) q r suit facts.ticket u)

  in_tail : (u : ℕ) → a ≤ u → u < e → free segment_rule gone u ≡ true
  in_tail u h l =
      tail u ∙ ap (λ x. free segment_rule L u || x) (within_in a e u h l) ∙ or-true (free segment_rule L u)

  out_of_tail : (u : ℕ) → (a ≤ u → u < e → ⊥) → free segment_rule gone u ≡ free segment_rule L u
  out_of_tail u h =
      let c = false_of (within a e u) (λ x. let (l, m) = within_of a e u x in h l m) in
      tail u ∙ ap (λ x. free segment_rule L u || x) c ∙ or-false (free segment_rule L u)

  units : past segment_rule r ≡ p + span segment_rule r.words
  unfolding past
  units = refl

  block_inside : p + span segment_rule r.words ≤ W
  block_inside = let inside = facts.inside in omega (arith, units, one-mul (past segment_rule r))

  in_block : (u : ℕ) → p ≤ u → u < p + span segment_rule r.words → covers segment_rule u r ≡ true
  in_block u h l = covers_in segment_rule u r facts.live h (omega (arith, units))

  block_head : starts_at L p ≡ span segment_rule r.words
  block_head = starts_held W next L good r (ap (λ (s : ℕ). record_of s L) (record_ticket t L r live).1 ∙ live)

  moved : (s : Row) → carry_out q r ≡ s → (u : ℕ) → u ≢ p → begins u s ≡ false → starts_at gone u ≡ starts_at L u
  moved s is u d h =
      let (i, l, c) = record_slot t L r live in
      let (z, same) = record_ticket t L r live in
      let slot =
      settle_slot segment_rule L i t q (valid_apart segment_rule W next L good) l z (ap (λ (s : Row). s.ticket) c ∙ same) in
      let other : begins u (get_or L i empty_row) ≡ false =
      ap (begins u) c ∙ rw (eqb_ne p u (λ j. d (sym j))) (and-false (is_live r)) in
      ap (λ (M : Ledger). starts_at M u)
      (slot ∙ ap (λ (v : Row). set L i (carry_out q v)) c ∙ ap (λ (v : Row). set L i v) is)
      ∙ starts_changed L i s u other h

module _ (W next : ℕ) (L : Ledger) (good : valid segment_rule W next L ≡ true) (t : ℕ) (r : Row)
    (live : record_of t L ≡ some r) where
  pub release_adds : Adds (settle (member t vacate ∷ []) L) L W (first segment_rule r) (span segment_rule r.words)
  release_adds = record {
    some = span_pos segment_rule (omega arith) r.words (facts W next L good t vacate r live refl).asked;
    inside = block_inside W next L good t vacate r live refl;
    gap = λ u a b. in_tail W next L good t vacate r live refl u (omega arith) (omega arith);
    held = λ u a b. free_not segment_rule t L r live u (in_block W next L good t vacate r live refl u a b);
    below = λ u a. sym (out_of_tail W next L good t vacate r live refl u (λ x y. omega arith));
    above = λ u a. sym (out_of_tail W next L good t vacate r live refl u (λ x y. omega arith));
    head = block_head W next L good t vacate r live refl;
    heads = λ u d. sym (moved W next L good t vacate r live refl empty_row refl u d refl);
  }

  -- n words are kept, and some units are not
  module _ (n : ℕ) (suit : keepable n r ≡ true) (less : span segment_rule n < span segment_rule r.words) where
    abbrev short : Row
    short = shortened n r

    is_short : carry_out (keep n) r ≡ short
    is_short = rw suit

    same_first : first segment_rule short ≡ first segment_rule r
    unfolding first
    same_first = refl

    cut_head : starts_at (settle (member t (keep n) ∷ []) L) (first segment_rule r) ≡ span segment_rule n
    cut_head =
        let M = settle (member t (keep n) ∷ []) L in
        let same = (record_ticket t L r live).1 in
        let now : record_of t M ≡ some short =
        record_settled t (member t (keep n) ∷ []) L
        ∙ rw (eqb_same t, live) (ap (λ (s : Row). some s) is_short) in
        ap (starts_at M) (sym same_first)
        ∙ starts_held W next M (valid_settle segment_rule (omega arith) W next (member t (keep n) ∷ []) L good) short
        (ap (λ (s : ℕ). record_of s M) same ∙ now)

    pub trim_cuts : Cuts L (settle (member t (keep n) ∷ []) L) W (first segment_rule r) (span segment_rule n)
        (span segment_rule r.words - span segment_rule n)
    trim_cuts = record {
      some = span_pos segment_rule (omega arith) n (le_of 1 n (and_l (leb 1 n) (leb n r.words) suit));
      more = omega arith;
      inside = omega (arith, block_inside W next L good t (keep n) r live suit);
      block = omega (arith, block_head W next L good t (keep n) r live suit);
      freed = λ u a b. in_tail W next L good t (keep n) r live suit u a b;
      below = λ u a. out_of_tail W next L good t (keep n) r live suit u (λ x y. omega arith);
      above = λ u a. out_of_tail W next L good t (keep n) r live suit u (λ x y. omega arith);
      head = cut_head;
      heads = λ u d.
          moved W next L good t (keep n) r live suit short is_short u d
          (rw (same_first, eqb_ne (first segment_rule r) u (λ j. d (sym j))) (and-false (is_live short)));
    }
