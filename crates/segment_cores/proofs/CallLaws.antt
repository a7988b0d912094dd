-- What a call has to show before it grants, releases or trims, from the sound pool and the facts that it checked. Assumes
-- nothing.
use Prim.Native.Nat.{ℕ, ◌-◌, ◌≤◌, ◌<◌, ◌^◌}
use native.Mathlib.Nat.{div-one}
use native.Mathlib.Omega.{arith}
use mathlib.Core.Bool.{true, false, ◌||◌}
use mathlib.Core.List.{List, [], ◌∷◌}
use mathlib.Core.Logic.{◌≢◌}
use mathlib.Core.Option.{some}
use mathlib.Core.Path.{◌≡◌}
use lib.Dec.{eqb, ltb}
use lib.IntN.{ℤ}
use lib.ListN.{length}
use Rattle.words.specs.Lists.{Words}
use Rattle.ledger.specs.Records.{Ledger, is_party, row, record_of, full, enter, vacate, keep}
use Rattle.ledger.specs.Records.{keepable, member, settle}
use Rattle.ledger.specs.Units.{span, address_at, first, free, lowest_fit}
use Rattle.ledger.specs.declared.Row.{Row}
use Rattle.ledger.proofs.FitLaws.{fit_lowest}
use Rattle.ledger.proofs.UnitLaws.{valid_enter, valid_settle}
use Rattle.stored_forms.specs.Segments.{segment_rule, starts_at, depth}
use Rattle.segment_cores.specs.Stores.{Sound, Granting, Releasing, Trimming}
use Rattle.segment_cores.proofs.AddLaws.{grant_adds, release_adds, trim_cuts}
use Rattle.segment_cores.proofs.ChangeLaws.{sound_whole}
use Rattle.segment_cores.proofs.FitWords.{fit_opens}
use Rattle.segment_cores.proofs.UnitLaws.{span_words}

module _ (L : Ledger) (v : List ℤ) (t : Words) (s g : ℕ) (S : Sound L v t s g) where
  -- the lowest fit for n words of party c is at k, a record is empty, and there is a next ticket
  pub granting : (next' n c k : ℕ) → full L ≡ false → S.next ≢ 0 → (eqb next' 0 || ltb S.next next') ≡ true
      → 1 ≤ n → is_party c ≡ true
      → lowest_fit (free segment_rule L) (length v) (span segment_rule n) ≡ some k
      → Granting L (enter (row S.next (address_at segment_rule k) n c) L) v t s g k (span segment_rule n)
  granting next' n c k room ticket above asked party fit =
      let at = fit_lowest (free segment_rule L) (length v) (span segment_rule n) k fit in
      record {
        sound = S;
        next = next';
        good = valid_enter segment_rule (omega arith) (length v) S.next next' k n c L S.good ticket above asked party
            (rw (div-one (length v)) at.room) at.passes;
        adds = grant_adds (length v) S.next L S.good room S.next n c k ticket asked fit;
        opened = fit_opens (free segment_rule L) (starts_at L) (length v) (sound_whole L v t s g S) (span segment_rule n)
            (omega (arith, span_words n)) k fit;
      }

  -- a live record has the ticket
  pub releasing : (d ticket : ℕ) (r : Row) → s ≡ 2 ^ d → d ≤ depth → record_of ticket L ≡ some r
      → Releasing L (settle (member ticket vacate ∷ []) L) v t s d g (first segment_rule r)
      (span segment_rule r.words)
  releasing d ticket r power few live = record {
    sound = S;
    power = power;
    few = few;
    next = S.next;
    good = valid_settle segment_rule (omega arith) (length v) S.next (member ticket vacate ∷ []) L S.good;
    adds = release_adds (length v) S.next L S.good ticket r live;
  }

  -- and some of its units are given back
  pub trimming : (ticket n : ℕ) (r : Row) → record_of ticket L ≡ some r → keepable n r ≡ true
      → span segment_rule n < span segment_rule r.words
      → Trimming L (settle (member ticket (keep n) ∷ []) L) v t s g (first segment_rule r) (span segment_rule n)
      (span segment_rule r.words - span segment_rule n)
  trimming ticket n r live suit less = record {
    sound = S;
    next = S.next;
    good = valid_settle segment_rule (omega arith) (length v) S.next (member ticket (keep n) ∷ []) L S.good;
    cuts = trim_cuts (length v) S.next L S.good ticket r live n suit less;
  }
