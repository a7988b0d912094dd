-- Laws of a held block: no holder owns the words before its address, and a stored form that has its record, over an
-- arena that keeps what holders own, keeps the block. Assumes nothing.
use Prim.Native.Nat.{ℕ, ◌*◌, ◌/◌, ◌≤◌, ◌<◌}
use native.Mathlib.Nat.{mul_comm, le-div_iff_mul-le, div-lt_iff_lt-mul, le_trans}
use native.Mathlib.Omega.{arith}
use native.Mathlib.Decide.{ℕ_discrete, dec_le}
use mathlib.Core.Path.{◌≡◌, sym, ap, ◌∙◌}
use mathlib.Core.Logic.{◌≢◌}
use mathlib.Core.Bool.{true, false, true≢false}
use mathlib.Core.Option.{some}
use lib.ListN.{length, get_or}
use Rattle.words.specs.Lists.{Words}
use Rattle.words.specs.Counted.{within}
use Rattle.words.proofs.Tests.{and_l, and_r, within_of, false_of}
use Rattle.words.proofs.ListLaws.{any_get_d}
use Rattle.words.proofs.PlaceLaws.{stamp_sets}
use Rattle.ledger.specs.declared.Row.{Row}
use Rattle.ledger.specs.declared.Rule.{Rule}
use Rattle.ledger.specs.Records.{Ledger, empty_row, is_live, record_of}
use Rattle.ledger.specs.Units.{address_at, first, past, valid, covers, owns, owned}
use Rattle.ledger.proofs.RecordLaws.{record_slot}
use Rattle.ledger.proofs.UnitLaws.{valid_at, valid_record, covers_in, disjoint, owned_in}
use Rattle.calls.specs.Pool.{Pool, ledger, word_count, Engine, Laws, rule_of, store, sound}
use Rattle.calls.specs.Demand2.{Untouched}
use Rattle.calls.proofs.StoreLaws.{ledger_store, arena_store, store_keeps, sound_valid, is_store}
use Rattle.calls.proofs.GrantLaws.{on_arena}

-- ---- words before the address

module _ (ρ : Rule) (pos : 0 < ρ.unit) where
  -- a live record covers the unit of each word between its first unit and the end of its last
  covers_word : (r : Row) (i : ℕ) → is_live r ≡ true → ρ.unit * first ρ r ≤ i → i < ρ.unit * past ρ r
      → covers ρ (i / ρ.unit) r ≡ true
  covers_word r i live a b =
      covers_in ρ (i / ρ.unit) r live
      ((le-div_iff_mul-le pos).1 (rw (mul_comm (first ρ r) ρ.unit) a))
      ((div-lt_iff_lt-mul pos).1 (rw (mul_comm (past ρ r) ρ.unit) b))

  pub lead_unowned : (W next : ℕ) (L : Ledger) → valid ρ W next L ≡ true → (r : Row) → record_of r.ticket L ≡ some r
      → (i : ℕ) → ρ.unit * first ρ r ≤ i → i < ρ.unit * past ρ r → i < r.address → owned ρ L i ≡ false
  unfolding owned owns address_at
  lead_unowned W next L good r e i a b c =
      false_of (owned ρ L i) (λ h. let (j, l, own) = any_get_d (owns ρ i) empty_row L h in owner j l own)
    where
      -- neither the record itself nor that of another slot
      owner : (j : ℕ) → j < length L → owns ρ i (get_or L j empty_row) ≡ true → ⊥
      owner j l own =
          let s = get_or L j empty_row in
          let end = ρ.unit * past ρ s in
          let live = and_l (is_live s) (within s.address end i) own in
          let (lo, hi) = within_of s.address end i (and_r (is_live s) (within s.address end i) own) in
          let place = (valid_at ρ pos W next L good j l live).place in
          let cover = covers_word s i live (omega arith) hi in
          let mine = covers_word r i (valid_record ρ pos W next L good r.ticket r e).live a b in
          let (m, k, q) = record_slot r.ticket L r e in
          let u = i / ρ.unit in
          go lo m q
          (λ d. true≢false (sym cover ∙ disjoint ρ W next L good u m j k l d (ap (covers ρ u) q ∙ mine)))
          (ℕ_discrete m j)
        where
          go : (get_or L j empty_row).address ≤ i → (m : ℕ) → get_or L m empty_row ≡ r → (m ≢ j → ⊥) → Dec (m ≡ j) → ⊥
          go lo m q other (yes x) =
              let same = ap (λ n. (get_or L n empty_row).address) x in
              let mine = ap (λ (s : Row). s.address) q in
              omega arith
          go lo m q other (no d) = other d

-- ---- the block in a stored form

module _ (E : Engine) (laws : Laws E) where
  -- a word of a held block before its address is the engine's
  lead_word : (p : Pool) (L : Ledger) (n : ℕ) → valid (rule_of E p) (word_count p) n L ≡ true
      → (r : Row) → record_of r.ticket L ≡ some r
      → (i : ℕ) → (rule_of E p).unit * first (rule_of E p) r ≤ i → i < (rule_of E p).unit * past (rule_of E p) r
      → i < r.address → get_or (store E L n p).arena i 0 ≡ E.word p.shape (word_count p) L i
  lead_word p L n good r e i a b c =
      let ρ = rule_of E p in
      let pos = laws.unit p.shape in
      ap (λ (x : Words). get_or x i 0) (arena_store E L n p)
      ∙ stamp_sets (owned ρ L) (E.word p.shape (word_count p) L) p.arena i 0
      (le_trans b (valid_record ρ pos (word_count p) n L good r.ticket r e).inside)
      (lead_unowned ρ pos (word_count p) n L good r e i a b c)

  pub block_kept : (p : Pool) → sound E p ≡ true → (a : Words) → length a ≡ word_count p
      → (L : Ledger) (n : ℕ) → valid (rule_of E p) (word_count p) n L ≡ true
      → (r : Row) → record_of r.ticket (ledger p) ≡ some r → record_of r.ticket L ≡ some r
      → ((i : ℕ) → owned (rule_of E p) (ledger p) i ≡ true → get_or a i 0 ≡ get_or p.arena i 0)
      → Untouched E p (store E L n (on_arena p a)) r
  block_kept p ok a len L n good r old new same =
      record {
        holds = ap (record_of r.ticket) (ledger_store E L n (on_arena p a)) ∙ new;
        words = λ i lo hi. go i lo hi (dec_le r.address i);
      }
    where
      ρ : Rule
      ρ = rule_of E p

      go : (i : ℕ) → ρ.unit * first ρ r ≤ i → i < ρ.unit * past ρ r → Dec (r.address ≤ i)
          → get_or (store E L n (on_arena p a)).arena i 0 ≡ get_or p.arena i 0
      go i lo hi (yes h) =
          store_keeps E L n (on_arena p a) i (owned_in ρ L r new i h hi) ∙ same i (owned_in ρ (ledger p) r old i h hi)
      go i lo hi (no h) =
          let c : i < r.address = omega arith in
          let was = sound_valid E laws p ok in
          lead_word (on_arena p a) L n (rw len good) r new i lo hi c
          ∙ ap (λ W. E.word p.shape W L i) len
          ∙ laws.lead p.shape (word_count p) n p.head.next L (ledger p) r i good was new old lo c
          ∙ sym (lead_word p (ledger p) p.head.next was r old i lo hi c)
          ∙ ap (λ (q : Pool). get_or q.arena i 0) (sym (is_store E laws p ok))
