-- Laws of a grant: the ledger with the new record is valid, the pool is sound, the granted words read zero, and no
-- holder's word is wiped. Assumes nothing.
use Prim.Native.Nat.{ℕ, suc, ◌+◌, ◌*◌, ◌/◌, ◌≤◌, ◌<◌}
use native.Mathlib.Nat.{mul_comm, mul-le-mul_left, mul-div-le, le-div_iff_mul-le, div-lt_iff_lt-mul, le_trans}
use native.Mathlib.Omega.{arith}
use mathlib.Core.Path.{◌≡◌, refl, sym, ap, ◌∙◌}
use mathlib.Core.Logic.{◌≢◌}
use mathlib.Core.Bool.{Bool, true, false, cond, ◌||◌, true≢false, or-true}
use mathlib.Core.List.{[], ◌∷◌}
use mathlib.Core.Option.{some}
use lib.Dec.{eqb, ltb}
use lib.ListN.{length, get_or}
use Rattle.words.specs.Lists.{Words}
use Rattle.words.specs.Counted.{within}
use Rattle.words.specs.Places.{wiped}
use Rattle.words.proofs.Tests.{and_i, or_l, eqb_ne, eqb_false, lt_of, of_lt, within_in, within_of}
use Rattle.words.proofs.Tests.{false_of}
use Rattle.words.proofs.CountedLaws.{every_of}
use Rattle.words.proofs.PlaceLaws.{length_wiped, wiped_in, wiped_out}
use Rattle.ledger.specs.declared.Row.{Row}
use Rattle.ledger.specs.Records.{Ledger, is_empty, is_live, has_ticket, record_of, enter}
use Rattle.ledger.specs.Units.{span, address_at, past, valid, free, owns, owned}
use Rattle.ledger.proofs.RecordLaws.{length_table_enter, empty_row_lem, has_ticket_lem}
use Rattle.ledger.proofs.UnitLaws.{valid_record, past_new, valid_enter, owned_enter, owned_covered}
use Rattle.calls.specs.Pool.{Pool, ledger, word_count, Engine, Laws, next_after, rule_of, store, lengths, sound}
use Rattle.calls.specs.Step.{new_row, grant}
use Rattle.calls.specs.Demand2.{LowestFit}
use Rattle.calls.proofs.StoreLaws.{store_keeps, store_sound, sound_lengths, sound_valid, is_table}
use Rattle.calls.proofs.RowLaws.{fit_found}
use Rattle.calls.proofs.ActLaws.{Asked}

-- the pool over another arena
abbrev pub on_arena : Pool → Words → Pool
on_arena p a = record { head = p.head; shape = p.shape; arena = a; table = p.table; index = p.index }

-- the next ticket after n is 0 or above n
pub next_above : (n : ℕ) → (eqb (next_after n) 0 || ltb n (next_after n)) ≡ true
next_above n = go (eqb n 4294967295)
  where
    go : (b : Bool) → (eqb (cond b 0 (suc n)) 0 || ltb n (cond b 0 (suc n))) ≡ true
    go true = refl
    go false = rw (of_lt n (suc n) (omega arith)) (or-true (eqb (suc n) 0))

-- a new record changes no other ticket's
pub record_enter : (t : ℕ) (new : Row) (L : Ledger) → t ≢ 0 → new.ticket ≢ t → record_of t (enter new L) ≡ record_of t L
record_enter t new [] z d = refl
record_enter t new (r ∷ L) z d = go (is_empty r) refl (record_enter t new L z d)
  where
    other : (s : Row) → s.ticket ≢ t → has_ticket t s ≡ false
    other s h = false_of (has_ticket t s) (λ x. h ((has_ticket_lem t s).0 x).1)

    go : (b : Bool) → is_empty r ≡ b → record_of t (enter new L) ≡ record_of t L
        → record_of t (cond b (new ∷ L) (r ∷ enter new L)) ≡ record_of t (r ∷ L)
    go true e ih =
        let empty : r.ticket ≡ 0 = ap (λ (x : Row). x.ticket) ((empty_row_lem r).0 e) in
        rw (other new d, other r (λ q. z (sym q ∙ empty)))
    go false e ih = rw ih

-- ---- what a grant stores, and over what

abbrev pub entered : Engine → Pool → ℕ → ℕ → ℕ → Ledger
entered E p c n k = enter (new_row E p c n k) (ledger p)

-- the first word of the granted units at the address, and the word past them
abbrev pub start : Engine → Pool → ℕ → ℕ → ℕ → ℕ
start E p c n k = (new_row E p c n k).address

abbrev pub end : Engine → Pool → ℕ → ℕ → ℕ → ℕ
end E p c n k = (rule_of E p).unit * past (rule_of E p) (new_row E p c n k)

unfoldable pub zeroed : Engine → Pool → ℕ → ℕ → ℕ → Words
zeroed E p c n k = wiped 0 (start E p c n k) (end E p c n k) p.arena

pub length_zeroed : (E : Engine) (p : Pool) (c n k : ℕ) → length (zeroed E p c n k) ≡ word_count p
unfolding zeroed
length_zeroed E p c n k = length_wiped 0 (start E p c n k) (end E p c n k) p.arena

pub grant_store : (E : Engine) (p : Pool) (c n k : ℕ)
    → grant E p c n k ≡ store E (entered E p c n k) (next_after p.head.next) (on_arena p (zeroed E p c n k))
unfolding grant zeroed
grant_store E p c n k = refl

module _ (E : Engine) (laws : Laws E) (p : Pool) (ok : sound E p ≡ true) (c n k : ℕ) (asked : Asked E p c n k) where
  fit : LowestFit E p n k
  fit = fit_found E p n k asked.fit

  next_some : p.head.next ≢ 0
  next_some = eqb_false p.head.next 0 asked.ticket

  size_some : 1 ≤ n
  size_some = let z = eqb_false n 0 (or_l (eqb n 0) (ltb (E.limit p.shape) n) asked.size) in omega arith

  pub grant_valid : valid (rule_of E p) (word_count p) (next_after p.head.next) (entered E p c n k) ≡ true
  grant_valid =
      let ρ = rule_of E p in
      let next = p.head.next in
      valid_enter ρ (laws.unit p.shape) (word_count p) next (next_after next) k n c (ledger p)
      (sound_valid E laws p ok)
      next_some (next_above next) size_some asked.party fit.inside
      (every_of (free ρ (ledger p)) k (span ρ n) fit.enough)

  pub grant_sound : sound E (grant E p c n k) ≡ true
  unfolding lengths
  grant_sound =
      ap (λ (q : Pool). sound E q) (grant_store E p c n k)
      ∙ store_sound E laws (on_arena p (zeroed E p c n k)) (entered E p c n k) (next_after p.head.next)
      (rw (length_zeroed E p c n k) (sound_lengths E laws p ok))
      (length_table_enter (new_row E p c n k) (ledger p) ∙ ap length (sym (is_table E laws p ok)))
      (rw (length_zeroed E p c n k) grant_valid)

  -- the words of the grant lie in the arena, in units that were free
  grant_inside : end E p c n k ≤ word_count p
  grant_inside =
      let ρ = rule_of E p in
      rw (past_new ρ (laws.unit p.shape) p.head.next k n c)
      (le_trans (mul-le-mul_left ρ.unit fit.inside) (mul-div-le (word_count p) ρ.unit))

  grant_units : (i : ℕ) → start E p c n k ≤ i → i < end E p c n k
      → free (rule_of E p) (ledger p) (i / (rule_of E p).unit) ≡ true
  unfolding address_at
  grant_units i a b =
      let ρ = rule_of E p in
      let pos = laws.unit p.shape in
      let hi : i < ρ.unit * (k + span ρ n) = rw (past_new ρ pos p.head.next k n c) at b in
      fit.enough (i / ρ.unit)
      ((le-div_iff_mul-le pos).1 (rw (mul_comm k ρ.unit) (omega arith)))
      ((div-lt_iff_lt-mul pos).1 (rw (mul_comm (k + span ρ n) ρ.unit) hi))

  pub grant_zeros : (i : ℕ) → start E p c n k ≤ i → i < end E p c n k → get_or (grant E p c n k).arena i 0 ≡ 0
  unfolding zeroed owns
  grant_zeros i a b =
      let ρ = rule_of E p in
      let new = new_row E p c n k in
      let live : is_live new ≡ true = rw (eqb_ne p.head.next 0 next_some) in
      let lo = start E p c n k in
      let hi = end E p c n k in
      let own = and_i (is_live new) (within lo hi i) live (within_in lo hi i a b) in
      ap (λ (q : Pool). get_or q.arena i 0) (grant_store E p c n k)
      ∙ store_keeps E (entered E p c n k) (next_after p.head.next) (on_arena p (zeroed E p c n k)) i
      (owned_enter ρ new (ledger p) asked.slot i ∙ rw own (or-true (owned ρ (ledger p) i)))
      ∙ wiped_in 0 lo hi p.arena i 0 a b (le_trans b grant_inside)

  -- what a holder owns is not wiped
  pub zeroed_keeps : (i : ℕ) → owned (rule_of E p) (ledger p) i ≡ true → get_or (zeroed E p c n k) i 0 ≡ get_or p.arena i 0
  unfolding zeroed
  zeroed_keeps i own =
      let lo = start E p c n k in
      let hi = end E p c n k in
      let pos = laws.unit p.shape in
      let good = sound_valid E laws p ok in
      let taken = owned_covered (rule_of E p) pos (word_count p) p.head.next (ledger p) good i own in
      wiped_out 0 lo hi p.arena i 0
      (false_of (within lo hi i)
      (λ w. let (a, b) = within_of lo hi i w in true≢false (sym (grant_units i a b) ∙ taken)))

  -- a record that was held is held after the grant
  pub grant_holds : (r : Row) → record_of r.ticket (ledger p) ≡ some r
      → record_of r.ticket (entered E p c n k) ≡ some r
  grant_holds r e =
      let next = p.head.next in
      let pos = laws.unit p.shape in
      let good = sound_valid E laws p ok in
      let facts = valid_record (rule_of E p) pos (word_count p) next (ledger p) good r.ticket r e in
      let below : r.ticket < next = lt_of r.ticket next (rw asked.ticket at facts.below) in
      record_enter r.ticket (new_row E p c n k) (ledger p) facts.ticket (λ q. omega arith) ∙ e
