-- A copy of an old table is the machine's call, for any engine; and its loop, slot after slot. Assumes nothing.
use Prim.Native.Nat.{ℕ, ◌+◌, ◌*◌, ◌/◌, ◌%◌, ◌≤◌, ◌<◌}
use native.Mathlib.Nat.{zero-add}
use native.Mathlib.Omega.{arith}
use native.Mathlib.Decide.{ℕ_discrete}
use mathlib.Core.Path.{◌≡◌, refl, sym, ap, ◌∙◌}
use mathlib.Core.Bool.{Bool, true, false, cond}
use lib.Dec.{eqb}
use lib.ListN.{length, get_or, set, length-set}
use lib.Seq.{ext_get_or, get_or-set_same, get_or-set_other}
use Rattle.words.specs.Lists.{Words, list_from}
use Rattle.words.proofs.ListLaws.{length_list_from, get_d_list_from}
use Rattle.ledger.specs.Records.{Ledger, record_words, empty_row, records_of, table_of}
use Rattle.ledger.proofs.RecordLaws.{length_table_of, length_records, records_table, table_records}
use Rattle.calls.specs.Pool.{Pool, Engine}
use Rattle.calls.specs.Step.{widened_at, copied, copy_suits, copy, Outcome, step}
use Rattle.calls.proofs.Demand1.{copy_done_lem, copies_at, refused_step}
use Rattle.old_tables.specs.Copies.{copy_of}

-- ---- the machine's call

pub copy_step : (E : Engine) (p : Pool) (old : Words)
    → ◌≡◌ {A = ℕ × Words} ((step E (copy old) p).answer.number, (step E (copy old) p).pool.table) (copy_of old p.table)
unfolding copy_of
copy_step E p old = go (copy_suits old p.table) refl
  where
    go : (b : Bool) → copy_suits old p.table ≡ b
        → ◌≡◌ {A = ℕ × Words} ((step E (copy old) p).answer.number, (step E (copy old) p).pool.table)
        (cond b (0, table_of (copied old)) (8, p.table))
    go true h = ap (λ (o : Outcome). (o.answer.number, o.pool.table)) (copy_done_lem E p old h)
    go false h =
        let eight = (copies_at E p old).eight.1 h in
        let kept = (refused_step E (copy old) p (ap (λ n. eqb n 0) eight)).table in
        λ i. (eight i, kept i)

-- ---- the loop

-- the first i records of the table t are those of the old table, widened; t has a slot for each of its records
pub record Copying (old t : Words) (i : ℕ) : Type 0 where
  pub long : length t ≡ record_words * (length old / 3)
  pub same : (j : ℕ) → j < i → get_or (records_of t) j empty_row ≡ widened_at old j

module _ (old : Words) where
  pub copying_next : (t u : Words) (i : ℕ) → i < length old / 3 → u ≡ table_of (set (records_of t) i (widened_at old i))
      → Copying old t i → Copying old u (i + 1)
  copying_next t u i l e c = record {
    long =
        ap length e ∙ length_table_of (set (records_of t) i (widened_at old i))
        ∙ ap (λ n. record_words * n) (length-set (records_of t) i (widened_at old i) ∙ length_records t)
        ∙ omega (arith, c.long);
    same = λ j h. ap (λ (L : Ledger). get_or L j empty_row) records ∙ go j h (ℕ_discrete j i);
  }
    where
      records : records_of u ≡ set (records_of t) i (widened_at old i)
      records = ap records_of e ∙ records_table (set (records_of t) i (widened_at old i))

      go : (j : ℕ) → j < i + 1 → Dec (j ≡ i) → get_or (set (records_of t) i (widened_at old i)) j empty_row ≡ widened_at old j
      go j h (yes q) =
          rw q (get_or-set_same (records_of t) i (widened_at old i) empty_row (omega (arith, c.long, length_records t)))
      go j h (no q) =
          get_or-set_other (records_of t) i j (widened_at old i) empty_row q ∙ c.same j (omega arith)

  pub copying_end : (t : Words) (i : ℕ) → length old / 3 ≤ i → Copying old t i → t ≡ table_of (copied old)
  unfolding copied
  copying_end t i l c =
      let n = length old / 3 in
      let whole : length t % record_words ≡ 0 = omega (arith, c.long) in
      let all_slots : length (records_of t) ≡ n = length_records t ∙ omega (arith, c.long) in
      sym (table_records t whole)
      ∙ ap table_of (ext_get_or empty_row (records_of t) (list_from (widened_at old) 0 n)
      (all_slots ∙ sym (length_list_from (widened_at old) 0 n))
      (λ j h.
      let below : j < n = omega (arith, all_slots) in
      c.same j (omega arith)
      ∙ sym (get_d_list_from (widened_at old) 0 n j empty_row below ∙ ap (widened_at old) (zero-add j))))
