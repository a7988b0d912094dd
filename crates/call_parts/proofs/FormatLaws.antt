-- A format call, for any engine: refused by its form, the lengths or its first ticket, or the stored form of the ledger with no
-- record, whose table is all zeros. Assumes nothing.
use Prim.Native.Nat.{ℕ, zero, suc, ◌*◌, ◌%◌}
use native.Mathlib.Omega.{arith}
use mathlib.Core.Path.{◌≡◌, refl, sym, ap, ◌∙◌}
use mathlib.Core.Logic.{◌≢◌}
use mathlib.Core.Bool.{Bool, true, false, cond, ◌&&◌}
use mathlib.Core.List.{[], ◌∷◌}
use lib.Dec.{eqb}
use lib.ListN.{length, replicate}
use Rattle.words.specs.Lists.{Words}
use Rattle.ledger.specs.Records.{empty_row, table_of, record_words, slots}
use Rattle.calls.specs.declared.Answer.{Answer}
use Rattle.calls.specs.Pool.{Pool, Engine, with_head, lengths, store}
use Rattle.calls.specs.Step.{refusal, zero_answer, zero_head, blank, format, behind, gate, perform, step}
use Rattle.calls.proofs.GateLaws.{step_stops}
use Rattle.calls.proofs.Demand1.{format_number_lem}
use Rattle.call_parts.specs.Parts.{format_number}
use Rattle.call_parts.specs.Results.{result, result_of}

blank_table : (k : ℕ) → replicate (record_words * k) 0 ≡ table_of (replicate k empty_row)
blank_table zero = refl
blank_table (suc k) =
    let e : record_words * suc k ≡ suc (suc (suc (suc (record_words * k)))) = omega arith in
    rw e (ap (λ (l : Words). 0 ∷ 0 ∷ 0 ∷ 0 ∷ l) (blank_table k))

-- the table of no records is all zeros
pub zero_table : (t : Words) → length t % record_words ≡ 0 → replicate (length t) 0 ≡ table_of (replicate (slots t) empty_row)
zero_table t whole =
    let e : length t ≡ record_words * slots t = omega arith in
    ap (λ (n : ℕ). replicate n 0) e ∙ blank_table (slots t)

-- what stops a format: its form, its lengths, then its first ticket
module _ (E : Engine) (p : Pool) (first : ℕ) (k : Bool) (known : k ≡ E.known p.shape) (r : Bool)
    (right : r ≡ lengths E p) (n : ℕ) (is : n ≡ format_number k r first) where
  gate_is : gate E (format first) p ≡ n
  unfolding gate behind
  gate_is = go (E.known p.shape) (lengths E p) ∙ rw (sym known, sym right) (sym is)
    where
      go : (a b : Bool) → cond a (cond (b && true) (cond (eqb first 0) 6 0) 8) 11 ≡ format_number a b first
      go true true = refl
      go true false = refl
      go false b = refl

  pub format_answers : (step E (format first) p).answer.number ≡ n
  format_answers = format_number_lem E p first ∙ gate_is

  -- the head of zeros
  pub format_refused : n ≢ 0 → result (refusal n) (with_head (zero_head E) p) [] ≡ result_of (step E (format first) p)
  format_refused z = ap result_of (sym (step_stops E (format first) p n gate_is z))

  pub format_right : n ≡ 0 → lengths E p ≡ true
  format_right z = sym right ∙ go k r (sym is ∙ z)
    where
      go : (a b : Bool) → format_number a b first ≡ 0 → b ≡ true
      go a true e = refl
      go true false e = absurd (omega arith)
      go false false e = absurd (omega arith)

  pub format_result : n ≡ 0 → (x : Answer) (q : Pool) → x ≡ zero_answer → q ≡ store E (blank E p) first p
      → result x q [] ≡ result_of (step E (format first) p)
  unfolding step perform
  format_result z x q answer pool = rw (gate_is ∙ z) (λ i. result (answer i) (pool i) [])
