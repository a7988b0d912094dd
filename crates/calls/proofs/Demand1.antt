-- Demand 1, proved over any engine that keeps the laws. Assumes nothing.
use Prim.Native.Nat.{ℕ, zero, ◌*◌, ◌/◌, ◌%◌, ◌≤◌, ◌<◌}
use native.Mathlib.Decide.{dec_le, ℕ_discrete}
use native.Mathlib.Omega.{arith}
use mathlib.Core.Path.{◌≡◌, refl, sym, ap, ◌∙◌, subst}
use mathlib.Core.Logic.{◌≢◌, ◌↔◌, ◌⊎◌, inl, inr}
use mathlib.Core.Bool.{Bool, true, false, cond, not, ◌&&◌, ◌||◌, true≢false, false≢true, and-false}
use mathlib.Core.Option.{Option, none, some}
use lib.Dec.{eqb, leb, ltb}
use lib.ListN.{length}
use Rattle.words.specs.Flags.{Says}
use Rattle.words.specs.Lists.{Words}
use Rattle.words.proofs.Tests.{and_l, and_r, and_i, eqb_eq, eqb_ne, eqb_same, eqb_false, false_of, le_of, of_le, not_le}
use Rattle.words.proofs.Tests.{of_gt, absurd_some}
use Rattle.words.proofs.ListLaws.{length_list_from}
use Rattle.ledger.specs.declared.Row.{Row}
use Rattle.ledger.specs.Records.{is_party, record_words, table_of, record_of, same_block, full, keepable}
use Rattle.ledger.proofs.RecordLaws.{length_table_of, records_table}
use Rattle.calls.specs.declared.Answer.{Answer}
use Rattle.calls.specs.Pool.{Pool, with_table, ledger, word_count, Engine, Laws, StoredForm, rule_of, lengths, stored}
use Rattle.calls.specs.Pool.{sound}
use Rattle.calls.specs.Step.{Call, format, copy, single, find, look, list, zero_answer, refusal, accepted, arena_part}
use Rattle.calls.specs.Step.{placeholder, Act, ask, give, query, cut, bad, Outcome, list_suits, old_words, widened_at}
use Rattle.calls.specs.Step.{copied, copy_suits, named, fit_of, number_of, answer_to, pool_after, buffers_of, suits}
use Rattle.calls.specs.Step.{fills, party_given, right_party, partied, shown_by, known_form, right_lengths, behind, gate}
use Rattle.calls.specs.Step.{refused_head, refused_by, copy_done, acts_done, perform, step}
use Rattle.calls.specs.Demand1.{BadSize, NoRecord, NoTicket, NoRoom, Unknown, Same, BadKeep, AskNumbers}
use Rattle.calls.specs.Demand1.{NameNumbers, CutNumbers, ActNumbers, BadParty, FormatNumbers, Copies, Refused, Performed, RequestForms}
use Rattle.calls.specs.Demand1.{Demand1}
use Rattle.calls.proofs.StoreLaws.{sound_valid, sound_form}
use Rattle.calls.proofs.RowLaws.{size_test, record_test, ticket_test, room_test, unknown_none, unknown_other}
use Rattle.calls.proofs.RowLaws.{known_own, record_same, same_record}
use Rattle.calls.proofs.ActLaws.{named_none, named_some, named_right, named_zero, act_refused, answer_number}
use Rattle.calls.proofs.ActLaws.{counted_append}
use Rattle.calls.proofs.GateLaws.{Way, stops, runs, way, both, neither, GateNumber, gate_number, lengths_lent}
use Rattle.calls.proofs.GateLaws.{sound_gate, step_sound}
use Rattle.calls.proofs.CallLaws.{reads_kept}

-- a test that fails, and what it says
off : {P : Type 0} → Says false P → P → ⊥
off t h = false≢true (t.1 h)

-- ---- the numbers of one act

-- the tests of rows 2 to 5, in their order, each with what it says
ask_rows : (E : Engine) (p : Pool) (n : ℕ) (a b c : Bool) (o : Option ℕ)
    → Says a (BadSize E p n) → Says b (NoRecord p) → Says c (NoTicket p) → (o ≡ none) ↔ NoRoom E p n
    → AskNumbers E p n (cond a 2 (cond b 3 (cond c 4 (elim o [ none ↦ 5 | some k ↦ 0 ]))))
ask_rows E p n true b c o s r t f =
    let wrong = s.0 refl in
    record {
      two = both refl wrong;
      three = neither (λ h. omega arith) (λ h. h.0 wrong);
      four = neither (λ h. omega arith) (λ h. h.0 wrong);
      five = neither (λ h. omega arith) (λ h. h.0 wrong);
      zero = neither (λ h. omega arith) (λ h. h.0 wrong);
    }
ask_rows E p n false true c o s r t f =
    let size = off s in
    let full = r.0 refl in
    record {
      two = neither (λ h. omega arith) size;
      three = both refl (size, full);
      four = neither (λ h. omega arith) (λ h. h.1 full);
      five = neither (λ h. omega arith) (λ h. h.1 full);
      zero = neither (λ h. omega arith) (λ h. h.1 full);
    }
ask_rows E p n false false true o s r t f =
    let size = off s in
    let slot = off r in
    let last = t.0 refl in
    record {
      two = neither (λ h. omega arith) size;
      three = neither (λ h. omega arith) (λ h. slot h.1);
      four = both refl (size, slot, last);
      five = neither (λ h. omega arith) (λ h. h.2 last);
      zero = neither (λ h. omega arith) (λ h. h.2 last);
    }
ask_rows E p n false false false none s r t f =
    let size = off s in
    let slot = off r in
    let ticket = off t in
    let tight = f.0 refl in
    record {
      two = neither (λ h. omega arith) size;
      three = neither (λ h. omega arith) (λ h. slot h.1);
      four = neither (λ h. omega arith) (λ h. ticket h.2);
      five = both refl (size, slot, ticket, tight);
      zero = neither (λ h. omega arith) (λ h. h.3 tight);
    }
ask_rows E p n false false false (some k) s r t f =
    let size = off s in
    let slot = off r in
    let ticket = off t in
    let room : NoRoom E p n → ⊥ = λ h. absurd_some (sym (f.1 h)) in
    record {
      two = neither (λ h. omega arith) size;
      three = neither (λ h. omega arith) (λ h. slot h.1);
      four = neither (λ h. omega arith) (λ h. ticket h.2);
      five = neither (λ h. omega arith) (λ h. room h.3);
      zero = both refl (size, slot, ticket, room);
    }

name_rows : (E : Engine) → Laws E → (p : Pool) → sound E p ≡ true → (r : Row) → NameNumbers p r (named (ledger p) r)
name_rows E laws p ok r = go (record_of r.ticket (ledger p)) refl
  where
    held : r.ticket ≢ 0 → Same p r → named (ledger p) r ≡ 0
    held z h =
        named_right (ledger p) r
        (same_record (rule_of E p) (word_count p) p.head.next p (sound_valid E laws p ok) r z h)

    same : (Unknown p r → ⊥) → (b : Bool) → named (ledger p) r ≡ cond b 0 7 → NameNumbers p r (cond b 0 7)
    same known true x =
        let right = record_same p r (named_zero (ledger p) r x) in
        record {
          six = neither (λ h. omega arith) known;
          seven = neither (λ h. omega arith) (λ h. h.1 right);
          zero = both refl (known, right);
        }
    same known false x =
        let other : Same p r → ⊥ = λ h. let z = held (λ q. known (inl q)) h in omega arith in
        record {
          six = neither (λ h. omega arith) known;
          seven = both refl (known, other);
          zero = neither (λ h. omega arith) (λ h. other h.1);
        }

    six : Unknown p r → NameNumbers p r 6
    six unknown = record {
      six = both refl unknown;
      seven = neither (λ h. omega arith) (λ h. h.0 unknown);
      zero = neither (λ h. omega arith) (λ h. h.0 unknown);
    }

    -- the record of the ticket, by whether it is the party's
    own : (s : Row) → record_of r.ticket (ledger p) ≡ some s → (c : Bool) → eqb s.party r.party ≡ c
        → named (ledger p) r ≡ cond c (cond (same_block s r) 0 7) 6
        → NameNumbers p r (cond c (cond (same_block s r) 0 7) 6)
    own s e true c x = same (known_own p r s e (eqb_eq s.party r.party c)) (same_block s r) x
    own s e false c x =
        six (unknown_other (rule_of E p) (word_count p) p.head.next p (sound_valid E laws p ok) r s e
        (eqb_false s.party r.party c))

    go : (o : Option Row) → record_of r.ticket (ledger p) ≡ o → NameNumbers p r (named (ledger p) r)
    go none e = rw (named_none (ledger p) r e) (six (unknown_none p r e))
    go (some s) e = let x = named_some (ledger p) r s e in rw x (own s e (eqb s.party r.party) refl x)

-- the words to keep
bad_keep : (r : Row) (n : ℕ) → keepable n r ≡ false → BadKeep r n
bad_keep r n h = go (ℕ_discrete n 0) (dec_le n r.words)
  where
    go : Dec (n ≡ 0) → Dec (n ≤ r.words) → BadKeep r n
    go (yes z) l = inl z
    go (no z) (no l) = inr (omega arith)
    go (no z) (yes l) = absurd (true≢false (sym (rw (of_le 1 n (omega arith), of_le n r.words l)) ∙ h))

good_keep : (r : Row) (n : ℕ) → keepable n r ≡ true → BadKeep r n → ⊥
good_keep r n h (inl z) = omega (arith, le_of 1 n (and_l (leb 1 n) (leb n r.words) h))
good_keep r n h (inr l) = omega (arith, le_of n r.words (and_r (leb 1 n) (leb n r.words) h))

-- 6 and 7 as for a release, and behind them 2
cut_rows : (p : Pool) (r : Row) (n x : ℕ) → NameNumbers p r x → x ≢ 2
    → CutNumbers p r n (cond (eqb x 0) (cond (keepable n r) 0 2) x)
cut_rows p r n x N other = go (ℕ_discrete x 0)
  where
    kept : (Unknown p r → ⊥) → Same p r → (b : Bool) → keepable n r ≡ b → CutNumbers p r n (cond b 0 2)
    kept known right true e = record {
      six = neither (λ h. omega arith) known;
      seven = neither (λ h. omega arith) (λ h. h.1 right);
      two = neither (λ h. omega arith) (λ h. good_keep r n e h.2);
      zero = both refl (known, right, good_keep r n e);
    }
    kept known right false e = record {
      six = neither (λ h. omega arith) known;
      seven = neither (λ h. omega arith) (λ h. h.1 right);
      two = both refl (known, right, bad_keep r n e);
      zero = neither (λ h. omega arith) (λ h. h.2 (bad_keep r n e));
    }

    go : Dec (x ≡ 0) → CutNumbers p r n (cond (eqb x 0) (cond (keepable n r) 0 2) x)
    go (yes z) =
        let (known, right) = N.zero.0 z in
        let e : eqb x 0 ≡ true = ap (λ k. eqb k 0) z in
        rw e (kept known right (keepable n r) refl)
    go (no d) =
        rw (eqb_ne x 0 d)
        (record {
          six = N.six;
          seven = N.seven;
          two = neither other (λ h. d (N.zero.1 (h.0, h.1)));
          zero = neither d (λ h. d (N.zero.1 (h.0, h.1)));
        })

name_not_two : (p : Pool) (r : Row) → named (ledger p) r ≢ 2
name_not_two p r e = go (record_of r.ticket (ledger p)) refl
  where
    last : (c b : Bool) → ◌≡◌ {A = ℕ} (cond c (cond b 0 7) 6) 2 → ⊥
    last true true h = omega arith
    last true false h = omega arith
    last false b h = omega arith

    go : (o : Option Row) → record_of r.ticket (ledger p) ≡ o → ⊥
    go none x = omega (arith, sym (named_none (ledger p) r x) ∙ e)
    go (some s) x =
        last (eqb s.party r.party) (same_block s r) (sym (named_some (ledger p) r s x) ∙ e)

pub act_numbers : (E : Engine) → Laws E → (p : Pool) (a : Act) → sound E p ≡ true → ActNumbers E p a (number_of E p a)
unfolding number_of
act_numbers E laws p (ask c n) ok = (
  (λ h. rw h),
  (λ h. rw h (ask_rows E p n (eqb n 0 || ltb (E.limit p.shape) n) (full (ledger p)) (eqb p.head.next 0)
      (fit_of E p n) (size_test E p n) (record_test p) (ticket_test p) (room_test E p n))),
)
act_numbers E laws p (give r) ok = name_rows E laws p ok r
act_numbers E laws p (query r) ok = name_rows E laws p ok r
act_numbers E laws p (cut r n) ok =
    cut_rows p r n (named (ledger p) r) (name_rows E laws p ok r) (name_not_two p r)
act_numbers E laws p bad ok = refl

-- ---- 12

party_test : (o : Option ℕ) → (right_party o ≡ false) ↔ ((x : ℕ) × (o ≡ some x) × ((x ≡ 0) ⊎ (255 < x)))
unfolding is_party
party_test none = neither true≢false (λ h. absurd_some h.1)
party_test (some c) = (
  (λ h. (c, refl, go (leb 1 c) (leb c 255) refl refl h)),
  (λ h. let same : h.0 ≡ c = let e = h.1 in cc in ap is_party (sym same) ∙ none_is h.0 h.2),
)
  where
    go : (a b : Bool) → leb 1 c ≡ a → leb c 255 ≡ b → (a && b) ≡ false → (c ≡ 0) ⊎ (255 < c)
    go true true x y h = absurd (true≢false h)
    go true false x y h = inr (not_le c 255 y)
    go false b x y h = inl (let l = not_le 1 c x in omega arith)

    none_is : (x : ℕ) → (x ≡ 0) ⊎ (255 < x) → is_party x ≡ false
    none_is x (inl z) = rw z
    none_is x (inr l) = rw (of_gt x 255 l, and-false (leb 1 x))

-- ---- a refused call

abbrev number_in : Outcome → ℕ
number_in o = o.answer.number

module _ (E : Engine) where
  pub refused_act_lem : (p : Pool) (a : Act) → accepted (answer_to E p a) ≡ false
      → (answer_to E p a ≡ refusal (answer_to E p a).number) × (pool_after E p a ≡ p)
  refused_act_lem p a h =
      let n = answer_number E p a in
      let (x, y) = act_refused E p a (λ z. eqb_false (answer_to E p a).number 0 h (n ∙ z)) in
      (x ∙ ap refusal (sym n), y)

  -- by the gate
  refused_gate : (c : Call Words) (p : Pool) (n : ℕ) → Refused E c p (refused_by E c p n)
  refused_gate c p n = record {
    answer = refl;
    head = refl;
    shape = refl;
    arena = refl;
    table = refl;
    index = refl;
    buffers = refl;
    shown = refl;
  }

  -- by its one act
  refused_one_lem : (c : Call Words) (p : Pool) (a : Act) (o : Outcome) → refused_head E c p ≡ p.head
      → o.answer ≡ answer_to E p a
      → o.pool ≡ pool_after E p a → o.buffers ≡ buffers_of c → o.shown ≡ shown_by c o.answer
      → accepted (answer_to E p a) ≡ false → Refused E c p o
  refused_one_lem c p a o f x y z w h =
      let (u, v) = refused_act_lem p a h in
      let kept = y ∙ v in
      let zeros : o.answer ≡ refusal o.answer.number = x ∙ u ∙ ap (λ (k : Answer). refusal k.number) (sym x) in
      record {
        answer = zeros;
        head = ap (λ (q : Pool). q.head) kept ∙ sym f;
        shape = ap (λ (q : Pool). q.shape) kept;
        arena = ap (λ (q : Pool). q.arena) kept;
        table = ap (λ (q : Pool). q.table) kept;
        index = ap (λ (q : Pool). q.index) kept;
        buffers = z;
        shown = w ∙ ap (shown_by c) zeros;
      }

  refused_run : (c : Call Words) (p : Pool) → accepted (perform E c p).answer ≡ false → Refused E c p (perform E c p)
  unfolding perform acts_done
  refused_run (format first) p h = absurd (true≢false h)
  refused_run (copy old) p h = absurd (true≢false h)
  refused_run (single a) p h = refused_one_lem (single a) p a (perform E (single a) p) refl refl refl refl refl h
  refused_run (look r hold) p h =
      refused_one_lem (look r hold) p (query r) (perform E (look r hold) p) refl refl refl refl refl h
  refused_run (list c rs bs) p h = absurd (true≢false h)

  pub refused_step : (c : Call Words) (p : Pool) → accepted (step E c p).answer ≡ false → Refused E c p (step E c p)
  refused_step c p h = by (step E c p) (way E c p) h
    where
      by : (o : Outcome) → Way E c p o → accepted o.answer ≡ false → Refused E c p o
      by o (stops n g z e) h = subst (Refused E c p) (sym e) (refused_gate c p n)
      by o (runs g e) h =
          subst (Refused E c p) (sym e) (refused_run c p (ap (λ (q : Outcome). accepted q.answer) (sym e) ∙ h))

  -- ---- 11, 8, 1 and 12

  -- the numbers that an act of a party can get: none of these
  of_act : ℕ → Bool
  of_act x = not (eqb x 1) && not (eqb x 8) && not (eqb x 11) && not (eqb x 12)

  act_number : (p : Pool) (a : Act) → partied a ≡ true → of_act (number_of E p a) ≡ true
  unfolding number_of named of_act
  act_number p a h = go a h
    where
      asked : (a b c : Bool) (o : Option ℕ)
          → of_act (cond a 2 (cond b 3 (cond c 4 (elim o [ none ↦ 5 | some k ↦ 0 ])))) ≡ true
      asked true b c o = refl
      asked false true c o = refl
      asked false false true o = refl
      asked false false false none = refl
      asked false false false (some k) = refl

      name : (r : Row) (o : Option Row)
          → of_act (elim o [ none ↦ 6 | some s ↦ cond (eqb s.party r.party) (cond (same_block s r) 0 7) 6 ]) ≡ true
      name r none = refl
      name r (some s) = last (eqb s.party r.party) (same_block s r)
        where
          last : (c b : Bool) → of_act (cond c (cond b 0 7) 6) ≡ true
          last true true = refl
          last true false = refl
          last false b = refl

      kept : (c b : Bool) (x : ℕ) → of_act x ≡ true → of_act (cond c (cond b 0 2) x) ≡ true
      kept true true x h = refl
      kept true false x h = refl
      kept false b x h = h

      go : (a : Act) → partied a ≡ true → of_act (number_of E p a) ≡ true
      go (ask c n) h =
          rw h
          (asked (eqb n 0 || ltb (E.limit p.shape) n) (full (ledger p)) (eqb p.head.next 0) (fit_of E p n))
      go (give r) h = name r (record_of r.ticket (ledger p))
      go (query r) h = name r (record_of r.ticket (ledger p))
      go (cut r n) h =
          kept (eqb (named (ledger p) r) 0) (keepable n r) (named (ledger p) r)
          (name r (record_of r.ticket (ledger p)))
      go bad h = refl

  -- nor does a call that the gate lets pass
  run_number : (c : Call Words) (p : Pool) → gate E c p ≡ 0 → of_act (perform E c p).answer.number ≡ true
  unfolding perform acts_done of_act
  run_number c p g = go c g
    where
      acted : (a : Act) → partied a ≡ true → of_act (answer_to E p a).number ≡ true
      acted a h = ap of_act (answer_number E p a) ∙ act_number p a h

      go : (c : Call Words) → gate E c p ≡ 0 → of_act (perform E c p).answer.number ≡ true
      go (format first) g = refl
      go (copy old) g = refl
      go (single a) g = acted a (sound_gate E (single a) p refl g).2
      go (look r hold) g = acted (query r) (sound_gate E (look r hold) p refl g).2
      go (list c rs bs) g = refl

  -- they come from the gate alone
  gate_gives : (c : Call Words) (p : Pool) (n : ℕ) → n ≢ 0 → of_act n ≡ false
      → ((step E c p).answer.number ≡ n) ↔ (gate E c p ≡ n)
  gate_gives c p n z other = by (step E c p) (way E c p)
    where
      by : (o : Outcome) → Way E c p o → (o.answer.number ≡ n) ↔ (gate E c p ≡ n)
      by o (stops k g y e) = (λ h. g ∙ sym (ap number_in e) ∙ h, λ h. ap number_in e ∙ sym g ∙ h)
      by o (runs g e) =
          neither
          (λ h. false≢true (sym other ∙ ap of_act (sym h ∙ ap number_in e) ∙ run_number c p g))
          (λ h. z (sym h ∙ g))

  then_iff : {P Q R : Type 0} → P ↔ Q → Q ↔ R → P ↔ R
  then_iff f g = (λ h. g.0 (f.0 h), λ h. f.1 (g.1 h))

  eleven_step : (c : Call Words) (p : Pool) → ((step E c p).answer.number ≡ 11) ↔ (known_form E c p ≡ false)
  unfolding of_act
  eleven_step c p = then_iff (gate_gives c p 11 (λ z. omega arith) refl) (gate_number E c p).eleven

  eight_step : (c : Call Words) (p : Pool) → ((step E c p).answer.number ≡ 8)
      ↔ ((known_form E c p ≡ true) × (right_lengths E c p ≡ false))
  unfolding of_act
  eight_step c p = then_iff (gate_gives c p 8 (λ z. omega arith) refl) (gate_number E c p).eight

  -- the number of a format or a copy is the gate's
  filling_number : (c : Call Words) (p : Pool) → fills c ≡ true → (step E c p).answer.number ≡ gate E c p
  unfolding perform
  filling_number c p f = by (step E c p) (way E c p)
    where
      done : (c : Call Words) → fills c ≡ true → (perform E c p).answer.number ≡ 0
      done (format first) f = refl
      done (copy old) f = refl
      done (single a) f = absurd (false≢true f)
      done (look r hold) f = absurd (false≢true f)
      done (list c rs bs) f = absurd (false≢true f)

      by : (o : Outcome) → Way E c p o → o.answer.number ≡ gate E c p
      by o (stops n g z e) = ap number_in e ∙ sym g
      by o (runs g e) = ap number_in e ∙ done c f ∙ sym g

  pub format_number_lem : (p : Pool) (first : ℕ) → (step E (format first) p).answer.number ≡ gate E (format first) p
  format_number_lem p first = filling_number (format first) p refl

  format_numbers : (p : Pool) (first : ℕ)
      → FormatNumbers (lengths E p) first (step E (format first) p).answer.number
  format_numbers p first = rw (format_number_lem p first) (record { six = six; zero = zero })
    where
      g : GateNumber (E.known p.shape) (lengths E p && true) true (eqb first 0) (stored E p) true
          (gate E (format first) p)
      g = gate_number E (format first) p

      right : (lengths E p && true) ≡ true → lengths E p ≡ true
      right h = and_l (lengths E p) true h

      six : (gate E (format first) p ≡ 6) ↔ ((lengths E p ≡ true) × (first ≡ 0))
      six = (
        (λ h. let (_, l, z) = g.six.0 h in (right l, eqb_eq first 0 z)),
        (λ h. g.six.1 (refl, and_i (lengths E p) true h.0 refl, ap (λ n. eqb n 0) h.1)),
      )

      zero : (gate E (format first) p ≡ 0) ↔ ((lengths E p ≡ true) × (first ≢ 0))
      zero = (
        (λ h. let (l, _, z) = g.zero.0 h in (right l, eqb_false first 0 (z refl))),
        (λ h. g.zero.1
            (and_i (lengths E p) true h.0 refl, λ f. absurd (true≢false f), λ _. eqb_ne first 0 h.1)),
      )

  -- a copy goes by its two tables
  pub copy_done_lem : (p : Pool) (old : Words) → copy_suits old p.table ≡ true → step E (copy old) p ≡ copy_done E old p
  unfolding step perform
  copy_done_lem p old h =
      rw ((gate_number E (copy old) p).zero.1 (h, λ f. absurd (true≢false f), λ _. refl))

  copied_long : (p : Pool) (old : Words) → copy_suits old p.table ≡ true
      → length (table_of (copied old)) ≡ length p.table
  unfolding copied
  copied_long p old h =
      let k = length old / old_words in
      let long = eqb_eq (length p.table) (record_words * k) (search and_r) in
      length_table_of (copied old) ∙ ap (λ n. record_words * n) (length_list_from (widened_at old) 0 k) ∙ sym long

  pub copies_at : (p : Pool) (old : Words) → Copies E old p (step E (copy old) p)
  copies_at p old =
      let g = gate_number E (copy old) p in
      let same = filling_number (copy old) p refl in
      record {
        eight = (λ h. (g.eight.0 (sym same ∙ h)).1, λ h. same ∙ g.eight.1 (refl, h));
        zero = (λ h. (g.zero.0 (sym same ∙ h)).0, λ h. same ∙ g.zero.1 (h, λ f. absurd (true≢false f), λ _. refl));
        done = λ h. subst (λ (o : Outcome). (o.answer ≡ zero_answer) × (ledger o.pool ≡ copied old)
            × (length o.pool.table ≡ length p.table) × (o.pool ≡ with_table o.pool.table p))
            (sym (copy_done_lem p old h)) (refl, records_table (copied old), copied_long p old h, refl);
      }

  acts_performed : (c : Call Words) (p : Pool) → Performed E c p (acts_done E c p)
  unfolding acts_done
  acts_performed c p = record { counted = refl; pool = refl; answer = refl; shown = refl; buffers = refl }

  module _ (laws : Laws E) where
    one_step : (c : Call Words) (p : Pool) → ((step E c p).answer.number ≡ 1)
        ↔ ((fills c ≡ false) × (right_lengths E c p ≡ true) × (StoredForm E p → ⊥))
    unfolding of_act sound
    one_step c p =
        then_iff (gate_gives c p 1 (λ z. omega arith) refl)
        (then_iff (gate_number E c p).one (
          (λ h. (h.0, h.1, λ s. true≢false (sym (and_r (lengths E p) (stored E p) ((sound_form E laws p).1 s)) ∙ h.2))),
          (λ h. (h.0, h.1, false_of (stored E p) (λ y. h.2 (form c p h.0 h.1 y)))),
        ))
      where
        form : (c : Call Words) (p : Pool) → fills c ≡ false → right_lengths E c p ≡ true → stored E p ≡ true
            → StoredForm E p
        form c p f a y =
            (sound_form E laws p).0
            (and_i (lengths E p) (stored E p) (and_l (lengths E p) (suits c p) (sym (lengths_lent E c p f) ∙ a)) y)

    twelve_step : (c : Call Words) (p : Pool) → ((step E c p).answer.number ≡ 12)
        ↔ ((fills c ≡ false) × (right_lengths E c p ≡ true) × StoredForm E p × BadParty c)
    unfolding of_act sound
    twelve_step c p =
        then_iff (gate_gives c p 12 (λ z. omega arith) refl)
        (then_iff (gate_number E c p).twelve (
          (λ h. (
            h.0,
            h.1,
            (sound_form E laws p).0 (and_i (lengths E p) (stored E p)
                (and_l (lengths E p) (suits c p) (sym (lengths_lent E c p h.0) ∙ h.1)) h.2),
            (party_test (party_given c)).0 h.3,
          )),
          (λ h. (
            h.0,
            h.1,
            and_r (lengths E p) (stored E p) ((sound_form E laws p).1 h.2),
            (party_test (party_given c)).1 h.3,
          )),
        ))

-- ---- look

-- the outcome of a look, beside that of a find
abbrev Looked : Pool → Row → Outcome → Outcome → Type 0
Looked p r f o =
    (o.answer ≡ f.answer) × (o.pool ≡ p)
    × (accepted f.answer ≡ true → o.shown ≡ arena_part r.address r.words)
    × (accepted f.answer ≡ false → o.shown ≡ placeholder)

pub looks_at : (E : Engine) (p : Pool) (r : Row) (hold : Words) → Looked p r (step E (find r) p) (step E (look r hold) p)
unfolding step gate behind perform acts_done
looks_at E p r hold = go (E.known p.shape) (lengths E p && true) (stored E p) (is_party r.party)
  where
    -- refused by 11, 8, 1 or 12, both show the placeholder
    stopped : (n : ℕ) → eqb n 0 ≡ false → Looked p r (refused_by E (find r) p n) (refused_by E (look r hold) p n)
    stopped n z = (refl, refl, λ h. absurd (false≢true (sym z ∙ h)), λ h. rw h)

    by : Call Words → Bool → Bool → Bool → Bool → Outcome
    by c k a b d =
        let n : ℕ = cond k (cond a (cond b (cond d 0 12) 1) 8) 11 in
        cond (eqb n 0) (perform E c p) (refused_by E c p n)

    go : (k a b d : Bool) → Looked p r (by (find r) k a b d) (by (look r hold) k a b d)
    go false a b d = stopped 11 refl
    go true true true true = (refl, reads_kept E p (query r) refl, λ h. rw h, λ h. rw h)
    go true true true false = stopped 12 refl
    go true true false d = stopped 1 refl
    go true false b d = stopped 8 refl

finds_at : (E : Engine) (p : Pool) (r : Row) → (step E (find r) p).pool ≡ p
unfolding perform acts_done
finds_at E p r = by (step E (find r) p) (way E (find r) p)
  where
    by : (o : Outcome) → Way E (find r) p o → o.pool ≡ p
    by o (stops n g z e) = ap (λ (q : Outcome). q.pool) e
    by o (runs g e) = ap (λ (q : Outcome). q.pool) e ∙ reads_kept E p (query r) refl

-- ---- lists

-- spare words that are not zero, and a kind that is neither
request_forms_lem : RequestForms
request_forms_lem =
    record {
      asks = λ c n. refl;
      gives = λ c t a w. refl;
      others = λ c k x y z spare give. rw (tests k y z spare, eqb_ne k 2 give);
    }
  where
    tests : (k y z : ℕ) → ((k ≡ 1) × (y ≡ 0) × (z ≡ 0) → ⊥) → (eqb k 1 && eqb y 0 && eqb z 0) ≡ false
    tests k y z spare =
        false_of (eqb k 1 && eqb y 0 && eqb z 0)
        (λ h. spare
        (eqb_eq k 1 (search (and_l, and_r)), eqb_eq y 0 (search (and_l, and_r)), eqb_eq z 0 (search (and_l, and_r))))

list_lengths_lem : (rs bs : Words)
    → Says (list_suits rs bs) ((length rs % 4 ≡ 0) × (length rs ≤ 4096) × (length rs ≤ length bs))
list_lengths_lem rs bs = (
  (λ h. (
    eqb_eq (length rs % 4) 0 (search (and_l, and_r)),
    le_of (length rs) 4096 (search (and_l, and_r)),
    le_of (length rs) (length bs) (search (and_l, and_r)),
  )),
  (λ h. rw (h.0, of_le (length rs) 4096 h.1, of_le (length rs) (length bs) h.2)),
)

copy_lengths_lem : (old new : Words)
    → Says (copy_suits old new)
    ((length old % 3 ≡ 0) × (3 ≤ length old) × (length old ≤ 768) × (length new ≡ 4 * (length old / 3)))
copy_lengths_lem old new =
    let k = length old / 3 in (
      (λ h.
          let few = le_of 1 k (search (and_l, and_r)) in
          let many = le_of k 256 (search (and_l, and_r)) in
          let whole = eqb_eq (length old % 3) 0 (search (and_l, and_r)) in
          (whole, omega arith, omega arith, eqb_eq (length new) (4 * k) (search (and_l, and_r)))),
      (λ h.
          let few : 1 ≤ k = omega arith in
          let many : k ≤ 256 = omega arith in
          rw (h.0, of_le 1 k few, of_le k 256 many, h.3, eqb_same (4 * k))),
    )

pub demand1 : (E : Engine) → Laws E → Demand1 E
demand1 E laws =
    record {
      refused = refused_step E;
      refused_act = refused_act_lem E;
      eleven = eleven_step E;
      eight = eight_step E;
      one = one_step E laws;
      twelve = twelve_step E laws;
      copies = copies_at E;
      formats = format_numbers E;
      performed = λ c p f s ok h. subst (Performed E c p) (sym (step_sound E c p f s ok h)) (acts_performed E c p);
      numbers = λ p a ok. subst (ActNumbers E p a) (sym (answer_number E p a)) (act_numbers E laws p a ok);
      in_turn = λ p xs ys. counted_append E xs ys p;
      finds = finds_at E;
      looks = looks_at E;
      request_forms = request_forms_lem;
      list_lengths = list_lengths_lem;
      copy_lengths = copy_lengths_lem;
    }
