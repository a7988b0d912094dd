-- Laws of records in the slots of the table, and of the changes of a ledger. Assumes nothing.
use Prim.Native.Nat.{ℕ, zero, suc, ◌+◌, ◌*◌, ◌%◌, ◌≤◌, ◌<◌}
use native.Mathlib.Nat.{zero-add, le_of_suc-le-suc}
use native.Mathlib.Omega.{arith}
use mathlib.Core.Path.{◌≡◌, refl, sym, ap, ap₂, ◌∙◌, subst}
use mathlib.Core.Logic.{◌≢◌}
use mathlib.Core.Bool.{Bool, true, false, cond, not, false≢true, and-false}
use mathlib.Core.List.{List, [], ◌∷◌}
use mathlib.Core.Option.{Option, none, some}
use lib.Dec.{eqb, leb}
use lib.ListN.{length, get_or, set, length-map}
use Rattle.words.proofs.ByPlace.{all_of, first_that_at, list_from_shift}
use Rattle.words.specs.Flags.{Says}
use Rattle.words.specs.Lists.{Words, all, pairwise, list_from, is_some}
use Rattle.words.specs.Counted.{lowest}
use Rattle.words.proofs.Tests.{and_l, and_r, not_true, of_not, eqb_eq, eqb_same, eqb_ne, eqb_false, absurd_some}
use Rattle.words.proofs.Tests.{le_of, of_gt}
use Rattle.words.proofs.ListLaws.{all_get_d, first_that_some, length_list_from, get_d_list_from}
use Rattle.words.proofs.CountedLaws.{lowest_some, lowest_none, lowest_nothing}
use Rattle.ledger.specs.declared.Row.{Row}
use Rattle.ledger.specs.declared.Rule.{Rule}
use Rattle.ledger.specs.Records.{row, Ledger, record_words, record_at, slots, records_of, table_of, empty_row}
use Rattle.ledger.specs.Records.{is_empty, is_live}
use Rattle.ledger.specs.Records.{has_ticket, record_of, full, enter, Plan, vacate, keep, Member, member}
use Rattle.ledger.specs.Records.{plan_for, keepable, shortened, carry_out, carry_if, settle}
use Rattle.ledger.specs.Units.{apart}

-- ---- the table, and its records

pub length_table_of : (L : Ledger) → length (table_of L) ≡ record_words * length L
length_table_of [] = refl
length_table_of (r ∷ L) = let ih = length_table_of L in omega arith

pub length_records : (t : Words) → length (records_of t) ≡ slots t
unfolding records_of
length_records t = length_list_from (record_at t) 0 (slots t)

pub record_at_lem : (t : Words) (i : ℕ) → i < slots t → get_or (records_of t) i empty_row ≡ record_at t i
unfolding records_of
record_at_lem t i h = get_d_list_from (record_at t) 0 (slots t) i empty_row h ∙ ap (record_at t) (zero-add i)

-- where slot i + 1 lies, four words further than slot i
slot_next : (i k : ℕ) → record_words * suc i + k ≡ suc (suc (suc (suc (record_words * i + k))))
slot_next i k = omega arith

slot_first : (i : ℕ) → record_words * suc i ≡ suc (suc (suc (suc (record_words * i))))
slot_first i = omega arith

record_next : (a b c d : ℕ) (t : Words) (i : ℕ) → record_at (a ∷ b ∷ c ∷ d ∷ t) (suc i) ≡ record_at t i
record_next a b c d t i = rw (slot_next i 1, slot_next i 2, slot_next i 3, slot_first i)

records_cons : (a b c d : ℕ) (t : Words) → records_of (a ∷ b ∷ c ∷ d ∷ t) ≡ row a b c d ∷ records_of t
unfolding records_of
records_cons a b c d t =
    let whole = a ∷ b ∷ c ∷ d ∷ t in
    let more : slots whole ≡ suc (slots t) = omega arith in
    ap (λ n. list_from (record_at whole) 0 n) more
    ∙ ap (λ (L : Ledger). row a b c d ∷ L)
    (list_from_shift (record_at whole) (record_at t) (record_next a b c d t) 0 (slots t))

pub records_table : (L : Ledger) → records_of (table_of L) ≡ L
unfolding records_of
records_table [] = refl
records_table (r ∷ L) =
    records_cons r.ticket r.address r.words r.party (table_of L)
    ∙ ap (λ (M : Ledger). r ∷ M) (records_table L)

pub table_records : (t : Words) → length t % record_words ≡ 0 → table_of (records_of t) ≡ t
unfolding records_of
table_records [] h = refl
table_records (a ∷ []) h = absurd (omega arith)
table_records (a ∷ b ∷ []) h = absurd (omega arith)
table_records (a ∷ b ∷ c ∷ []) h = absurd (omega arith)
table_records (a ∷ b ∷ c ∷ d ∷ t) h =
    ap table_of (records_cons a b c d t) ∙ ap (λ (s : Words). a ∷ b ∷ c ∷ d ∷ s) (table_records t (omega arith))

-- a table with a record written into slot i, word by word
abbrev pub put : Words → ℕ → Row → Words
put t i r =
    set (set (set (set t (record_words * i) r.ticket) (record_words * i + 1) r.address)
    (record_words * i + 2) r.words) (record_words * i + 3) r.party

put_next : (a b c d : ℕ) (t : Words) (i : ℕ) (r : Row)
    → put (a ∷ b ∷ c ∷ d ∷ t) (suc i) r ≡ a ∷ b ∷ c ∷ d ∷ put t i r
put_next a b c d t i r = rw (slot_next i 1, slot_next i 2, slot_next i 3, slot_first i)

pub records_put : (t : Words) (i : ℕ) (r : Row) → i < slots t → records_of (put t i r) ≡ set (records_of t) i r
records_put [] i r h = absurd (omega arith)
records_put (a ∷ []) i r h = absurd (omega arith)
records_put (a ∷ b ∷ []) i r h = absurd (omega arith)
records_put (a ∷ b ∷ c ∷ []) i r h = absurd (omega arith)
records_put (a ∷ b ∷ c ∷ d ∷ t) zero r h =
    records_cons r.ticket r.address r.words r.party t
    ∙ ap (λ (L : Ledger). set L 0 r) (sym (records_cons a b c d t))
records_put (a ∷ b ∷ c ∷ d ∷ t) (suc i) r h =
    ap records_of (put_next a b c d t i r)
    ∙ records_cons a b c d (put t i r)
    ∙ ap (λ (L : Ledger). row a b c d ∷ L) (records_put t i r (omega arith))
    ∙ ap (λ (L : Ledger). set L (suc i) r) (sym (records_cons a b c d t))

-- ---- a ledger with some plans carried out

pub settle_nil : (L : Ledger) → settle [] L ≡ L
settle_nil [] = refl
settle_nil (r ∷ L) = ap (λ (M : Ledger). r ∷ M) (settle_nil L)

pub settle_same : (ms ns : List Member) → ((t : ℕ) → plan_for t ms ≡ plan_for t ns) → (L : Ledger)
    → settle ms L ≡ settle ns L
settle_same ms ns h [] = refl
settle_same ms ns h (r ∷ L) = ap₂ (λ (s : Row) (M : Ledger). s ∷ M) (rw (h r.ticket)) (settle_same ms ns h L)

-- what holds of an emptied record, of a shorter one and of one that stays holds of every record that is carried
pub carry_by : (P : Row → Plan → Row → Type 0) → ((r : Row) → P r vacate empty_row)
    → ((r : Row) (n : ℕ) → 1 ≤ n → n ≤ r.words → P r (keep n) (shortened n r))
    → ((r : Row) (q : Plan) → P r q r) → (r : Row) (q : Plan) → P r q (carry_out q r)
carry_by P gone cut same r vacate = gone r
carry_by P gone cut same r (keep n) = go (keepable n r) refl
  where
    go : (b : Bool) → keepable n r ≡ b
        → P r (keep n) (cond b (shortened n r) r)
    go true h =
        cut r n (le_of 1 n (and_l (leb 1 n) (leb n r.words) h))
        (le_of n r.words (and_r (leb 1 n) (leb n r.words) h))
    go false h = same r (keep n)

-- an emptied record stays empty
carry_empty : (q : Plan) → carry_out q empty_row ≡ empty_row
carry_empty vacate = refl
carry_empty (keep zero) = refl
carry_empty (keep (suc n)) = rw (of_gt (suc n) 0 (omega arith), and-false (leb 1 (suc n)))

empty_stays : (o : Option Plan) → carry_if o empty_row ≡ empty_row
empty_stays none = refl
empty_stays (some q) = carry_empty q

-- a shorter record keeps its ticket
pub keep_ticket : (n : ℕ) (r : Row) → (carry_out (keep n) r).ticket ≡ r.ticket
keep_ticket n r = go (keepable n r)
  where
    go : (b : Bool) → (cond b (shortened n r) r).ticket ≡ r.ticket
    go true = refl
    go false = refl

-- one more plan, for a ticket that has none yet
pub settle_more : (m : Member) (ms : List Member) → plan_for m.ticket ms ≡ none → (L : Ledger)
    → settle (m ∷ []) (settle ms L) ≡ settle (m ∷ ms) L
settle_more m ms new [] = refl
settle_more m ms new (r ∷ L) =
    ap₂ (λ (s : Row) (M : Ledger). s ∷ M) (go (plan_for r.ticket ms) refl) (settle_more m ms new L)
  where
    -- a record with a plan has another ticket
    other : (q : Plan) → plan_for r.ticket ms ≡ some q → eqb m.ticket r.ticket ≡ false
    other q e = eqb_ne m.ticket r.ticket (λ t. absurd_some (sym new ∙ ap (λ k. plan_for k ms) t ∙ e))

    go : (o : Option Plan) → plan_for r.ticket ms ≡ o → carry_if (plan_for (carry_if o r).ticket (m ∷ [])) (carry_if o r)
        ≡ carry_if (cond (eqb m.ticket r.ticket) (some m.plan) o) r
    go none e = refl
    go (some vacate) e = rw (other vacate e) (empty_stays (plan_for 0 (m ∷ [])))
    go (some (keep n)) e = rw (other (keep n) e, keep_ticket n r, other (keep n) e)

pub length_settle : (ms : List Member) (L : Ledger) → length (settle ms L) ≡ length L
length_settle ms L = length-map L (λ r. carry_if (plan_for r.ticket ms) r)

same_length : (L M : Ledger) → length L ≡ length M → length (table_of L) ≡ length (table_of M)
same_length L M e = length_table_of L ∙ ap (λ n. record_words * n) e ∙ sym (length_table_of M)

pub length_table_settle : (ms : List Member) (L : Ledger) → length (table_of (settle ms L)) ≡ length (table_of L)
length_table_settle ms L = same_length (settle ms L) L (length_settle ms L)

-- ---- the record of a ticket

pub record_zero : (L : Ledger) → record_of 0 L ≡ none
record_zero [] = refl
record_zero (r ∷ L) = record_zero L

-- an empty record is four zeros: ticket 0 with an address, words or a party is none
pub empty_row_lem : (r : Row) → Says (is_empty r) (r ≡ empty_row)
empty_row_lem r = (
  (λ h.
      let t = eqb_eq r.ticket 0 (search (and_l, and_r)) in
      let a = eqb_eq r.address 0 (search (and_l, and_r)) in
      let w = eqb_eq r.words 0 (search (and_l, and_r)) in
      let c = eqb_eq r.party 0 (search (and_l, and_r)) in
      λ i. record { ticket = t i; address = a i; words = w i; party = c i }),
  (λ e. ap is_empty e),
)

pub has_ticket_lem : (t : ℕ) (r : Row) → Says (has_ticket t r) ((t ≢ 0) × (r.ticket ≡ t))
has_ticket_lem t r = (
  (λ h. (
    eqb_false t 0 (not_true (eqb t 0) (and_l (not (eqb t 0)) (eqb r.ticket t) h)),
    eqb_eq r.ticket t (and_r (not (eqb t 0)) (eqb r.ticket t) h),
  )),
  (λ (z, e). rw (eqb_ne t 0 z, e, eqb_same t)),
)

pub record_ticket : (t : ℕ) (L : Ledger) (r : Row) → record_of t L ≡ some r → (t ≢ 0) × (r.ticket ≡ t)
record_ticket t L r e = (has_ticket_lem t r).0 (first_that_some (has_ticket t) L r e)

pub record_slot : (t : ℕ) (L : Ledger) (r : Row) → record_of t L ≡ some r
    → (i : ℕ) × (i < length L) × (get_or L i empty_row ≡ r)
record_slot t L r e = first_that_at (has_ticket t) empty_row L r e

-- no ticket is an empty record's
no_ticket : (t : ℕ) → has_ticket t empty_row ≡ false
no_ticket zero = refl
no_ticket (suc t) = rw (eqb_ne 0 (suc t) (λ e. omega arith)) (and-false (not (eqb (suc t) 0)))

-- what a ticket has after the plans: a released one no record, a trimmed one its record with the words kept, and any
-- other the one it had
abbrev pub carried : Option Plan → Option Row → Option Row
carried none x = x
carried (some vacate) x = none
carried (some (keep n)) none = none
carried (some (keep n)) (some r) = some (carry_out (keep n) r)

pub record_settled : (t : ℕ) (ms : List Member) (L : Ledger)
    → record_of t (settle ms L) ≡ carried (plan_for t ms) (record_of t L)
record_settled t ms [] = nothing (plan_for t ms)
  where
    nothing : (o : Option Plan) → none ≡ carried o none
    nothing none = refl
    nothing (some vacate) = refl
    nothing (some (keep n)) = refl
record_settled t ms (r ∷ L) = go (has_ticket t r) refl (plan_for r.ticket ms) refl (record_settled t ms L)
  where
    go : (b : Bool) → has_ticket t r ≡ b → (o : Option Plan) → plan_for r.ticket ms ≡ o
        → record_of t (settle ms L) ≡ carried (plan_for t ms) (record_of t L)
        → record_of t (carry_if o r ∷ settle ms L) ≡ carried (plan_for t ms) (cond b (some r) (record_of t L))
    go false h none e ih = rw h ih
    go false h (some vacate) e ih = rw (no_ticket t) ih
    go false h (some (keep n)) e ih = rw (keep_ticket n r, h) ih
    go true h none e ih =
        let q : r.ticket ≡ t = ((has_ticket_lem t r).0 h).1 in
        rw (h, ap (λ k. plan_for k ms) (sym q) ∙ e)
    go true h (some vacate) e ih =
        let q : r.ticket ≡ t = ((has_ticket_lem t r).0 h).1 in
        let p : plan_for t ms ≡ some vacate = ap (λ k. plan_for k ms) (sym q) ∙ e in
        rw (no_ticket t, p) (ih ∙ rw p)
    go true h (some (keep n)) e ih =
        let q : r.ticket ≡ t = ((has_ticket_lem t r).0 h).1 in
        rw (keep_ticket n r, h, ap (λ k. plan_for k ms) (sym q) ∙ e)

pub record_gone : (t : ℕ) (ms : List Member) → plan_for t ms ≡ some vacate → (L : Ledger)
    → record_of t (settle ms L) ≡ none
record_gone t ms h L = record_settled t ms L ∙ rw h

pub record_kept : (t : ℕ) (ms : List Member) → plan_for t ms ≡ none → (L : Ledger)
    → record_of t (settle ms L) ≡ record_of t L
record_kept t ms h L = record_settled t ms L ∙ rw h

-- ---- one slot

module _ (ρ : Rule) where
  tickets_differ : (r s : Row) → apart ρ r s ≡ true → r.ticket ≢ 0 → r.ticket ≢ s.ticket
  unfolding apart
  tickets_differ r s h z e =
      let y : s.ticket ≢ 0 = λ q. z (e ∙ q) in
      let x : eqb r.ticket s.ticket ≡ true = ap (eqb r.ticket) (sym e) ∙ eqb_same r.ticket in
      false≢true (rw (eqb_ne r.ticket 0 z, eqb_ne s.ticket 0 y, x) at h)

  -- no record that is apart from the one of a ticket has that ticket
  settle_others : (r : Row) (L : Ledger) → r.ticket ≢ 0 → all (apart ρ r) L ≡ true
      → (q : Plan) → settle (member r.ticket q ∷ []) L ≡ L
  settle_others r [] z h q = refl
  settle_others r (s ∷ L) z h q =
      let d = tickets_differ r s (and_l (apart ρ r s) (all (apart ρ r) L) h) z in
      rw (eqb_ne r.ticket s.ticket d)
      (ap (λ (M : Ledger). s ∷ M) (settle_others r L z (and_r (apart ρ r s) (all (apart ρ r) L) h) q))

  -- to carry out the plan of a ticket is to do it in its slot
  pub settle_slot : (L : Ledger) (i t : ℕ) (q : Plan) → pairwise (apart ρ) L ≡ true → i < length L → t ≢ 0
      → (get_or L i empty_row).ticket ≡ t → settle (member t q ∷ []) L ≡ set L i (carry_out q (get_or L i empty_row))
  settle_slot [] i t q h l z e = refl
  settle_slot (r ∷ L) zero t q h l z e =
      let apart_all = and_l (all (apart ρ r) L) (pairwise (apart ρ) L) h in
      let others = settle_others r L (λ y. z (sym e ∙ y)) apart_all q in
      let same = subst (λ (k : ℕ). settle (member k q ∷ []) L ≡ L) e others in
      rw (sym e, eqb_same r.ticket) (ap (λ (M : Ledger). carry_out q r ∷ M) same)
  settle_slot (r ∷ L) (suc i) t q h l z e =
      let first = and_l (all (apart ρ r) L) (pairwise (apart ρ) L) h in
      let x = all_get_d (apart ρ r) empty_row L first i (le_of_suc-le-suc l) in
      let d : t ≢ r.ticket = λ y. tickets_differ r (get_or L i empty_row) x (λ k. z (y ∙ k)) (sym y ∙ sym e) in
      rw (eqb_ne t r.ticket d)
      (ap (λ (M : Ledger). r ∷ M)
      (settle_slot L i t q (and_r (all (apart ρ r) L) (pairwise (apart ρ) L) h) (le_of_suc-le-suc l) z e))

-- slot k is empty
abbrev pub empty_at : Ledger → ℕ → Bool
empty_at L k = is_empty (get_or L k empty_row)

enter_at : (r : Row) (L : Ledger) (i : ℕ) → empty_at L i ≡ true → ((j : ℕ) → j < i → empty_at L j ≡ false)
    → enter r L ≡ set L i r
enter_at r [] i h k = refl
enter_at r (s ∷ L) zero h k = rw h
enter_at r (s ∷ L) (suc i) h k =
    rw (k 0 (omega arith)) (ap (λ (M : Ledger). s ∷ M) (enter_at r L i h (λ j l. k (suc j) (omega arith))))

-- a new record goes into the lowest empty slot
pub enter_slot : (r : Row) (L : Ledger) (i : ℕ) → lowest (empty_at L) 0 (length L) ≡ some i → enter r L ≡ set L i r
enter_slot r L i e =
    let l = lowest_some (empty_at L) 0 (length L) i e in
    enter_at r L i l.passes (λ j h. l.least j (omega arith) h)

pub full_none : (L : Ledger) → Says (full L) (lowest (empty_at L) 0 (length L) ≡ none)
full_none L = (
  (λ h. lowest_nothing (empty_at L) 0 (length L)
      (λ k a b. not_true (empty_at L k) (all_get_d is_live empty_row L h k (omega arith)))),
  (λ e. all_of is_live empty_row L
      (λ k b. of_not (empty_at L k) (lowest_none (empty_at L) 0 (length L) e k (omega arith) (omega arith)))),
)

pub length_enter : (r : Row) (L : Ledger) → length (enter r L) ≡ length L
length_enter r [] = refl
length_enter r (s ∷ L) = go (is_empty s) (length_enter r L)
  where
    go : (b : Bool) → length (enter r L) ≡ length L → length (cond b (r ∷ L) (s ∷ enter r L)) ≡ suc (length L)
    go true ih = refl
    go false ih = ap suc ih

pub length_table_enter : (r : Row) (L : Ledger) → length (table_of (enter r L)) ≡ length (table_of L)
length_table_enter r L = same_length (enter r L) L (length_enter r L)
