-- Demand 3 is not empty: releases and trims of any live records, each on the pool whole, in any order, are a sequence
-- that it speaks of. 01, "Demand 3 is one single claim about the whole sequence"; 02, ticket 13. Assumes nothing.
use Prim.Native.Nat.{ℕ, zero, suc}
use mathlib.Core.Path.{◌≡◌, refl, sym, ap, ap₂, ◌∙◌, subst}
use mathlib.Core.Bool.{Bool, true, false, not, ◌&&◌, ◌||◌, or-true}
use mathlib.Core.List.{List, [], ◌∷◌, map}
use mathlib.Core.Option.{none}
use lib.Dec.{eqb}
use lib.ListN.{length}
use Rattle.words.specs.Lists.{Words, all, list_from}
use Rattle.words.proofs.Tests.{eqb_eq, eqb_same, absurd_some}
use Rattle.words.proofs.ListLaws.{same_words_same, length_list_from}
use Rattle.ledger.specs.declared.Row.{Row}
use Rattle.ledger.specs.Records.{Ledger, Plan, Member, member, plan_for}
use Rattle.calls.specs.declared.Answer.{Answer}
use Rattle.calls.specs.Pool.{Pool, ledger, Engine, Laws, sound}
use Rattle.calls.specs.Step.{Call, single, accepted, Act, Kind, answer_to, Counted, Outcome, zero_answer, nothing}
use Rattle.calls.specs.Step.{acts_done, step, named}
use Rattle.calls.specs.Lent.{Part, in_arena, in_table, in_index, Buffer, own, are_own, is_all_of, Event, on_whole}
use Rattle.calls.specs.Lent.{is_whole, outcome, after}
use Rattle.calls.specs.Demand3.{Brings, Progress, remove, is_due, stands_as, stands, stand_all, after_acts, brings}
use Rattle.calls.specs.Demand3.{elsewhere, follows, at_start, Sequence, settled_for}
use Rattle.calls.proofs.StoreLaws.{settled, settled_none}
use Rattle.calls.proofs.ActLaws.{planned, kind_planned}
use Rattle.calls.proofs.CallLaws.{plan_party}
use Rattle.calls.proofs.GateLaws.{step_sound}
use Rattle.calls.proofs.LentLaws.{whole_brings, whole_table, outcome_is}
use Rattle.calls.proofs.ProgressLaws.{plan_other, plan_removed, plan_is, Inv, given}
use Rattle.calls.proofs.WholeCalls.{all_own, told_accepted, due_after, due_act, some_party, whole_sound}
use Rattle.calls.proofs.Demand3.{settled_fits, start_inv, Moved, event}

-- an outcome with the pool p
abbrev performed : Pool → Outcome
performed p = record { answer = zero_answer; counted = []; shown = nothing; pool = p; buffers = [] }

-- a record with what is settled for it
pub record Deed : Type 0 where
  pub plan : Plan
  pub row : Row

abbrev pub as_member : Deed → Member
as_member d = member d.row.ticket d.plan

abbrev pub as_call : {B : Type 0} → Deed → Call B
as_call d = single (planned d.plan d.row)

abbrev pub members : List Deed → List Member
members ds = map as_member ds

abbrev pub deeds : Pool → List Deed → List Event
deeds p ds = map (λ d. on_whole p (as_call d)) ds

-- live records with different tickets
abbrev pub Different : Ledger → List Deed → Type 0
Different L [] = Unit {0}
Different L (d ∷ ds) =
    (named L d.row ≡ 0) × (plan_for d.row.ticket (members ds) ≡ none) × Different L ds

-- a list of members with no plan for any ticket
no_plan : (ms : List Member) → ((t : ℕ) → plan_for t ms ≡ none) → ms ≡ []
no_plan [] h = refl
no_plan (m ∷ ms) h = absurd (absurd_some {a = m.plan} (sym (h m.ticket) ∙ rw (eqb_same m.ticket)))

-- the words of a part, one after another, are all of it
own_from : (q : Part) (i n : ℕ) → are_own q i (list_from (own q) i n) ≡ true
own_from q i zero = refl
own_from in_arena i (suc n) = rw (eqb_same i) (own_from in_arena (suc i) n)
own_from in_table i (suc n) = rw (eqb_same i) (own_from in_table (suc i) n)
own_from in_index i (suc n) = rw (eqb_same i) (own_from in_index (suc i) n)

all_own_part : (q : Part) (x : Words) (n : ℕ) → length x ≡ n → is_all_of q x (list_from (own q) 0 n) ≡ true
all_own_part q x n e = rw (length_list_from (own q) 0 n, e, eqb_same n) (own_from q 0 n)

module _ (E : Engine) (laws : Laws E) (p : Pool) (ok : sound E p ≡ true) (ms : List Member)
    (suit : all (settled_for E (ledger p)) ms ≡ true) where
  -- the pool is brought whole all along: its lengths stay
  is_whole_lem : (past : List Member) (q : Pool) → q ≡ settled E p past → (c : Call Buffer)
      → is_whole q (on_whole p c) ≡ true
  unfolding is_whole
  is_whole_lem past q e c =
      let f = settled_fits E laws p ok ms suit past [] q (performed p) e
      (sym (unfold settled in settled_none E laws p ok)) in
      rw (
        same_words_same q.head.own,
        eqb_same q.head.next,
        f.shape,
        eqb_same q.shape,
        all_own_part in_arena q.arena (length p.arena) (sym f.arena),
        all_own_part in_table q.table (length p.table) (sym f.table),
        all_own_part in_index q.index (length p.index) (sym f.index),
      )

  module _ (x : Deed) (xs : List Deed) (s : Progress) (q : Pool) (e : q ≡ settled E p s.done) (v : Inv ms s)
      (d : (t : ℕ) → plan_for t s.due ≡ plan_for t (members (x ∷ xs))) (right : named (ledger p) x.row ≡ 0)
      (once : plan_for x.row.ticket (members xs) ≡ none) where
    abbrev r : Row
    r = x.row

    abbrev act : Act
    act = planned x.plan x.row

    here : Event
    here = on_whole p (as_call x)

    answer : Answer
    answer = answer_to E q act

    due : is_due (ledger p) all_own s x.plan r ≡ true
    unfolding is_due
    due = rw (d r.ticket, eqb_same r.ticket, plan_is x.plan, right)

    taken : accepted answer ≡ true
    unfolding answer
    taken =
        ap accepted (due_act E laws p ok ms suit s q e v act x.plan r (kind_planned x.plan r) due).0
        ∙ told_accepted x.plan r

    own_all : brings q here ≡ all_own
    unfolding here
    own_all =
        let w : is_whole q here ≡ true = is_whole_lem s.done q e (as_call x) in
        λ i. record { whole = w i; table = whole_table q here w i }

    counts : (outcome E q here).counted ≡ given act answer ∷ []
    unfolding here acts_done answer
    counts =
        ap (λ (o : Outcome). o.counted) (
        outcome_is E q here
        ∙ ap (λ (z : Pool). step E (as_call x) z) (whole_brings q here (is_whole_lem s.done q e (as_call x)))
        ∙ step_sound E (as_call x) q refl refl (whole_sound E laws p ok ms suit s q e v)
        (plan_party act x.plan r (kind_planned x.plan r) ∙ some_party E laws p ok r right))

    stand : stand_all (ledger p) (brings q here) s (outcome E q here).counted ≡ true
    unfolding stands
    stand =
        ap₂ (λ (b : Brings) (cs : List Counted). stand_all (ledger p) b s cs) own_all counts
        ∙ ap (λ (k : Kind). stands_as (ledger p) all_own s k answer && true) (kind_planned x.plan r) ∙ rw due

    later : Progress
    later = after_acts (ledger p) (brings q here) s (outcome E q here).counted

    left : (t : ℕ) → plan_for t later.due ≡ plan_for t (members xs)
    unfolding later
    left t =
        ap (plan_for t)
        (ap₂ (λ (b : Brings) (cs : List Counted). (after_acts (ledger p) b s cs).due) own_all counts
        ∙ ap (λ (z : Progress). z.due)
        (due_after (ledger p) s x.plan r due act (kind_planned x.plan r) answer taken))
        ∙ go (eqb r.ticket t) refl
      where
        go : (b : Bool) → eqb r.ticket t ≡ b → plan_for t (remove r.ticket s.due) ≡ plan_for t (members xs)
        go true e =
            let q : r.ticket ≡ t = eqb_eq r.ticket t e in
            subst (λ (k : ℕ). plan_for k (remove r.ticket s.due) ≡ plan_for k (members xs)) q
            (plan_removed r.ticket s.due ∙ sym once)
        go false e = plan_other t r.ticket e s.due ∙ d t ∙ rw e

    quietly : (not (accepted (outcome E q here).answer) || elsewhere here.call) ≡ true
    unfolding here
    quietly = or-true (not (accepted (outcome E q here).answer))

    moved : Moved E laws p ok ms suit s q here
    moved = event E laws p ok ms suit s q here e v stand quietly

  from : (xs : List Deed) (s : Progress) (q : Pool) → q ≡ settled E p s.done → Inv ms s
      → ((t : ℕ) → plan_for t s.due ≡ plan_for t (members xs)) → Different (ledger p) xs
      → follows E (ledger p) s q (deeds p xs) ≡ true
  unfolding here later
  from [] s q e v d h = rw (no_plan s.due d)
  from (x ∷ xs) s q e v d h =
      let m = moved x xs s q e v d h.0 h.1 in
      let rest = from xs (later x xs s q e v d h.0 h.1) (after E q (on_whole p (as_call x))) m.pool m.inv
      (left x xs s q e v d h.0 h.1) h.2 in
      rw (stand x xs s q e v d h.0 h.1, quietly x xs s q e v d h.0 h.1) rest

-- The set `ms` in any order: `xs` are its live records, with different tickets, each with its plan. Two orders of one set
-- are two such `xs`, and demand 3 speaks of both sequences.
pub any_order : (E : Engine) → Laws E → (p : Pool) → sound E p ≡ true → (ms : List Member)
    → all (settled_for E (ledger p)) ms ≡ true → (xs : List Deed)
    → ((t : ℕ) → plan_for t ms ≡ plan_for t (members xs)) → Different (ledger p) xs → Sequence E p ms (deeds p xs)
any_order E laws p ok ms suit xs same h =
    from E laws p ok ms suit xs (at_start E ms) p (sym (unfold settled in settled_none E laws p ok))
    (start_inv E laws p ok ms suit) same h
