-- Where a sequence of calls stands, beside the set. Assumes nothing.
use Prim.Native.Nat.{ℕ}
use mathlib.Core.Path.{◌≡◌, refl, sym, ap, ◌∙◌, subst}
use mathlib.Core.Bool.{Bool, true, false, cond, false≢true, true≢false}
use mathlib.Core.List.{List, [], ◌∷◌}
use mathlib.Core.Option.{Option, none, some}
use lib.Dec.{eqb}
use Rattle.words.specs.Lists.{all, is_some}
use Rattle.words.proofs.Tests.{and_l, and_r, eqb_eq, eqb_same, absurd_some}
use Rattle.ledger.specs.declared.Row.{Row}
use Rattle.ledger.specs.Records.{Ledger, record_of, Plan, vacate, keep, feasible, Member, member, plan_for}
use Rattle.calls.specs.declared.Answer.{Answer}
use Rattle.calls.specs.Pool.{Engine}
use Rattle.calls.specs.Step.{accepted, Act, Kind, plans, reads, others, kind_of, Counted}
use Rattle.calls.specs.Demand3.{Brings, Progress, remove, is_plan, is_due, RightAs, Right, after_as, after_act}
use Rattle.calls.specs.Demand3.{settled_for}

-- ---- plans and tickets

abbrev pub or_else : Option Plan → Option Plan → Option Plan
or_else none b = b
or_else (some q) b = some q

pub plan_other : (s t : ℕ) → eqb t s ≡ false → (ms : List Member) → plan_for s (remove t ms) ≡ plan_for s ms
plan_other s t h [] = refl
plan_other s t h (m ∷ ms) = go (plan_other s t h ms) (eqb m.ticket t) refl
  where
    go : plan_for s (remove t ms) ≡ plan_for s ms → (b : Bool) → eqb m.ticket t ≡ b
        → plan_for s (cond (eqb m.ticket t) (remove t ms) (m ∷ remove t ms))
        ≡ cond (eqb m.ticket s) (some m.plan) (plan_for s ms)
    go ih true e = rw e (rw (ap (λ k. eqb k s) (eqb_eq m.ticket t e) ∙ h) ih)
    go ih false e = rw e (rw ih)

pub plan_removed : (t : ℕ) (ms : List Member) → plan_for t (remove t ms) ≡ none
plan_removed t [] = refl
plan_removed t (m ∷ ms) = go (plan_removed t ms) (eqb m.ticket t) refl
  where
    go : plan_for t (remove t ms) ≡ none → (b : Bool) → eqb m.ticket t ≡ b
        → plan_for t (cond (eqb m.ticket t) (remove t ms) (m ∷ remove t ms)) ≡ none
    go ih true e = rw e ih
    go ih false e = rw e (rw e ih)

pub is_plan_lem : (q : Plan) (o : Option Plan) → is_plan q o ≡ true → o ≡ some q
is_plan_lem q none h = absurd (false≢true h)
is_plan_lem vacate (some vacate) h = refl
is_plan_lem vacate (some (keep n)) h = absurd (false≢true h)
is_plan_lem (keep m) (some vacate) h = absurd (false≢true h)
is_plan_lem (keep m) (some (keep n)) h = ap (λ (k : ℕ). some (keep k)) (sym (eqb_eq m n h))

pub plan_is : (q : Plan) → is_plan q (some q) ≡ true
plan_is vacate = refl
plan_is (keep n) = eqb_same n

-- what is settled for a ticket can be carried out on its record
pub set_feasible : (E : Engine) (L : Ledger) (ms : List Member) → all (settled_for E L) ms ≡ true
    → (t : ℕ) (q : Plan) → plan_for t ms ≡ some q → (r : Row) → record_of t L ≡ some r → feasible q r ≡ true
set_feasible E L [] h t q e r k = absurd (absurd_some e)
set_feasible E L (m ∷ ms) h t q e r k =
    let rest = set_feasible E L ms (and_r (settled_for E L m) (all (settled_for E L) ms) h) t q in
    go (eqb m.ticket t) refl e (and_l (settled_for E L m) (all (settled_for E L) ms) h) rest
  where
    go : (b : Bool) → eqb m.ticket t ≡ b → cond b (some m.plan) (plan_for t ms) ≡ some q
        → settled_for E L m ≡ true
        → (plan_for t ms ≡ some q → (r : Row) → record_of t L ≡ some r → feasible q r ≡ true) → feasible q r ≡ true
    go false i e s rest = rest e r k
    go true i e s rest =
        let same : m.plan ≡ q = cc in
        let here : record_of m.ticket L ≡ some r = ap (λ (j : ℕ). record_of j L) (eqb_eq m.ticket t i) ∙ k in
        subst (λ (x : Plan). feasible x r ≡ true) same (rw (here, settled_for) at s)

-- Where a sequence stands: `ms` is the set.
pub record Inv (ms : List Member) (s : Progress) : Type 0 where
  -- a member is due or done
  pub covers : (t : ℕ) → or_else (plan_for t s.due) (plan_for t s.done) ≡ plan_for t ms
  pub fresh : (t : ℕ) → is_some (plan_for t s.due) ≡ true → plan_for t s.done ≡ none

-- a due member's plan is carried out
pub inv_carried : (ms : List Member) (s : Progress) (t : ℕ) (q : Plan) → Inv ms s → plan_for t s.due ≡ some q
    → Inv ms (record { due = remove t s.due; done = member t q ∷ s.done })
inv_carried ms s t q v h = record { covers = λ k. cover k (eqb t k) refl; fresh = λ k d. anew k (eqb t k) refl d }
  where
    cover : (k : ℕ) (b : Bool) → eqb t k ≡ b
        → or_else (plan_for k (remove t s.due)) (cond (eqb t k) (some q) (plan_for k s.done)) ≡ plan_for k ms
    cover k true e =
        let x : t ≡ k = eqb_eq t k e in
        subst (λ (j : ℕ). or_else (plan_for j (remove t s.due)) (cond (eqb t j) (some q) (plan_for j s.done))
        ≡ plan_for j ms) x
        (rw (plan_removed t s.due, eqb_same t)
        (sym (sym (v.covers t) ∙ ap (λ (o : Option Plan). or_else o (plan_for t s.done)) h)))
    cover k false e = rw (e, plan_other k t e s.due) (v.covers k)

    anew : (k : ℕ) (b : Bool) → eqb t k ≡ b → is_some (plan_for k (remove t s.due)) ≡ true
        → cond (eqb t k) (some q) (plan_for k s.done) ≡ none
    anew k true e d =
        absurd (false≢true (sym (ap (λ (o : Option Plan). is_some o)
        (ap (λ (j : ℕ). plan_for j (remove t s.due)) (sym (eqb_eq t k e)) ∙ plan_removed t s.due)) ∙ d))
    anew k false e d = rw e (v.fresh k (ap (λ (o : Option Plan). is_some o) (sym (plan_other k t e s.due)) ∙ d))

-- ---- an act with its answer

abbrev pub given : Act → Answer → Counted
given a x = record { act = some a; answer = x }

module _ (start : Ledger) (b : Brings) (s : Progress) where
  -- an act of this kind is no release or trim of the set
  abbrev pub NotDue : Kind → Type 0
  NotDue (plans q r) = is_due start b s q r ≡ false
  NotDue reads = Unit {0}
  NotDue others = Unit {0}

  pub not_due : b.whole ≡ false → (k : Kind) → NotDue k
  unfolding is_due
  not_due w (plans q r) = rw w
  not_due w reads = tt
  not_due w others = tt

  -- refused, it leaves the sequence where it stands
  pub stays : (a : Act) (x : Answer) → NotDue (kind_of a) → accepted x ≡ false → after_act start b s (given a x) ≡ s
  unfolding after_act
  stays a x d h = go (kind_of a) d
    where
      go : (k : Kind) → NotDue k → after_as start b s k x ≡ s
      go (plans q r) d = rw (d, h)
      go reads d = refl
      go others d = refl

  pub right_stray : (a : Act) (x : Answer) → b.whole ≡ false → accepted x ≡ false → Right start b s (given a x)
  right_stray a x w h = go (kind_of a)
    where
      go : (k : Kind) → RightAs start b s k x
      go (plans q r) = record {
        accepts = λ d. absurd (false≢true (sym (not_due w (plans q r)) ∙ d));
        refuses = λ _. h;
        six = λ _ k _. absurd (true≢false (sym k ∙ w));
        twelve = λ _ k _. absurd (true≢false (sym k ∙ w));
        seven = λ _ k. absurd (true≢false (sym k ∙ w));
      }
      go reads = tt
      go others = tt
