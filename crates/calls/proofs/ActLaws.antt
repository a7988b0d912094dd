-- Laws of one act: what it answers and leaves, done or refused. Assumes nothing.
use Prim.Native.Nat.{ℕ}
use native.Mathlib.Omega.{arith}
use native.Mathlib.Decide.{ℕ_discrete}
use mathlib.Core.Path.{◌≡◌, refl, sym, ap, ◌∙◌, subst}
use mathlib.Core.Logic.{◌≢◌}
use mathlib.Core.Bool.{Bool, true, false, cond, ◌||◌}
use mathlib.Core.List.{List, [], ◌∷◌, ◌++◌}
use mathlib.Core.Option.{Option, none, some}
use lib.Dec.{eqb, ltb}
use Rattle.words.proofs.Tests.{and_l, and_r, eqb_eq, eqb_same, eqb_ne, absurd_some}
use Rattle.ledger.specs.declared.Row.{Row}
use Rattle.ledger.specs.Records.{Ledger, is_party, record_of, same_block, full, Plan, vacate, keep, keepable, feasible}
use Rattle.ledger.proofs.RecordLaws.{record_ticket}
use Rattle.calls.specs.declared.Answer.{Answer}
use Rattle.calls.specs.Pool.{Pool, ledger, Engine}
use Rattle.calls.specs.Step.{success, told, refusal, accepted, Act, ask, give, query, cut, bad, Kind, plans, reads}
use Rattle.calls.specs.Step.{others, kind_of, named, fit_of, number_of, new_row, grant, carry, answer_done, pool_done}
use Rattle.calls.specs.Step.{answer_to, pool_after, counted_of, pool_after_all}

-- ---- the number of release and find

pub named_none : (L : Ledger) (r : Row) → record_of r.ticket L ≡ none → named L r ≡ 6
unfolding named
named_none L r e = rw (e, named)

pub named_some : (L : Ledger) (r s : Row) → record_of r.ticket L ≡ some s
    → named L r ≡ cond (eqb s.party r.party) (cond (same_block s r) 0 7) 6
unfolding named
named_some L r s e = rw (e, named)

same_block_lem : (s r : Row) → s.ticket ≡ r.ticket → s.party ≡ r.party → same_block s r ≡ true → s ≡ r
same_block_lem s r t c h =
    let a = eqb_eq s.address r.address (and_l (eqb s.address r.address) (eqb s.words r.words) h) in
    let w = eqb_eq s.words r.words (and_r (eqb s.address r.address) (eqb s.words r.words) h) in
    λ i. record { ticket = t i; address = a i; words = w i; party = c i }

-- it is 0 exactly if the ticket's record is the one named
pub named_right : (L : Ledger) (r : Row) → record_of r.ticket L ≡ some r → named L r ≡ 0
named_right L r e = named_some L r r e ∙ rw (eqb_same r.party, eqb_same r.address, eqb_same r.words)

pub named_zero : (L : Ledger) (r : Row) → named L r ≡ 0 → record_of r.ticket L ≡ some r
named_zero L r z = go (record_of r.ticket L) refl
  where
    last : (s : Row) → record_of r.ticket L ≡ some s → (c : Bool) → eqb s.party r.party ≡ c
        → (b : Bool) → same_block s r ≡ b → ◌≡◌ {A = ℕ} (cond c (cond b 0 7) 6) 0
        → record_of r.ticket L ≡ some r
    last s e true y true q h =
        e ∙ ap some (same_block_lem s r (record_ticket r.ticket L s e).1 (eqb_eq s.party r.party y) q)
    last s e true y false q h = absurd (omega arith)
    last s e false y b q h = absurd (omega arith)

    go : (o : Option Row) → record_of r.ticket L ≡ o → record_of r.ticket L ≡ some r
    go none e = let six = named_none L r e in absurd (omega arith)
    go (some s) e = last s e (eqb s.party r.party) refl (same_block s r) refl (sym (named_some L r s e) ∙ z)

-- ---- one act

-- the act that carries out a plan on the record r
abbrev pub planned : Plan → Row → Act
planned vacate r = give r
planned (keep n) r = cut r n

-- what a request that gets the number 0 says: every test of its rows fails
pub record Asked (E : Engine) (p : Pool) (c n k : ℕ) : Type 0 where
  pub party : is_party c ≡ true
  pub size : (eqb n 0 || ltb (E.limit p.shape) n) ≡ false
  pub slot : full (ledger p) ≡ false
  pub ticket : eqb p.head.next 0 ≡ false
  pub fit : fit_of E p n ≡ some k

module _ (E : Engine) (p : Pool) where
  pub act_done : (a : Act) → number_of E p a ≡ 0 → (answer_to E p a ≡ answer_done E p a) × (pool_after E p a ≡ pool_done E p a)
  unfolding answer_to pool_after
  act_done a z = (rw z, rw z)

  pub act_refused : (a : Act) → number_of E p a ≢ 0
      → (answer_to E p a ≡ refusal (number_of E p a)) × (pool_after E p a ≡ p)
  unfolding answer_to pool_after
  act_refused a z = (rw (eqb_ne (number_of E p a) 0 z), rw (eqb_ne (number_of E p a) 0 z))

  -- the number of a party's request, test by test: 2, 3, 4, 5 or 0
  module _ (c n : ℕ) (party : is_party c ≡ true) where
    pub number_two : (eqb n 0 || ltb (E.limit p.shape) n) ≡ true → number_of E p (ask c n) ≡ 2
    unfolding number_of
    number_two size = rw (party, size)

    module _ (size : (eqb n 0 || ltb (E.limit p.shape) n) ≡ false) where
      pub number_three : full (ledger p) ≡ true → number_of E p (ask c n) ≡ 3
      unfolding number_of
      number_three slot = rw (party, size, slot)

      module _ (slot : full (ledger p) ≡ false) where
        pub number_four : eqb p.head.next 0 ≡ true → number_of E p (ask c n) ≡ 4
        unfolding number_of
        number_four ticket = rw (party, size, slot, ticket)

        pub number_five : eqb p.head.next 0 ≡ false → fit_of E p n ≡ none → number_of E p (ask c n) ≡ 5
        unfolding number_of
        number_five ticket fit = rw (party, size, slot, ticket, fit, number_of)

  pub zero_ask : (c n k : ℕ) → Asked E p c n k → number_of E p (ask c n) ≡ 0
  unfolding number_of
  zero_ask c n k a = rw (a.party, a.size, a.slot, a.ticket, a.fit)

  pub ask_zero : (c n : ℕ) → number_of E p (ask c n) ≡ 0 → (k : ℕ) × Asked E p c n k
  unfolding number_of
  ask_zero c n z =
      go (is_party c) refl (eqb n 0 || ltb (E.limit p.shape) n) refl (full (ledger p)) refl
      (eqb p.head.next 0) refl (fit_of E p n) refl z
    where
      go : (x : Bool) → is_party c ≡ x → (a : Bool) → (eqb n 0 || ltb (E.limit p.shape) n) ≡ a
          → (b : Bool) → full (ledger p) ≡ b → (d : Bool) → eqb p.head.next 0 ≡ d
          → (o : Option ℕ) → fit_of E p n ≡ o
          → ◌≡◌ {A = ℕ} (cond x (cond a 2 (cond b 3 (cond d 4 (elim o [ none ↦ 5 | some k ↦ 0 ])))) 12) 0
          → (k : ℕ) × Asked E p c n k
      go false y a s b t d u o f h = absurd (omega arith)
      go true y true s b t d u o f h = absurd (omega arith)
      go true y false s true t d u o f h = absurd (omega arith)
      go true y false s false t true u o f h = absurd (omega arith)
      go true y false s false t false u none f h = absurd (omega arith)
      go true y false s false t false u (some k) f h =
          (k, record { party = y; size = s; slot = t; ticket = u; fit = f })

  pub ask_done : (c n k : ℕ) → Asked E p c n k
      → (answer_to E p (ask c n) ≡ success (new_row E p c n k)) × (pool_after E p (ask c n) ≡ grant E p c n k)
  unfolding answer_done pool_done
  ask_done c n k a =
      let (x, y) = act_done (ask c n) (zero_ask c n k a) in
      (x ∙ rw (a.fit, answer_done), y ∙ rw (a.fit, pool_done))

  -- a plan that can be carried out on the record r
  pub plan_done : (q : Plan) (r : Row) → record_of r.ticket (ledger p) ≡ some r → feasible q r ≡ true
      → (answer_to E p (planned q r) ≡ told q r) × (pool_after E p (planned q r) ≡ carry E p r.ticket q)
  unfolding number_of answer_done pool_done
  plan_done vacate r e h = act_done (give r) (named_right (ledger p) r e)
  plan_done (keep n) r e h = act_done (cut r n) (rw (named_right (ledger p) r e, h))

  pub cut_zero : (r : Row) (n : ℕ) → number_of E p (cut r n) ≡ 0
      → (record_of r.ticket (ledger p) ≡ some r) × (keepable n r ≡ true)
  unfolding number_of
  cut_zero r n z = go (ℕ_discrete (named (ledger p) r) 0) (keepable n r) refl
    where
      go : Dec (named (ledger p) r ≡ 0) → (b : Bool) → keepable n r ≡ b
          → (record_of r.ticket (ledger p) ≡ some r) × (keepable n r ≡ true)
      go (no d) b e = absurd (d (rw (eqb_ne (named (ledger p) r) 0 d) at z))
      go (yes y) true e = (named_zero (ledger p) r y, e)
      go (yes y) false e =
          let x : ◌≡◌ {A = ℕ} (cond (eqb (named (ledger p) r) 0) (cond (keepable n r) 0 2) (named (ledger p) r)) 2 =
          rw (y, e) in
          absurd (omega (arith, sym x ∙ z))

  -- an act's answer has its number
  pub answer_number : (a : Act) → (answer_to E p a).number ≡ number_of E p a
  unfolding number_of answer_done
  answer_number a = go a (ℕ_discrete (number_of E p a) 0)
    where
      done : (a : Act) → number_of E p a ≡ 0 → (answer_to E p a).number ≡ 0
      done (ask c n) z = let (k, h) = ask_zero c n z in ap (λ (x : Answer). x.number) (ask_done c n k h).0
      done (give r) z = ap (λ (x : Answer). x.number) (act_done (give r) z).0
      done (query r) z = ap (λ (x : Answer). x.number) (act_done (query r) z).0
      done (cut r n) z = ap (λ (x : Answer). x.number) (act_done (cut r n) z).0
      done bad z = absurd (omega arith)

      go : (a : Act) → Dec (number_of E p a ≡ 0) → (answer_to E p a).number ≡ number_of E p a
      go a (yes z) = done a z ∙ sym z
      go a (no z) = ap (λ (x : Answer). x.number) (act_refused a z).0

  pub act_accepted : (a : Act) → accepted (answer_to E p a) ≡ eqb (number_of E p a) 0
  act_accepted a = ap (λ n. eqb n 0) (answer_number a)

-- what holds of a pool that stays, of a grant and of a plan carried out holds of every act
pub act_by : (E : Engine) (P : Pool → Act → Pool → Type 0)
    → ((p : Pool) (a : Act) → P p a p)
    → ((p : Pool) (c n k : ℕ) → Asked E p c n k → P p (ask c n) (grant E p c n k))
    → ((p : Pool) (q : Plan) (r : Row) → record_of r.ticket (ledger p) ≡ some r → feasible q r ≡ true
    → P p (planned q r) (carry E p r.ticket q))
    → (p : Pool) (a : Act) → P p a (pool_after E p a)
unfolding number_of pool_done
act_by E P stays grants carries p a = go a (ℕ_discrete (number_of E p a) 0)
  where
    go : (a : Act) → Dec (number_of E p a ≡ 0) → P p a (pool_after E p a)
    go a (no z) = subst (P p a) (sym (act_refused E p a z).1) (stays p a)
    go (ask c n) (yes z) =
        let (k, h) = ask_zero E p c n z in
        subst (P p (ask c n)) (sym (ask_done E p c n k h).1) (grants p c n k h)
    go (give r) (yes z) =
        let e = named_zero (ledger p) r z in
        subst (P p (give r)) (sym (plan_done E p vacate r e refl).1) (carries p vacate r e refl)
    go (query r) (yes z) = subst (P p (query r)) (sym (act_done E p (query r) z).1) (stays p (query r))
    go (cut r n) (yes z) =
        let (e, h) = cut_zero E p r n z in
        subst (P p (cut r n)) (sym (plan_done E p (keep n) r e h).1) (carries p (keep n) r e h)
    go bad (yes z) = absurd (omega arith)

-- each act is answered on the pool as the one before left it
pub counted_append : (E : Engine) (xs ys : List Act) (p : Pool)
    → counted_of E p (xs ++ ys) ≡ counted_of E p xs ++ counted_of E (pool_after_all E p xs) ys
counted_append E [] ys p = refl
counted_append E (a ∷ xs) ys p = rw (counted_append E xs ys (pool_after E p a))

-- ---- the kind of an act

-- the plan's act carries it out
pub kind_planned : (q : Plan) (r : Row) → kind_of (planned q r) ≡ plans q r
kind_planned vacate r = refl
kind_planned (keep n) r = refl

-- an act that carries out a plan is the plan's act
abbrev back_to : Kind → Option Act
back_to (plans q r) = some (planned q r)
back_to reads = none
back_to others = none

pub kind_plans : (a : Act) (q : Plan) (r : Row) → kind_of a ≡ plans q r → a ≡ planned q r
kind_plans a q r e = go a (ap back_to e)
  where
    go : (a : Act) → back_to (kind_of a) ≡ some (planned q r) → a ≡ planned q r
    go (give s) x = cc
    go (cut s n) x = cc
    go (ask c n) x = absurd (absurd_some x)
    go (query s) x = absurd (absurd_some x)
    go bad x = absurd (absurd_some x)
