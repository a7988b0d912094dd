-- Tickets from before a restart are never live, proved over any engine. Assumes nothing.
use Prim.Native.Nat.{ℕ, zero, suc, ◌%◌, ◌≤◌, ◌<◌}
use native.Mathlib.Omega.{arith}
use native.Mathlib.Decide.{ℕ_discrete}
use mathlib.Core.Path.{◌≡◌, refl, sym, ap, ◌∙◌, subst}
use mathlib.Core.Logic.{◌≢◌, ◌⊎◌, inl, inr}
use mathlib.Core.Bool.{Bool, true, false, cond, not, ◌&&◌, ◌||◌, false≢true, true≢false, or-true}
use mathlib.Core.List.{List, [], ◌∷◌}
use mathlib.Core.Option.{Option, none, some}
use lib.Dec.{eqb}
use lib.ListN.{length, replicate}
use Rattle.words.specs.Lists.{Words, all}
use Rattle.words.proofs.Tests.{and_l, and_r, not_true, eqb_eq, eqb_ne, eqb_false, false_of, absurd_some}
use Rattle.ledger.specs.declared.Row.{Row}
use Rattle.ledger.specs.Records.{Ledger, record_words, empty_row, records_of, table_of, slots, has_ticket, record_of, Plan}
use Rattle.ledger.specs.Records.{vacate, keep, Member, member, plan_for, settle}
use Rattle.ledger.proofs.RecordLaws.{has_ticket_lem, record_zero, carried, record_settled, table_records}
use Rattle.ledger.proofs.RecordLaws.{length_table_settle, length_table_enter}
use Rattle.calls.specs.Pool.{Head, Pool, ledger, Engine, next_after, store}
use Rattle.calls.specs.Step.{Call, format, copy, single, look, list, accepted, Act, ask, give, query, cut}
use Rattle.calls.specs.Step.{bad, Counted, Outcome, number_of, new_row, carry, grant, answer_to, pool_after, counted_of, pool_after_all}
use Rattle.calls.specs.Step.{acts_of, fills, makes_head, blank, refused_by, acts_done, perform, step}
use Rattle.calls.specs.Lent.{Buffer, in_arena, in_table, in_index, Spot, own, other, is_all_of, see, leave_at, leave}
use Rattle.calls.specs.Lent.{leave_all, Event, map_call, head_brought, brought, same_head, own_table, head_returns}
use Rattle.calls.specs.Lent.{written_by, outcome, after, Later, calls, writes, later_pool}
use Rattle.calls.specs.Demand1.{Refused}
use Rattle.calls.specs.Demand3.{elsewhere}
use Rattle.calls.specs.Restart.{ticket_of, ticket_named, off_table, own_head, as_left, allowed, all_allowed, Always}
use Rattle.calls.specs.Restart.{requests_refused}
use Rattle.calls.specs.Restart.{RefusedBelow, NoneBelow, Restart}
use Rattle.calls.proofs.StoreLaws.{ledger_store, whole_records, blank_long}
use Rattle.calls.proofs.ActLaws.{Asked, named_none, act_refused, act_by}
use Rattle.calls.proofs.GateLaws.{Way, stops, runs, way, fills_head, perform_acts, format_done_lem}
use Rattle.calls.proofs.GrantLaws.{on_arena, record_enter, entered, zeroed, grant_store}
use Rattle.calls.proofs.LentLaws.{leave_all_lem, own_table_lem, fills_seen, makes_seen, outcome_is, quiet_after}
use Rattle.calls.proofs.LentLaws.{returned_head}
use Rattle.calls.proofs.CallLaws.{act_kept}
use Rattle.calls.proofs.Demand1.{refused_step}

-- No ticket below n is live, none is given any more, and the table has its length.
record Fresh (n long : ℕ) (q : Pool) : Type 0 where
  dead : (t : ℕ) → t < n → record_of t (ledger q) ≡ none
  next : (q.head.next ≡ 0) ⊎ (n ≤ q.head.next)
  table : length q.table ≡ long

-- the same head and table
fresh_same : (n long : ℕ) (q z : Pool) → z.head.next ≡ q.head.next → z.table ≡ q.table → Fresh n long q
    → Fresh n long z
fresh_same n long q z h t f = record {
  dead = λ x l. ap (λ (w : Words). record_of x (records_of w)) t ∙ f.dead x l;
  next = subst (λ x. (x ≡ 0) ⊎ (n ≤ x)) (sym h) f.next;
  table = ap length t ∙ f.table;
}

module _ (E : Engine) (n long : ℕ) where
  fresh_store : (p z : Pool) (L : Ledger) (m : ℕ) → z ≡ store E L m p
      → ((t : ℕ) → t < n → record_of t L ≡ none) → (m ≡ 0) ⊎ (n ≤ m) → length (table_of L) ≡ long → Fresh n long z
  unfolding store
  fresh_store p z L m e h k w = record {
    dead = λ t l. ap (λ (y : Pool). record_of t (ledger y)) e ∙ ap (record_of t) (ledger_store E L m p) ∙ h t l;
    next = subst (λ x. (x ≡ 0) ⊎ (n ≤ x)) (sym (ap (λ (y : Pool). y.head.next) e)) k;
    table = ap (λ (y : Pool). length y.table) e ∙ w;
  }

  -- ---- one act, and several

  module _ (whole : long % record_words ≡ 0) where
    records_long : (p : Pool) → Fresh n long p → length (table_of (ledger p)) ≡ long
    records_long p f =
        ap length (table_records p.table (ap (λ j. j % record_words) f.table ∙ whole)) ∙ f.table

    grant_fresh : (p : Pool) (c m k : ℕ) → Asked E p c m k → Fresh n long p → Fresh n long (grant E p c m k)
    grant_fresh p c m k asked f =
        fresh_store (on_arena p (zeroed E p c m k)) (grant E p c m k) (entered E p c m k) (next_after p.head.next)
        (grant_store E p c m k) dead later (length_table_enter (new_row E p c m k) (ledger p) ∙ records_long p f)
      where
        above : n ≤ p.head.next
        above = go f.next
          where
            go : (p.head.next ≡ 0) ⊎ (n ≤ p.head.next) → n ≤ p.head.next
            go (inl e) = absurd (eqb_false p.head.next 0 asked.ticket e)
            go (inr l) = l

        dead : (t : ℕ) → t < n → record_of t (entered E p c m k) ≡ none
        dead t l = go (ℕ_discrete t 0)
          where
            go : Dec (t ≡ 0) → record_of t (entered E p c m k) ≡ none
            go (yes z) = rw z (record_zero (entered E p c m k))
            go (no z) = record_enter t (new_row E p c m k) (ledger p) z (λ y. omega (arith, above)) ∙ f.dead t l

        later : (next_after p.head.next ≡ 0) ⊎ (n ≤ next_after p.head.next)
        later = go (eqb p.head.next 4294967295)
          where
            go : (b : Bool) → (cond b 0 (suc p.head.next) ≡ 0) ⊎ (n ≤ cond b 0 (suc p.head.next))
            go true = inl refl
            go false = inr (omega (arith, above))

    plan_fresh : (p : Pool) (x : Plan) (t : ℕ) → Fresh n long p → Fresh n long (carry E p t x)
    plan_fresh p x t f =
        fresh_store p (carry E p t x) (settle ms (ledger p)) p.head.next refl
        (λ u l. record_settled u ms (ledger p) ∙ ap (carried (plan_for u ms)) (f.dead u l) ∙ still (plan_for u ms))
        f.next (length_table_settle ms (ledger p) ∙ records_long p f)
      where
        ms : List Member
        ms = member t x ∷ []

        -- a plan makes no record
        still : (o : Option Plan) → carried o none ≡ none
        still none = refl
        still (some vacate) = refl
        still (some (keep k)) = refl

    act_fresh : (p : Pool) (a : Act) → Fresh n long p → Fresh n long (pool_after E p a)
    act_fresh =
        act_by E (λ p a q. Fresh n long p → Fresh n long q) (λ p a f. f) grant_fresh
        (λ p x r held h f. plan_fresh p x r.ticket f)

    acts_fresh : (more : List Act) (p : Pool) → Fresh n long p → Fresh n long (pool_after_all E p more)
    acts_fresh [] p f = f
    acts_fresh (a ∷ more) p f = acts_fresh more (pool_after E p a) (act_fresh p a f)

    -- an accepted call that fills nothing anew does its acts
    call_fresh : (c : Call Words) (m : Pool) → fills c ≡ false → accepted (step E c m).answer ≡ true → Fresh n long m
        → Fresh n long (step E c m).pool
    unfolding acts_done
    call_fresh c m f a k = go (step E c m) (way E c m) a
      where
        go : (o : Outcome) → Way E c m o → accepted o.answer ≡ true → Fresh n long o.pool
        go o (stops x g z e) a =
            absurd (false≢true (sym (eqb_ne x 0 z) ∙ ap (λ (y : Outcome). accepted y.answer) (sym e) ∙ a))
        go o (runs g e) a =
            subst (λ (y : Outcome). Fresh n long y.pool) (sym (e ∙ perform_acts E c m f)) (acts_fresh (acts_of c) m k)

-- ---- what names a dead ticket is refused

module _ (E : Engine) where
  act_unknown : (p : Pool) (a : Act) (t : ℕ) → ticket_of a ≡ some t → record_of t (ledger p) ≡ none
      → accepted (answer_to E p a) ≡ false
  unfolding number_of
  act_unknown p a t i d = go a i
    where
      six : (a : Act) → number_of E p a ≡ 6 → accepted (answer_to E p a) ≡ false
      six a e = ap accepted (act_refused E p a (λ z. omega arith)).0 ∙ rw e

      names : (r : Row) → some r.ticket ≡ some t → record_of r.ticket (ledger p) ≡ none
      names r i = let j : r.ticket ≡ t = cc in ap (λ u. record_of u (ledger p)) j ∙ d

      go : (a : Act) → ticket_of a ≡ some t → accepted (answer_to E p a) ≡ false
      go (ask c m) i = absurd (absurd_some i)
      go (give r) i = six (give r) (named_none (ledger p) r (names r i))
      go (query r) i = six (query r) (named_none (ledger p) r (names r i))
      go (cut r m) i = six (cut r m) (rw (named_none (ledger p) r (names r i)))
      go bad i = absurd (absurd_some i)

  call_unknown : (c : Call Words) (p : Pool) (t : ℕ) → ticket_named c ≡ some t → record_of t (ledger p) ≡ none
      → accepted (step E c p).answer ≡ false
  unfolding perform acts_done
  call_unknown c p t i d = by (step E c p) (way E c p)
    where
      go : (c : Call Words) → ticket_named c ≡ some t → accepted (perform E c p).answer ≡ false
      go (format first) i = absurd (absurd_some i)
      go (copy old) i = absurd (absurd_some i)
      go (single a) i = act_unknown p a t i d
      go (look r hold) i = act_unknown p (query r) t i d
      go (list c rs bs) i = absurd (absurd_some i)

      by : (o : Outcome) → Way E c p o → accepted o.answer ≡ false
      by o (stops x g z e) = ap (λ (y : Outcome). accepted y.answer) e ∙ eqb_ne x 0 z
      by o (runs g e) = ap (λ (y : Outcome). accepted y.answer) e ∙ go c i

  module _ (n long : ℕ) (whole : long % record_words ≡ 0) where
    acts_refused : (more : List Act) (p : Pool) → Fresh n long p → RefusedBelow E n (counted_of E p more)
    acts_refused [] p f = tt
    acts_refused (a ∷ more) p f = (
      (λ t i l. act_unknown p a t i (f.dead t l)),
      acts_refused more (pool_after E p a) (act_fresh E n long whole p a f),
    )

    call_refused : (c : Call Words) (p : Pool) → Fresh n long p → RefusedBelow E n (step E c p).counted
    unfolding perform acts_done
    call_refused c p f = by (step E c p) (way E c p)
      where
        stopped : (x : ℕ) → x ≢ 0 → (c : Call Words) → RefusedBelow E n (refused_by E c p x).counted
        stopped x z (format first) = ((λ t i l. eqb_ne x 0 z), tt)
        stopped x z (copy old) = ((λ t i l. eqb_ne x 0 z), tt)
        stopped x z (single a) = ((λ t i l. eqb_ne x 0 z), tt)
        stopped x z (look r hold) = ((λ t i l. eqb_ne x 0 z), tt)
        stopped x z (list c rs bs) = ((λ t i l. eqb_ne x 0 z), tt)

        ran : (c : Call Words) → RefusedBelow E n (perform E c p).counted
        ran (format first) = ((λ t i l. absurd (absurd_some i)), tt)
        ran (copy old) = ((λ t i l. absurd (absurd_some i)), tt)
        ran (single a) = acts_refused (acts_of (single a)) p f
        ran (look r hold) = acts_refused (acts_of (look r hold)) p f
        ran (list c rs bs) = acts_refused (acts_of (list c rs bs)) p f

        by : (o : Outcome) → Way E c p o → RefusedBelow E n o.counted
        by o (stops x g z e) = subst (λ (y : Outcome). RefusedBelow E n y.counted) (sym e) (stopped x z c)
        by o (runs g e) = subst (λ (y : Outcome). RefusedBelow E n y.counted) (sym e) (ran c)

-- ---- a call all of whose acts are refused

abbrev refused_one : Counted → Bool
refused_one c = not (accepted c.answer)

-- it leaves memory as it was; if it is accepted all the same, as a list is, it hands back the head that it got
record Kept (c : Call Words) (m : Pool) (o : Outcome) : Type 0 where
  arena : o.pool.arena ≡ m.arena
  table : o.pool.table ≡ m.table
  index : o.pool.index ≡ m.index
  head : accepted o.answer ≡ true → (fills c ≡ false) × (o.pool.head ≡ m.head)

module _ (E : Engine) where
  refused_acts : (more : List Act) (m : Pool) → all refused_one (counted_of E m more) ≡ true → pool_after_all E m more ≡ m
  refused_acts [] m h = refl
  refused_acts (a ∷ more) m h =
      let rest = all refused_one (counted_of E (pool_after E m a) more) in
      let f = not_true (accepted (answer_to E m a)) (and_l (not (accepted (answer_to E m a))) rest h) in
      refused_acts more (pool_after E m a) (and_r (not (accepted (answer_to E m a))) rest h) ∙ act_kept E m a f

  refused_call : (c : Call Words) (m : Pool) → all refused_one (step E c m).counted ≡ true → Kept c m (step E c m)
  unfolding perform acts_done
  refused_call c m h = by (step E c m) (way E c m) h
    where
      filled : (c : Call Words) → fills c ≡ true → all refused_one (perform E c m).counted ≡ true → ⊥
      filled (format first) f h = false≢true h
      filled (copy old) f h = false≢true h
      filled (single a) f h = false≢true f
      filled (look r hold) f h = false≢true f
      filled (list c rs bs) f h = false≢true f

      done : fills c ≡ false → all refused_one (acts_done E c m).counted ≡ true → Kept c m (acts_done E c m)
      done f h =
          let k = refused_acts (acts_of c) m h in
          record {
            arena = ap (λ (z : Pool). z.arena) k;
            table = ap (λ (z : Pool). z.table) k;
            index = ap (λ (z : Pool). z.index) k;
            head = λ _. (f, ap (λ (z : Pool). z.head) k);
          }

      acts : (f : Bool) → fills c ≡ f → all refused_one (perform E c m).counted ≡ true → Kept c m (perform E c m)
      acts true f h = absurd (filled c f h)
      acts false f h =
          let e = perform_acts E c m f in
          subst (Kept c m) (sym e) (done f (subst (λ (z : Outcome). all refused_one z.counted ≡ true) e h))

      by : (o : Outcome) → Way E c m o → all refused_one o.counted ≡ true → Kept c m o
      by o (stops n g z e) h = subst (Kept c m) (sym e) (record {
        arena = refl;
        table = refl;
        index = refl;
        head = λ y. absurd (false≢true (sym (eqb_ne n 0 z) ∙ y));
      })
      by o (runs g e) h =
          subst (Kept c m) (sym e)
          (acts (fills c) refl (subst (λ (z : Outcome). all refused_one z.counted ≡ true) e h))

-- ---- what a call leaves of the table

leave_off : (l : Buffer) (x : Words) (q : Pool) → all off_table l ≡ true → (leave l x q).table ≡ q.table
leave_off [] x q h = refl
leave_off (s ∷ l) [] q h = refl
leave_off (s ∷ l) (v ∷ x) q h =
    leave_off l x (leave_at s v q) (and_r (off_table s) (all off_table l) h)
    ∙ at s (and_l (off_table s) (all off_table l) h)
  where
    at : (s : Spot) → off_table s ≡ true → (leave_at s v q).table ≡ q.table
    at (own in_arena i) h = refl
    at (own in_table i) h = absurd (false≢true h)
    at (own in_index i) h = refl
    at (other w) h = refl

leave_all_off : (ls : List Buffer) (xs : List Words) (q : Pool) → all (all off_table) ls ≡ true
    → (leave_all ls xs q).table ≡ q.table
leave_all_off [] xs q h = refl
leave_all_off (l ∷ ls) [] q h = refl
leave_all_off (l ∷ ls) (x ∷ xs) q h =
    leave_all_off ls xs (leave l x q) (and_r (all off_table l) (all (all off_table) ls) h)
    ∙ leave_off l x q (and_l (all off_table l) (all (all off_table) ls) h)

named_seen : (f : Buffer → Words) (c : Call Buffer) → ticket_named (map_call f c) ≡ ticket_named c
named_seen f (format first) = refl
named_seen f (copy old) = refl
named_seen f (single a) = refl
named_seen f (look r hold) = refl
named_seen f (list c rs bs) = refl

head_brought_lem : (q : Pool) (e : Event) → own_head q e ≡ true → (head_brought q e.head).next ≡ q.head.next
head_brought_lem q e h = eqb_eq (head_brought q e.head).next q.head.next (search (and_l, and_r))

module _ (E : Engine) (q : Pool) (e : Event) where
  -- the table and the head that an accepted call leaves are the pool's, where it got both
  module _ (g : as_left q e ≡ true) where
    table_after : length (outcome E q e).pool.table ≡ length q.table
        → (after E q e).table ≡ (outcome E q e).pool.table
    unfolding after as_left own_table
    table_after long =
        let x = (outcome E q e).pool in
        let q₁ = leave e.arena x.arena q in
        let e₁ : q₁.table ≡ q.table = leave_off e.arena x.arena q (search (and_l, and_r)) in
        let q₂ = leave e.table x.table q₁ in
        let mine : is_all_of in_table q.table e.table ≡ true = search (and_l, and_r) in
        let e₂ : q₂.table ≡ x.table =
        ap (λ (z : Pool). z.table) (leave_all_lem in_table q₁ e.table x.table
        (ap (λ (w : Words). is_all_of in_table w e.table) e₁ ∙ mine) (long ∙ ap length (sym e₁))) in
        let q₃ = leave e.index x.index q₂ in
        let e₃ : q₃.table ≡ q₂.table = leave_off e.index x.index q₂ (search (and_l, and_r)) in
        leave_all_off (written_by e.call) (outcome E q e).buffers q₃ (search (and_l, and_r)) ∙ e₃ ∙ e₂

    head_after : accepted (outcome E q e).answer ≡ true → (after E q e).head ≡ (outcome E q e).pool.head
    unfolding after as_left head_returns
    head_after a =
        let mine : own_table q e ≡ true = search (and_l, and_r) in
        let taken : same_head (head_brought q e.head) q.head ≡ true = search (and_l, and_r) in
        rw (a, mine, taken, or-true (makes_head e.call))

  refused_after : accepted (outcome E q e).answer ≡ false → after E q e ≡ q
  refused_after a =
      let c = map_call (see q) e.call in
      let is = outcome_is E q e in
      let k : Refused E c (brought q e) (outcome E q e) =
      subst (Refused E c (brought q e)) (sym is)
      (refused_step E c (brought q e) (ap (λ (z : Outcome). accepted z.answer) (sym is) ∙ a)) in
      quiet_after E q e (record {
        arena = k.arena;
        table = k.table;
        index = k.index;
        head = λ y. absurd (false≢true (sym a ∙ and_l (accepted (outcome E q e).answer) (head_returns q e) y));
        buffers = λ _. k.buffers;
      })

  -- a list of which each request was refused leaves the pool, where its answers were written outside
  requests_after : all refused_one (outcome E q e).counted ≡ true → elsewhere e.call ≡ true → after E q e ≡ q
  requests_after h out =
      let c = map_call (see q) e.call in
      let is = outcome_is E q e in
      let k = refused_call E c (brought q e) (ap (λ (z : Outcome). all refused_one z.counted) (sym is) ∙ h) in
      quiet_after E q e (record {
        arena = ap (λ (z : Outcome). z.pool.arena) is ∙ k.arena;
        table = ap (λ (z : Outcome). z.pool.table) is ∙ k.table;
        index = ap (λ (z : Outcome). z.pool.index) is ∙ k.index;
        head = λ a.
            let (f, back) = k.head (ap (λ (z : Outcome). accepted z.answer) (sym is)
            ∙ and_l (accepted (outcome E q e).answer) (head_returns q e) a) in
            ap (λ (z : Outcome). z.pool.head) is ∙ back
            ∙ returned_head q e (and_r (accepted (outcome E q e).answer) (head_returns q e) a)
            (sym (makes_seen (see q) e.call) ∙ fills_head c f);
        buffers = λ inside. absurd (true≢false (sym out ∙ inside));
      })

-- ---- all along

module _ (E : Engine) (n long : ℕ) (whole : long % record_words ≡ 0) where
  -- what a call gets that brings the pool's head and table
  brought_fresh : (q : Pool) (e : Event) → own_table q e ≡ true → own_head q e ≡ true → Fresh n long q
      → Fresh n long (brought q e)
  brought_fresh q e t h f = fresh_same n long q (brought q e) (head_brought_lem q e h) (own_table_lem q e t) f

  event_fresh : (q : Pool) (e : Event) → allowed E q (calls e) ≡ true → Fresh n long q → Fresh n long (after E q e)
  unfolding as_left
  event_fresh q e h f = go (accepted (outcome E q e).answer) refl h
    where
      took : accepted (outcome E q e).answer ≡ true → as_left q e ≡ true → fills e.call ≡ false
          → Fresh n long (after E q e)
      took a g k =
          let c = map_call (see q) e.call in
          let is = outcome_is E q e in
          let left : Fresh n long (outcome E q e).pool =
          subst (λ (z : Outcome). Fresh n long z.pool) (sym is)
          (call_fresh E n long whole c (brought q e) (fills_seen (see q) e.call ∙ k)
          (ap (λ (z : Outcome). accepted z.answer) (sym is) ∙ a)
          (brought_fresh q e (search (and_l, and_r)) (search (and_l, and_r)) f)) in
          fresh_same n long (outcome E q e).pool (after E q e) (ap (λ (z : Head). z.next) (head_after E q e g a))
          (table_after E q e g (left.table ∙ sym f.table)) left

      ran : accepted (outcome E q e).answer ≡ true → (b : Bool) → requests_refused E q e ≡ b
          → (b || (as_left q e && not (fills e.call))) ≡ true → Fresh n long (after E q e)
      ran a true r h =
          subst (Fresh n long) (sym (requests_after E q e
          (and_l (all refused_one (outcome E q e).counted) (elsewhere e.call) r)
          (and_r (all refused_one (outcome E q e).counted) (elsewhere e.call) r))) f
      ran a false r h =
          took a (and_l (as_left q e) (not (fills e.call)) h)
          (not_true (fills e.call) (and_r (as_left q e) (not (fills e.call)) h))

      go : (b : Bool) → accepted (outcome E q e).answer ≡ b
          → (not b || requests_refused E q e || (as_left q e && not (fills e.call))) ≡ true → Fresh n long (after E q e)
      go false a h = subst (Fresh n long) (sym (refused_after E q e a)) f
      go true a h = ran a (requests_refused E q e) refl h

  later_fresh : (q : Pool) (l : Later) → allowed E q l ≡ true → Fresh n long q → Fresh n long (later_pool E q l)
  later_fresh q (calls e) h f = event_fresh q e h f
  later_fresh q (writes in_arena i v) h f = fresh_same n long q (later_pool E q (writes in_arena i v)) refl refl f
  later_fresh q (writes in_table i v) h f = absurd (false≢true h)
  later_fresh q (writes in_index i v) h f = fresh_same n long q (later_pool E q (writes in_index i v)) refl refl f

  none_below : (q : Pool) → Fresh n long q → NoneBelow E n q
  none_below q f = record {
    dead = f.dead;
    refused = λ e own t i l.
        ap (λ (z : Outcome). accepted z.answer) (outcome_is E q e)
        ∙ call_unknown E (map_call (see q) e.call) (brought q e) t (named_seen (see q) e.call ∙ i)
        (ap (λ (x : Words). record_of t (records_of x)) (own_table_lem q e own) ∙ f.dead t l);
    listed = λ e own h.
        subst (λ (z : Outcome). RefusedBelow E n z.counted) (sym (outcome_is E q e))
        (call_refused E n long whole (map_call (see q) e.call) (brought q e) (brought_fresh q e own h f));
  }

  always : (ls : List Later) (q : Pool) → all_allowed E q ls ≡ true → Fresh n long q → Always E (NoneBelow E n) q ls
  always [] q h f = none_below q f
  always (l ∷ ls) q h f =
      let one = and_l (allowed E q l) (all_allowed E (later_pool E q l) ls) h in
      let rest = and_r (allowed E q l) (all_allowed E (later_pool E q l) ls) h in
      (none_below q f, always ls (later_pool E q l) rest (later_fresh q l one f))

no_records : (t k : ℕ) → record_of t (replicate k empty_row) ≡ none
no_records t zero = refl
no_records t (suc k) = rw (false_of (has_ticket t empty_row) (λ h. other ((has_ticket_lem t empty_row).0 h))) (no_records t k)
  where
    other : (t ≢ 0) × (0 ≡ t) → ⊥
    other h = h.0 (sym h.1)

pub restart : (E : Engine) → Restart E
unfolding Restart
restart E m first h ls k =
    let (right, made) = format_done_lem E m first h in
    let whole = whole_records E m right in
    always E first (length m.table) whole ls (step E (format first) m).pool k
    (fresh_store E first (length m.table) m (step E (format first) m).pool (blank E m) first
    (ap (λ (o : Outcome). o.pool) made) (λ t l. no_records t (slots m.table)) (inr (omega arith))
    (blank_long E m whole))
