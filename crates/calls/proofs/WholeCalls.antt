-- Calls on the pool whole: each act of a sequence carries out a plan of the set, or changes nothing. Assumes nothing.
use Prim.Native.Nat.{ℕ, ◌<◌}
use native.Mathlib.Omega.{arith}
use mathlib.Core.Path.{◌≡◌, refl, sym, ap, ◌∙◌, subst}
use mathlib.Core.Logic.{◌≢◌}
use mathlib.Core.Bool.{Bool, true, false, not, ◌&&◌, ◌||◌, false≢true, true≢false}
use mathlib.Core.List.{List, [], ◌∷◌}
use mathlib.Core.Option.{Option, none, some}
use Rattle.words.specs.Lists.{Words, all, is_some}
use Rattle.words.proofs.Tests.{and_l, and_r, or_l, or_r, not_true, eqb_eq, eqb_same, eqb_ne, lt_of, false_of, absurd_some}
use Rattle.ledger.specs.declared.Row.{Row}
use Rattle.ledger.specs.Records.{Ledger, is_party, record_of, Plan, vacate, keep, keepable, carry_out, Member, member}
use Rattle.ledger.specs.Records.{plan_for, shortened, settle}
use Rattle.ledger.proofs.RecordLaws.{carried, record_settled}
use Rattle.ledger.proofs.UnitLaws.{valid_record}
use Rattle.calls.specs.declared.Answer.{Answer}
use Rattle.calls.specs.Pool.{Pool, ledger, word_count, Engine, Laws, rule_of, sound}
use Rattle.calls.specs.Step.{Call, format, copy, single, look, list, told, refusal, accepted, Act, query, Kind}
use Rattle.calls.specs.Step.{plans, reads, others, kind_of, Outcome, named, carry, answer_to, pool_after}
use Rattle.calls.specs.Step.{counted_of, pool_after_all, acts_of, buffers_of, fills, party_given, right_party, partied}
use Rattle.calls.specs.Step.{own_answer, counted_whole, gate, refused_by, acts_done, perform, step}
use Rattle.calls.specs.Demand3.{Brings, Progress, remove, is_plan, leaves_fewer, live, is_due, is_replay, is_old}
use Rattle.calls.specs.Demand3.{stands_as, stands, settled_for}
use Rattle.calls.specs.Demand3.{RightAs, Right, after_as, after_act, stand_all, RightAll, after_acts}
use Rattle.calls.proofs.StoreLaws.{ledger_store, sound_valid, settled_sound, settled, settled_more}
use Rattle.calls.proofs.ActLaws.{named_none, named_some, named_zero, plan_done, kind_plans}
use Rattle.calls.proofs.GateLaws.{Way, stops, runs, way, perform_acts, gate_sound, gate_partied, sound_gate}
use Rattle.calls.proofs.ProgressLaws.{or_else, Inv, inv_carried, is_plan_lem, set_feasible, given, stays, NotDue}
use Rattle.calls.proofs.CallLaws.{act_kept, reads_kept, plan_refused, own_refused, own_buffers, plan_party}
use Rattle.calls.proofs.CallLaws.{acts_partied}
use Rattle.calls.proofs.Strays.{no_filling}

-- ---- their acts

abbrev pub all_own : Brings
all_own = record { whole = true; table = true }

pub told_accepted : (x : Plan) (r : Row) → accepted (told x r) ≡ true
told_accepted vacate r = refl
told_accepted (keep n) r = refl

-- what a release or trim of the set says
module _ (start : Ledger) (s : Progress) (x : Plan) (r : Row) (d : is_due start all_own s x r ≡ true) where
  due_plan : plan_for r.ticket s.due ≡ some x
  unfolding is_due
  due_plan = is_plan_lem x (plan_for r.ticket s.due) (search and_l)

  due_held : record_of r.ticket start ≡ some r
  unfolding is_due
  due_held = named_zero start r (eqb_eq (named start r) 0 (search and_r))

  -- it is neither a replay nor old
  due_alone : plan_for r.ticket s.done ≡ none → (is_replay start all_own s r || is_old start all_own s r) ≡ false
  unfolding is_replay is_old live
  due_alone h = rw (due_held, h)

  pub due_after : (a : Act) → kind_of a ≡ plans x r → (y : Answer) → accepted y ≡ true
      → after_act start all_own s (given a y) ≡ record {
        due = remove r.ticket s.due;
        done = member r.ticket x ∷ s.done;
      }
  unfolding after_act
  due_after a k y h = ap (λ (z : Kind). after_as start all_own s z y) k ∙ rw (d, h)

module _ (E : Engine) (laws : Laws E) (p : Pool) (ok : sound E p ≡ true) (ms : List Member)
    (suit : all (settled_for E (ledger p)) ms ≡ true) where
  -- what one act, and several, do to a sequence that has come to the pool q
  pub record Acted (s : Progress) (q : Pool) (a : Act) : Type 0 where
    pub pool : pool_after E q a ≡ settled E p (after_act (ledger p) all_own s (given a (answer_to E q a))).done
    pub inv : Inv ms (after_act (ledger p) all_own s (given a (answer_to E q a)))
    pub right : Right (ledger p) all_own s (given a (answer_to E q a))
    pub still : accepted (answer_to E q a) ≡ false → after_act (ledger p) all_own s (given a (answer_to E q a)) ≡ s

  pub record ActedAll (s : Progress) (q : Pool) (more : List Act) : Type 0 where
    pub pool : pool_after_all E q more ≡ settled E p (after_acts (ledger p) all_own s (counted_of E q more)).done
    pub inv : Inv ms (after_acts (ledger p) all_own s (counted_of E q more))
    pub right : RightAll (ledger p) all_own s (counted_of E q more)

  module _ (s : Progress) (q : Pool) (e : q ≡ settled E p s.done) (v : Inv ms s) where
    records : ledger q ≡ settle s.done (ledger p)
    unfolding settled
    records = ap (λ (z : Pool). ledger z) e ∙ ledger_store E (settle s.done (ledger p)) p.head.next p

    -- what a ticket has now
    now_has : (t : ℕ) → record_of t (ledger q) ≡ carried (plan_for t s.done) (record_of t (ledger p))
    now_has t = ap (λ (L : Ledger). record_of t L) records ∙ record_settled t s.done (ledger p)

    -- a ticket whose release was accepted, and one that was never there, has no record
    not_there : (t : ℕ) → live (ledger p) s.done t ≡ false → record_of t (ledger q) ≡ none
    unfolding live
    not_there t h = now_has t ∙ go (plan_for t s.done) (record_of t (ledger p)) h
      where
        go : (o : Option Plan) (y : Option Row) → (is_some y && not (is_plan vacate o)) ≡ false → carried o y ≡ none
        go none none h = refl
        go none (some r) h = absurd (true≢false h)
        go (some vacate) y h = refl
        go (some (keep n)) none h = refl
        go (some (keep n)) (some r) h = absurd (true≢false h)

    -- a replay names no record
    replay_six : (b : Brings) (r : Row) → is_replay (ledger p) b s r ≡ true → named (ledger q) r ≡ 6
    unfolding is_replay
    replay_six b r h =
        named_none (ledger q) r
        (not_there r.ticket (not_true (live (ledger p) s.done r.ticket) (search and_r)))

    -- an old release or trim names a record that has fewer words now
    old_seven : (b : Brings) (r : Row) → is_old (ledger p) b s r ≡ true → named (ledger q) r ≡ 7
    unfolding is_old
    old_seven b r h =
        go (plan_for r.ticket s.done) refl
        (named_zero (ledger p) r (eqb_eq (named (ledger p) r) 0 (search (and_l, and_r)))) (search (and_l, and_r))
      where
        -- what was done was settled beforehand
        settled_so : (x : Plan) → plan_for r.ticket s.done ≡ some x → plan_for r.ticket ms ≡ some x
        settled_so x y = sym (v.covers r.ticket) ∙ due (plan_for r.ticket s.due) refl ∙ y
          where
            due : (o : Option Plan) → plan_for r.ticket s.due ≡ o
                → or_else o (plan_for r.ticket s.done) ≡ plan_for r.ticket s.done
            due none z = refl
            due (some k) z = absurd (absurd_some (sym (v.fresh r.ticket (rw z)) ∙ y))

        shorter : (n : ℕ) → n < r.words → keepable n r ≡ true
            → record_of r.ticket (ledger q) ≡ some (carry_out (keep n) r) → named (ledger q) r ≡ 7
        shorter n l k x =
            let now : record_of r.ticket (ledger q) ≡ some (shortened n r) = rw k at x in
            named_some (ledger q) r (shortened n r) now
            ∙ rw (eqb_same r.party, eqb_same r.address, eqb_ne n r.words (λ y. omega arith))

        go : (o : Option Plan) → plan_for r.ticket s.done ≡ o → record_of r.ticket (ledger p) ≡ some r
            → leaves_fewer o r.words ≡ true → named (ledger q) r ≡ 7
        go none x y z = absurd (false≢true z)
        go (some vacate) x y z = absurd (false≢true z)
        go (some (keep n)) x y z =
            shorter n (lt_of n r.words z)
            (set_feasible E (ledger p) ms suit r.ticket (keep n) (settled_so (keep n) x) r y)
            (now_has r.ticket ∙ rw (x, y))

    -- neither names a record
    pub spent_now : (b : Brings) (r : Row) → (is_replay (ledger p) b s r || is_old (ledger p) b s r) ≡ true
        → named (ledger q) r ≢ 0
    spent_now b r h z = go (is_replay (ledger p) b s r) refl h
      where
        go : (c : Bool) → is_replay (ledger p) b s r ≡ c → (c || is_old (ledger p) b s r) ≡ true → ⊥
        go true k h = omega (arith, sym (replay_six b r k) ∙ z)
        go false k h = omega (arith, sym (old_seven b r h) ∙ z)

    -- an act that is refused and is no release or trim of the set
    refused_act_lem : (a : Act) → NotDue (ledger p) all_own s (kind_of a) → accepted (answer_to E q a) ≡ false
        → Right (ledger p) all_own s (given a (answer_to E q a)) → Acted s q a
    refused_act_lem a d f r =
        let same = stays (ledger p) all_own s a (answer_to E q a) d f in
        record {
          pool = act_kept E q a f ∙ e ∙ ap (λ (z : Progress). settled E p z.done) (sym same);
          inv = subst (λ (z : Progress). Inv ms z) (sym same) v;
          right = r;
          still = λ _. same;
        }

    -- a release or trim of the set
    pub due_act : (a : Act) (x : Plan) (r : Row) → kind_of a ≡ plans x r → is_due (ledger p) all_own s x r ≡ true
        → (answer_to E q a ≡ told x r) × Acted s q a
    due_act a x r k d = (
      did.0,
      record {
        pool = did.1 ∙ ap (λ (z : Pool). carry E z r.ticket x) e
            ∙ settled_more E laws p (member r.ticket x) s.done untouched
            ∙ ap (λ (z : Progress). settled E p z.done) (sym moved);
        inv = subst (λ (z : Progress). Inv ms z) (sym moved) (inv_carried ms s r.ticket x v plan);
        right = subst (λ (z : Kind). RightAs (ledger p) all_own s z (answer_to E q a)) (sym k) (record {
          accepts = λ _. did.0;
          refuses = λ h. absurd (true≢false (sym h ∙ alone));
          six = λ h _ _. absurd (true≢false (sym h ∙ or_l replayed old alone));
          twelve = λ h _ _. absurd (true≢false (sym h ∙ or_l replayed old alone));
          seven = λ h _. absurd (true≢false (sym h ∙ or_r replayed old alone));
        });
        still = λ f. absurd (true≢false (sym taken ∙ f));
      },
    )
      where
        plan : plan_for r.ticket s.due ≡ some x
        plan = due_plan (ledger p) s x r d

        untouched : plan_for r.ticket s.done ≡ none
        untouched = v.fresh r.ticket (rw plan)

        held : record_of r.ticket (ledger p) ≡ some r
        held = due_held (ledger p) s x r d

        in_set : plan_for r.ticket ms ≡ some x
        in_set = sym (v.covers r.ticket) ∙ ap (λ (o : Option Plan). or_else o (plan_for r.ticket s.done)) plan

        did : (answer_to E q a ≡ told x r) × (pool_after E q a ≡ carry E q r.ticket x)
        did =
            subst (λ (z : Act). (answer_to E q z ≡ told x r) × (pool_after E q z ≡ carry E q r.ticket x))
            (sym (kind_plans a x r k))
            (plan_done E q x r (now_has r.ticket ∙ rw (untouched, held))
            (set_feasible E (ledger p) ms suit r.ticket x in_set r held))

        taken : accepted (answer_to E q a) ≡ true
        taken = ap accepted did.0 ∙ told_accepted x r

        replayed : Bool
        replayed = is_replay (ledger p) all_own s r

        old : Bool
        old = is_old (ledger p) all_own s r

        alone : (replayed || old) ≡ false
        alone = due_alone (ledger p) s x r d untouched

        moved : after_act (ledger p) all_own s (given a (answer_to E q a)) ≡ record {
          due = remove r.ticket s.due;
          done = member r.ticket x ∷ s.done;
        }
        moved = due_after (ledger p) s x r d a k (answer_to E q a) taken

    -- one that is not due: refused, whether it is a replay, an old one or another
    other_plan : (a : Act) (x : Plan) (r : Row) → kind_of a ≡ plans x r → partied a ≡ true
        → is_due (ledger p) all_own s x r ≡ false → accepted (answer_to E q a) ≡ false → Acted s q a
    other_plan a x r k c d f =
        refused_act_lem a (subst (λ (z : Kind). NotDue (ledger p) all_own s z) (sym k) d) f
        (subst (λ (z : Kind). RightAs (ledger p) all_own s z (answer_to E q a)) (sym k) (record {
          accepts = λ h. absurd (true≢false (sym h ∙ d));
          refuses = λ _. f;
          six = λ h _ _. plan_refused E q a x r k 6 (replay_six all_own r h) (λ z. omega arith);
          twelve = λ _ _ n. absurd (false≢true (sym n ∙ sym (plan_party a x r k) ∙ c));
          seven = λ h _. plan_refused E q a x r k 7 (old_seven all_own r h) (λ z. omega arith);
        }))

    -- an act that reads
    reading : (a : Act) → kind_of a ≡ reads → Acted s q a
    unfolding after_act
    reading a k =
        let same : after_act (ledger p) all_own s (given a (answer_to E q a)) ≡ s =
        ap (λ (z : Kind). after_as (ledger p) all_own s z (answer_to E q a)) k in
        record {
          pool = reads_kept E q a k ∙ e ∙ ap (λ (z : Progress). settled E p z.done) (sym same);
          inv = subst (λ (z : Progress). Inv ms z) (sym same) v;
          right = subst (λ (z : Kind). RightAs (ledger p) all_own s z (answer_to E q a)) (sym k) tt;
          still = λ _. same;
        }

    act_at : (a : Act) → partied a ≡ true → stands (ledger p) all_own s (given a (answer_to E q a)) ≡ true → Acted s q a
    unfolding stands
    act_at a g h = go (kind_of a) refl h
      where
        plan : (x : Plan) (r : Row) → kind_of a ≡ plans x r → (b : Bool) → is_due (ledger p) all_own s x r ≡ b
            → (c : Bool) → (is_replay (ledger p) all_own s r || is_old (ledger p) all_own s r) ≡ c
            → (b || c || not (accepted (answer_to E q a))) ≡ true → Acted s q a
        plan x r k true d c y h = (due_act a x r k d).1
        plan x r k false d true y h =
            let n = named (ledger q) r in
            let spent = spent_now all_own r y in
            other_plan a x r k g d (ap accepted (plan_refused E q a x r k n refl spent) ∙ eqb_ne n 0 spent)
        plan x r k false d false y h = other_plan a x r k g d (not_true (accepted (answer_to E q a)) h)

        go : (k : Kind) → kind_of a ≡ k → stands_as (ledger p) all_own s k (answer_to E q a) ≡ true → Acted s q a
        go (plans x r) k h =
            plan x r k (is_due (ledger p) all_own s x r) refl
            (is_replay (ledger p) all_own s r || is_old (ledger p) all_own s r) refl h
        go reads k h = reading a k
        go others k h =
            refused_act_lem a (subst (λ (z : Kind). NotDue (ledger p) all_own s z) (sym k) tt)
            (not_true (accepted (answer_to E q a)) h)
            (subst (λ (z : Kind). RightAs (ledger p) all_own s z (answer_to E q a)) (sym k) tt)

  acts_at : (more : List Act) (s : Progress) (q : Pool) → q ≡ settled E p s.done → Inv ms s
      → all partied more ≡ true → stand_all (ledger p) all_own s (counted_of E q more) ≡ true → ActedAll s q more
  acts_at [] s q e v g h = record { pool = e; inv = v; right = tt }
  acts_at (a ∷ more) s q e v g h =
      let c = given a (answer_to E q a) in
      let later = counted_of E (pool_after E q a) more in
      let one = act_at s q e v a (and_l (partied a) (all partied more) g) (and_l (stands (ledger p) all_own s c)
      (stand_all (ledger p) all_own (after_act (ledger p) all_own s c) later) h) in
      let rest = acts_at more (after_act (ledger p) all_own s c) (pool_after E q a) one.pool one.inv
      (and_r (partied a) (all partied more) g) (and_r (stands (ledger p) all_own s c)
      (stand_all (ledger p) all_own (after_act (ledger p) all_own s c) later) h) in
      record { pool = rest.pool; inv = rest.inv; right = (one.right, rest.right) }

-- ---- the calls

-- a record that a sound pool has is some party's
pub some_party : (E : Engine) → Laws E → (p : Pool) → sound E p ≡ true → (r : Row) → named (ledger p) r ≡ 0
    → is_party r.party ≡ true
some_party E laws p ok r h =
    (valid_record (rule_of E p) (laws.unit p.shape) (word_count p) p.head.next (ledger p)
    (sound_valid E laws p ok) r.ticket r (named_zero (ledger p) r h)).party

-- every word that a call was lent is left as it was
pub record Unmoved (q : Pool) (c : Call Words) (o : Outcome) : Type 0 where
  pub arena : o.pool.arena ≡ q.arena
  pub table : o.pool.table ≡ q.table
  pub index : o.pool.index ≡ q.index
  pub buffers : o.buffers ≡ buffers_of c

module _ (E : Engine) (laws : Laws E) (p : Pool) (ok : sound E p ≡ true) (ms : List Member)
    (suit : all (settled_for E (ledger p)) ms ≡ true) where
  pub record WholeCall (s : Progress) (q : Pool) (c : Call Words) (o : Outcome) : Type 0 where
    pub pool : accepted o.answer ≡ true
        → o.pool ≡ settled E p (after_acts (ledger p) all_own s o.counted).done
    pub inv : Inv ms (after_acts (ledger p) all_own s o.counted)
    pub right : RightAll (ledger p) all_own s o.counted
    -- refused, it leaves every word, and the sequence where it stands
    pub kept : accepted o.answer ≡ false → Unmoved q c o × (after_acts (ledger p) all_own s o.counted ≡ s)

  module _ (s : Progress) (q : Pool) (e : q ≡ settled E p s.done) (v : Inv ms s) where
    pub whole_sound : sound E q ≡ true
    unfolding settled
    whole_sound = ap (λ (z : Pool). sound E z) e ∙ settled_sound E laws p ok s.done

    -- an act of no party, refused by 12: it is no release of the set, whose records are some party's
    unpartied : (a : Act) → partied a ≡ false
        → (after_act (ledger p) all_own s (given a (refusal 12)) ≡ s) × Right (ledger p) all_own s (given a (refusal 12))
    unfolding is_due is_old
    unpartied a g = (stays (ledger p) all_own s a (refusal 12) (not_set (kind_of a) refl) refl, right (kind_of a) refl)
      where
        no_party : (x : Plan) (r : Row) → kind_of a ≡ plans x r → is_party r.party ≡ false
        no_party x r k = sym (plan_party a x r k) ∙ g

        old_named : (r : Row) → is_old (ledger p) all_own s r ≡ true → named (ledger p) r ≡ 0
        old_named r h = eqb_eq (named (ledger p) r) 0 (search (and_l, and_r))

        not_set : (z : Kind) → kind_of a ≡ z → NotDue (ledger p) all_own s z
        not_set (plans x r) k =
            false_of (is_due (ledger p) all_own s x r)
            (λ d. true≢false (sym (some_party E laws p ok r (eqb_eq (named (ledger p) r) 0 (search and_r)))
            ∙ no_party x r k))
        not_set reads k = tt
        not_set others k = tt

        right : (z : Kind) → kind_of a ≡ z → RightAs (ledger p) all_own s z (refusal 12)
        right (plans x r) k = record {
          accepts = λ d. absurd (true≢false (sym d ∙ not_set (plans x r) k));
          refuses = λ _. refl;
          six = λ _ _ h. absurd (true≢false (sym h ∙ no_party x r k));
          twelve = λ _ _ _. refl;
          seven = λ h _. absurd (true≢false (sym (some_party E laws p ok r (old_named r h)) ∙ no_party x r k));
        }
        right reads k = tt
        right others k = tt

    -- what the gate of a sound pool stops counts as a whole, or as an act of no party
    stopped : (c : Call Words) (n : ℕ) → gate E c q ≡ n → n ≢ 0
        → (after_act (ledger p) all_own s (counted_whole c n) ≡ s) × Right (ledger p) all_own s (counted_whole c n)
    unfolding after_act
    stopped (format first) n g z = (refl, tt)
    stopped (copy old) n g z = (refl, tt)
    stopped (single a) n g z = by (partied a) refl
      where
        by : (b : Bool) → partied a ≡ b
            → (after_act (ledger p) all_own s (given a (refusal n)) ≡ s) × Right (ledger p) all_own s (given a (refusal n))
        by true h = absurd (z (sym g ∙ gate_sound E (single a) q refl refl whole_sound h))
        by false h =
            subst (λ k. (after_act (ledger p) all_own s (given a (refusal k)) ≡ s)
            × Right (ledger p) all_own s (given a (refusal k)))
            (sym (gate_partied E (single a) q refl refl whole_sound h) ∙ g) (unpartied a h)
    stopped (look r hold) n g z = (refl, tt)
    stopped (list c rs bs) n g z = (refl, tt)

    whole_stopped : (c : Call Words) (n : ℕ) → gate E c q ≡ n → n ≢ 0 → WholeCall s q c (refused_by E c q n)
    whole_stopped c n g z =
        let (still, right) = stopped c n g z in
        record {
          pool = λ h. absurd (false≢true (sym (eqb_ne n 0 z) ∙ h));
          inv = subst (λ (y : Progress). Inv ms y) (sym still) v;
          right = (right, tt);
          kept = λ _. (record { arena = refl; table = refl; index = refl; buffers = refl }, still);
        }

    whole_acted : (c : Call Words) → fills c ≡ false → right_party (party_given c) ≡ true
        → stand_all (ledger p) all_own s (acts_done E c q).counted ≡ true → WholeCall s q c (acts_done E c q)
    unfolding acts_done
    whole_acted c n g h =
        let a = acts_at E laws p ok ms suit (acts_of c) s q e v (acts_partied c g) h in
        record { pool = λ _. a.pool; inv = a.inv; right = a.right; kept = λ f. (left f, still c n g h f) }
      where
        left : accepted (own_answer c (counted_of E q (acts_of c))) ≡ false → Unmoved q c (acts_done E c q)
        left f =
            let k = own_refused E c q n f in
            record {
              arena = ap (λ (z : Pool). z.arena) k;
              table = ap (λ (z : Pool). z.table) k;
              index = ap (λ (z : Pool). z.index) k;
              buffers = own_buffers c (counted_of E q (acts_of c)) f;
            }

        one : (a : Act) → partied a ≡ true → stand_all (ledger p) all_own s (counted_of E q (a ∷ [])) ≡ true
            → accepted (answer_to E q a) ≡ false → after_act (ledger p) all_own s (given a (answer_to E q a)) ≡ s
        one a g h f =
            (act_at E laws p ok ms suit s q e v a g
            (and_l (stands (ledger p) all_own s (given a (answer_to E q a))) true h)).still f

        still : (c : Call Words) → fills c ≡ false → right_party (party_given c) ≡ true
            → stand_all (ledger p) all_own s (counted_of E q (acts_of c)) ≡ true
            → accepted (own_answer c (counted_of E q (acts_of c))) ≡ false
            → after_acts (ledger p) all_own s (counted_of E q (acts_of c)) ≡ s
        still (format first) n g h f = absurd (true≢false n)
        still (copy old) n g h f = absurd (true≢false n)
        still (single a) n g h f = one a g h f
        still (look r hold) n g h f = one (query r) g h f
        still (list c rs bs) n g h f = absurd (true≢false f)

    pub whole_step : (c : Call Words) → stand_all (ledger p) all_own s (step E c q).counted ≡ true
        → WholeCall s q c (step E c q)
    whole_step c h = by (step E c q) (way E c q) h
      where
        at : (o z : Outcome) → o ≡ z → WholeCall s q c z → WholeCall s q c o
        at o z i k = subst (λ (y : Outcome). WholeCall s q c y) (sym i) k

        acts : (f : Bool) → fills c ≡ f → gate E c q ≡ 0 → stand_all (ledger p) all_own s (perform E c q).counted ≡ true
            → WholeCall s q c (perform E c q)
        acts true f g h = absurd (no_filling E (ledger p) all_own s c q f h)
        acts false f g h =
            let i = perform_acts E c q f in
            at (perform E c q) (acts_done E c q) i
            (whole_acted c f (sound_gate E c q f g).2 (subst (λ (z : Outcome). stand_all (ledger p) all_own s z.counted ≡ true) i h))

        by : (o : Outcome) → Way E c q o → stand_all (ledger p) all_own s o.counted ≡ true → WholeCall s q c o
        by o (stops n g z i) h =
            at o (refused_by E c q n) i
            (whole_stopped c n g z)
        by o (runs g i) h =
            at o (perform E c q) i
            (acts (fills c) refl g (subst (λ (z : Outcome). stand_all (ledger p) all_own s z.counted ≡ true) i h))
