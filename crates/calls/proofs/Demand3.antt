-- Demand 3, proved once for any engine. Of a call the proof uses only that its acts are answered one after another on
-- what it was lent, and that an act that is refused leaves the pool. Assumes nothing.
use mathlib.Core.Path.{◌≡◌, refl, sym, ap, ◌∙◌, subst}
use mathlib.Core.Bool.{Bool, true, false, not, ◌||◌, false≢true}
use mathlib.Core.Logic.{◌≢◌}
use mathlib.Core.List.{List, [], ◌∷◌, ◌++◌}
use mathlib.Core.Option.{Option, none, some}
use lib.ListN.{length, get_or, drop}
use Rattle.words.specs.Lists.{Words, all}
use Rattle.words.proofs.Tests.{and_l, and_r, not_true}
use Rattle.ledger.specs.declared.Row.{Row}
use Rattle.ledger.specs.Records.{Ledger, Plan, Member, plan_for, settle, records_of, table_of}
use Rattle.ledger.proofs.RecordLaws.{settle_same, length_table_settle}
use Rattle.calls.specs.Pool.{Pool, ledger, word_count, Engine, Laws, store, lengths, sound}
use Rattle.calls.specs.Step.{Call, format, copy, single, look, list, zero_answer, accepted, Outcome, named, answers_of}
use Rattle.calls.specs.Step.{answer_words, acts_done, step}
use Rattle.calls.specs.Lent.{Buffer, see, Event, map_call, brought, is_whole, own_table, head_returns, outcome}
use Rattle.calls.specs.Lent.{after, later_end, later_outcomes}
use Rattle.calls.specs.Demand3.{Brings, Progress, is_replay, is_old, stand_all, RightAll, after_acts, brings, elsewhere}
use Rattle.calls.specs.Demand3.{RightList, follows, Answered, end_of, at_start, Sequence, settled_for, Demand3}
use Rattle.calls.proofs.StoreLaws.{ledger_store, shape_store, words_store, store_keeps, settled_sound}
use Rattle.calls.proofs.StoreLaws.{settled_none, sound_lengths, settled}
use Rattle.calls.proofs.GateLaws.{step_sound, fills_head}
use Rattle.calls.proofs.LentLaws.{whole_brings, whole_table, own_table_lem, quiet_after, Fits, whole_after}
use Rattle.calls.proofs.LentLaws.{outcome_is, returned_head, makes_seen}
use Rattle.calls.proofs.ProgressLaws.{or_else, Inv}
use Rattle.calls.proofs.Strays.{stray_step}
use Rattle.calls.proofs.WholeCalls.{all_own, spent_now, WholeCall, whole_sound, whole_step}

or_first : (a b : Bool) → b ≡ false → (a || b) ≡ true → a ≡ true
or_first true b h k = refl
or_first false b h k = absurd (false≢true (sym h ∙ k))

module _ (E : Engine) (laws : Laws E) (p : Pool) (ok : sound E p ≡ true) (ms : List Member)
    (suit : all (settled_for E (ledger p)) ms ≡ true) where
  -- ---- one event

  pub record Moved (s : Progress) (q : Pool) (e : Event) : Type 0 where
    pub pool : after E q e ≡ settled E p (after_acts (ledger p) (brings q e) s (outcome E q e).counted).done
    pub inv : Inv ms (after_acts (ledger p) (brings q e) s (outcome E q e).counted)
    pub right : RightAll (ledger p) (brings q e) s (outcome E q e).counted
    pub listed : is_whole q e ≡ true → RightList q e.call (outcome E q e)

  same_arena : (x : List Member) → length (settled E p x).arena ≡ word_count p
  unfolding settled
  same_arena x = words_store E (settle x (ledger p)) p.head.next p

  same_table : (x : List Member) → length (settled E p x).table ≡ length (table_of (ledger p))
  unfolding settled store
  same_table x = length_table_settle x (ledger p)

  same_index : (x : List Member) → length (settled E p x).index ≡ E.index_words p.shape
  unfolding settled store lengths
  same_index x = laws.indexed p.shape (word_count p) (settle x (ledger p)) (in_range (sound_lengths E laws p ok))
    where
      in_range : lengths E p ≡ true → E.range p.shape (word_count p) ≡ true
      in_range h = search (and_l, and_r)

  same_shape : (x : List Member) → (settled E p x).shape ≡ p.shape
  unfolding settled
  same_shape x = shape_store E (settle x (ledger p)) p.head.next p

  -- every pool of the sequence has the lengths and the shape of the first
  pub settled_fits : (x y : List Member) (q : Pool) (o : Outcome) → q ≡ settled E p x → o.pool ≡ settled E p y
      → Fits q o
  settled_fits x y q o e d = record {
    arena = ap (λ (z : Pool). length z.arena) d ∙ same_arena y
        ∙ sym (ap (λ (z : Pool). length z.arena) e ∙ same_arena x);
    table = ap (λ (z : Pool). length z.table) d ∙ same_table y
        ∙ sym (ap (λ (z : Pool). length z.table) e ∙ same_table x);
    index = ap (λ (z : Pool). length z.index) d ∙ same_index y
        ∙ sym (ap (λ (z : Pool). length z.index) e ∙ same_index x);
    shape = ap (λ (z : Pool). z.shape) d ∙ same_shape y ∙ sym (ap (λ (z : Pool). z.shape) e ∙ same_shape x);
  }

  stray_event : (s : Progress) (q : Pool) (e : Event) → q ≡ settled E p s.done → Inv ms s → is_whole q e ≡ false
      → stand_all (ledger p) (brings q e) s (outcome E q e).counted ≡ true
      → (not (accepted (outcome E q e).answer) || elsewhere e.call) ≡ true → Moved s q e
  unfolding outcome is_replay is_old
  stray_event s q e d v w h b =
      let m = brought q e in
      let c = map_call (see q) e.call in
      let b' = brings q e in
      let spent : (r : Row) → (is_replay (ledger p) b' s r || is_old (ledger p) b' s r) ≡ true → named (ledger m) r ≢ 0 =
      λ r y z. spent_now E laws p ok ms suit s q d v b' r y
      (ap (λ (t : Words). named (records_of t) r) (sym (own_table_lem q e (own (own_table q e) refl r y))) ∙ z) in
      let k = stray_step E (ledger p) b' s w m spent c h in
      record {
        pool = quiet_after E q e (record {
          arena = k.arena;
          table = k.table;
          index = k.index;
          head = λ a.
              let (f, back) = k.head (and_l (accepted (outcome E q e).answer) (head_returns q e) a) in
              back ∙ returned_head q e (and_r (accepted (outcome E q e).answer) (head_returns q e) a)
              (sym (makes_seen (see q) e.call) ∙ fills_head c f);
          buffers = λ a. k.buffers (not_true (accepted (outcome E q e).answer)
              (or_first (not (accepted (outcome E q e).answer)) (elsewhere e.call) a b));
        }) ∙ d ∙ ap (λ (z : Progress). settled E p z.done) (sym k.progress);
        inv = subst (λ (z : Progress). Inv ms z) (sym k.progress) v;
        right = k.right;
        listed = λ a. absurd (false≢true (sym w ∙ a));
      }
    where
      own : (t : Bool) → own_table q e ≡ t → (r : Row)
          → (is_replay (ledger p) (brings q e) s r || is_old (ledger p) (brings q e) s r) ≡ true → t ≡ true
      own true o r y = refl
      own false o r y = absurd (false≢true (rw o at y))

  list_right : (q : Pool) → sound E q ≡ true → (c : Call Buffer) (o : Outcome) → o ≡ step E (map_call (see q) c) q
      → RightList q c o
  unfolding acts_done
  list_right q so (format first) o j = tt
  list_right q so (copy old) o j = tt
  list_right q so (single a) o j = tt
  list_right q so (look r hold) o j = tt
  list_right q so (list c rs bs) o j = λ h g.
      let k : o ≡ acts_done E (list c (see q rs) (see q bs)) q =
      j ∙ step_sound E (list c (see q rs) (see q bs)) q refl h so g in
      subst
      (λ (z : Outcome). (z.answer ≡ zero_answer)
      × (z.buffers ≡ (answer_words (answers_of z.counted) ++ drop (length (see q rs)) (see q bs)) ∷ []))
      (sym k) (refl, refl)

  whole_event : (s : Progress) (q : Pool) (e : Event) → q ≡ settled E p s.done → Inv ms s → is_whole q e ≡ true
      → stand_all (ledger p) (brings q e) s (outcome E q e).counted ≡ true
      → (not (accepted (outcome E q e).answer) || elsewhere e.call) ≡ true → Moved s q e
  whole_event s q e d v w h b = record {
    pool = left (accepted o.answer) refl
        ∙ ap (λ (x : Brings). settled E p (after_acts (ledger p) x s o.counted).done) (sym own);
    inv = subst (λ (x : Brings). Inv ms (after_acts (ledger p) x s o.counted)) (sym own) call.inv;
    right = subst (λ (x : Brings). RightAll (ledger p) x s o.counted) (sym own) call.right;
    listed = λ _. list_right q (whole_sound E laws p ok ms suit s q d v) e.call o is_step;
  }
    where
      o : Outcome
      o = outcome E q e

      c : Call Words
      c = map_call (see q) e.call

      own : brings q e ≡ all_own
      own = λ i. record { whole = w i; table = whole_table q e w i }

      is_step : o ≡ step E c q
      is_step = outcome_is E q e ∙ ap (λ (z : Pool). step E c z) (whole_brings q e w)

      call : WholeCall E laws p ok ms suit s q c o
      call =
          subst (λ (z : Outcome). WholeCall E laws p ok ms suit s q c z) (sym is_step)
          (whole_step E laws p ok ms suit s q d v c
          (subst (λ (z : Outcome). stand_all (ledger p) all_own s z.counted ≡ true) is_step
          (subst (λ (x : Brings). stand_all (ledger p) x s o.counted ≡ true) own h)))

      seen : brought q e ≡ q
      seen = whole_brings q e w

      left : (a : Bool) → accepted o.answer ≡ a
          → after E q e ≡ settled E p (after_acts (ledger p) all_own s o.counted).done
      left true a =
          whole_after E q e w a (ap (λ (x : Bool). not x || elsewhere e.call) (sym a) ∙ b)
          (settled_fits s.done (after_acts (ledger p) all_own s o.counted).done q o d (call.pool a))
          ∙ call.pool a
      left false a =
          let (k, still) = call.kept a in
          quiet_after E q e (record {
            arena = k.arena ∙ ap (λ (z : Pool). z.arena) (sym seen);
            table = k.table ∙ ap (λ (z : Pool). z.table) (sym seen);
            index = k.index ∙ ap (λ (z : Pool). z.index) (sym seen);
            head = λ y. absurd (false≢true (sym a ∙ and_l (accepted o.answer) (head_returns q e) y));
            buffers = λ _. k.buffers;
          })
          ∙ d ∙ ap (λ (z : Progress). settled E p z.done) (sym still)

  pub event : (s : Progress) (q : Pool) (e : Event) → q ≡ settled E p s.done → Inv ms s
      → stand_all (ledger p) (brings q e) s (outcome E q e).counted ≡ true
      → (not (accepted (outcome E q e).answer) || elsewhere e.call) ≡ true → Moved s q e
  event s q e d v h b = go (is_whole q e) refl
    where
      go : (w : Bool) → is_whole q e ≡ w → Moved s q e
      go true w = whole_event s q e d v w h b
      go false w = stray_event s q e d v w h b

  -- ---- a whole sequence

  at_end : (s : Progress) → Inv ms s → ◌≡◌ {A = Bool} (elim s.due [ [] ↦ true | m ∷ more ↦ false ]) true
      → settled E p s.done ≡ settled E p ms
  unfolding settled
  at_end s v h =
      ap (λ (L : Ledger). store E L p.head.next p)
      (settle_same s.done ms (λ t. ap (λ (due : List Member). or_else (plan_for t due) (plan_for t s.done))
      (sym (none_due s.due h)) ∙ v.covers t) (ledger p))
    where
      none_due : (due : List Member) → ◌≡◌ {A = Bool} (elim due [ [] ↦ true | m ∷ more ↦ false ]) true → due ≡ []
      none_due [] h = refl
      none_due (m ∷ more) h = absurd (false≢true h)

  events : (es : List Event) (s : Progress) (q : Pool) → q ≡ settled E p s.done → Inv ms s
      → follows E (ledger p) s q es ≡ true → Answered E (ledger p) s q es × (end_of E q es ≡ settled E p ms)
  events [] s q d v h = (tt, d ∙ at_end s v h)
  events (e ∷ es) s q d v h =
      let o = outcome E q e in
      let next = after_acts (ledger p) (brings q e) s o.counted in
      let m = event s q e d v (search (and_l, and_r)) (search (and_l, and_r)) in
      let rest = events es next (after E q e) m.pool m.inv (search (and_l, and_r)) in
      ((m.right, m.listed, rest.0), rest.1)

  pub start_inv : Inv ms (at_start E ms)
  start_inv = record { covers = λ t. or_none (plan_for t ms); fresh = λ t h. refl }
    where
      or_none : (o : Option Plan) → or_else o none ≡ o
      or_none none = refl
      or_none (some q) = refl

  pub sequence_end : (es : List Event) → Sequence E p ms es
      → Answered E (ledger p) (at_start E ms) p es × (end_of E p es ≡ settled E p ms)
  sequence_end es h = events es (at_start E ms) p (sym (unfold settled in settled_none E laws p ok)) start_inv h

-- ---- the demand

pub demand3 : (E : Engine) → Laws E → Demand3 E
unfolding Demand3 settled
demand3 E laws p ok ms suit es h =
    let r = sequence_end E laws p ok ms suit es h in
    record {
      answered = r.0;
      form = r.1;
      holds = ap (λ (q : Pool). ledger q) r.1 ∙ ledger_store E (settle ms (ledger p)) p.head.next p;
      is_sound = ap (λ (q : Pool). sound E q) r.1 ∙ settled_sound E laws p ok ms;
      kept = λ i k. ap (λ (q : Pool). get_or q.arena i 0) r.1
          ∙ store_keeps E (settle ms (ledger p)) p.head.next p i k;
      same = λ others k ls.
          let e : end_of E p es ≡ end_of E p others = r.1 ∙ sym (sequence_end E laws p ok ms suit others k).1 in
          (e, ap (λ (q : Pool). later_outcomes E q ls) e, ap (λ (q : Pool). later_end E q ls) e);
    }
