-- Calls that do not bring the pool whole: in a sequence all that they count as is refused, and they change nothing.
-- Assumes nothing.
use Prim.Native.Nat.{ℕ}
use mathlib.Core.Path.{◌≡◌, refl, sym, ap, ap₂, ◌∙◌, subst}
use mathlib.Core.Bool.{Bool, true, false, not, ◌||◌, false≢true}
use mathlib.Core.Logic.{◌≢◌}
use mathlib.Core.List.{List, [], ◌∷◌}
use lib.Dec.{eqb}
use Rattle.words.specs.Lists.{Words}
use Rattle.words.proofs.Tests.{and_l, and_r, not_true, eqb_ne}
use Rattle.ledger.specs.declared.Row.{Row}
use Rattle.ledger.specs.Records.{Ledger, Plan}
use Rattle.calls.specs.Pool.{Pool, ledger, Engine}
use Rattle.calls.specs.Step.{Call, format, copy, single, look, list, refusal, accepted, Act, Kind, plans, reads}
use Rattle.calls.specs.Step.{others, kind_of, Outcome, named, answer_to, pool_after, counted_of, pool_after_all, acts_of}
use Rattle.calls.specs.Step.{buffers_of, counted_whole, fills, refused_by, acts_done, perform, step}
use Rattle.calls.specs.Demand3.{Brings, Progress, is_replay, is_old, stands_as, stands, Right, after_act, stand_all}
use Rattle.calls.specs.Demand3.{RightAll, after_acts}
use Rattle.calls.proofs.GateLaws.{Way, stops, runs, way, perform_acts}
use Rattle.calls.proofs.ProgressLaws.{given, not_due, stays, right_stray}
use Rattle.calls.proofs.CallLaws.{act_kept, plan_refused, own_buffers}

-- ---- their acts

record Strayed (E : Engine) (start : Ledger) (b : Brings) (s : Progress) (m : Pool) (more : List Act) : Type 0 where
  kept : pool_after_all E m more ≡ m
  right : RightAll start b s (counted_of E m more)
  progress : after_acts start b s (counted_of E m more) ≡ s

-- `spent`: the memory brought has no record that a replay or an old release or trim names
module _ (E : Engine) (start : Ledger) (b : Brings) (s : Progress) (w : b.whole ≡ false) (m : Pool)
    (spent : (r : Row) → (is_replay start b s r || is_old start b s r) ≡ true → named (ledger m) r ≢ 0) where
  stray_refused : (a : Act) → stands start b s (given a (answer_to E m a)) ≡ true → accepted (answer_to E m a) ≡ false
  unfolding stands
  stray_refused a h = go (kind_of a) refl h
    where
      plan : (q : Plan) (r : Row) → kind_of a ≡ plans q r → (c : Bool) → (is_replay start b s r || is_old start b s r) ≡ c
          → (c || not (accepted (answer_to E m a))) ≡ true → accepted (answer_to E m a) ≡ false
      plan q r e true k h =
          let n = named (ledger m) r in
          ap accepted (plan_refused E m a q r e n refl (spent r k)) ∙ eqb_ne n 0 (spent r k)
      plan q r e false k h = not_true (accepted (answer_to E m a)) h

      go : (k : Kind) → kind_of a ≡ k → stands_as start b s k (answer_to E m a) ≡ true → accepted (answer_to E m a) ≡ false
      go (plans q r) e h =
          plan q r e (is_replay start b s r || is_old start b s r) refl (rw (not_due start b s w (plans q r)) at h)
      go reads e h = not_true (accepted (answer_to E m a)) (rw w at h)
      go others e h = not_true (accepted (answer_to E m a)) h

  stray_acts : (more : List Act) → stand_all start b s (counted_of E m more) ≡ true → Strayed E start b s m more
  stray_acts [] h = record { kept = refl; right = tt; progress = refl }
  stray_acts (a ∷ more) h =
      let x = answer_to E m a in
      let c = given a x in
      let f : accepted x ≡ false = stray_refused a (and_l (stands start b s c)
      (stand_all start b (after_act start b s c) (counted_of E (pool_after E m a) more)) h) in
      let k : pool_after E m a ≡ m = act_kept E m a f in
      let d : after_act start b s c ≡ s = stays start b s a x (not_due start b s w (kind_of a)) f in
      let g : stand_all start b (after_act start b s c) (counted_of E (pool_after E m a) more) ≡ true = and_r
      (stands start b s c) (stand_all start b (after_act start b s c) (counted_of E (pool_after E m a) more)) h in
      let ih = stray_acts more (subst (λ (z : Pool). stand_all start b s (counted_of E z more) ≡ true) k
      (subst (λ (z : Progress). stand_all start b z (counted_of E (pool_after E m a) more) ≡ true) d g)) in
      record {
        kept = ap (λ (z : Pool). pool_after_all E z more) k ∙ ih.kept;
        right = (
          right_stray start b s a x w f,
          subst (λ (z : Progress). RightAll start b z (counted_of E (pool_after E m a) more)) (sym d)
              (subst (λ (z : Pool). RightAll start b s (counted_of E z more)) (sym k) ih.right),
        );
        progress = ap₂ (λ (z : Progress) (y : Pool). after_acts start b z (counted_of E y more)) d k ∙ ih.progress;
      }

-- ---- the calls

-- all that it counts as is refused, and it changes nothing; if it is accepted all the same, as a list is, it fills
-- nothing and hands back the head that it was brought
pub record StrayCall (E : Engine) (start : Ledger) (b : Brings) (s : Progress) (c : Call Words) (m : Pool)
    (o : Outcome) : Type 0 where
  pub arena : o.pool.arena ≡ m.arena
  pub table : o.pool.table ≡ m.table
  pub index : o.pool.index ≡ m.index
  pub head : accepted o.answer ≡ true → (fills c ≡ false) × (o.pool.head ≡ m.head)
  pub buffers : accepted o.answer ≡ false → o.buffers ≡ buffers_of c
  pub right : RightAll start b s o.counted
  pub progress : after_acts start b s o.counted ≡ s

-- a call that fills memory anew is accepted where it is performed, so it stands in no sequence
pub no_filling : (E : Engine) (start : Ledger) (b : Brings) (s : Progress) (c : Call Words) (m : Pool)
    → fills c ≡ true → stand_all start b s (perform E c m).counted ≡ true → ⊥
unfolding perform stands
no_filling E start b s (format first) m f h = false≢true h
no_filling E start b s (copy old) m f h = false≢true h
no_filling E start b s (single a) m f h = false≢true f
no_filling E start b s (look r hold) m f h = false≢true f
no_filling E start b s (list c rs bs) m f h = false≢true f

module _ (E : Engine) (start : Ledger) (b : Brings) (s : Progress) (w : b.whole ≡ false) (m : Pool)
    (spent : (r : Row) → (is_replay start b s r || is_old start b s r) ≡ true → named (ledger m) r ≢ 0) where
  stray_stopped : (c : Call Words) (n : ℕ) → eqb n 0 ≡ false → StrayCall E start b s c m (refused_by E c m n)
  unfolding after_act
  stray_stopped c n z = record {
    arena = refl;
    table = refl;
    index = refl;
    head = λ h. absurd (false≢true (sym z ∙ h));
    buffers = λ _. refl;
    right = (right c, tt);
    progress = still c;
  }
    where
      right : (c : Call Words) → Right start b s (counted_whole c n)
      right (format first) = tt
      right (copy old) = tt
      right (single a) = right_stray start b s a (refusal n) w z
      right (look r hold) = tt
      right (list c rs bs) = tt

      still : (c : Call Words) → after_act start b s (counted_whole c n) ≡ s
      still (format first) = refl
      still (copy old) = refl
      still (single a) = stays start b s a (refusal n) (not_due start b s w (kind_of a)) z
      still (look r hold) = refl
      still (list c rs bs) = refl

  stray_acted : (c : Call Words) → fills c ≡ false → stand_all start b s (acts_done E c m).counted ≡ true
      → StrayCall E start b s c m (acts_done E c m)
  unfolding acts_done
  stray_acted c f h =
      let a = stray_acts E start b s w m spent (acts_of c) h in
      record {
        arena = ap (λ (z : Pool). z.arena) a.kept;
        table = ap (λ (z : Pool). z.table) a.kept;
        index = ap (λ (z : Pool). z.index) a.kept;
        head = λ _. (f, ap (λ (z : Pool). z.head) a.kept);
        buffers = own_buffers c (counted_of E m (acts_of c));
        right = a.right;
        progress = a.progress;
      }

  pub stray_step : (c : Call Words) → stand_all start b s (step E c m).counted ≡ true
      → StrayCall E start b s c m (step E c m)
  stray_step c h = by (step E c m) (way E c m) h
    where
      at : (o q : Outcome) → o ≡ q → StrayCall E start b s c m q → StrayCall E start b s c m o
      at o q e k = subst (λ (z : Outcome). StrayCall E start b s c m z) (sym e) k

      acts : (f : Bool) → fills c ≡ f → stand_all start b s (perform E c m).counted ≡ true
          → StrayCall E start b s c m (perform E c m)
      acts true f h = absurd (no_filling E start b s c m f h)
      acts false f h =
          let e = perform_acts E c m f in
          at (perform E c m) (acts_done E c m) e
          (stray_acted c f (subst (λ (z : Outcome). stand_all start b s z.counted ≡ true) e h))

      by : (o : Outcome) → Way E c m o → stand_all start b s o.counted ≡ true → StrayCall E start b s c m o
      by o (stops n g z e) h = at o (refused_by E c m n) e (stray_stopped c n (eqb_ne n 0 z))
      by o (runs g e) h =
          at o (perform E c m) e
          (acts (fills c) refl (subst (λ (z : Outcome). stand_all start b s z.counted ≡ true) e h))
