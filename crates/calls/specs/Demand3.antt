-- Demand 3: order makes no difference. One claim over whole sequences of calls, for any engine; 01, "Demand 3 is one
-- single claim .."; with trims: 02, ticket 13. Proved in proofs/Demand3. Assumes nothing.
use Rattle.std.specs.Prelude.{ℕ, ◌≡◌, Bool, true, false, cond, not, ◌&&◌, ◌||◌, List, [], ◌∷◌, ◌++◌, eqb, ltb, length, get_or, drop}
use Rattle.std.proofs.Math.Option.{Option, none, some}
use Rattle.words.specs.Lists.{all, is_some}
use Rattle.ledger.specs.declared.Row.{Row}
use Rattle.ledger.specs.Records.{Ledger, is_party, record_of, Plan, vacate, keep, feasible, Member, member, plan_for}
use Rattle.ledger.specs.Records.{settle}
use Rattle.ledger.specs.Units.{owned}
use Rattle.calls.specs.declared.Answer.{Answer}
use Rattle.calls.specs.Pool.{Pool, ledger, Engine, rule_of, store, sound}
use Rattle.calls.specs.Step.{Call, format, copy, single, look, list, told, zero_answer, refusal, accepted, Act}
use Rattle.calls.specs.Step.{Kind, plans, reads, others, kind_of, Counted, Outcome, named, list_suits, answer_words}
use Rattle.calls.specs.Step.{answers_of}
use Rattle.calls.specs.Lent.{Buffer, see, is_other, Event, is_whole, own_table, written_by, outcome, after, Later}
use Rattle.calls.specs.Lent.{later_end, later_outcomes}

-- ---- one act of a sequence

-- What a call brings, as far as its acts go: the pool whole; the pool's own table.
pub record Brings : Type 0 where
  pub whole : Bool
  pub table : Bool

-- Where a sequence stands: the members of the set that are still due, and the plans that were carried out, each by a
-- release or trim that was accepted.
pub record Progress : Type 0 where
  pub due : List Member
  pub done : List Member

abbrev pub remove : ℕ → List Member → List Member
remove t [] = []
remove t (m ∷ ms) = cond (eqb m.ticket t) (remove t ms) (m ∷ remove t ms)

-- a ticket has this plan
abbrev pub is_plan : Plan → Option Plan → Bool
is_plan q none = false
is_plan vacate (some vacate) = true
is_plan vacate (some (keep n)) = false
is_plan (keep m) (some vacate) = false
is_plan (keep m) (some (keep n)) = eqb m n

-- it leaves fewer than w words of the record
abbrev pub leaves_fewer : Option Plan → ℕ → Bool
leaves_fewer none w = false
leaves_fewer (some vacate) w = false
leaves_fewer (some (keep n)) w = ltb n w

-- `start` is the ledger at the start. A ticket is live at a call if it has it and no release of it was accepted
-- earlier: "A trimmed ticket stays live".
unfoldable pub live : Ledger → List Member → ℕ → Bool
live start did t = is_some (record_of t start) && not (is_plan vacate (plan_for t did))

-- a release or trim of the set: brings the pool whole, is the one of the two and keeps the words that were "settled
-- beforehand", and names ticket, address and words as the ledger at the start has them, "by its own party": `named` gives
-- another's 6
unfoldable pub is_due : Ledger → Brings → Progress → Plan → Row → Bool
is_due start b s q r = b.whole && is_plan q (plan_for r.ticket s.due) && eqb (named start r) 0

-- a replay: a release or trim whose ticket is not live there. It may bring any head, S, arena and index with the pool's own
-- table.
unfoldable pub is_replay : Ledger → Brings → Progress → Row → Bool
is_replay start b s r = b.table && not (live start s.done r.ticket)

-- "An old release with the longer length", or an old trim: it names the record as it was at the start, and the ticket was
-- trimmed to fewer words.
unfoldable pub is_old : Ledger → Brings → Progress → Row → Bool
is_old start b s r = b.table && leaves_fewer (plan_for r.ticket s.done) r.words && eqb (named start r) 0

-- What is assumed of an act and its answer, by its kind: nothing of a release or trim of the set, of a replay, of an old
-- one, and of a find or look that brings the pool whole; every other act is refused.
abbrev pub stands_as : Ledger → Brings → Progress → Kind → Answer → Bool
stands_as start b s (plans q r) x =
    is_due start b s q r || (is_replay start b s r || is_old start b s r) || not (accepted x)
stands_as start b s reads x = b.whole || not (accepted x)
stands_as start b s others x = not (accepted x)

-- What is claimed: a release of the set is accepted, with its three echoed, a trim of it with the words kept in place of
-- the words; a replay, by whichever party, is refused, by 6 where it brings the pool whole and its party is one, by 12
-- where it is none; an old one is refused, by 7 where it brings the pool whole.
pub record RightPlan (start : Ledger) (b : Brings) (s : Progress) (q : Plan) (r : Row) (x : Answer) : Type 0 where
  pub accepts : is_due start b s q r ≡ true → x ≡ told q r
  pub refuses : (is_replay start b s r || is_old start b s r) ≡ true → accepted x ≡ false
  pub six : is_replay start b s r ≡ true → b.whole ≡ true → is_party r.party ≡ true → x ≡ refusal 6
  pub twelve : is_replay start b s r ≡ true → b.whole ≡ true → is_party r.party ≡ false → x ≡ refusal 12
  pub seven : is_old start b s r ≡ true → b.whole ≡ true → x ≡ refusal 7

abbrev pub RightAs : Ledger → Brings → Progress → Kind → Answer → Type 0
RightAs start b s (plans q r) x = RightPlan start b s q r x
RightAs start b s reads x = Unit {0}
RightAs start b s others x = Unit {0}

-- where the sequence stands after an act
abbrev pub after_as : Ledger → Brings → Progress → Kind → Answer → Progress
after_as start b s (plans q r) x = record {
  due = cond (is_due start b s q r) (remove r.ticket s.due) s.due;
  done = cond (accepted x) (member r.ticket q ∷ s.done) s.done;
}
after_as start b s reads x = s
after_as start b s others x = s

-- a call that counts as a whole is no act: it makes a pool or fails
abbrev pub as_kind : Option Act → Kind
as_kind none = others
as_kind (some a) = kind_of a

unfoldable pub stands : Ledger → Brings → Progress → Counted → Bool
stands start b s c = stands_as start b s (as_kind c.act) c.answer

abbrev pub Right : Ledger → Brings → Progress → Counted → Type 0
Right start b s c = RightAs start b s (as_kind c.act) c.answer

unfoldable pub after_act : Ledger → Brings → Progress → Counted → Progress
after_act start b s c = after_as start b s (as_kind c.act) c.answer

-- the acts of one call, one after another
abbrev pub stand_all : Ledger → Brings → Progress → List Counted → Bool
stand_all start b s [] = true
stand_all start b s (c ∷ cs) = stands start b s c && stand_all start b (after_act start b s c) cs

abbrev pub RightAll : Ledger → Brings → Progress → List Counted → Type 0
RightAll start b s [] = Unit {0}
RightAll start b s (c ∷ cs) = Right start b s c × RightAll start b (after_act start b s c) cs

abbrev pub after_acts : Ledger → Brings → Progress → List Counted → Progress
after_acts start b s [] = s
after_acts start b s (c ∷ cs) = after_acts start b (after_act start b s c) cs

-- ---- whole sequences

abbrev pub brings : Pool → Event → Brings
brings q e = record { whole = is_whole q e; table = own_table q e }

-- nobody else writes into the pool: a list call that ran wrote its answers elsewhere
abbrev pub elsewhere : Call Buffer → Bool
elsewhere c = all (all is_other) (written_by c)

-- A list call that brings the pool whole, suits its buffer and gives a party runs: it answers 0 and zeros, and leaves
-- its answers in the buffer, whose words beyond the list stay.
abbrev pub RightList : Pool → Call Buffer → Outcome → Type 0
RightList q (list c rs bs) o =
    list_suits (see q rs) (see q bs) ≡ true → is_party c ≡ true
    → (o.answer ≡ zero_answer)
    × (o.buffers ≡ (answer_words (answers_of o.counted) ++ drop (length (see q rs)) (see q bs)) ∷ [])
RightList q (format first) o = Unit {0}
RightList q (copy old) o = Unit {0}
RightList q (single a) o = Unit {0}
RightList q (look r hold) o = Unit {0}

module _ (E : Engine) (start : Ledger) where
  -- From the pool q on: every act of every call stands as it should, and at the end nothing is due.
  abbrev pub follows : Progress → Pool → List Event → Bool
  follows s q [] = elim s.due [ [] ↦ true | m ∷ ms ↦ false ]
  follows s q (e ∷ es) =
      let o = outcome E q e in
      stand_all start (brings q e) s o.counted
      && (not (accepted o.answer) || elsewhere e.call)
      && follows (after_acts start (brings q e) s o.counted) (after E q e) es

  abbrev pub Answered : Progress → Pool → List Event → Type 0
  Answered s q [] = Unit {0}
  Answered s q (e ∷ es) =
      let o = outcome E q e in
      RightAll start (brings q e) s o.counted
      × (is_whole q e ≡ true → RightList q e.call o)
      × Answered (after_acts start (brings q e) s o.counted) (after E q e) es

module _ (E : Engine) where
  abbrev pub end_of : Pool → List Event → Pool
  end_of q [] = q
  end_of q (e ∷ es) = end_of (after E q e) es

  abbrev pub at_start : List Member → Progress
  at_start ms = record { due = ms; done = [] }

  -- a sequence of calls on the pool p that carries out the plans of the set
  abbrev pub Sequence : Pool → List Member → List Event → Type 0
  Sequence p ms es = follows E (ledger p) (at_start ms) p es ≡ true

  pub record Claim (p : Pool) (ms : List Member) (es : List Event) : Type 0 where
    -- each release or trim of the set is accepted, and each replay and each old one is refused
    pub answered : Answered E (ledger p) (at_start ms) p es
    -- Every stored word at the end: the stored form of the start's ledger with the set's plans carried out, trimmed
    -- records and the others in their slots, next ticket as it was.
    pub form : end_of p es ≡ store E (settle ms (ledger p)) p.head.next p
    pub holds : ledger (end_of p es) ≡ settle ms (ledger p)
    pub is_sound : sound E (end_of p es) ≡ true
    -- in blocks still held every word but a control word is as at the start
    pub kept : (i : ℕ) → owned (rule_of E p) (settle ms (ledger p)) i ≡ true
        → get_or (end_of p es).arena i 0 ≡ get_or p.arena i 0
    -- After another such sequence from this pool and this set every word is the same; and the same later calls,
    -- accepted ones too, with the same writing by callers between them, get the same answers and leave the same
    -- words.
    pub same : (others : List Event) → Sequence p ms others → (ls : List Later)
        → (end_of p es ≡ end_of p others)
        × (later_outcomes E (end_of p es) ls ≡ later_outcomes E (end_of p others) ls)
        × (later_end E (end_of p es) ls ≡ later_end E (end_of p others) ls)

  -- a live ticket, to be released, or trimmed to "from 1 to the words asked"
  abbrev pub settled_for : Ledger → Member → Bool
  settled_for start m = elim (record_of m.ticket start) [ none ↦ false | some r ↦ feasible m.plan r ]

  -- Any sound pool, any set of its live tickets with what is settled for each, any such sequence.
  unfoldable pub Demand3 : Type 0
  Demand3 =
      (p : Pool) → sound E p ≡ true
      → (ms : List Member) → all (settled_for (ledger p)) ms ≡ true
      → (es : List Event) → Sequence p ms es → Claim p ms es
