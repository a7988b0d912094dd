-- Tickets from before a restart. 02, ticket 2: "if the first number is above every ticket given before, no earlier
-- ticket is ever live in the new pool, as long as each call that isn't refused gets head and table as the one before
-- left them and no other format, nor any call added later that fills a head or table anew, is accepted there." Arena,
-- index and S are free: an accepted call may bring others. Proved in proofs/Restart for any engine. Assumes nothing.
use Rattle.std.specs.Prelude.{ℕ, ◌<◌, ◌≡◌, Bool, true, false, not, ◌&&◌, ◌||◌, List, [], ◌∷◌}
use Rattle.std.proofs.Math.Option.{Option, none, some}
use Rattle.words.specs.Lists.{all}
use Rattle.ledger.specs.Records.{record_of}
use Rattle.calls.specs.Pool.{Pool, ledger, Engine}
use Rattle.calls.specs.Step.{Call, format, copy, single, look, list, accepted, Act, ask, give, query, cut, bad}
use Rattle.calls.specs.Step.{Counted, fills, step}
use Rattle.calls.specs.Lent.{in_arena, in_table, in_index, Spot, own, other, Event, head_brought, same_head, own_table}
use Rattle.calls.specs.Lent.{written_by, outcome, Later, calls, writes, later_pool}
use Rattle.calls.specs.Demand3.{elsewhere}

-- ---- the ticket that an act names, and a call that is one act

abbrev pub ticket_of : Act → Option ℕ
ticket_of (ask c n) = none
ticket_of (give r) = some r.ticket
ticket_of (query r) = some r.ticket
ticket_of (cut r n) = some r.ticket
ticket_of bad = none

abbrev pub ticket_named : {B : Type 0} → Call B → Option ℕ
ticket_named (format first) = none
ticket_named (copy old) = none
ticket_named (single a) = ticket_of a
ticket_named (look r hold) = some r.ticket
ticket_named (list c rs bs) = none

abbrev pub ticket_counted : Counted → Option ℕ
ticket_counted c = elim c.act [ none ↦ none | some a ↦ ticket_of a ]

-- ---- sequences from an accepted format on

-- not a word of the pool's table
abbrev pub off_table : Spot → Bool
off_table (own in_arena i) = true
off_table (own in_table i) = false
off_table (own in_index i) = true
off_table (other v) = true

abbrev pub own_head : Pool → Event → Bool
own_head q e = same_head (head_brought q e.head) q.head

-- The call gets head and table as the one before left them: the pool's head, all of its table, and no word of the
-- table among the others that it is lent to write.
unfoldable pub as_left : Pool → Event → Bool
as_left q e =
    own_head q e && own_table q e
    && all off_table e.arena && all off_table e.index && all (all off_table) (written_by e.call)

module _ (E : Engine) where
  -- A list that runs counts as its requests (01): refused are those of which each is, with the answers written outside
  -- the pool.
  abbrev pub requests_refused : Pool → Event → Bool
  requests_refused q e = all (λ c. not (accepted c.answer)) (outcome E q e).counted && elsewhere e.call

  -- A call is refused, or gets both as they were left and fills nothing anew. A caller writes anywhere but into the
  -- table.
  abbrev pub allowed : Pool → Later → Bool
  allowed q (calls e) =
      not (accepted (outcome E q e).answer) || requests_refused q e || (as_left q e && not (fills e.call))
  allowed q (writes part i v) = off_table (own part i)

  abbrev pub all_allowed : Pool → List Later → Bool
  all_allowed q [] = true
  all_allowed q (l ∷ ls) = allowed q l && all_allowed (later_pool E q l) ls

  -- at the start, and after each of some calls and writes
  abbrev pub Always : (Pool → Type 0) → Pool → List Later → Type 0
  Always P q [] = P q
  Always P q (l ∷ ls) = P q × Always P (later_pool E q l) ls

  -- every act that names a ticket below n is refused
  abbrev pub RefusedBelow : ℕ → List Counted → Type 0
  RefusedBelow n [] = Unit {0}
  RefusedBelow n (c ∷ cs) =
      ((t : ℕ) → ticket_counted c ≡ some t → t < n → accepted c.answer ≡ false) × RefusedBelow n cs

  pub record NoneBelow (n : ℕ) (q : Pool) : Type 0 where
    -- no ticket below n is live
    pub dead : (t : ℕ) → t < n → record_of t (ledger q) ≡ none
    -- a call that names one with the pool's own table is refused, whatever else it brings
    pub refused : (e : Event) → own_table q e ≡ true → (t : ℕ) → ticket_named e.call ≡ some t → t < n
        → accepted (outcome E q e).answer ≡ false
    -- and so is each request of a list, where the call brings the pool's head too (with another head the list may be
    -- granted such a ticket itself, and release it)
    pub listed : (e : Event) → own_table q e ≡ true → own_head q e ≡ true → RefusedBelow n (outcome E q e).counted

  -- from any accepted format on, with any first number
  unfoldable pub Restart : Type 0
  Restart =
      (m : Pool) (first : ℕ) → accepted (step E (format first) m).answer ≡ true
      → (ls : List Later) → all_allowed (step E (format first) m).pool ls ≡ true
      → Always (NoneBelow first) (step E (format first) m).pool ls
