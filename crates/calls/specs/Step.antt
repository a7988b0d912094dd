-- Calls, answers, numbers in their order, and one total step over an engine. 01, "Calls and numbers"; 02, tickets 2,
-- 6 and 13. Assumes nothing.
use Rattle.std.specs.Prelude.{ℕ, ◌+◌, ◌*◌, ◌/◌, ◌%◌, ◌≡◌, Bool, true, false, cond, ◌&&◌, ◌||◌, List, [], ◌∷◌, ◌++◌, map, eqb, leb, ltb, length, get_or, drop, replicate}
use Rattle.std.proofs.Math.Option.{Option, none, some}
use Rattle.words.specs.Lists.{Words, list_from}
use Rattle.words.specs.Places.{wiped}
use Rattle.ledger.specs.declared.Row.{Row}
use Rattle.ledger.specs.Records.{Ledger, row, is_party, empty_row, record_words, table_of, slots, record_of, same_block}
use Rattle.ledger.specs.Records.{full, enter, Plan, vacate, keep, keepable, shortened, member, settle}
use Rattle.ledger.specs.Units.{span, address_at, past, free, lowest_fit}
use Rattle.calls.specs.declared.Answer.{Answer}
use Rattle.calls.specs.Pool.{Head, Pool, with_head, with_table, ledger, word_count, Engine, most_records, next_after}
use Rattle.calls.specs.Pool.{rule_of, store, lengths, stored}

-- ---- acts

-- What a call does on a sound pool: a list call does its requests, one after another, and every other call but format
-- and copy one such act. A row that is named has the party that names it.
pub data Act : Type 0 where
  -- party and words
  ask : ℕ → ℕ → Act
  give : Row → Act
  query : Row → Act
  -- a record, and the words of it to keep (02, ticket 13)
  cut : Row → ℕ → Act
  -- a listed request of unknown kind or with spare words not zero
  bad : Act

-- What an act is to the records: a release or trim carries out a plan on the record that it names, a find or look
-- changes nothing, and every other act makes a record or fails.
pub data Kind : Type 0 where
  plans : Plan → Row → Kind
  reads : Kind
  others : Kind

abbrev pub kind_of : Act → Kind
kind_of (ask c n) = others
kind_of (give r) = plans vacate r
kind_of (query r) = reads
kind_of (cut r n) = plans (keep n) r
kind_of bad = others

-- ---- calls and answers

-- The calls, with all arguments but the pool. `B` is what a lent buffer is: its words, or where they lie.
pub data Call (B : Type 0) : Type 0 where
  -- with the first ticket number
  format : ℕ → Call B
  -- with an old table, of three words to a record, into the pool's table; it takes nothing else of the pool
  copy : B → Call B
  -- a call that is one act: allocate, release, find, trim
  single : Act → Call B
  -- with the placeholder
  look : Row → B → Call B
  -- party, the requests, and the answer buffer
  list : ℕ → B → B → Call B

abbrev pub allocate : {B : Type 0} → ℕ → ℕ → Call B
allocate c n = single (ask c n)

abbrev pub release : {B : Type 0} → Row → Call B
release r = single (give r)

abbrev pub find : {B : Type 0} → Row → Call B
find r = single (query r)

abbrev pub trim : {B : Type 0} → Row → ℕ → Call B
trim r n = single (cut r n)

-- "Success is 0 with ticket, address, words", or with zeros
abbrev pub success : Row → Answer
success r = record { number = 0; ticket = r.ticket; address = r.address; words = r.words }

-- what is answered where a plan was carried out on r: a release echoes its three, a trim "gives the words kept in place of
-- the words"
abbrev pub told : Plan → Row → Answer
told vacate r = success r
told (keep n) r = success (shortened n r)

abbrev pub zero_answer : Answer
zero_answer = success empty_row

abbrev pub refusal : ℕ → Answer
refusal n = record { number = n; ticket = 0; address = 0; words = 0 }

abbrev pub accepted : Answer → Bool
accepted x = eqb x.number 0

-- What look hands back: `count` words of the arena from `from` on, or the caller's placeholder, whole. Other calls
-- show nothing.
pub data Slice : Type 0 where
  arena_part : ℕ → ℕ → Slice
  placeholder : Slice
  nothing : Slice

-- An act with its answer; no act where a call counts as a whole: format, copy, and a list call that is refused.
pub record Counted : Type 0 where
  pub act : Option Act
  pub answer : Answer

-- All that a call hands back and leaves: its own answer, what it counts as, look's slice, the pool, and the lent
-- buffers beside it.
pub record Outcome : Type 0 where
  pub answer : Answer
  pub counted : List Counted
  pub shown : Slice
  pub pool : Pool
  pub buffers : List Words

-- ---- lists

-- four words to a request: 1, words, 0, 0 to allocate; 2, ticket, address, words to release; c is the list's party
abbrev pub request : ℕ → ℕ → ℕ → ℕ → ℕ → Act
request c k x y z = cond (eqb k 1 && eqb y 0 && eqb z 0) (ask c x) (cond (eqb k 2) (give (row x y z c)) bad)

abbrev pub requests : ℕ → Words → List Act
requests c [] = []
requests c (k ∷ []) = []
requests c (k ∷ x ∷ []) = []
requests c (k ∷ x ∷ y ∷ []) = []
requests c (k ∷ x ∷ y ∷ z ∷ more) = request c k x y z ∷ requests c more

abbrev pub answer_words : List Answer → Words
answer_words [] = []
answer_words (x ∷ xs) = x.number ∷ x.ticket ∷ x.address ∷ x.words ∷ answer_words xs

abbrev pub most_requests : ℕ
most_requests = 1024

-- a multiple of four long, at most 1,024 requests, and room for their answers
abbrev pub list_suits : Words → Words → Bool
list_suits rs bs = eqb (length rs % 4) 0 && leb (length rs) (4 * most_requests) && leb (length rs) (length bs)

-- ---- a copy of an old table (02, ticket 6)

-- "one call copies an old table into a new one of as many records (else 8) as party 1, three zeros becoming four zeros"
abbrev pub old_words : ℕ
old_words = 3

abbrev pub widened : ℕ → ℕ → ℕ → Row
widened t a w = cond (eqb t 0 && eqb a 0 && eqb w 0) empty_row (row t a w 1)

abbrev pub widened_at : Words → ℕ → Row
widened_at old i = widened (get_or old (old_words * i) 0) (get_or old (old_words * i + 1) 0) (get_or old (old_words * i + 2) 0)

unfoldable pub copied : Words → Ledger
copied old = list_from (widened_at old) 0 (length old / old_words)

abbrev pub copy_suits : Words → Words → Bool
copy_suits old new =
    eqb (length old % old_words) 0 && leb 1 (length old / old_words) && leb (length old / old_words) most_records
    && eqb (length new) (record_words * (length old / old_words))

-- ---- one act on a sound pool

-- the number of release and find: 6, 7 or 0. "Another party's ticket is answered 6, as a dead one."
unfoldable pub named : Ledger → Row → ℕ
named L r =
    elim (record_of r.ticket L) [
      | none ↦ 6
      | some s ↦ cond (eqb s.party r.party) (cond (same_block s r) 0 7) 6
    ]

module _ (E : Engine) where
  -- the lowest unit from which enough units are free for n words
  unfoldable pub fit_of : Pool → ℕ → Option ℕ
  fit_of p n = lowest_fit (free (rule_of E p) (ledger p)) (word_count p / (rule_of E p).unit) (span (rule_of E p) n)

  -- the rows from 9 on, in 01's order; 0 is success. A party that is none comes before them (the gate stops a call by
  -- it).
  unfoldable pub number_of : Pool → Act → ℕ
  number_of p (ask c n) =
      cond (is_party c)
      (cond (eqb n 0 || ltb (E.limit p.shape) n) 2
      (cond (full (ledger p)) 3
      (cond (eqb p.head.next 0) 4
      (elim (fit_of p n) [ none ↦ 5 | some k ↦ 0 ]))))
      12
  number_of p (give r) = named (ledger p) r
  number_of p (query r) = named (ledger p) r
  -- "words to keep, from 1 to the words asked, else 2, after 6 and 7"
  number_of p (cut r n) = cond (eqb (named (ledger p) r) 0) (cond (keepable n r) 0 2) (named (ledger p) r)
  number_of p bad = 9

  -- n words from unit k on for party c, under the next ticket: the record goes into the lowest empty slot, and the
  -- granted words read zero
  abbrev pub new_row : Pool → ℕ → ℕ → ℕ → Row
  new_row p c n k = row p.head.next (address_at (rule_of E p) k) n c

  unfoldable pub grant : Pool → ℕ → ℕ → ℕ → Pool
  grant p c n k =
      let new = new_row p c n k in
      let zeroed = wiped 0 new.address ((rule_of E p).unit * past (rule_of E p) new) p.arena in
      store E (enter new (ledger p)) (next_after p.head.next)
      (record { head = p.head; shape = p.shape; arena = zeroed; table = p.table; index = p.index })

  -- the plan of one ticket carried out
  abbrev pub carry : Pool → ℕ → Plan → Pool
  carry p t q = store E (settle (member t q ∷ []) (ledger p)) p.head.next p

  -- a successful act's answer, and the pool after it: a release empties the record's slot, a trim leaves the record with
  -- the words kept
  unfoldable pub answer_done : Pool → Act → Answer
  answer_done p (ask c n) = elim (fit_of p n) [ none ↦ refusal 5 | some k ↦ success (new_row p c n k) ]
  answer_done p (give r) = success r
  answer_done p (query r) = success r
  answer_done p (cut r n) = told (keep n) r
  answer_done p bad = refusal 9

  unfoldable pub pool_done : Pool → Act → Pool
  pool_done p (ask c n) = elim (fit_of p n) [ none ↦ p | some k ↦ grant p c n k ]
  pool_done p (give r) = carry p r.ticket vacate
  pool_done p (query r) = p
  pool_done p (cut r n) = carry p r.ticket (keep n)
  pool_done p bad = p

  -- a refused act leaves the pool as it was
  unfoldable pub answer_to : Pool → Act → Answer
  answer_to p a = cond (eqb (number_of p a) 0) (answer_done p a) (refusal (number_of p a))

  unfoldable pub pool_after : Pool → Act → Pool
  pool_after p a = cond (eqb (number_of p a) 0) (pool_done p a) p

  -- ---- several acts, one after another

  abbrev pub counted_of : Pool → List Act → List Counted
  counted_of p [] = []
  counted_of p (a ∷ more) = record { act = some a; answer = answer_to p a } ∷ counted_of (pool_after p a) more

  abbrev pub pool_after_all : Pool → List Act → Pool
  pool_after_all p [] = p
  pool_after_all p (a ∷ more) = pool_after_all (pool_after p a) more

abbrev pub answers_of : List Counted → List Answer
answers_of cs = map (λ c. c.answer) cs

-- ---- what each call is

-- its acts, the buffers that it is lent to write, and whether what it is lent beside the pool suits: a list's buffers,
-- a copy's old table
abbrev pub acts_of : Call Words → List Act
acts_of (format first) = []
acts_of (copy old) = []
acts_of (single a) = a ∷ []
acts_of (look r hold) = query r ∷ []
acts_of (list c rs bs) = requests c rs

abbrev pub buffers_of : {B : Type 0} → Call B → List B
buffers_of (format first) = []
buffers_of (copy old) = []
buffers_of (single a) = []
buffers_of (look r hold) = []
buffers_of (list c rs bs) = bs ∷ []

abbrev pub suits : Call Words → Pool → Bool
suits (format first) p = true
suits (copy old) p = copy_suits old p.table
suits (single a) p = true
suits (look r hold) p = true
suits (list c rs bs) p = list_suits rs bs

-- a call that fills a head or a table anew, whatever lay there: "Format takes no head and any contents", and a copy
-- "like formatting .. takes any contents"
abbrev pub fills : {B : Type 0} → Call B → Bool
fills (format first) = true
fills (copy old) = true
fills (single a) = false
fills (look r hold) = false
fills (list c rs bs) = false

-- format makes a head; a copy neither takes nor makes one, and is lent a table alone of the pool
abbrev pub makes_head : {B : Type 0} → Call B → Bool
makes_head (format first) = true
makes_head (copy old) = false
makes_head (single a) = false
makes_head (look r hold) = false
makes_head (list c rs bs) = false

abbrev pub table_alone : {B : Type 0} → Call B → Bool
table_alone (format first) = false
table_alone (copy old) = true
table_alone (single a) = false
table_alone (look r hold) = false
table_alone (list c rs bs) = false

-- the party that a call gives: "Every call that allocates or names a ticket gives its party, a list call one for its
-- whole list"
abbrev pub party_of : Act → Option ℕ
party_of (ask c n) = some c
party_of (give r) = some r.party
party_of (query r) = some r.party
party_of (cut r n) = some r.party
party_of bad = none

abbrev pub party_given : {B : Type 0} → Call B → Option ℕ
party_given (format first) = none
party_given (copy old) = none
party_given (single a) = party_of a
party_given (look r hold) = some r.party
party_given (list c rs bs) = some c

abbrev pub right_party : Option ℕ → Bool
right_party none = true
right_party (some c) = is_party c

abbrev pub partied : Act → Bool
partied a = right_party (party_of a)

-- its own answer, look's slice, and the buffers, from the answers to its acts
abbrev pub first_answer : List Counted → Answer
first_answer [] = zero_answer
first_answer (c ∷ cs) = c.answer

abbrev pub own_answer : Call Words → List Counted → Answer
own_answer (format first) cs = zero_answer
own_answer (copy old) cs = zero_answer
own_answer (single a) cs = first_answer cs
own_answer (look r hold) cs = first_answer cs
own_answer (list c rs bs) cs = zero_answer

abbrev pub shown_by : Call Words → Answer → Slice
shown_by (format first) x = nothing
shown_by (copy old) x = nothing
shown_by (single a) x = nothing
shown_by (look r hold) x = cond (accepted x) (arena_part r.address r.words) placeholder
shown_by (list c rs bs) x = nothing

abbrev pub buffers_after : Call Words → List Counted → List Words
buffers_after (format first) cs = []
buffers_after (copy old) cs = []
buffers_after (single a) cs = []
buffers_after (look r hold) cs = []
-- answer words beyond the list stay
buffers_after (list c rs bs) cs = (answer_words (answers_of cs) ++ drop (length rs) bs) ∷ []

-- a call that counts as a whole: format, copy, and a list call that is refused
abbrev pub as_one : Answer → Counted
as_one x = record { act = none; answer = x }

-- what a call that the gate refuses by n counts as: its act, or as a whole
abbrev pub counted_whole : Call Words → ℕ → Counted
counted_whole (format first) n = as_one (refusal n)
counted_whole (copy old) n = as_one (refusal n)
counted_whole (single a) n = record { act = some a; answer = refusal n }
counted_whole (look r hold) n = record { act = some (query r); answer = refusal n }
counted_whole (list c rs bs) n = as_one (refusal n)

-- ---- the step

module _ (E : Engine) where
  -- Rows 11 and 8, of what a call is lent.
  abbrev pub known_form : Call Words → Pool → Bool
  known_form c p = table_alone c || E.known p.shape

  abbrev pub right_lengths : Call Words → Pool → Bool
  right_lengths c p = (table_alone c || lengths E p) && suits c p

  -- Behind them: 6 for a format whose first ticket is 0 (02, ticket 2: "Formatting now takes the first ticket number, 1 or
  -- more, and answers 6 for 0 (after 8)"), nothing for a copy, which "can give only 8"; for every other call 1, if the
  -- pool is not sound, and 12 for a bad party, "directly after 1" (ticket 6).
  unfoldable pub behind : Call Words → Pool → ℕ
  behind (format first) p = cond (eqb first 0) 6 0
  behind (copy old) p = 0
  behind (single a) p = cond (stored E p) (cond (right_party (party_of a)) 0 12) 1
  behind (look r hold) p = cond (stored E p) (cond (is_party r.party) 0 12) 1
  behind (list c rs bs) p = cond (stored E p) (cond (is_party c) 0 12) 1

  -- The gate, before anything is done: 11 by the form (02, ticket 3: "any other is refused as 11 before all else, by
  -- format too"), 8 by the lengths, and the numbers behind; 0 lets the call pass.
  unfoldable pub gate : Call Words → Pool → ℕ
  gate c p = cond (known_form c p) (cond (right_lengths c p) (behind c p) 8) 11

  -- what the gate says of the pool itself, whatever call comes: 11, 8, 1 or 0
  unfoldable pub pool_number : Pool → ℕ
  pool_number p = cond (E.known p.shape) (cond (lengths E p) (cond (stored E p) 0 1) 8) 11

  abbrev pub GateIs : Pool → ℕ → Type 0
  GateIs p x = x ≡ pool_number p

  -- "A refused call .. leaves head, arena, table, index and answer buffer unchanged"; format "writes nothing and hands
  -- back a head of zeros".
  abbrev pub zero_head : Head
  zero_head = record { own = replicate E.own_words 0; next = 0 }

  abbrev pub refused_head : Call Words → Pool → Head
  refused_head (format first) p = zero_head
  refused_head (copy old) p = p.head
  refused_head (single a) p = p.head
  refused_head (look r hold) p = p.head
  refused_head (list c rs bs) p = p.head

  abbrev pub refused_by : Call Words → Pool → ℕ → Outcome
  refused_by c p n = record {
    answer = refusal n;
    counted = counted_whole c n ∷ [];
    shown = shown_by c (refusal n);
    pool = with_head (refused_head c p) p;
    buffers = buffers_of c;
  }

  -- "Formatting makes a pool with no records, all words as below"; the next ticket is the first number that it was
  -- given (02, ticket 2).
  abbrev pub blank : Pool → Ledger
  blank p = replicate (slots p.table) empty_row

  abbrev pub format_done : ℕ → Pool → Outcome
  format_done first p = record {
    answer = zero_answer;
    counted = as_one zero_answer ∷ [];
    shown = nothing;
    pool = store E (blank p) first p;
    buffers = [];
  }

  abbrev pub copy_done : Words → Pool → Outcome
  copy_done old p = record {
    answer = zero_answer;
    counted = as_one zero_answer ∷ [];
    shown = nothing;
    pool = with_table (table_of (copied old)) p;
    buffers = [];
  }

  -- every other call does its acts on a sound pool, one after another
  unfoldable pub acts_done : Call Words → Pool → Outcome
  acts_done c p =
      let cs = counted_of E p (acts_of c) in
      record {
        answer = own_answer c cs;
        counted = cs;
        shown = shown_by c (own_answer c cs);
        pool = pool_after_all E p (acts_of c);
        buffers = buffers_after c cs;
      }

  unfoldable pub perform : Call Words → Pool → Outcome
  perform (format first) p = format_done first p
  perform (copy old) p = copy_done old p
  perform (single a) p = acts_done (single a) p
  perform (look r hold) p = acts_done (look r hold) p
  perform (list c rs bs) p = acts_done (list c rs bs) p

  unfoldable pub step : Call Words → Pool → Outcome
  step c p = cond (eqb (gate c p) 0) (perform c p) (refused_by c p (gate c p))
