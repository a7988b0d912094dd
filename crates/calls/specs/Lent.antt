-- What a call brings: the pool whole, or any head, S and buffers, parts of the pool's own memory among them; and the
-- pool after it. 01, "Calls and numbers", demand 3: "Each call gets head, arena, table and, in the segment pool,
-- index as the one before left them; format takes no head. A refused call may bring a wrong head, S, length or buffer
-- instead; the pool keeps the head it had." Assumes nothing.
use Rattle.std.specs.Prelude.{ℕ, suc, Bool, true, false, cond, ◌&&◌, ◌||◌, List, [], ◌∷◌, map, eqb, length, get_or, take, set}
use Rattle.std.proofs.Math.Option.{Option, none, some}
use Rattle.words.specs.Lists.{Words, same_words, list_from}
use Rattle.calls.specs.Pool.{Head, Pool, with_head, Engine}
use Rattle.calls.specs.Step.{Call, format, copy, single, look, list, accepted, Outcome, makes_head, step}

-- ---- lent buffers

pub data Part : Type 0 where
  in_arena in_table in_index : Part

-- Where a word of a lent buffer lies: word i of a part of the pool, or other memory, where it holds v.
pub data Spot : Type 0 where
  own : Part → ℕ → Spot
  other : ℕ → Spot

-- a lent buffer, word by word
abbrev pub Buffer : Type 0
Buffer = List Spot

abbrev pub part_of : Part → Pool → Words
part_of in_arena p = p.arena
part_of in_table p = p.table
part_of in_index p = p.index

abbrev pub with_part : Part → Words → Pool → Pool
with_part in_arena x p = record { head = p.head; shape = p.shape; arena = x; table = p.table; index = p.index }
with_part in_table x p = record { head = p.head; shape = p.shape; arena = p.arena; table = x; index = p.index }
with_part in_index x p = record { head = p.head; shape = p.shape; arena = p.arena; table = p.table; index = x }

-- the words that a call sees in a lent buffer
abbrev pub see_at : Pool → Spot → ℕ
see_at p (own q i) = get_or (part_of q p) i 0
see_at p (other v) = v

abbrev pub see : Pool → Buffer → Words
see p l = map (see_at p) l

-- the pool after the words x were written to a lent buffer, from its first word on
abbrev pub leave_at : Spot → ℕ → Pool → Pool
leave_at (own q i) v p = with_part q (set (part_of q p) i v) p
leave_at (other _) v p = p

abbrev pub leave : Buffer → Words → Pool → Pool
leave [] x p = p
leave (l ∷ ls) [] p = p
leave (l ∷ ls) (v ∷ x) p = leave ls x (leave_at l v p)

abbrev pub leave_all : List Buffer → List Words → Pool → Pool
leave_all [] xs p = p
leave_all (l ∷ ls) [] p = p
leave_all (l ∷ ls) (x ∷ xs) p = leave_all ls xs (leave l x p)

abbrev pub is_other : Spot → Bool
is_other (own q i) = false
is_other (other v) = true

abbrev pub same_part : Part → Part → Bool
same_part in_arena in_arena = true
same_part in_arena in_table = false
same_part in_arena in_index = false
same_part in_table in_arena = false
same_part in_table in_table = true
same_part in_table in_index = false
same_part in_index in_arena = false
same_part in_index in_table = false
same_part in_index in_index = true

abbrev pub is_own : Part → ℕ → Spot → Bool
is_own q i (own r j) = same_part q r && eqb i j
is_own q i (other v) = false

-- words i, i + 1, and so on of a part; all of a part, whose words are x, from its first to its last
abbrev pub are_own : Part → ℕ → Buffer → Bool
are_own q i [] = true
are_own q i (l ∷ ls) = is_own q i l && are_own q (suc i) ls

abbrev pub is_all_of : Part → Words → Buffer → Bool
is_all_of q x l = eqb (length l) (length x) && are_own q 0 l

-- ---- events

-- A call with what it brings: the head that the pool has (none) or another, S, the three buffers, and the call's own
-- arguments.
pub record Event : Type 0 where
  pub head : Option Head
  pub shape : ℕ
  pub arena : Buffer
  pub table : Buffer
  pub index : Buffer
  pub call : Call Buffer

abbrev pub map_call : {A B : Type 0} → (A → B) → Call A → Call B
map_call f (format first) = format first
map_call f (copy old) = copy (f old)
map_call f (single a) = single a
map_call f (look r hold) = look r (f hold)
map_call f (list c rs bs) = list c (f rs) (f bs)

abbrev pub head_brought : Pool → Option Head → Head
head_brought p none = p.head
head_brought p (some h) = h

-- the memory that the call gets
abbrev pub brought : Pool → Event → Pool
brought p e = record {
  head = head_brought p e.head;
  shape = e.shape;
  arena = see p e.arena;
  table = see p e.table;
  index = see p e.index;
}

-- the pool whole: its head, its S and all of its memory
abbrev pub same_head : Head → Head → Bool
same_head h k = same_words h.own k.own && eqb h.next k.next

unfoldable pub is_whole : Pool → Event → Bool
is_whole p e =
    same_head (head_brought p e.head) p.head && eqb e.shape p.shape
    && is_all_of in_arena p.arena e.arena && is_all_of in_table p.table e.table
    && is_all_of in_index p.index e.index

-- the pool's own table, with whatever else
unfoldable pub own_table : Pool → Event → Bool
own_table p e = is_all_of in_table p.table e.table

-- the head handed back belongs to the pool whose table the call got, where it got that pool's head too or, a format,
-- takes none (`refused_keeps`, `made_returns` and `copy_keeps` in proofs/LentLaws)
unfoldable pub head_returns : Pool → Event → Bool
head_returns p e = own_table p e && (makes_head e.call || same_head (head_brought p e.head) p.head)

-- the call c on the pool whole
abbrev pub all_of : Part → Pool → Buffer
all_of q p = list_from (own q) 0 (length (part_of q p))

abbrev pub on_whole : Pool → Call Buffer → Event
on_whole p c = record {
  head = none;
  shape = p.shape;
  arena = all_of in_arena p;
  table = all_of in_table p;
  index = all_of in_index p;
  call = c;
}

-- the words that a call writes beside the pool: a list call four for the answer to each request, "Answer words beyond
-- the list stay"
abbrev pub written_by : Call Buffer → List Buffer
written_by (format first) = []
written_by (copy old) = []
written_by (single a) = []
written_by (look r hold) = []
written_by (list c rs bs) = take (length rs) bs ∷ []

module _ (E : Engine) where
  unfoldable pub outcome : Pool → Event → Outcome
  outcome p e = step E (map_call (see p) e.call) (brought p e)

  -- What the call left is the pool's memory now, where it was lent. The head handed back is the pool's where the call
  -- was accepted, got all of the pool's own table, and got the pool's head or takes none; else it belongs to no pool,
  -- and the pool goes on with the head it had. 01, of a refused format: "hands back a head of zeros. That head
  -- belongs to no pool: a pool that lay there goes on with the head it had"; of a refused call in demand 3: "the pool
  -- keeps the head it had".
  unfoldable pub after : Pool → Event → Pool
  after p e =
      let o = outcome p e in
      with_head (cond (accepted o.answer && head_returns p e) o.pool.head p.head)
      (leave_all (e.arena ∷ e.table ∷ e.index ∷ written_by e.call)
      (o.pool.arena ∷ o.pool.table ∷ o.pool.index ∷ o.buffers) p)

-- ---- what comes later: any calls, and writing by callers into any part of the pool

pub data Later : Type 0 where
  calls : Event → Later
  writes : Part → ℕ → ℕ → Later

module _ (E : Engine) where
  abbrev pub later_pool : Pool → Later → Pool
  later_pool p (calls e) = after E p e
  later_pool p (writes q i v) = leave_at (own q i) v p

  -- the pool at the end, and all that the calls handed back and left, call by call
  abbrev pub later_end : Pool → List Later → Pool
  later_end p [] = p
  later_end p (l ∷ ls) = later_end (later_pool p l) ls

  abbrev pub later_outcomes : Pool → List Later → List Outcome
  later_outcomes p [] = []
  later_outcomes p (calls e ∷ ls) = outcome E p e ∷ later_outcomes (after E p e) ls
  later_outcomes p (writes q i v ∷ ls) = later_outcomes (later_pool p (writes q i v)) ls
