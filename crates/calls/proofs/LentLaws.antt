-- Laws of lent buffers: what is left as it was seen changes nothing, and what is left in the pool's own memory is the
-- pool's. Assumes nothing.
use Prim.Native.Nat.{ℕ, zero, suc, ◌+◌, ◌<◌}
use native.Mathlib.Omega.{arith}
use mathlib.Core.Path.{◌≡◌, refl, sym, ap, ap₂, ◌∙◌}
use mathlib.Core.Bool.{Bool, true, false, cond, ◌&&◌, ◌||◌, false≢true, or-true}
use mathlib.Core.List.{List, [], ◌∷◌, ◌++◌, append_assoc, append-nil}
use lib.Dec.{eqb}
use lib.ListN.{length, take, drop, set, length-set}
use lib.Seq.{drop-cons, take_all, drop-length, set-get_or, take-suc-set}
use Rattle.words.specs.Lists.{Words, all}
use Rattle.words.proofs.Tests.{and_l, and_r, eqb_eq}
use Rattle.words.proofs.ListLaws.{same_words_eq}
use Rattle.calls.specs.Pool.{Head, Pool, with_head, Engine}
use Rattle.calls.specs.Step.{Call, format, copy, single, look, list, accepted, Outcome, buffers_of, fills, makes_head}
use Rattle.calls.specs.Step.{perform, step}
use Rattle.calls.specs.Lent.{Part, in_arena, in_table, in_index, Spot, own, other, Buffer, part_of, with_part, see_at}
use Rattle.calls.specs.Lent.{see, leave_at, leave, leave_all, is_other, same_part, is_own, are_own, is_all_of, Event}
use Rattle.calls.specs.Lent.{map_call, head_brought, brought, same_head, is_whole, own_table, head_returns, written_by}
use Rattle.calls.specs.Lent.{outcome, after}
use Rattle.calls.proofs.GateLaws.{Way, stops, runs, way}

-- ---- one buffer

same_words_lem : (q : Part) (p : Pool) → with_part q (part_of q p) p ≡ p
same_words_lem in_arena p = refl
same_words_lem in_table p = refl
same_words_lem in_index p = refl

part_with : (q : Part) (x : Words) (p : Pool) → part_of q (with_part q x p) ≡ x
part_with in_arena x p = refl
part_with in_table x p = refl
part_with in_index x p = refl

with_twice : (q : Part) (x y : Words) (p : Pool) → with_part q y (with_part q x p) ≡ with_part q y p
with_twice in_arena x y p = refl
with_twice in_table x y p = refl
with_twice in_index x y p = refl

spot_back : (p : Pool) (l : Spot) → leave_at l (see_at p l) p ≡ p
spot_back p (other v) = refl
spot_back p (own q i) = ap (λ (z : Words). with_part q z p) (set-get_or (part_of q p) i 0) ∙ same_words_lem q p

-- the first words of a buffer left as they were seen
leave_first : (n : ℕ) (l : Buffer) (p : Pool) → leave (take n l) (see p l) p ≡ p
leave_first zero l p = refl
leave_first (suc n) [] p = refl
leave_first (suc n) (l ∷ ls) p =
    ap (λ (z : Pool). leave (take n ls) (see p ls) z) (spot_back p l) ∙ leave_first n ls p

pub leave_seen : (l : Buffer) (p : Pool) → leave l (see p l) p ≡ p
leave_seen [] p = refl
leave_seen (l ∷ ls) p = ap (λ (z : Pool). leave ls (see p ls) z) (spot_back p l) ∙ leave_seen ls p

leave_other : (l : Buffer) (x : Words) (p : Pool) → all is_other l ≡ true → leave l x p ≡ p
leave_other [] x p h = refl
leave_other (l ∷ ls) [] p h = refl
leave_other (own q i ∷ ls) (v ∷ x) p h = absurd (false≢true h)
leave_other (other w ∷ ls) (v ∷ x) p h = leave_other ls x p h

-- ---- all of a part

same_part_lem : (q r : Part) → same_part q r ≡ true → q ≡ r
same_part_lem in_arena in_arena h = refl
same_part_lem in_arena in_table h = absurd (false≢true h)
same_part_lem in_arena in_index h = absurd (false≢true h)
same_part_lem in_table in_arena h = absurd (false≢true h)
same_part_lem in_table in_table h = refl
same_part_lem in_table in_index h = absurd (false≢true h)
same_part_lem in_index in_arena h = absurd (false≢true h)
same_part_lem in_index in_table h = absurd (false≢true h)
same_part_lem in_index in_index h = refl

own_spot : (q : Part) (i : ℕ) (l : Spot) → is_own q i l ≡ true → l ≡ own q i
own_spot q i (other v) h = absurd (false≢true h)
own_spot q i (own r j) h =
    let a = same_part_lem q r (and_l (same_part q r) (eqb i j) h) in
    let b = eqb_eq i j (and_r (same_part q r) (eqb i j) h) in
    λ k. own (sym a k) (sym b k)

module _ (q : Part) where
  see_from : (i : ℕ) (l : Buffer) (p : Pool) → are_own q i l ≡ true → i + length l ≡ length (part_of q p)
      → see p l ≡ drop i (part_of q p)
  see_from i [] p h e =
      let k : i ≡ length (part_of q p) = omega arith in
      sym (ap (λ j. drop j (part_of q p)) k ∙ drop-length (part_of q p))
  see_from i (l ∷ ls) p h e =
      let at : l ≡ own q i = own_spot q i l (and_l (is_own q i l) (are_own q (suc i) ls) h) in
      let more = see_from (suc i) ls p (and_r (is_own q i l) (are_own q (suc i) ls) h) (omega arith) in
      let below : i < length (part_of q p) = omega arith in
      ap₂ (λ (v : ℕ) (x : Words). v ∷ x) (ap (see_at p) at) more ∙ sym (drop-cons (part_of q p) i 0 below)

  leave_from : (i : ℕ) (l : Buffer) (x : Words) (p : Pool) → are_own q i l ≡ true
      → i + length l ≡ length (part_of q p) → length x ≡ length l
      → leave l x p ≡ with_part q (take i (part_of q p) ++ x) p
  leave_from i [] [] p h e s =
      sym (ap (λ (y : Words). with_part q y p)
      (append-nil (take i (part_of q p)) ∙ take_all i (part_of q p) (omega arith)) ∙ same_words_lem q p)
  leave_from i [] (v ∷ x) p h e s = absurd (omega arith)
  leave_from i (l ∷ ls) [] p h e s = absurd (omega arith)
  leave_from i (l ∷ ls) (v ∷ x) p h e s =
      let w = part_of q p in
      let at : l ≡ own q i = own_spot q i l (and_l (is_own q i l) (are_own q (suc i) ls) h) in
      let next = with_part q (set w i v) p in
      let words : part_of q next ≡ set w i v = part_with q (set w i v) p in
      let count : length (part_of q next) ≡ length w = ap length words ∙ length-set w i v in
      let below : i < length w = omega arith in
      ap (λ (z : Spot). leave ls x (leave_at z v p)) at
      ∙ leave_from (suc i) ls x next (and_r (is_own q i l) (are_own q (suc i) ls) h) (omega arith) (omega arith)
      ∙ with_twice q (set w i v) (take (suc i) (part_of q next) ++ x) p
      ∙ ap (λ (y : Words). with_part q y p)
      (ap (λ (y : Words). take (suc i) y ++ x) words
      ∙ ap (λ (y : Words). y ++ x) (take-suc-set w i v below)
      ∙ append_assoc (take i w) (v ∷ []) x)

  pub see_all : (p : Pool) (l : Buffer) → is_all_of q (part_of q p) l ≡ true → see p l ≡ part_of q p
  see_all p l h =
      let count = eqb_eq (length l) (length (part_of q p)) (search and_l) in
      see_from 0 l p (search and_r) (omega arith)

  pub leave_all_lem : (p : Pool) (l : Buffer) (x : Words) → is_all_of q (part_of q p) l ≡ true
      → length x ≡ length (part_of q p)
      → leave l x p ≡ with_part q x p
  leave_all_lem p l x h e =
      let count = eqb_eq (length l) (length (part_of q p)) (search and_l) in
      leave_from 0 l x p (search and_r) (omega arith) (omega arith)

-- ---- what an event brings

pub whole_brings : (q : Pool) (e : Event) → is_whole q e ≡ true → brought q e ≡ q
unfolding is_whole
whole_brings q e h =
    let own = same_words_eq (head_brought q e.head).own q.head.own (search (and_l, and_r)) in
    let next = eqb_eq (head_brought q e.head).next q.head.next (search (and_l, and_r)) in
    let shape = eqb_eq e.shape q.shape (search (and_l, and_r)) in
    let arena = see_all in_arena q e.arena (search (and_l, and_r)) in
    let table = see_all in_table q e.table (search (and_l, and_r)) in
    let index = see_all in_index q e.index (search (and_l, and_r)) in
    λ i. record {
      head = record { own = own i; next = next i };
      shape = shape i;
      arena = arena i;
      table = table i;
      index = index i;
    }

pub whole_table : (q : Pool) (e : Event) → is_whole q e ≡ true → own_table q e ≡ true
unfolding is_whole own_table
whole_table q e h = search (and_l, and_r)

pub own_table_lem : (q : Pool) (e : Event) → own_table q e ≡ true → (brought q e).table ≡ q.table
unfolding own_table
own_table_lem q e h = see_all in_table q e.table h

-- the head that a pool goes on with, as `after` has it
head_after : (E : Engine) (q : Pool) (e : Event)
    → (after E q e).head ≡ cond (accepted (outcome E q e).answer && head_returns q e) (outcome E q e).pool.head q.head
unfolding after
head_after E q e = refl

-- "the pool keeps the head it had" after a refused call
pub refused_keeps : (E : Engine) (q : Pool) (e : Event) → accepted (outcome E q e).answer ≡ false
    → (after E q e).head ≡ q.head
refused_keeps E q e a = rw (head_after E q e, a)

-- a call that makes a head, lent the pool's table, makes the pool's, whatever head it was brought
pub made_returns : (E : Engine) (q : Pool) (e : Event) → own_table q e ≡ true → makes_head e.call ≡ true
    → accepted (outcome E q e).answer ≡ true → (after E q e).head ≡ (outcome E q e).pool.head
unfolding head_returns
made_returns E q e t f a = head_after E q e ∙ rw (t, f, a)

-- the head that is handed back as the pool's: the pool brought whole; a head as it was brought
pub whole_returns : (q : Pool) (e : Event) → is_whole q e ≡ true → head_returns q e ≡ true
unfolding is_whole head_returns
whole_returns q e h =
    let same : same_head (head_brought q e.head) q.head ≡ true = search (and_l, and_r) in
    rw (whole_table q e h, same) (or-true (makes_head e.call))

pub returned_head : (q : Pool) (e : Event) → head_returns q e ≡ true → makes_head e.call ≡ false
    → head_brought q e.head ≡ q.head
unfolding head_returns
returned_head q e h f =
    let taken : same_head (head_brought q e.head) q.head ≡ true =
    rw f at (and_r (own_table q e) (makes_head e.call || same_head (head_brought q e.head) q.head) h) in
    let own = same_words_eq (head_brought q e.head).own q.head.own (search and_l) in
    let next = eqb_eq (head_brought q e.head).next q.head.next (search (and_l, and_r)) in
    λ i. record { own = own i; next = next i }

pub fills_seen : (f : Buffer → Words) (c : Call Buffer) → fills (map_call f c) ≡ fills c
fills_seen f (format first) = refl
fills_seen f (copy old) = refl
fills_seen f (single a) = refl
fills_seen f (look r hold) = refl
fills_seen f (list c rs bs) = refl

pub makes_seen : (f : Buffer → Words) (c : Call Buffer) → makes_head (map_call f c) ≡ makes_head c
makes_seen f (format first) = refl
makes_seen f (copy old) = refl
makes_seen f (single a) = refl
makes_seen f (look r hold) = refl
makes_seen f (list c rs bs) = refl

pub outcome_is : (E : Engine) (q : Pool) (e : Event) → outcome E q e ≡ step E (map_call (see q) e.call) (brought q e)
unfolding outcome
outcome_is E q e = refl

-- a copy, which takes no head and makes none, leaves the pool the one it had, whatever head it was brought
pub copy_keeps : (E : Engine) (q : Pool) (e : Event) (old : Buffer) → e.call ≡ copy old → (after E q e).head ≡ q.head
unfolding perform
copy_keeps E q e old is = head_after E q e ∙ go (accepted (outcome E q e).answer && head_returns q e) refl
  where
    back : (x : Words) (m : Pool) → (step E (copy x) m).pool.head ≡ m.head
    back x m = by (step E (copy x) m) (way E (copy x) m)
      where
        by : (o : Outcome) → Way E (copy x) m o → o.pool.head ≡ m.head
        by o (stops n g z e) = ap (λ (y : Outcome). y.pool.head) e
        by o (runs g e) = ap (λ (y : Outcome). y.pool.head) e

    go : (b : Bool) → (accepted (outcome E q e).answer && head_returns q e) ≡ b
        → cond b (outcome E q e).pool.head q.head ≡ q.head
    go false h = refl
    go true h =
        ap (λ (y : Outcome). y.pool.head) (outcome_is E q e)
        ∙ ap (λ (c : Call Buffer). (step E (map_call (see q) c) (brought q e)).pool.head) is
        ∙ back (see q old) (brought q e)
        ∙ returned_head q e (and_r (accepted (outcome E q e).answer) (head_returns q e) h)
        (ap (λ (c : Call Buffer). makes_head c) is)

-- ---- the pool after an event

-- the words written beside the pool: elsewhere, or as they were
pub buffers_left : (c : Call Buffer) (q : Pool) (xs : List Words)
    → (all (all is_other) (written_by c) ≡ false → xs ≡ buffers_of (map_call (see q) c)) → leave_all (written_by c) xs q ≡ q
buffers_left (format first) q xs h = refl
buffers_left (copy old) q xs h = refl
buffers_left (single a) q xs h = refl
buffers_left (look r hold) q xs h = refl
buffers_left (list c rs bs) q [] h = refl
buffers_left (list c rs bs) q (x ∷ xs) h = go (all is_other (take (length rs) bs)) refl
  where
    go : (b : Bool) → all is_other (take (length rs) bs) ≡ b → leave (take (length rs) bs) x q ≡ q
    go true e = leave_other (take (length rs) bs) x q e
    go false e =
        let k : x ∷ xs ≡ see q bs ∷ [] = h (rw e) in
        let j : x ≡ see q bs = cc in
        ap (λ (z : Words). leave (take (length rs) bs) z q) j ∙ leave_first (length rs) bs q

-- What a call left, where it left every word that it was lent as it was. The head: see `after`.
pub record Quiet (q : Pool) (e : Event) (o : Outcome) : Type 0 where
  pub arena : o.pool.arena ≡ see q e.arena
  pub table : o.pool.table ≡ see q e.table
  pub index : o.pool.index ≡ see q e.index
  pub head : (accepted o.answer && head_returns q e) ≡ true → o.pool.head ≡ q.head
  pub buffers : all (all is_other) (written_by e.call) ≡ false → o.buffers ≡ buffers_of (map_call (see q) e.call)

-- and the words that it goes on with
words_after : (E : Engine) (q : Pool) (e : Event) → (let o = outcome E q e in
    after E q e ≡ with_head (after E q e).head
    (leave_all (e.arena ∷ e.table ∷ e.index ∷ written_by e.call)
    (o.pool.arena ∷ o.pool.table ∷ o.pool.index ∷ o.buffers) q))
unfolding after
words_after E q e = refl

pub quiet_after : (E : Engine) (q : Pool) (e : Event) → Quiet q e (outcome E q e) → after E q e ≡ q
quiet_after E q e k =
    let o = outcome E q e in
    let back : (l : Buffer) (x : Words) (z : Pool) → z ≡ q → x ≡ see q l → leave l x z ≡ q =
    λ l x z d j. ap₂ (λ (y : Words) (w : Pool). leave l y w) j d ∙ leave_seen l q in
    let a = back e.arena o.pool.arena q refl k.arena in
    let t = back e.table o.pool.table (leave e.arena o.pool.arena q) a k.table in
    let i = back e.index o.pool.index (leave e.table o.pool.table
    (leave e.arena o.pool.arena q)) t k.index in
    words_after E q e
    ∙ ap₂ (λ (h : Head) (z : Pool). with_head h (leave_all (written_by e.call) o.buffers z))
    (head_after E q e ∙ go (accepted o.answer && head_returns q e) refl) i
    ∙ ap (λ (z : Pool). with_head q.head z) (buffers_left e.call q o.buffers k.buffers)
  where
    go : (b : Bool) → (accepted (outcome E q e).answer && head_returns q e) ≡ b
        → cond b (outcome E q e).pool.head q.head ≡ q.head
    go true h = k.head h
    go false h = refl

-- The pool brought whole: it is what the call left, with the head handed back if the call was accepted.
pub record Fits (q : Pool) (o : Outcome) : Type 0 where
  pub arena : length o.pool.arena ≡ length q.arena
  pub table : length o.pool.table ≡ length q.table
  pub index : length o.pool.index ≡ length q.index
  pub shape : o.pool.shape ≡ q.shape

pub whole_after : (E : Engine) (q : Pool) (e : Event) → is_whole q e ≡ true → accepted (outcome E q e).answer ≡ true
    → all (all is_other) (written_by e.call) ≡ true → Fits q (outcome E q e) → after E q e ≡ (outcome E q e).pool
unfolding is_whole
whole_after E q e w a b f =
    let o = outcome E q e in
    let q₁ = with_part in_arena o.pool.arena q in
    let q₂ = with_part in_table o.pool.table q₁ in
    let q₃ = with_part in_index o.pool.index q₂ in
    let e₁ : leave e.arena o.pool.arena q ≡ q₁ =
    leave_all_lem in_arena q e.arena o.pool.arena (search (and_l, and_r)) f.arena in
    let e₂ : leave e.table o.pool.table q₁ ≡ q₂ =
    leave_all_lem in_table q₁ e.table o.pool.table (search (and_l, and_r)) f.table in
    let e₃ : leave e.index o.pool.index q₂ ≡ q₃ =
    leave_all_lem in_index q₂ e.index o.pool.index (search (and_l, and_r)) f.index in
    let e₄ : leave_all (written_by e.call) o.buffers q₃ ≡ q₃ =
    buffers_left e.call q₃ o.buffers (λ n. absurd (false≢true (sym n ∙ b))) in
    let all_left : leave_all (e.arena ∷ e.table ∷ e.index ∷ written_by e.call)
    (o.pool.arena ∷ o.pool.table ∷ o.pool.index ∷ o.buffers) q ≡ q₃ =
    ap (λ (z : Pool). leave_all (written_by e.call) o.buffers
    (leave e.index o.pool.index (leave e.table o.pool.table z))) e₁
    ∙ ap (λ (z : Pool). leave_all (written_by e.call) o.buffers (leave e.index o.pool.index z)) e₂
    ∙ ap (λ (z : Pool). leave_all (written_by e.call) o.buffers z) e₃
    ∙ e₄ in
    let took : cond (accepted o.answer && head_returns q e) o.pool.head q.head ≡ o.pool.head =
    ap₂ (λ (c d : Bool). cond (c && d) o.pool.head q.head) a (whole_returns q e w) in
    words_after E q e
    ∙ ap₂ (λ (h : Head) (z : Pool). with_head h z) (head_after E q e ∙ took) all_left
    ∙ (λ i. record {
      head = o.pool.head;
      shape = sym f.shape i;
      arena = o.pool.arena;
      table = o.pool.table;
      index = o.pool.index;
    })
