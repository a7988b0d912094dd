-- `segment_check::map_row` meets its contract. Assumes nothing.
use Prim.Native.Nat.{ℕ, ◌-◌, ◌≤◌}
use native.Mathlib.Omega.{arith}
use mathlib.Core.Path.{◌≡◌, ◌∙◌, sym, ap}
use mathlib.Core.Bool.{true≢false}
use mathlib.Core.Logic.{◌≢◌}
use mathlib.Core.List.{List}
use lib.IntN.{ℤ, pos, nat_abs}
use lib.ListN.{length, get_or}
use Rattle.words.specs.Lists.{Words}
use Rattle.ledger.specs.Records.{record_at}
use Rattle.ledger.specs.declared.Row.{Row}
use Rattle.record_table.specs.Partition.{Joins}
use Rattle.stored_forms.specs.Segments.{segment_rule}
use Rattle.segment_index.specs.Control.{free_size}
use Rattle.segment_index.proofs.SignLaws.{abs_neg, free_neg}
use Rattle.segment_check.proofs.HeadLaws.{head_inside, held_word, joined_none, joined_live}
use Rattle.segment_check.proofs.map_row.Goals as goal

-- where the control word of a record with words lies
place : (v : List ℤ) (next : ℕ) (t : Words) (i u : ℕ) (r : Row) → Joins segment_rule (length v) next t i u
    → r ≡ record_at t i → u ≢ 0 → (1 ≤ r.address) × (r.address ≤ length v)
place v next t i u r joins is some =
    let (low, high, at) = head_inside v next t i u joins some in
    let same = ap (λ (q : Row). q.address) is in
    (omega arith, omega arith)

pub returns-then-u-eq0-clause-joined : goal.returns-then-u-eq0-clause-joined
returns-then-u-eq0-clause-joined c =
    let a = c.args in
    let (few, long, below, some, noted, heads, sets) = c.requires in
    let (inside, joins, next) = c.in_ok-u.ensures.joins in (
      omega arith,
      joined_none a.v.now a.next a.table.now a.i c.in_ok-u.u joins a.map.now
          c.enter_row.new.seen (length a.seen.now) next heads sets c.if-u-eq0.true,
    )

pub overflow_sub-at : goal.overflow_sub-at
overflow_sub-at c =
    let a = c.args in
    (place a.v.now a.next a.table.now a.i c.in_ok-u.u c.read_row-r.result c.in_ok-u.ensures.joins.1
    c.read_row-r.ensures c.if-u-eq0.false).0

pub is_held-requires : goal.is_held-requires
is_held-requires c =
    let a = c.args in
    let (inside, joins, next) = c.in_ok-u.ensures.joins in
    let (low, high) = place a.v.now a.next a.table.now a.i c.in_ok-u.u c.read_row-r.result joins c.read_row-r.ensures
    c.if-u-eq0.false in
    let few = c.requires.0 in
    (omega arith, omega arith)

pub returns-then-not-is_held-clause-good : goal.returns-then-not-is_held-clause-good
returns-then-not-is_held-clause-good c =
    let a = c.args in
    λ g.
    let word = held_word a.v.now a.next a.table.now a.i c.in_ok-u.u c.in_ok-u.ensures.joins.1 c.if-u-eq0.false
    g.right in
    let same = ap (λ (q : Row). q.address - 1) c.read_row-r.ensures in
    let is = ap (λ k. get_or a.v.now k (pos 0)) same ∙ word in
    absurd (true≢false (sym (c.is_held.ensures.value is) ∙ c.if-not-is_held.true))

pub returns-clause-joined : goal.returns-clause-joined
returns-clause-joined c =
    let a = c.args in
    let (few, long, below, some, noted, heads, sets) = c.requires in
    let u = c.in_ok-u.u in
    let (inside, joins, next) = c.in_ok-u.ensures.joins in
    let word = c.is_held.ensures.pos_value c.if-not-is_held.false in (
      inside,
      joined_live a.v.now a.next a.table.now a.i u joins a.map.now c.put_bit.new.map
          c.enter_row.new.seen (length a.seen.now) (c.read_row-r.result.address - 1) next heads sets
          c.if-u-eq0.false (ap (λ (q : Row). q.address - 1) c.read_row-r.ensures)
          (ap nat_abs word ∙ abs_neg (pos u)) (ap free_size word ∙ free_neg u) c.put_bit.ensures,
    )
