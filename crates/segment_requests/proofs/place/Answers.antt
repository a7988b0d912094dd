-- `segment_requests::place` meets its contract: what was found makes the act a grant. Assumes nothing.
use Prim.Native.Nat.{ℕ, ◌+◌, ◌<◌}
use native.Mathlib.Nat.{div-eq_of_lt, mod-eq_of_lt}
use native.Mathlib.Omega.{arith}
use mathlib.Core.Path.{◌≡◌, ◌∙◌, sym, ap, subst, subst₂}
use mathlib.Core.List.{[]}
use lib.IntN.{pos}
use lib.ListN.{length}
use Rattle.words.specs.Places.{wiped}
use Rattle.ledger.specs.Records.{Ledger, row, records_of, enter}
use Rattle.ledger.specs.Units.{address_at}
use Rattle.stored_forms.specs.Segments.{segment_rule}
use Rattle.segment_cores.specs.Stores.{Granting, Becomes}
use Rattle.calls.specs.Pool.{Pool, next_after}
use Rattle.calls.specs.Step.{ask}
use Rattle.calls.specs.Step as machine
use Rattle.segment_check.specs.Gate.{segment_pool}
use Rattle.segment_requests.specs.Outcomes.{handed, grant_outcome}
use Rattle.segment_check.proofs.GateLaws.{InRange}
use Rattle.calls.specs.Engines.{segment_engine}
use Rattle.call_parts.proofs.ResultLaws.{acted_by}
use Rattle.call_parts.specs.declared.Outcome.{Outcome}
use Rattle.segment_check.specs.declared.Head.{Head}
use Rattle.segment_requests.proofs.GrantLaws.{place_range, place_slot, place_inside}
use Rattle.segment_requests.proofs.GrantLaws.{place_granting, place_answer, place_pool}
use Rattle.segment_requests.proofs.place.Goals as goal
use Rattle.segment_requests.proofs.place.Goals.{Start}

abbrev pool : Start → Pool
pool s =
    segment_pool s.args.s s.args.head s.args.arena.now s.args.table.now s.args.index.now

abbrev old : Start → Ledger
old s = records_of s.args.table.now

-- the ledger with the new record
abbrev entered : Start → Ledger
entered s = enter (row s.args.head.next (address_at segment_rule s.args.at) s.args.words
    s.args.party) (old s)

range : (c : Start) → InRange c.args.s c.args.arena.now c.args.table.now c.args.index.now
range c =
    place_range c.args.head c.args.s c.args.arena.now c.args.table.now
    c.args.index.now c.args.party c.args.words c.args.slot c.args.at c.requires

inside : (c : Start) → c.args.at < length c.args.arena.now
inside c =
    place_inside c.args.head c.args.s c.args.arena.now c.args.table.now
    c.args.index.now c.args.party c.args.words c.args.slot c.args.at c.requires

pub segments_of-segments-requires : goal.segments_of-segments-requires
segments_of-segments-requires c = let r = range (goal.at.segments_of-segments-requires c).Start in (r.power, r.most)

-- what is granted, in the code's own numbers
pub allot-requires : goal.allot-requires
allot-requires c =
    let s = (goal.at.allot-requires c).Start in
    let r = c.segments_of-segments.result in
    let granted = subst
    (Granting (old s) (entered s) c.args.arena.now c.args.index.now r.count r.size c.args.at)
    (sym c.span_of-n.ensures)
    (place_granting c.args.head c.args.s c.args.arena.now c.args.table.now
    c.args.index.now c.args.party c.args.words c.args.slot c.args.at c.requires c.segments_of-segments.ensures) in
    (old s, entered s, granted)

pub overflow_add-address : goal.overflow_add-address
overflow_add-address c =
    omega (arith, inside (goal.at.overflow_add-address c).Start, (range (goal.at.overflow_add-address c).Start).most)

pub overflow_cast-address : goal.overflow_cast-address
overflow_cast-address c =
    omega (arith, inside (goal.at.overflow_cast-address c).Start, (range (goal.at.overflow_cast-address c).Start).most)

pub write_row-requires : goal.write_row-requires
write_row-requires c =
    record {
      i_bound = place_slot c.args.head c.args.s c.args.arena.now c.args.table.now
          c.args.index.now c.args.party c.args.words c.args.slot c.args.at c.requires;
      record_words_len = (range (goal.at.write_row-requires c).Start).whole;
    }

-- what the grant leaves, in the ledger's units
pub returns : goal.returns
returns c =
    let s = (goal.at.returns c).Start in
    let r = c.segments_of-segments.result in
    let granted = subst
    (Granting (old s) (entered s) c.args.arena.now c.args.index.now r.count r.size c.args.at)
    (sym c.span_of-n.ensures)
    (place_granting c.args.head c.args.s c.args.arena.now c.args.table.now
    c.args.index.now c.args.party c.args.words c.args.slot c.args.at c.requires c.segments_of-segments.ensures) in
    let becomes = subst₂
    (λ (m n : ℕ). Becomes (entered s) (wiped (pos 0) (c.args.at + 1) (c.args.at + n) c.args.arena.now)
    m c.allot.new.v c.allot.new.t)
    c.segments_of-segments.ensures.count c.span_of-n.ensures
    (c.allot.ensures (old s) (entered s) granted) in
    let after = place_pool c.args.head c.args.s c.args.arena.now c.args.table.now
    c.args.index.now c.args.party c.args.words c.args.slot c.args.at c.requires
    c.allot.new.v c.write_row.new.table c.allot.new.t becomes c.write_row.ensures in
    let small : c.args.at + 1 < 65536 = omega (arith, inside (goal.at.returns c).Start, (range (goal.at.returns c).Start).most) in
    let named : grant_outcome c.args.head c.args.words (c.args.at + 1)
    ≡ record {
      head = record { next = next_after c.args.head.next };
      answer = machine.success (row c.args.head.next (c.args.at + 1) c.args.words c.args.party);
    }
    = rw (div-eq_of_lt small, mod-eq_of_lt small) in
    ap (λ (o : Outcome Head). handed c.args.s o c.allot.new.v c.write_row.new.table c.allot.new.t [])
    named
    ∙ acted_by segment_engine (ask c.args.party c.args.words) (pool (goal.at.returns c).Start) _ _
    (place_answer c.args.head c.args.s c.args.arena.now c.args.table.now
    c.args.index.now c.args.party c.args.words c.args.slot c.args.at c.requires)
    after
