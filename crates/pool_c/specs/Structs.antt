-- The structs that cross to C, as the pools' own. Assumes nothing.
use Rattle.std.specs.Prelude.{ℕ}
use Rattle.calls.specs.declared.Answer as calls
use Rattle.call_parts.specs.declared.Outcome.{Outcome}
use Rattle.tree_check.specs.declared.Head as tree-head
use Rattle.segment_check.specs.declared.Head as segment-head
use Rattle.segment_requests.specs.declared.Allocation as segment-allocation
use Rattle.pool_bursts.specs.declared.Counts as bursts
use Rattle.pool_c.specs.declared.TreeHead.{TreeHead}
use Rattle.pool_c.specs.declared.Answer.{Answer}
use Rattle.pool_c.specs.declared.TreeOutcome.{TreeOutcome}
use Rattle.pool_c.specs.declared.SegmentOutcome.{SegmentOutcome}
use Rattle.pool_c.specs.declared.SegmentAllocation.{SegmentAllocation}
use Rattle.pool_c.specs.declared.Burst.{Burst}

abbrev pub head_of : TreeHead → tree-head.Head
head_of h = record { root = h.first.root; next = h.first.next; form = h.form }

-- the head of the segment pool is one number, and crosses as that
abbrev pub segment_head : ℕ → segment-head.Head
segment_head next = record { next = next }

abbrev pub answer_of : Answer → calls.Answer
answer_of r = record {
  number = r.told.number;
  ticket = r.told.ticket;
  address = r.block.address;
  words = r.block.words;
}

abbrev pub tree_outcome : TreeOutcome → Outcome tree-head.Head
tree_outcome r = record { head = head_of r.head; answer = answer_of r.answer }

abbrev pub segment_outcome : SegmentOutcome → Outcome segment-head.Head
segment_outcome r = record { head = segment_head r.next; answer = answer_of r.answer }

abbrev pub segment_allocation : SegmentAllocation → segment-allocation.Allocation
segment_allocation r = record {
  head = segment_head r.next;
  answer = answer_of r.answer;
  places = r.places;
}

abbrev pub counts_of : Burst → bursts.Counts
counts_of r = record { number = r.number; taken = r.taken; written = r.written }
