-- What code hands back of a call, as the session's equations have it. 02, ticket 1. Assumes nothing.
use Rattle.std.specs.Prelude.{ℕ, []}
use Rattle.text.specs.Numbers.{Bytes}
use Rattle.session.specs.Calls.{Reply}
use Rattle.pool_bursts.specs.declared.Counts.{Counts}

-- a call's numbers, with the state and the answer buffer that it leaves
abbrev pub replied : Counts → Bytes → Bytes → Reply
replied c st out =
    record { number = c.number; taken = c.taken; written = c.written; state = st; answers = out }

-- "and nothing changes"
abbrev pub number_alone : ℕ → Counts
number_alone n = record { number = n; taken = 0; written = 0 }

-- a start call has no answers
abbrev pub started : ℕ → Bytes → Reply
started n st = record { number = n; taken = 0; written = 0; state = st; answers = [] }
