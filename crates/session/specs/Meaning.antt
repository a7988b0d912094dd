-- The meaning of the text program, from input bytes to output bytes, over the machine. 01, "The text program". Letters
-- and tabs are bytes: A is 65, K 75, N 78, P 80, R 82, T 84, a tab 9. Assumes nothing.
use Rattle.std.specs.Prelude.{ℕ, ◌*◌, Bool, cond, ◌&&◌, List, [], ◌∷◌, eqb, leb, length, get_or, drop, replicate, Option, Some, None}
use Rattle.ledger.specs.Records.{row, record_words}
use Rattle.calls.specs.declared.Answer.{Answer}
use Rattle.calls.specs.Pool.{Pool}
use Rattle.calls.specs.Step.{Outcome, Act, ask, give, cut, bad, accepted, answer_to, pool_after, format, step}
use Rattle.calls.specs.Engines.{tree_engine}
use Rattle.tree_check.specs.Gate.{tree_pool, no_head}
use Rattle.text.specs.Numbers.{Bytes, value_of}
use Rattle.text.specs.Fields.{pair_of, triple_of, quad_of, line_of}
use Rattle.text.specs.Lines.{most_bytes, Served, lines_of, serve_all}
use Rattle.session.specs.declared.LineRequest.{LineRequest}
use Rattle.session.specs.declared.LineRequest.TheVariants as request

-- ---- what a line asks

-- a line of at most 64 bytes that begins with the letter and a tab ("Lines over 64 bytes, the line feed not counted,
-- are bad lines.")
unfoldable pub begins : Bytes → ℕ → Bool
begins s letter =
    leb 2 (length s) && leb (length s) most_bytes && eqb (get_or s 0 0) letter && eqb (get_or s 1 0) 9

-- "the text program is party 1" (02, ticket 6)
abbrev pub text_party : ℕ
text_party = 1

-- the act of a request, or of a line that is none
abbrev pub act_of : Option LineRequest → Act
act_of (Some (request.Ask n)) = ask text_party n
act_of (Some (request.Give r)) = give r
act_of (Some (request.Cut r n)) = cut r n
act_of None = bad

-- "Then A, words or R, ticket, address, words."
abbrev pub ask_of : Option ℕ → Option LineRequest
ask_of (Some n) = Some (request.Ask n)
ask_of None = None

abbrev pub give_of : Option (ℕ × ℕ × ℕ) → Option LineRequest
give_of (Some (t, a, n)) = Some (request.Give (row t a n text_party))
give_of None = None

-- "T with the same four": ticket, address, words, and words to keep (02, ticket 13)
abbrev pub cut_of : Option (ℕ × ℕ × ℕ × ℕ) → Option LineRequest
cut_of (Some (t, a, n, k)) = Some (request.Cut (row t a n text_party) k)
cut_of None = None

-- every other line is bad, an empty one and a second P too
unfoldable pub request_of : Bytes → Option LineRequest
request_of s =
    cond (begins s 65) (ask_of (value_of (drop 2 s)))
    (cond (begins s 82) (give_of (triple_of (drop 2 s)))
    (cond (begins s 84) (cut_of (quad_of (drop 2 s))) None))

-- ---- what a line does

-- before P; with a pool; or after "the program stops", where nothing is answered any more
pub data Standing : Type 0 where
  before : Standing
  serving : Pool → Standing
  stopped : Standing

-- where the program stands after a line, and what it said
abbrev pub served : Standing → Bytes → Served Standing
served s said = record { state = s; said = said }

-- "tree pool, here at most 8,192 words"
abbrev pub most_text_words : ℕ
most_text_words = 8192

-- 02, ticket 3: "The text program stays form 1."
abbrev pub text_form : ℕ
text_form = 1

-- a new pool of w words and s records, with this first ticket
unfoldable pub fresh : ℕ → ℕ → ℕ → Outcome
fresh w s first =
    step tree_engine (format first) (tree_pool (no_head text_form) (replicate w 0) (replicate (record_words * s) 0))

-- "N, number"
abbrev pub refusal_line : ℕ → Bytes
refusal_line n = line_of 78 (n ∷ [])

-- "echoed", or "if its sizes are wrong N 8, and the program stops"; 02: "With 0 the answer is N 6 and the program
-- stops." These are format's own numbers, in its order.
abbrev pub opening : Outcome → List ℕ → Served Standing
opening o numbers =
    cond (accepted o.answer) (served (serving o.pool) (line_of 80 numbers))
    (served stopped (refusal_line o.answer.number))

unfoldable pub opened : ℕ → ℕ → ℕ → List ℕ → Served Standing
opened w s first numbers =
    cond (leb w most_text_words) (opening (fresh w s first) numbers) (served stopped (refusal_line 8))

-- "If it is not a readable P line the answer is N 9"
abbrev pub bad_first : Served Standing
bad_first = served stopped (refusal_line 9)

-- "First line P, words, slots"; 02, ticket 2: "The text P line takes the first ticket as an optional third number,
-- echoed if given; without it, 1."
abbrev pub three_numbers : Option (ℕ × ℕ × ℕ) → Served Standing
three_numbers (Some (w, s, first)) = opened w s first (w ∷ s ∷ first ∷ [])
three_numbers None = bad_first

abbrev pub two_numbers : Option (ℕ × ℕ) → Option (ℕ × ℕ × ℕ) → Served Standing
two_numbers (Some (w, s)) t = opened w s 1 (w ∷ s ∷ [])
two_numbers None t = three_numbers t

unfoldable pub first_line : Bytes → Served Standing
first_line s = cond (begins s 80) (two_numbers (pair_of (drop 2 s)) (triple_of (drop 2 s))) bad_first

-- "Answers: K, ticket, address, words or N, number."; of a trim "K, ticket, address, kept"
unfoldable pub answer_line : Answer → Bytes
answer_line x = cond (accepted x) (line_of 75 (x.ticket ∷ x.address ∷ x.words ∷ [])) (refusal_line x.number)

-- an act on the pool. "A bad, empty or second P line gives N 9 and work goes on": it is the act that is answered 9.
abbrev pub act_line : Pool → Act → Served Standing
act_line p a = served (serving (pool_after tree_engine p a)) (answer_line (answer_to tree_engine p a))

-- a line, by where the program stands
unfoldable pub serve : Standing → Bytes → Served Standing
serve before line = first_line line
serve (serving p) line = act_line p (act_of (request_of line))
serve stopped line = served stopped []

-- ---- the whole program

-- all of the input's lines, one after another: what they are answered, and where the program stands then. "Empty input
-- gives empty output."
unfoldable pub program : Bytes → Bytes
program input = (serve_all serve before (lines_of input)).said

unfoldable pub program_end : Bytes → Standing
program_end input = (serve_all serve before (lines_of input)).state
