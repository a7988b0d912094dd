-- An answer has at most 35 bytes, and of a line 65 bytes decide it. Assumes nothing.
use Prim.Native.Nat.{ℕ, zero, suc, ◌+◌, ◌*◌, ◌/◌, ◌%◌, ◌≤◌, ◌<◌}
use mathlib.Core.Path.{◌≡◌, refl, sym, ap, ◌∙◌}
use mathlib.Core.Bool.{Bool, true, false, cond, and-false}
use mathlib.Core.List.{List, [], ◌∷◌, ◌++◌}
use native.Mathlib.Decide.{dec_le}
use native.Mathlib.Omega.{arith}
use lib.Dec.{leb, ltb}
use lib.ListN.{length, drop, length-append, length-take}
use lib.Seq.{take_all}
use Rattle.words.proofs.Tests.{of_gt}
use Rattle.calls.specs.declared.Answer.{Answer}
use Rattle.calls.specs.Step.{accepted, answer_to}
use Rattle.calls.specs.Engines.{tree_engine}
use Rattle.std.specs.Prelude.{Option, Some, None}
use Rattle.text.specs.Numbers.{Bytes, decimal, decimal_of}
use Rattle.text.specs.Fields.{pair_of, triple_of, fields_of, line_of}
use Rattle.text.specs.Lines.{Served, most_bytes}
use Rattle.text.proofs.WriteLaws.{line_long}
use Rattle.text.proofs.WholeLines.{front}
use Rattle.session.specs.declared.LineRequest.{LineRequest}
use Rattle.session.specs.Meaning.{Standing, before, serving, stopped, served, serve, act_line, fresh, opening, opened}
use Rattle.session.specs.Meaning.{begins, bad_first, three_numbers, two_numbers, first_line, request_of, answer_line}
use Rattle.session.specs.Meaning.{act_of, refusal_line, most_text_words}

-- ---- how long an answer is

-- a choice of two texts is no longer than both may be
choice_long : (t : Bool) (a b : Bytes) (n : ℕ) → length a ≤ n → length b ≤ n → length (cond t a b) ≤ n
choice_long true a b n p q = p
choice_long false a b n p q = q

decimal_long : (k n : ℕ) → length (decimal k n) ≤ k
unfolding decimal
decimal_long zero n = omega arith
decimal_long (suc k) n =
    let ih = decimal_long k (n / 10) in
    choice_long (ltb n 10) ((48 + n) ∷ []) (decimal k (n / 10) ++ (48 + n % 10) ∷ []) (suc k) (omega arith)
    (omega (arith, ih, length-append (decimal k (n / 10)) ((48 + n % 10) ∷ [])))

-- a number has at most ten digits
ten_digits : (n : ℕ) → length (decimal_of n) ≤ 10
unfolding decimal_of
ten_digits n = decimal_long 10 n

fields_long : (ns : List ℕ) → length (fields_of ns) ≤ 11 * length ns
fields_long [] = omega arith
fields_long (n ∷ ns) =
    omega (arith, ten_digits n, fields_long ns, length-append (decimal_of n) (fields_of ns))

pub line_room : (letter : ℕ) (ns : List ℕ) → length ns ≤ 3 → length (line_of letter ns) ≤ 35
line_room letter ns h = omega (arith, h, line_long letter ns, fields_long ns)

pub refusal_long : (n : ℕ) → length (refusal_line n) ≤ 35
refusal_long n = line_room 78 (n ∷ []) (omega arith)

pub answer_long : (x : Answer) → length (answer_line x) ≤ 35
unfolding answer_line
answer_long x =
    choice_long (accepted x) _ _ 35 (line_room 75 (x.ticket ∷ x.address ∷ x.words ∷ []) (omega arith))
    (refusal_long x.number)

either_long : (b : Bool) (x y : Served Standing) → length x.said ≤ 35 → length y.said ≤ 35
    → length (cond b x y).said ≤ 35
either_long true x y h k = h
either_long false x y h k = k

opened_long : (w k first : ℕ) (ns : List ℕ) → length ns ≤ 3 → length (opened w k first ns).said ≤ 35
unfolding opened
opened_long w k first ns few =
    let o = fresh w k first in
    either_long (leb w most_text_words) (opening o ns) (served stopped (refusal_line 8))
    (either_long (accepted o.answer) (served (serving o.pool) (line_of 80 ns))
    (served stopped (refusal_line o.answer.number)) (line_room 80 ns few) (refusal_long o.answer.number))
    (refusal_long 8)

three_long : (t : Option (ℕ × ℕ × ℕ)) → length (three_numbers t).said ≤ 35
three_long (Some (w, k, first)) = opened_long w k first (w ∷ k ∷ first ∷ []) (omega arith)
three_long None = refusal_long 9

two_long : (p : Option (ℕ × ℕ)) (t : Option (ℕ × ℕ × ℕ)) → length (two_numbers p t).said ≤ 35
two_long (Some (w, k)) t = opened_long w k 1 (w ∷ k ∷ []) (omega arith)
two_long None t = three_long t

first_long : (line : Bytes) → length (first_line line).said ≤ 35
unfolding first_line
first_long line =
    either_long (begins line 80) (two_numbers (pair_of (drop 2 line)) (triple_of (drop 2 line))) bad_first
    (two_long (pair_of (drop 2 line)) (triple_of (drop 2 line))) (refusal_long 9)

pub said_long : (s : Standing) (line : Bytes) → length (serve s line).said ≤ 35
unfolding serve
said_long before line = first_long line
said_long (serving p) line = answer_long (answer_to tree_engine p (act_of (request_of line)))
said_long stopped line = omega arith

-- ---- "Lines over 64 bytes, the line feed not counted, are bad lines."

module _ (line : Bytes) (h : 64 < length line) where
  over_long : (letter : ℕ) → begins line letter ≡ false
  unfolding begins
  over_long letter = rw (of_gt (length line) 64 h, and-false)

  bad_request : request_of line ≡ None
  unfolding request_of
  bad_request = rw (over_long 65, over_long 82, over_long 84)

  bad_first_lem : first_line line ≡ bad_first
  unfolding first_line
  bad_first_lem = rw (over_long 80)

over_same : (s : Standing) (x y : Bytes) → 64 < length x → 64 < length y → serve s x ≡ serve s y
unfolding serve
over_same before x y h k = bad_first_lem x h ∙ sym (bad_first_lem y k)
over_same (serving p) x y h k =
    ap (λ (q : Option LineRequest). act_line p (act_of q)) (bad_request x h ∙ sym (bad_request y k))
over_same stopped x y h k = refl

-- 65 bytes of a line are enough to keep
pub enough : (s : Standing) (line : Bytes) → serve s (front line) ≡ serve s line
enough s line = by_length (dec_le (length line) 64)
  where
    by_length : Dec (length line ≤ 64) → serve s (front line) ≡ serve s line
    by_length (yes h) = ap (serve s) (take_all (suc most_bytes) line (omega arith))
    by_length (no h) = over_same s (front line) line (omega (arith, length-take 65 line)) (omega arith)
