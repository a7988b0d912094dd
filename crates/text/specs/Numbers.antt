-- A number as bytes. 01, "The text program": "Numbers are decimal, no leading zero, at most 4,294,967,295." Assumes
-- nothing.
use Rattle.std.specs.Prelude.{ℕ, zero, suc, ◌+◌, ◌-◌, ◌*◌, ◌/◌, ◌%◌, cond, List, [], ◌∷◌, ◌++◌, length, get_or, ltb, eqb, Option, Some, None}

-- a text
abbrev pub Bytes : Type 0
Bytes = List ℕ

-- "at most 4,294,967,295"
abbrev pub largest : ℕ
largest = 4294967295

-- the digits bs, read after the value so far; 48 is the digit 0
unfoldable pub value_from : ℕ → Bytes → Option ℕ
value_from acc [] = Some acc
value_from acc (b ∷ bs) =
    cond (ltb b 48) None
    (cond (ltb 57 b) None
    (cond (ltb largest (acc * 10 + b - 48)) None
    (value_from (acc * 10 + b - 48) bs)))

-- what a whole field spells: "decimal, no leading zero"
unfoldable pub value_of : Bytes → Option ℕ
value_of s =
    cond (eqb (length s) 0) None
    (cond (eqb (get_or s 0 0) 48) (cond (eqb (length s) 1) (Some 0) None) (value_from 0 s))

-- the decimal digits of n, at most k of them
unfoldable pub decimal : ℕ → ℕ → Bytes
decimal zero n = []
decimal (suc k) n = cond (ltb n 10) ((48 + n) ∷ []) (decimal k (n / 10) ++ (48 + n % 10) ∷ [])

-- the digits of a number below 10 ^ 10
unfoldable pub decimal_of : ℕ → Bytes
decimal_of n = decimal 10 n

-- the last two digits of n
abbrev pub last_two : ℕ → Bytes
last_two n = (48 + n / 10 % 10) ∷ (48 + n % 10) ∷ []
