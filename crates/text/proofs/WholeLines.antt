-- Of a line over 64 bytes 65 are enough to keep: bytes that are fed do what their whole lines do. Assumes nothing.
use Prim.Native.Nat.{ℕ, suc, ◌≤◌}
use mathlib.Core.Path.{◌≡◌, refl, sym, ap, ◌∙◌}
use mathlib.Core.Bool.{Bool, true, false, cond}
use mathlib.Core.List.{List, [], ◌∷◌, ◌++◌, append_assoc, append-nil}
use native.Mathlib.Omega.{arith}
use lib.ListN.{length, take, length-append, length-take}
use lib.Dec.{eqb, ltb}
use lib.Seq.{take_all, take-append-le}
use borrow.Author.Tests.{lt-ltb, le-ltb, ltb-true, ltb-false}
use Rattle.text.specs.Numbers.{Bytes}
use Rattle.text.specs.Lines.{most_bytes, keep, Served, Fed, also, feed, finish, ended}
use Rattle.text.specs.Lines.{last_line, lines_from, serve_all}

-- what is kept of a line
abbrev pub front : Bytes → Bytes
front u = take (suc most_bytes) u

front_on : (u : Bytes) (b : ℕ) → keep (front u) b ≡ front (u ++ b ∷ [])
unfolding keep
front_on u b = by_length (ltb 64 (length u)) refl
  where
    by_length : (t : Bool) → ltb 64 (length u) ≡ t
        → cond (ltb most_bytes (length (front u))) (front u) (front u ++ b ∷ []) ≡ front (u ++ b ∷ [])
    by_length true q =
        let long : 65 ≤ length u = omega (arith, ltb-true) in
        simp (lt-ltb 64 (length (front u)) (omega (arith, length-take 65 u)))
        (sym (take-append-le 65 u (b ∷ []) long))
    by_length false q =
        let few : length u ≤ 64 = omega (arith, ltb-false) in
        let all : front u ≡ u = take_all 65 u (omega arith) in
        rw (all, le-ltb 64 (length u) few)
        (sym (take_all 65 (u ++ b ∷ []) (omega (arith, length-append u (b ∷ [])))))

module _ {S : Type 0} (serve : S → Bytes → Served S)
    (enough : (s : S) (line : Bytes) → serve s (front line) ≡ serve s line) where
  last : (s : S) (u : Bytes) → finish serve s (front u) ≡ serve_all serve s (last_line u)
  last s [] = refl
  last s (b ∷ u) =
      enough s (b ∷ u)
      ∙ ap (λ (o : Bytes). record { state = (serve s (b ∷ u)).state; said = o }) (sym (append-nil (serve s (b ∷ u)).said))

  -- a line served, and what follows it
  then : (r : Served S) (f : Fed S) (n : Served S) → ended serve f ≡ n
      → ended serve (also r.said f) ≡ record { state = n.state; said = r.said ++ n.said }
  then r f n e =
      ap (λ (o : Bytes). record { state = (ended serve f).state; said = o })
      (append_assoc r.said f.said (finish serve f.state f.kept).said)
      ∙ ap (λ (x : Served S). record { state = x.state; said = r.said ++ x.said }) e

  by_byte : (t : Bool) (s : S) (u bs : Bytes) (g : Fed S) (ms : List Bytes)
      → ended serve (feed serve (serve s u).state [] bs) ≡ serve_all serve (serve s u).state (lines_from [] bs)
      → ended serve g ≡ serve_all serve s ms
      → (let r = serve s (front u) in
      ended serve (cond t (also r.said (feed serve r.state [] bs)) g)
      ≡ serve_all serve s (cond t (u ∷ lines_from [] bs) ms))
  by_byte true s u bs g ms p q =
      ap (λ (r : Served S). ended serve (also r.said (feed serve r.state [] bs))) (enough s u)
      ∙ then (serve s u) (feed serve (serve s u).state [] bs) _ p
  by_byte false s u bs g ms p q = q

  pub whole_lines : (s : S) (u bs : Bytes) → ended serve (feed serve s (front u) bs) ≡ serve_all serve s (lines_from u bs)
  whole_lines s u [] = last s u
  whole_lines s u (b ∷ bs) =
      by_byte (eqb b 10) s u bs (feed serve s (keep (front u) b) bs) (lines_from (u ++ b ∷ []) bs)
      (whole_lines (serve s u).state [] bs)
      (ap (λ (k : Bytes). ended serve (feed serve s k bs)) (front_on u b) ∙ whole_lines s (u ++ b ∷ []) bs)
