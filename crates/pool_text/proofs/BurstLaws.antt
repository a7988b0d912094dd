-- A line out of a burst, and what the rest of the burst will have made. Assumes nothing.
use Prim.Native.Nat.{ℕ, suc, ◌+◌, ◌-◌, ◌≤◌, ◌<◌}
use mathlib.Core.Path.{◌≡◌, refl, sym, ap, ◌∙◌}
use mathlib.Core.Bool.{true, false, cond}
use mathlib.Core.List.{[], ◌++◌}
use native.Mathlib.Numerals.{add-one}
use native.Mathlib.Nat.{add-zero, sub-zero}
use native.Mathlib.Omega.{arith}
use lib.Dec.{leb}
use lib.ListN.{length, get_or, take, drop, length-append, drop_of_length-le, length-drop}
use lib.Seq.{take_all, drop-drop, sets, drop-cons, length-sets, take_at, sets-eq}
use Rattle.text.specs.Numbers.{Bytes}
use Rattle.text.specs.Fields.{Wrote}
use Rattle.text.specs.Lines.{run}
use Rattle.text.specs.Rooms.{Burst, also_said, burst}
use Rattle.text.proofs.WriteLaws.{sets_after}
use Rattle.text.proofs.RoomLaws.{burst_open, burst_line}
use Rattle.session.specs.Meaning.{Standing, serve}
use Rattle.pool_text.specs.Session.{landed}

-- a burst of no bytes
pub ahead_end : (room : ℕ) (s : Standing) (k chunk out : Bytes) (from at : ℕ) → length chunk ≤ from
    → landed out at (burst serve room s k (drop from chunk)) ≡ (s, k, out, at, drop from chunk)
unfolding burst
ahead_end room s k chunk out from at h = rw (drop_of_length-le chunk h, add-zero)

-- what code has kept, as far as place e of the burst
module _ (room : ℕ) (s : Standing) (k kept chunk : Bytes) (from e : ℕ)
    (r : record { kept = kept; rest = drop e chunk } ≡ run k (drop from chunk)) where
  -- the burst ends inside the line
  pub ends_open : (out : Bytes) (at : ℕ) → length chunk ≤ e
      → landed out at (burst serve room s kept (drop e chunk)) ≡ landed out at (burst serve room s k (drop from chunk))
  unfolding burst
  ends_open out at h =
      let none = drop_of_length-le chunk h in
      let none_left = ap (λ (x : Bytes). record { kept = kept; rest = x }) (sym none) ∙ r in
      ap (landed out at) (ap (burst serve room s kept) none ∙ sym (burst_open serve room s k (drop from chunk) kept none_left))

  line_is : e < length chunk
      → (let x = serve s kept in
      burst serve room s k (drop from chunk) ≡
      cond (leb (length x.said) room)
      (also_said x.said (burst serve (room - length x.said) x.state [] (drop (e + 1) chunk)))
      (record { fed = record { state = s; kept = k; said = [] }; rest = drop from chunk }))
  line_is h =
      let cut = drop-cons chunk e 0 h in
      let one = ap (λ (x : Bytes). record { kept = kept; rest = x }) (sym cut) ∙ r in
      rw add-one (burst_line serve room s k (drop from chunk) kept (get_or chunk e 0) (drop (suc e) chunk) one)

  -- there is no room for the line's answer
  pub no_room_lem : (out : Bytes) (at : ℕ) → e < length chunk → leb (length (serve s kept).said) room ≡ false
      → (s, k, out, at, drop from chunk) ≡ landed out at (burst serve room s k (drop from chunk))
  no_room_lem out at h f = rw (line_is h, f, add-zero)

-- what was written before the rest
landed_on : (out left : Bytes) (at to : ℕ) (said : Bytes) (f : Burst Standing) → Wrote out left at to said
    → landed left to f ≡ landed out at (also_said said f)
landed_on out left at to said f w =
    let more = f.fed.said in
    let place : to + length more ≡ at + length (said ++ more) = omega (arith, w.0, length-append said more) in
    let bytes = sets_after said more out left at to w in
    ap (λ (l : Bytes). (f.fed.state, f.fed.kept, l, to + length more, f.rest)) bytes
    ∙ ap (λ (n : ℕ). (f.fed.state, f.fed.kept, sets out at (said ++ more), n, f.rest)) place

-- a whole line
pub next_line : (s t : Standing) (k kept chunk : Bytes) (from e : ℕ)
    → record { kept = kept; rest = drop e chunk } ≡ run k (drop from chunk) → e < length chunk
    → (out left : Bytes) (at to : ℕ) → leb (length (serve s kept).said) (length out - at) ≡ true
    → t ≡ (serve s kept).state → Wrote out left at to (serve s kept).said
    → landed left to (burst serve (length left - to) t [] (drop (e + 1) chunk))
    ≡ landed out at (burst serve (length out - at) s k (drop from chunk))
next_line s t k kept chunk from e r h out left at to fits st w =
    let x = serve s kept in
    let room : length left - to ≡ length out - at - length x.said =
    omega (arith, w.0, ap length w.1, length-sets out at x.said) in
    ap (λ (y : Standing). landed left to (burst serve (length left - to) y [] (drop (e + 1) chunk))) st
    ∙ ap (λ (n : ℕ). landed left to (burst serve n x.state [] (drop (e + 1) chunk))) room
    ∙ landed_on out left at to x.said (burst serve (length out - at - length x.said) x.state [] (drop (e + 1) chunk)) w
    ∙ sym (rw (line_is (length out - at) s k kept chunk from e r h, fits))

-- a line that was put in a buffer of its own
pub small_said : (said small left : Bytes) (n : ℕ) → length said ≤ length small → Wrote small left 0 n said
    → take n left ≡ said
small_said said small left n h w =
    let e : n ≡ length said = omega (arith, w.0) in
    ap (λ (m : ℕ). take m left) e ∙ ap (take (length said)) w.1
    ∙ rw (sets-eq said small 0 (omega arith)) (take_at said (drop (0 + length said) small) (length said) refl)

-- a line feed in the chunk's rest
pub inside : (chunk : Bytes) (from n : ℕ) → from < length chunk → n ≤ length (take (length chunk - from) (drop from chunk))
    → (from + n ≡ length chunk → ⊥) → from + n < length chunk
inside chunk from n f h e =
    let all = take_all (length chunk - from) (drop from chunk) (omega (arith, length-drop from chunk)) in
    omega (arith, f, rw all at h, length-drop from chunk, e)

-- bytes kept of the chunk's rest
pub run_from : (k kept chunk : Bytes) (from n : ℕ) → (let rest = take (length chunk - from) (drop from chunk) in
    record { kept = kept; rest = drop n rest } ≡ run k rest) → record { kept = kept; rest = drop (from + n) chunk } ≡ run k (drop from chunk)
run_from k kept chunk from n r =
    let e = take_all (length chunk - from) (drop from chunk) (omega (arith, length-drop from chunk)) in
    rw (← drop-drop n from chunk) (rw e at r)

-- at the start all of the output is room
pub from_start : (out : Bytes) (s : Standing) (k chunk : Bytes)
    → landed out 0 (burst serve (length out - 0) s k chunk) ≡ landed out 0 (burst serve (length out) s k chunk)
from_start out s k chunk = ap (λ (n : ℕ). landed out 0 (burst serve n s k chunk)) (sub-zero (length out))
