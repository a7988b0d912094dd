use Rattle.std.proofs.Common.{rules, ◌≡◌, ◌+◌, ◌-◌, ◌≤◌, ◌++◌, length, take, drop, arith, ap, sym, subst, ◌∙◌, append_assoc, take-append-drop, take_at, length-append, length-take-le}
use Rattle.std.specs.Io.KnownBytes.{Consumes}
use Rattle.std.proofs.KnownBytes.{Consumes-trans}
use Rattle.std.proofs.lemmas.List.{places}
use borrow.Rule.Slice.PartMut.{put_mid, post_of}
use Rattle.testing.proofs.read_full.Goals as goal

-- what was read stands behind what was read before
pub loop-n-preserved : goal.loop-n-preserved
loop-n-preserved g c =
    let before = c.loop-n.invariant in
    let read = c.in-Ok.ensures in
    let out = c.loop-n.out in
    let n = c.loop-n.n in
    let got = c.in-Ok.got in
    let front = take n out in
    let part = c.read.new.buf in
    let rest = post_of n (length out - n) out in
    let new = take got part in
    let spare = drop got part in
    let fits : n + got ≤ length (put_mid n (length out - n) out part) = search (rules, places) in
    let long : length (front ++ new) ≡ n + got = omega (arith, length-append front new, length-take-le n out before.0, read.bound.1) in
    let split : front ++ (part ++ rest) ≡ (front ++ new) ++ (spare ++ rest) =
    ap (λ l. front ++ (l ++ rest)) (sym (take-append-drop got part)) ∙ ap (λ l. front ++ l) (append_assoc new spare rest) ∙ sym (append_assoc front new (spare ++ rest)) in
    let behind = ap (take (n + got)) split ∙ take_at (front ++ new) (spare ++ rest) (n + got) long in
    (fits, subst (Consumes _ _) (sym behind) (Consumes-trans _ _ _ front new before.1 read.bytes.0))
