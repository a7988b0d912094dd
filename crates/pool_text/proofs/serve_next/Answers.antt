-- `pool_text::serve_next` meets its contract: the burst ends inside the line, or there is no room for its answer, or it
-- is served. Assumes nothing.
use native.Mathlib.Omega.{arith}
use Prim.Native.Nat.{◌+◌, ◌-◌}
use mathlib.Core.Path.{◌≡◌, ◌∙◌, sym, ap, ap₂}
use mathlib.Core.Bool.{true, false}
use lib.Dec.{leb}
use lib.ListN.{length, take, drop}
use Rattle.text.specs.Numbers.{Bytes}
use Rattle.text.specs.Rooms.{burst}
use Rattle.session.specs.Meaning.{Standing, serve}
use Rattle.pool_text.specs.Session.{standing_of, landed}
use Rattle.pool_text.proofs.BurstLaws.{inside, run_from, ends_open, no_room_lem, next_line}
use Rattle.pool_text.proofs.StandLaws.{became_as}
use Rattle.pool_text.proofs.serve_next.Goals as goal

pub returns-then-end-chunk-clause-out_after : goal.returns-then-end-chunk-clause-out_after
returns-then-end-chunk-clause-out_after c =
    let u = c.args.turn in
    let k = c.args.line.now in
    let n = c.keep_run.result in
    let chunk = c.args.chunk.now in
    let out = c.args.out.now in
    let stands = standing_of u.stage c.args.arena.now c.args.table.now in
    let run = run_from k c.keep_run.new.self chunk u.from n c.keep_run.ensures.chunk_after in
    ends_open (length out - u.at) stands k c.keep_run.new.self chunk u.from (u.from + n) run out u.at (omega (arith, c.if-end-chunk.true))

pub returns-in_default-clause-out_after : goal.returns-in_default-clause-out_after
returns-in_default-clause-out_after c =
    let u = c.args.turn in
    let k = c.args.line.now in
    let r = c.keep_run in
    let kept = r.new.self in
    let chunk = c.args.chunk.now in
    let out = c.args.out.now in
    let stands = standing_of u.stage c.args.arena.now c.args.table.now in
    let room = length out - u.at in
    let run = run_from k kept chunk u.from r.result r.ensures.chunk_after in
    let tried = c.in_default.ensures in
    let none : leb (length (serve stands kept).said) room ≡ false =
    ap (λ (x : Bytes). leb (length (serve stands x).said) room) (sym c.bytes.ensures.0) ∙ tried.0 in
    let back : c.truncate.new.self ≡ k =
    c.truncate.ensures ∙ ap (λ (x : Bytes). take (length x) kept) c.bytes-kept.ensures.0 ∙ r.ensures.kept.0 in
    let less = inside chunk u.from r.result c.requires.from_in_bounds r.ensures.kept.1 c.if-end-chunk.false in
    ap₂ (λ (x : Standing) (y : Bytes). (x, c.truncate.new.self, y, u.at, drop u.from chunk)) tried.2 tried.3
    ∙ ap (λ (x : Bytes). (stands, x, out, u.at, drop u.from chunk)) back
    ∙ no_room_lem room stands k kept chunk u.from (u.from + r.result) run out u.at less none

pub returns-clause-out_after : goal.returns-clause-out_after
returns-clause-out_after c =
    let u = c.args.turn in
    let k = c.args.line.now in
    let r = c.keep_run in
    let kept = r.new.self in
    let chunk = c.args.chunk.now in
    let out = c.args.out.now in
    let l = c.try_line.new in
    let p = c.in-Some.done in
    let stands = standing_of u.stage c.args.arena.now c.args.table.now in
    let after = standing_of p.stage l.arena l.table in
    let room = length out - u.at in
    let run = run_from k kept chunk u.from r.result r.ensures.chunk_after in
    let tried = c.in-Some.ensures in
    let fits : leb (length (serve stands kept).said) room ≡ true =
    ap (λ (x : Bytes). leb (length (serve stands x).said) room) (sym c.bytes.ensures.0) ∙ tried.0 in
    let b = became_as (ap (λ (x : Bytes). serve stands x) c.bytes.ensures.0) p.stage l.arena l.table out l.out u.at p.at tried.1 in
    let less = inside chunk u.from r.result c.requires.from_in_bounds r.ensures.kept.1 c.if-end-chunk.false in
    ap (λ (x : Bytes). landed l.out p.at (burst serve (length l.out - p.at) after x (drop (u.from + r.result + 1) chunk)))
    c.truncate-2.ensures
    ∙ next_line stands after k kept chunk u.from (u.from + r.result) run less out l.out u.at p.at fits b.1 b.2
