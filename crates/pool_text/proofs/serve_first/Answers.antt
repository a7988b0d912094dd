-- `pool_text::serve_first` meets its contract: the fields after P and its tab open a pool, any other line stops. Assumes
-- nothing.
use Rattle.std.proofs.Common.{sym}
use Rattle.pool_text.proofs.RequestLaws.{first_bad, first_two, first_three, first_none}
use Rattle.pool_text.proofs.StandLaws.{came_as, came_stopped}
use Rattle.pool_text.proofs.serve_first.Goals as goal

pub returns-in_default : goal.returns-in_default
returns-in_default c =
    let a = c.args.arena.now in
    let t = c.args.table.now in
    let r = c.refuse in
    came_as (sym (first_bad c.args.line.now c.in_default.ensures)) r.result.stage a t r.result.said
    (came_stopped r.result.stage a t r.result.said 9 r.ensures.0 c.requires.0 c.requires.1 r.ensures.1)

pub returns-in-Some-read_numbers : goal.returns-in-Some-read_numbers
returns-in-Some-read_numbers c =
    let f = c.in-Some.ensures in
    let r = c.open_pool in
    let n = c.in-Some-read_numbers in
    came_as (sym (first_two c.args.line.now c.in-Some.fields.now f.1 f.0 n.numbers n.ensures)) r.result.stage r.new.arena
    r.new.table r.result.said r.ensures

pub returns-in-Some-read_numbers-2 : goal.returns-in-Some-read_numbers-2
returns-in-Some-read_numbers-2 c =
    let f = c.in-Some.ensures in
    let r = c.open_pool-in-Some-read_numbers-2 in
    let n = c.in-Some-read_numbers-2 in
    came_as (sym (first_three c.args.line.now c.in-Some.fields.now f.1 f.0 n.numbers c.in_default-read_numbers.ensures n.ensures))
    r.result.stage r.new.arena r.new.table r.result.said r.ensures

pub returns : goal.returns
returns c =
    let a = c.args.arena.now in
    let t = c.args.table.now in
    let f = c.in-Some.ensures in
    let r = c.refuse-2 in
    let none = first_none c.args.line.now c.in-Some.fields.now f.1 f.0 c.in_default-read_numbers.ensures
    c.in_default-read_numbers-2.ensures in
    came_as (sym none) r.result.stage a t r.result.said
    (came_stopped r.result.stage a t r.result.said 9 r.ensures.0 c.requires.0 c.requires.1 r.ensures.1)
