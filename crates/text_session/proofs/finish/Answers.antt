-- `text_session::finish` meets its contract: the end call, whose answer has room. Assumes nothing.
use Rattle.std.proofs.Common.{◌≤◌, sym, ap, length, length-take-le, arith}
use Rattle.session.specs.Calls.{Reply}
use Rattle.text_session.proofs.HandingLaws.{end_fits}
use Rattle.text_session.proofs.finish.Goals as goal

pub slice_bounds-write_out-end : goal.slice_bounds-write_out-end
slice_bounds-write_out-end g c =
    let e = c.end-done in
    let wrote = ap (λ (r : Reply). r.written) e.ensures in
    omega (arith, wrote, end_fits c.args.state.now c.requires.0 c.args.answers.now, e.auto.answers)

pub slice_bounds-write_out-end-2 : goal.slice_bounds-write_out-end-2
slice_bounds-write_out-end-2 g c =
    let e = c.end-done in
    let wrote = ap (λ (r : Reply). r.written) e.ensures in
    let fits : e.result.written ≤ length e.new.answers =
    omega (arith, wrote, end_fits c.args.state.now c.requires.0 c.args.answers.now, e.auto.answers) in
    sym (length-take-le e.result.written e.new.answers fits)
