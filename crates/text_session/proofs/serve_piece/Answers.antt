-- `text_session::serve_piece` meets its contract: one burst, with room for the longest answer. Assumes nothing.
use Rattle.std.specs.Prelude.{Result, Ok, Err, OnErr}
use Rattle.std.proofs.Common.{ℕ, ◌≤◌, ◌<◌, ◌≡◌, ◌∙◌, sym, ap, ap₂, subst, length, take, drop, length-take-le, arith}
use Rattle.text.specs.Numbers.{Bytes}
use Rattle.session.specs.Bursts.{most_answer}
use Rattle.session.specs.Calls.{Reply, burst_call}
use Rattle.text_session.specs.Handing.{Ready, after, Took}
use Rattle.text_session.proofs.HandingLaws.{ready_next, burst_fits, takes, takes_some, piece_on}
use Rattle.text_session.proofs.serve_piece.Goals as goal

pub slice_bounds-write_out-end : goal.slice_bounds-write_out-end
slice_bounds-write_out-end g c =
    let d = c.burst-done in
    let part = take c.min-end.result c.args.bytes.now in
    let wrote = ap (λ (r : Reply). r.written) d.ensures in
    omega (arith, wrote, burst_fits c.args.state.now c.requires.ready.0 part c.args.answers.now, d.auto.answers)

pub slice_bounds-write_out-end-2 : goal.slice_bounds-write_out-end-2
slice_bounds-write_out-end-2 g c =
    let d = c.burst-done in
    let part = take c.min-end.result c.args.bytes.now in
    let wrote = ap (λ (r : Reply). r.written) d.ensures in
    let fits : d.result.written ≤ length d.new.answers =
    omega (arith, wrote, burst_fits c.args.state.now c.requires.ready.0 part c.args.answers.now, d.auto.answers) in
    sym (length-take-le d.result.written d.new.answers fits)

pub returns-in_err-write_out-clause-ready_2 : goal.returns-in_err-write_out-clause-ready_2
returns-in_err-write_out-clause-ready_2 g c =
    let left = ap (λ (r : Reply). r.state) c.burst-done.ensures in
    let part = take c.min-end.result c.args.bytes.now in
    subst Ready (sym left) (ready_next c.args.state.now c.requires.ready.0 part c.args.answers.now)

pub returns-clause-ready_2 : goal.returns-clause-ready_2
returns-clause-ready_2 g c =
    let left = ap (λ (r : Reply). r.state) c.burst-done.ensures in
    let part = take c.min-end.result c.args.bytes.now in
    subst Ready (sym left) (ready_next c.args.state.now c.requires.ready.0 part c.args.answers.now)

on_err : {T E P : Type 0} (r : Result T E) → P → OnErr r P
on_err (Ok _) p = tt
on_err (Err _) p = p

-- what is taken of a piece leads on, whatever becomes of its answers
module _ (st : Bytes) (h : Ready st) (bytes out : Bytes) (end : ℕ) (room : most_answer ≤ length out) where
  took : 0 < end → end ≤ length bytes → (st' : Bytes) (n : ℕ)
      → st' ≡ (burst_call st (take end bytes) out).state → n ≡ (burst_call st (take end bytes) out).taken
      → Took st st' bytes n
  took some few st' n left is =
      let part = take end bytes in
      let long : length part ≡ end = length-take-le end bytes few in
      let on = takes_some st h part out room (omega (arith, long, some)) in (
        omega (arith, is, on),
        omega (arith, is, takes st h part out, long, few),
        ap₂ (λ (b : Bytes) (k : ℕ). after b (drop k bytes)) left is ∙ piece_on st h bytes out end,
      )

pub returns-clause-taken : goal.returns-clause-taken
returns-clause-taken g c =
    took c.args.state.now c.requires.ready.0 c.args.bytes.now c.args.answers.now c.min-end.result c.requires.ready.1
    (omega (arith, c.min-end.ensures, c.requires.some)) (omega (arith, c.min-end.ensures)) _ _
    (ap (λ (r : Reply). r.state) c.burst-done.ensures) (ap (λ (r : Reply). r.taken) c.burst-done.ensures)

pub returns-in_err-write_out-clause-unwritten : goal.returns-in_err-write_out-clause-unwritten
returns-in_err-write_out-clause-unwritten g c =
    let some : (n : ℕ) × Took c.args.state.now c.burst-done.new.state c.args.bytes.now n = (
      c.burst-done.result.taken,
      took c.args.state.now c.requires.ready.0 c.args.bytes.now c.args.answers.now c.min-end.result c.requires.ready.1
          (omega (arith, c.min-end.ensures, c.requires.some)) (omega (arith, c.min-end.ensures)) _ _
          (ap (λ (r : Reply). r.state) c.burst-done.ensures) (ap (λ (r : Reply). r.taken) c.burst-done.ensures),
    ) in
    on_err c.from_residual.result some
