-- `text::put_fields` meets its contract: the fields left, set from here on, make all of them. Assumes nothing.
use Rattle.std.proofs.Common.{◌∙◌, arith}
use Rattle.text.proofs.WriteLaws.{field_room, field_step}
use Rattle.text.proofs.put_fields.Goals as goal

pub loop-n-preserved : goal.loop-n-preserved
loop-n-preserved c =
    let i = c.loop-n.n-index in
    let room = field_room c.args.ns.now i c.loop-n-test.true in
    let f = c.put_field-end in
    let step = field_step c.args.ns.now i c.loop-n-test.true c.loop-n.out f.new.out c.loop-n.end f.result f.ensures in
    (omega (arith, room, f.ensures.0, c.loop-n.invariant.0), step ∙ c.loop-n.invariant.1)
