-- `text::put_line` meets its contract: a letter, the fields, a line feed. Assumes nothing.
use native.Mathlib.Omega.{arith}
use mathlib.Core.List.{[], ◌∷◌, ◌++◌}
use Rattle.text.specs.Fields.{fields_of, line_of}
use Rattle.text.proofs.WriteLaws.{wrote_then, line_long}
use Rattle.text.proofs.put_line.Goals as goal

pub put_byte-a-requires : goal.put_byte-a-requires
put_byte-a-requires c =
    omega (arith, c.requires, line_long c.args.letter c.args.ns.now)

pub put_fields-b-requires : goal.put_fields-b-requires
put_fields-b-requires c =
    omega (arith, c.requires, line_long c.args.letter c.args.ns.now, c.put_byte-a.ensures.0, c.put_byte-a.auto.out)

pub put_byte-requires : goal.put_byte-requires
put_byte-requires c =
    omega (
      arith,
      c.requires,
      line_long c.args.letter c.args.ns.now,
      c.put_byte-a.ensures.0,
      c.put_byte-a.auto.out,
      c.put_fields-b.ensures.0,
      c.put_fields-b.auto.out,
    )

pub returns : goal.returns
unfolding line_of
returns c =
    let ns = fields_of c.args.ns.now in
    let end = wrote_then ns (10 ∷ []) c.put_byte-a.new.out c.put_fields-b.new.out _ _ _ _ c.put_fields-b.ensures
    c.put_byte.ensures in
    wrote_then (c.args.letter ∷ []) (ns ++ 10 ∷ []) c.args.out.now _ _ _ _ _ c.put_byte-a.ensures end
