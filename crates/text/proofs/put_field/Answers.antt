-- `text::put_field` meets its contract: a tab, then the digits. Assumes nothing.
use mathlib.Core.List.{[], ◌∷◌}
use Rattle.text.specs.Numbers.{decimal_of}
use Rattle.text.proofs.WriteLaws.{wrote_then}
use Rattle.text.proofs.put_field.Goals as goal

pub returns : goal.returns
returns c =
    wrote_then (9 ∷ []) (decimal_of c.args.n) c.args.out.now _ _ _ _ _ c.put_byte-end.ensures
    c.put_number.ensures
