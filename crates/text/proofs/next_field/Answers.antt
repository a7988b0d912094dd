-- `text::next_field` meets its contract: what is cut off ends before the first tab, if it isn't the last. Assumes nothing.
use Rattle.std.proofs.Common.{arith, length, drop, take_all, length-drop, ◌+◌, ◌-◌}
use Rattle.text.proofs.FieldLaws.{no_tab, some_tab}
use Rattle.text.proofs.next_field.Goals as goal

pub returns-in_err-tab : goal.returns-in_err-tab
returns-in_err-tab c = rw (c.from_residual.ensures, c.if-last.false) (no_tab _ c.in_err-tab.ensures)

pub returns : goal.returns
returns c =
    let n = c.in_ok-tab.tab + 1 in
    let s = c.args.s.now in
    rw (c.if-last.false, take_all (length s - n) (drop n s) (omega (arith, length-drop n s)))
    (some_tab _ _ c.in_ok-tab.ensures)
