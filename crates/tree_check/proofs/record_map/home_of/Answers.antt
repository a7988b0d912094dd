-- `tree_check::record_map::home_of` meets its contract. Assumes nothing.
use native.Mathlib.Omega.{arith}
use mathlib.Core.Path.{sym}
use Rattle.words.proofs.Tests.{eqb_ne}
use Rattle.tree_check.specs.Maps.{home}
use Rattle.tree_check.proofs.record_map.home_of.Goals as goal

pub returns-then-bytes-eq769 : goal.returns-then-bytes-eq769
unfolding home
returns-then-bytes-eq769 c = (sym (rw c.if-bytes-eq769.true), omega arith)

pub returns : goal.returns
unfolding home
returns c = (sym (rw (eqb_ne c.args.bytes 769 c.if-bytes-eq769.false)), omega arith)
