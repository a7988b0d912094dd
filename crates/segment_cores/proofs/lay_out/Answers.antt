-- `segment_cores::lay_out` meets its contract. Assumes nothing.
use Prim.Native.Nat.{ℕ, ◌<◌}
use native.Mathlib.Omega.{arith}
use mathlib.Core.List.{List}
use mathlib.Core.Path.{◌≡◌, ◌∙◌, sym, ap}
use lib.IntN.{ℤ, pos}
use lib.ListN.{length, get_or, set, replicate, length-set, length-replicate}
use lib.Seq.{get_or-set_same}
use Rattle.ledger.specs.Records.{Ledger, empty_row}
use Rattle.segment_blocks.specs.Upkeep.{Sizes, OneBlock}
use Rattle.segment_cores.specs.Stores.{Unheld}
use Rattle.segment_cores.proofs.BlankLaws.{blank_unheld, blank_ground, blank_becomes}
use Rattle.segment_cores.proofs.ChangeLaws.{controls}
use Rattle.segment_cores.proofs.lay_out.Goals as goal

-- the control words of any ledger with no record are so
module _ (L : Ledger) (v w : List ℤ) (s g : ℕ) (Z : Sizes (length v) s g) (h : Unheld L (length v))
    (e : w ≡ set (replicate (length v) (pos 0)) 0 (pos (length v))) where
  abbrev zeros : List ℤ
  zeros = replicate (length v) (pos 0)

  long : length w ≡ length v
  long = ap length e ∙ length-set zeros 0 (pos (length v)) ∙ length-replicate {A = ℤ} (length v) (pos 0)

  first : get_or w 0 (pos 0) ≡ pos (length v)
  first =
      let some : 0 < length zeros = rw (length-replicate {A = ℤ} (length v) (pos 0)) Z.words in
      ap (λ (x : List ℤ). get_or x 0 (pos 0)) e ∙ get_or-set_same zeros 0 (pos (length v)) (pos 0) some

  one : OneBlock w (controls L (length v)) s g
  one =
      let G = blank_ground L v s g Z h w e in
      let some : 0 < length w = omega (arith, long, Z.words) in
      record {
        ground = G;
        whole = sym (G.blocks.shown 0 some (G.blocks.start some)) ∙ first ∙ ap pos (sym long);
      }

pub build_index-requires : goal.build_index-requires
build_index-requires c =
    let v = c.args.v.now in
    let W = length v in
    let stored = c.put_free.ensures ∙ ap (λ (w : List ℤ). set w 0 (pos W)) c.fill.ensures in
    let none = replicate 0 empty_row in
    let is = one none c.args.v.now _ _ _ c.requires.sizes (blank_unheld 0 W) stored in
    record {
      by_index = (controls none W, is);
      t_len = c.requires.t_len;
    }

pub returns : goal.returns
returns c =
    let v = c.args.v.now in
    let stored = c.put_free.ensures ∙ ap (λ (w : List ℤ). set w 0 (pos (length v))) c.fill.ensures in
    λ L h.
    blank_becomes L v _ _ c.requires.sizes h _ stored _
    (c.build_index.ensures (controls L (length v)) (one L v _ _ _ c.requires.sizes h stored))
