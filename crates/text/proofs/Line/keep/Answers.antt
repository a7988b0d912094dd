-- `text::Line::keep` meets its contract: what there is room for is put behind what is kept. Assumes nothing.
use Rattle.std.proofs.Common.{ℕ, ◌+◌, ◌-◌, ◌≡◌, ◌≤◌, ◌++◌, sym, ap, ◌∙◌, take, length, length-take-le, arith}
use Rattle.std.proofs.lemmas.Slice.{take-put_mid}
use Rattle.text.specs.Numbers.{Bytes}
use Rattle.text.proofs.LineLaws.{kept_is}
use Rattle.text.proofs.Line.keep.Goals as goal

pub returns : goal.returns
returns c =
    let q = c.self.inside in
    let old = c.args.self.now in
    let bs = c.args.bs.now in
    let n = c.min-n.result in
    let long : length old ≡ q.kept = ap length (sym c.self.view_is) ∙ length-take-le q.kept q.bytes (omega (arith, c.self.told, c.self.invariant)) in
    let few : length old ≤ 65 = omega (arith, long, c.self.invariant) in
    let put : c.copy_from_slice.new.self ≡ take n bs = c.copy_from_slice.ensures.after in
    let size : length (take n bs) ≡ n = length-take-le n bs (omega (arith, c.min-n.ensures)) in (
      take-put_mid q.kept (q.kept + n - q.kept) q.bytes c.copy_from_slice.new.self (q.kept + n) (omega (arith, ap length put, size))
          (omega (arith, c.self.told, c.self.invariant))
          ∙ ap (λ (x : Bytes). take q.kept q.bytes ++ x) put
          ∙ ap (λ (x : Bytes). x ++ take n bs) c.self.view_is
          ∙ ap (λ (m : ℕ). old ++ take m bs) (rw (c.saturating_sub.ensures, ← long) at c.min-n.ensures)
          ∙ kept_is old bs few,
      few,
    )
