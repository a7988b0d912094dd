-- `text::put_bytes` meets its contract. Assumes nothing.
use Rattle.std.proofs.Common.{refl, sym, ◌∙◌, append_assoc, arith, ◌+◌, ◌-◌, ◌≡◌, take, drop, length}
use Rattle.std.proofs.lemmas.List.Edits.{sets-eq, paste_all}
use Rattle.std.proofs.lemmas.Slice.{put_mid-paste}
use Rattle.text.proofs.put_bytes.Goals as goal

pub returns : goal.returns
returns c =
    let at = c.args.at in
    let bs = c.args.bs.now in
    let out = c.args.out.now in
    let n = length bs in
    let e : n ≡ at + n - at = omega arith in (
      refl,
      put_mid-paste at (at + n - at) out c.copy_from_slice.new.self bs n c.copy_from_slice.ensures.after e refl
          ∙ paste_all out at bs n refl
          ∙ sym (append_assoc (take at out) bs (drop (at + n) out))
          ∙ sym (sets-eq bs out at c.requires),
    )
