-- `text::Line::keep_run` meets its contract: what comes before the line feed is the run. Assumes nothing.
use Rattle.std.proofs.Common.{ℕ, ◌≡◌, ◌++◌, sym, ap, ◌∙◌, take, drop, length, arith}
use Rattle.std.specs.Prelude.{Option}
use Rattle.std.specs.Option.{unwrap_or}
use Rattle.std.proofs.lemmas.List.{take-take}
use Rattle.std.proofs.Math.Seq.{take-append_seam}
use Rattle.text.specs.Numbers.{Bytes}
use Rattle.text.proofs.LineLaws.{feed, feed_within, feed_is, run_as, run_is}
use Rattle.text.proofs.Line.keep_run.Goals as goal

pub returns-clause-kept : goal.returns-clause-kept
returns-clause-kept c =
    let k = c.args.self.now in
    let s = c.args.chunk.now in
    let n : c.unwrap_or-n.result ≡ feed s =
    c.unwrap_or-n.ensures ∙ ap (λ (o : Option ℕ). unwrap_or o (length s)) c.place_of.ensures ∙ feed_is s in
    let more = take c.unwrap_or-n.result s in (
      ap (λ (x : Bytes). take (length k) x) c.keep.ensures.0
          ∙ take-take (length k) 65 (k ++ more) c.keep.ensures.1
          ∙ take-append_seam k more,
      omega (arith, n, feed_within s),
    )

pub returns-clause-chunk_after : goal.returns-clause-chunk_after
returns-clause-chunk_after c =
    let k = c.args.self.now in
    let s = c.args.chunk.now in
    let n : c.unwrap_or-n.result ≡ feed s =
    c.unwrap_or-n.ensures ∙ ap (λ (o : Option ℕ). unwrap_or o (length s)) c.place_of.ensures ∙ feed_is s in
    ap (λ (x : Bytes). record { kept = x; rest = drop c.unwrap_or-n.result s }) c.keep.ensures.0
    ∙ ap (run_as k s) n
    ∙ sym (run_is k s c.keep.ensures.1)
