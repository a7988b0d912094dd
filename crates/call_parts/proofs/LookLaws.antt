-- look's promise by find's answer, for any engine and kind of word: which slice, place and content. Assumes nothing.
use mathlib.Core.Path.{◌≡◌, sym, ap, ◌∙◌}
use mathlib.Core.Logic.{◌≢◌}
use mathlib.Core.Bool.{cond}
use mathlib.Core.List.{List}
use denote.Ref.{Bor}
use Rattle.words.specs.Lists.{Words}
use Rattle.words.proofs.Tests.{eqb_ne}
use Rattle.ledger.specs.declared.Row.{Row}
use Rattle.calls.specs.declared.Answer.{Answer}
use Rattle.calls.specs.Pool.{Pool, Engine}
use Rattle.calls.specs.Step.{find, look, step, accepted, Slice, arena_part, placeholder}
use Rattle.call_parts.specs.Results.{whole_slice, slice_part, slice_of}
use Rattle.call_parts.proofs.FindLaws.{look_shows}

module _ (E : Engine) {A : Type 0} (p : Pool) (r : Row) (arena hold : Bor (List A)) (words : Words) (x : Answer)
    (is : x ≡ (step E (find r) p).answer) where
  shows : (step E (look r words) p).shown ≡ cond (accepted x) (arena_part r.address r.words) placeholder
  shows =
      look_shows E p r words
      ∙ ap (λ (y : Answer). cond (accepted y) (arena_part r.address r.words) placeholder) (sym is)

  -- refused: the placeholder, whole
  pub look_holds : x.number ≢ 0 → whole_slice hold ≡ slice_of (step E (look r words) p).shown arena hold
  look_holds n =
      let e : cond (accepted x) (arena_part r.address r.words) placeholder
      ≡ placeholder = rw (eqb_ne x.number 0 n) in
      sym (ap (λ (k : Slice). slice_of k arena hold) (shows ∙ e))

  -- accepted: the part of the arena
  pub look_found : x.number ≡ 0
      → slice_part arena r.address r.words ≡ slice_of (step E (look r words) p).shown arena hold
  look_found z =
      let e : cond (accepted x) (arena_part r.address r.words) placeholder
      ≡ arena_part r.address r.words = rw z in
      sym (ap (λ (k : Slice). slice_of k arena hold) (shows ∙ e))
