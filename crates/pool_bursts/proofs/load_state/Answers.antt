-- `pool_bursts::load_state` meets its contract: the layout, the session, its pool. Assumes nothing.
use native.Mathlib.Omega.{arith}
use Prim.Native.Nat.{◌+◌, ◌-◌}
use mathlib.Core.Path.{◌≡◌, ◌∙◌, refl, sym, ap, subst}
use lib.ListN.{length, take, drop, length-drop}
use lib.Seq.{length-take-le}
use Rattle.session.specs.State.{session, session_in}
use Rattle.pool_text.specs.declared.Stage.{Stage}
use Rattle.pool_text.specs.Session.{standing_of}
use Rattle.pool_bursts.specs.declared.Fields.{Fields}
use Rattle.pool_bursts.specs.Inside.{Suits, Fronts, is_placed}
use Rattle.pool_bursts.proofs.LayoutLaws.{few_kept}
use Rattle.pool_bursts.proofs.LoadLaws.{loaded}
use Rattle.pool_bursts.proofs.CallLaws.{formed_sized, not_formed, formed_is, placed_in, lent_of}
use Rattle.pool_bursts.proofs.load_state.Goals as goal

pub returns-then-not-is_well_formed : goal.returns-then-not-is_well_formed
returns-then-not-is_well_formed c =
    not_formed c.args.state.now c.read_fields-f.ensures.1 c.requires.state_len.0
    (sym c.is_well_formed.ensures ∙ c.if-not-is_well_formed.true)

pub is_fit-requires : goal.is_fit-requires
is_fit-requires c =
    let f = c.read_fields-f in
    let is = sym c.is_well_formed.ensures ∙ c.if-not-is_well_formed.false in
    let sized = formed_sized c.args.state.now f.result f.ensures.0 is in
    let a = length c.args.arena.now in
    let t = length c.args.table.now in
    let suits = subst (λ (g : Fields). Suits g a t) (sym f.ensures.0) c.requires.state_len.1 in
    (ap (λ (x : Stage). is_placed x a t) c.stage_of-stage.ensures ∙ placed_in f.result a t sized suits, suits.0, suits.1)

pub returns-then-not-is_fit : goal.returns-then-not-is_fit
returns-then-not-is_fit c =
    let f = c.read_fields-f in
    let is = sym c.is_well_formed.ensures ∙ c.if-not-is_well_formed.false in
    let sized = formed_sized c.args.state.now f.result f.ensures.0 is in
    let b = c.args.state.now in
    let a = c.args.arena.now in
    let t = c.args.table.now in
    let g = c.stage_of-stage in
    let k = take f.result.kept (drop 24 b) in
    let fronts = subst (λ (h : Fields). Fronts h b a t) (sym f.ensures.0) c.requires.fronts in
    let session-is : session (standing_of g.result a t) k ≡ session_in b =
    ap (λ (y : Stage). session (standing_of y a t) k) g.ensures
    ∙ loaded f.result b k f.ensures.0 refl a t (fronts sized) in
    sym (formed_is b f.ensures.1 c.requires.state_len.0 is (standing_of g.result a t) k session-is)
    ∙ sym c.is_fit.ensures ∙ c.if-not-is_fit.true

pub slice_bounds-of-end : goal.slice_bounds-of-end
slice_bounds-of-end c =
    let f = c.read_fields-f in
    let is = sym c.is_well_formed.ensures ∙ c.if-not-is_well_formed.false in
    let sized = formed_sized c.args.state.now f.result f.ensures.0 is in
    omega (arith, few_kept f.result sized, c.requires.state_len.0)

pub of-requires : goal.of-requires
of-requires c =
    let f = c.read_fields-f in
    let is = sym c.is_well_formed.ensures ∙ c.if-not-is_well_formed.false in
    let sized = formed_sized c.args.state.now f.result f.ensures.0 is in
    let few = few_kept f.result sized in
    let n = 24 + f.result.kept - 24 in
    let b = c.args.state.now in
    omega (arith, few, length-take-le n (drop 24 b) (omega (arith, few, c.requires.state_len.0, length-drop 24 b)))

pub returns : goal.returns
returns c =
    let f = c.read_fields-f in
    let is = sym c.is_well_formed.ensures ∙ c.if-not-is_well_formed.false in
    let sized = formed_sized c.args.state.now f.result f.ensures.0 is in
    let b = c.args.state.now in
    let a = c.args.arena.now in
    let t = c.args.table.now in
    let g = c.stage_of-stage in
    let x = c.is_fit in
    let few = few_kept f.result sized in
    let suits = subst (λ (h : Fields). Suits h (length a) (length t)) (sym f.ensures.0) c.requires.state_len.1 in
    let fronts = subst (λ (h : Fields). Fronts h b a t) (sym f.ensures.0) c.requires.fronts in
    let k = c.of.result in
    let n : 24 + f.result.kept - 24 ≡ f.result.kept = omega arith in
    let same : k ≡ take f.result.kept (drop 24 b) = rw n at c.of.ensures in
    let long = length-take-le f.result.kept (drop 24 b) (omega (arith, few, c.requires.state_len.0, length-drop 24 b)) in
    let session-is : session (standing_of g.result a t) k ≡ session_in b =
    ap (λ (y : Stage). session (standing_of y a t) k) g.ensures
    ∙ loaded f.result b k f.ensures.0 same a t (fronts sized) in
    let placed = ap (λ (y : Stage). is_placed y (length a) (length t)) g.ensures
    ∙ placed_in f.result (length a) (length t) sized suits in
    let right = sym x.ensures ∙ c.if-not-is_fit.false in (
      sym (formed_is b f.ensures.1 c.requires.state_len.0 is (standing_of g.result a t) k session-is) ∙ right,
      (lent_of g.result a t suits.0 suits.1 placed right, omega (arith, ap length same, long, few), session-is, is),
    )
