-- `tree_check::tree_walk::walk` meets its contract, by the laws of WalkLaws. The measure is the allowance: so no more
-- calls lie in each other than there may be nodes. Assumes nothing.
use Prim.Native.Nat.{ℕ, ◌-◌, ◌≤◌}
use native.Mathlib.Omega.{arith}
use mathlib.Core.Path.{◌≡◌, refl, sym, ◌∙◌, subst}
use mathlib.Core.Bool.{true≢false}
use Rattle.words.specs.Lists.{Words}
use Rattle.stored_forms.specs.Tree.{Form, form_of}
use Rattle.stored_forms.proofs.NodeLaws.{Readable, readable}
use Rattle.tree_nodes.specs.Nodes.{cells}
use Rattle.tree_check.specs.Walk.{Ready, Between, Walked, Passes}
use Rattle.tree_check.proofs.WalkLaws.{none_found, joined, walked_as, passes_none, passes_both}
use Rattle.tree_check.proofs.WalkLaws.{not_inside, not_between, not_left, not_following}
use Rattle.tree_check.proofs.tree_walk.+walk.Goals as goal
use Rattle.tree_check.proofs.tree_walk.+walk.Goals.{After-node_ok, then-lower-ne0+else-c-next, else-lower-ne0}

-- the left part of the node at cell c, of z cells, is found right
abbrev Left : Form → Words → Words → ℕ → ℕ → ℕ → ℕ → ℕ → ℕ → ℕ → ℕ → ℕ → Type 0
Left F m map N l z k rest before c next sum =
    Walked F m map N l z k before next sum × (next ≤ c) × Passes F m map N l z k rest before next sum

module _ {F : Form} {m map : Words} {N l z k rest before c next sum : ℕ} where
  -- by the walk of it
  called : {n s : ℕ} → c ≤ N → (n ≤ N → Walked F m map N l z k before n s) → Passes F m map N l z k rest before n s
      → n ≤ c → next ≡ n → sum ≡ s → Left F m map N l z k rest before c next sum
  called inside found p low en es =
      let (x, y) = walked_as en es (found (omega arith)) p in (x, omega arith, y)

  -- or there is none
  skipped : Readable F F.links → Ready F m map N → l ≡ 0 → k ≤ N → before ≤ k → k ≤ c → next ≡ k → sum ≡ before
      → Left F m map N l z k rest before c next sum
  skipped back ready none inside few low en es =
      let (x, y) = walked_as en es (none_found none inside few) (passes_none back ready none) in (x, omega arith, y)

-- past the test of the node the block lies right, and so does what is to the left of it
left_is : {t : ℕ} (c : After-node_ok t)
    → Between c.args.k (cells (form_of c.args.form) c.args.arena.now.now) c.args.limit (c.args.link - 1) c.length_of-z.result
    × Left (form_of c.args.form) c.args.arena.now.now c.args.map.now.now (cells (form_of c.args.form) c.args.arena.now.now)
    c.left_of-lower.result c.length_of-z.result c.args.k (c.args.allowed - 1) c.args.free.now (c.args.link - 1)
    c.if-lower-ne0.next c.if-lower-ne0.free
left_is c =
    let b = subst (λ n. Between c.args.k n c.args.limit (c.args.link - 1) c.length_of-z.result) c.cell_count-count.ensures
    (c.is_between.ensures.0 c.if-not-is_between.false) in
    let low = b.low in
    let some = b.some in
    let high = b.high in (
      b,
      elim c.if-lower-ne0.branch [
        | then-lower-ne0+else-c-next w ↦
            called (omega arith) w.walk-next.ensures.walked w.walk-next.ensures.passes (omega arith) w.next-is w.free-is
        | else-lower-ne0 w ↦
            skipped (readable c.args.form) c.requires.ready w.if-lower-ne0.false c.requires.k_bound.0 c.requires.k_bound.1 low
            w.next-is w.free-is
      ],
    )

pub returns-then-count-link : goal.returns-then-count-link
returns-then-count-link t c = record {
  walked = λ h. absurd (omega (arith, c.requires.ready.small));
  passes = not_inside (readable c.args.form) c.requires.ready (omega (arith, c.cell_count-count.ensures));
}

pub returns-then-not-is_between : goal.returns-then-not-is_between
returns-then-not-is_between t c =
    let a = c.args in
    let is = c.cell_count-count.ensures in record {
      walked = λ h. absurd (omega (arith, c.requires.ready.small));
      passes =
          not_between (readable a.form) c.requires.ready (omega arith) c.length_of-z.ensures refl refl
          (λ b. true≢false (sym (c.is_between.ensures.1
          (subst (λ n. Between a.k n a.limit (a.link - 1) c.length_of-z.result) (sym is) b))
          ∙ c.if-not-is_between.true));
    }

pub returns-then-c-next : goal.returns-then-c-next
returns-then-c-next t c =
    record {
      walked = λ h. absurd (omega (arith, c.requires.ready.small));
      passes =
          not_left (readable c.args.form) c.requires.ready (omega arith) c.length_of-z.ensures c.left_of-lower.ensures refl
          (omega arith) c.walk-next.ensures.passes (omega arith);
    }

pub returns-then-not-node_ok : goal.returns-then-not-node_ok
returns-then-not-node_ok t c =
    let (b, left) = left_is (goal.at.returns-then-not-node_ok t c).After-node_ok in
    let (x, inner, p) = left in
    let high = b.high in
    let a = c.args in
    record {
      walked = λ h. absurd (omega (arith, c.requires.ready.small));
      passes =
          not_following (readable a.form) c.requires.ready (omega arith) c.length_of-z.ensures c.left_of-lower.ensures refl
          (omega arith) p (λ f. true≢false (sym (c.node_ok.ensures.1 f) ∙ c.if-not-node_ok.true));
    }

pub returns-then-upper-eq0 : goal.returns-then-upper-eq0
returns-then-upper-eq0 t c =
    let (b, left) = left_is (goal.at.returns-then-upper-eq0 t c).After-node_ok in
    let (x, inner, p) = left in
    let high = b.high in
    let a = c.args in
    let few = x.few in
    let none = c.if-upper-eq0.true in record {
      walked = λ h.
          joined c.length_of-z.ensures c.left_of-lower.ensures c.right_of-upper.ensures b x inner
          (c.node_ok.ensures.0 c.if-not-node_ok.false) (none_found none high (omega arith)) (omega arith);
      passes =
          passes_both (readable a.form) c.requires.ready (omega arith) c.length_of-z.ensures c.left_of-lower.ensures
          c.right_of-upper.ensures (omega arith) p (passes_none (readable a.form) c.requires.ready none);
    }

pub returns : goal.returns
returns t c =
    let (b, left) = left_is (goal.at.returns t c).After-node_ok in
    let (x, inner, p) = left in
    let high = b.high in
    let a = c.args in
    record {
      walked = λ h.
          joined c.length_of-z.ensures c.left_of-lower.ensures c.right_of-upper.ensures b x inner
          (c.node_ok.ensures.0 c.if-not-node_ok.false) (c.walk.ensures.walked h) (omega arith);
      passes =
          passes_both (readable a.form) c.requires.ready (omega arith) c.length_of-z.ensures c.left_of-lower.ensures
          c.right_of-upper.ensures (omega arith) p c.walk.ensures.passes;
    }
