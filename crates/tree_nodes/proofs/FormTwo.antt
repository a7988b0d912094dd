-- The second form by words: words 0 to 2 of a cell are its node's length, left link and right link, and word 3 is 0.
-- 02, ticket 3. Assumes nothing.
use Prim.Native.Nat.{ℕ, suc, ◌+◌, ◌*◌, ◌/◌, ◌<◌}
use native.Mathlib.Omega.{arith}
use mathlib.Core.Path.{◌≡◌, sym, ap, ◌∙◌}
use mathlib.Core.Logic.{◌≢◌}
use lib.ListN.{length, get_or, set, length-set}
use lib.Seq.{get_or-set_same, get_or-set_other, set-get_or}
use Rattle.words.specs.Lists.{Words}
use Rattle.stored_forms.specs.Tree.{form_two, length_at, left_at, right_at}
use Rattle.stored_forms.specs.Blocks.{Zeros}
use Rattle.tree_nodes.specs.Nodes.{cells, NodeAt, NodePut}
use Rattle.tree_nodes.proofs.FormLaws.{four_cell, four_length, four_left, four_right}

module _ (m : Words) (c : ℕ) (inside : c < cells form_two m) where
  pub four_in : c < length m / 4
  unfolding form_two
  four_in = inside

  module _ (n l r : ℕ) where
    abbrev stored : Words
    stored = set (set (set m (4 * c) n) (4 * c + 1) l) (4 * c + 2) r

    -- a word of the arena is one of the three, or as it was
    other : (k : ℕ) → k ≢ 4 * c → k ≢ 4 * c + 1 → k ≢ 4 * c + 2 → get_or stored k 0 ≡ get_or m k 0
    other k h i j =
        get_or-set_other (set (set m (4 * c) n) (4 * c + 1) l) (4 * c + 2) k r 0 j
        ∙ get_or-set_other (set m (4 * c) n) (4 * c + 1) k l 0 i
        ∙ get_or-set_other m (4 * c) k n 0 h

    first : get_or stored (4 * c) 0 ≡ n
    first =
        get_or-set_other (set (set m (4 * c) n) (4 * c + 1) l) (4 * c + 2) (4 * c) r 0 (λ z. omega arith)
        ∙ get_or-set_other (set m (4 * c) n) (4 * c + 1) (4 * c) l 0 (λ z. omega arith)
        ∙ get_or-set_same m (4 * c) n 0 (omega (arith, four_in))

    second : get_or stored (4 * c + 1) 0 ≡ l
    second =
        get_or-set_other (set (set m (4 * c) n) (4 * c + 1) l) (4 * c + 2) (4 * c + 1) r 0 (λ z. omega arith)
        ∙ get_or-set_same (set m (4 * c) n) (4 * c + 1) l 0 (simp length-set (omega (arith, four_in)))

    third : get_or stored (4 * c + 2) 0 ≡ r
    third =
        get_or-set_same (set (set m (4 * c) n) (4 * c + 1) l) (4 * c + 2) r 0 (simp length-set (omega (arith, four_in)))

    long : length stored ≡ length m
    long = simp length-set

    -- the node of a cell whose fourth word is 0
    pub four_put : get_or m (4 * c + 3) 0 ≡ 0 → NodePut form_two m stored c n l r
    unfolding form_two
    four_put zero =
        let last = other (4 * c + 3) (λ z. omega arith) (λ z. omega arith) (λ z. omega arith) ∙ zero in
        record {
          node = four_cell stored c (omega (arith, long, four_in)) ∙ rw (first, second, third, last);
          frame = λ d h k e. other k (λ z. omega arith) (λ z. omega arith) (λ z. omega arith);
          long = long;
        }

  -- a node's fourth word
  last_zero : NodeAt form_two m c → get_or m (4 * c + 3) 0 ≡ 0
  unfolding form_two
  last_zero node =
      sym (ap (λ (ws : Words). get_or ws 3 0) (four_cell m c (omega (arith, four_in))))
      ∙ ap (λ (ws : Words). get_or ws 3 0) node

  pub four_set_left : (l : ℕ) → NodeAt form_two m c
      → NodePut form_two m (set m (4 * c + 1) l) c (length_at form_two m c) l (right_at form_two m c)
  four_set_left l node =
      let m₁ = set m (4 * c + 1) l in
      let right = get_or-set_other m (4 * c + 1) (4 * c + 2) l 0 (λ z. omega arith) in
      rw (four_length m c four_in, four_right m c four_in, sym right)
      (rw (set-get_or m (4 * c) 0, set-get_or m₁ (4 * c + 2) 0) at
      (four_put (get_or m (4 * c) 0) l (get_or m₁ (4 * c + 2) 0) (last_zero node)))

  pub four_set_right : (r : ℕ) → NodeAt form_two m c
      → NodePut form_two m (set m (4 * c + 2) r) c (length_at form_two m c) (left_at form_two m c) r
  four_set_right r node =
      rw (four_length m c four_in, four_left m c four_in)
      (rw (set-get_or m (4 * c) 0, set-get_or m (4 * c + 1) 0) at
      (four_put (get_or m (4 * c) 0) (get_or m (4 * c + 1) 0) r (last_zero node)))

  -- ---- a cell that was zero

  module _ (zeros : Zeros m (form_two.cell * c) (form_two.cell * suc c)) (n : ℕ) where
    module _ {m₂ : Words} (l : ℕ) (e : m₂ ≡ set (set m (4 * c) n) (4 * c + 1) l) where
      pub four_put_first : {m₃ : Words} {r : ℕ} → m₃ ≡ set m₂ (4 * c + 2) r → NodePut form_two m m₃ c n l r
      unfolding form_two
      four_put_first {m₃} {r} f = rw (f, e) (four_put n l r (zeros (4 * c + 3) (omega arith) (omega arith)))

-- the fourth word is cleared first
pub four_put_cleared : (m : Words) (c : ℕ) → c < cells form_two m → (n l r : ℕ)
    → NodePut form_two m (set (set (set (set m (4 * c + 3) 0) (4 * c) n) (4 * c + 1) l) (4 * c + 2) r) c n l r
unfolding form_two
four_put_cleared m c inside n l r =
    let m₀ = set m (4 * c + 3) 0 in
    let same : length m₀ ≡ length m = length-set m (4 * c + 3) 0 in
    let put = four_put m₀ c (rw same inside) n l r (get_or-set_same m (4 * c + 3) 0 0 (omega arith)) in
    record {
      node = put.node;
      frame = λ d h k e. put.frame d h k e ∙ get_or-set_other m (4 * c + 3) k 0 0 (λ z. omega arith);
      long = put.long ∙ same;
    }
