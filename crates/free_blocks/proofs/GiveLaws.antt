-- Laws of cells given back: a run put into a list of runs, what touches the cells taken out, and the sum put in.
-- Assumes nothing.
use Prim.Native.Nat.{ℕ, suc, ◌+◌, ◌-◌, ◌*◌, ◌/◌, ◌≤◌, ◌<◌}
use native.Mathlib.Omega.{arith}
use native.Mathlib.Decide.{ℕ_discrete, dec_le}
use mathlib.Core.Path.{◌≡◌, refl, sym, ap, ◌∙◌, subst}
use mathlib.Core.Logic.{◌≢◌}
use mathlib.Core.Bool.{Bool, true, false, cond, ◌&&◌, ◌||◌, true≢false, or-true, or-false, or_assoc, or_comm}
use mathlib.Core.List.{List, [], ◌∷◌, ◌++◌}
use mathlib.Core.Option.{some}
use lib.Dec.{leb, ltb}
use lib.ListN.{length, get_or}
use Rattle.words.specs.Lists.{Words, first_that}
use Rattle.words.specs.Counted.{within}
use Rattle.words.proofs.Tests.{false_of, or_l, or_r, eqb_eq, eqb_ne}
use Rattle.words.proofs.Tests.{eqb_false, lt_of, not_lt, of_le, of_lt, within_in, within_low, within_high, within_of}
use Rattle.words.proofs.PlaceLaws.{length_wiped, wiped_in, wiped_out}
use Rattle.ledger.specs.Runs.{Run, run, covered, Gapped}
use Rattle.ledger.specs.Runs.{add_run}
use Rattle.ledger.proofs.RunLaws.{runs_unique, runs_after_release}
use Rattle.stored_forms.specs.Tree.{tree_of, Form, length_at}
use Rattle.stored_forms.proofs.TreeLaws.{inorder_tree_of}
use Rattle.stored_forms.specs.Blocks.{Zeros}
use Rattle.stored_forms.proofs.NodeLaws.{Readable}
use Rattle.tree_nodes.specs.Nodes.{cells, NodeCleared, wiped_cells}
use Rattle.free_tree.specs.Shapes.{put_run, ends_at, begins_at, link_to}
use Rattle.free_tree.specs.Links.{link_of}
use Rattle.free_tree.specs.Held.{Became, NoNodeNor, Room, Inserted, Deleted, Clear, TouchFound}
use Rattle.free_tree.proofs.ChangeLaws.{insert_tree}
use Rattle.free_tree.proofs.CellLaws.{apart_of, cell_from, cell_below, from_cell, below_cell}
use Rattle.free_blocks.specs.Blocks.{Lies, Changed, Gives}
use Rattle.free_blocks.specs.Giving.{Removed, LiesAt, TakenOut, HeldCell, MergedBelow, MergedAbove}
use Rattle.free_blocks.proofs.BlockLaws.{has, without, uncovered, kept, run_length, cell_inside, cell_no_node}
use Rattle.free_blocks.proofs.BlockLaws.{gone, all_taken}

-- ---- a run put into a list

-- a range in two parts
within_parts : (a b c u : ℕ) → a ≤ b → b ≤ c → within a c u ≡ (within a b u || within b c u)
within_parts a b c u h k = go (dec_le b u)
  where
    go : Dec (b ≤ u) → within a c u ≡ (within a b u || within b c u)
    go (yes l) = rw (within_high a b u l, of_le a u (omega arith), of_le b u l)
    go (no l) =
        rw (within_low b c u (omega arith), of_lt u c (omega arith), of_lt u b (omega arith))
        (sym (or-false (leb a u && true)))

covered_put : (r : Run) (rs : List Run) (u : ℕ) → covered (put_run r rs) u ≡ (covered rs u || has r u)
covered_put r [] u = or-false (has r u)
covered_put r (q ∷ qs) u = go (ltb q.start r.start) (covered_put r qs u)
  where
    go : (b : Bool) → covered (put_run r qs) u ≡ (covered qs u || has r u)
        → covered (cond b (q ∷ put_run r qs) (r ∷ q ∷ qs)) u ≡ (covered (q ∷ qs) u || has r u)
    go true i = rw i (sym (or_assoc (has q u) (covered qs u) (has r u)))
    go false i = or_comm (has r u) (has q u || covered qs u)

-- the run touches none of the others
gapped_put : (r : Run) (rs : List Run) (k e : ℕ) → Gapped k e rs → k ≤ r.start → 1 ≤ r.size → r.start + r.size ≤ e
    → ((u : ℕ) → r.start ≤ suc u → u ≤ r.start + r.size → covered rs u ≡ false)
    → Gapped k e (put_run r rs)
gapped_put r [] k e g a b c d = (a, b, c, tt)
gapped_put r (q ∷ qs) k e g a b c d =
    go (ltb q.start r.start) refl
    (λ l. gapped_put r qs (suc end) e g.3 l b c (λ u x y. or_r (has q u) (covered qs u) (d u x y)))
  where
    end : ℕ
    end = q.start + q.size

    out : (u : ℕ) → r.start ≤ suc u → u ≤ r.start + r.size → q.start ≤ u → u < end → ⊥
    out u x y v w =
        true≢false (sym (within_in q.start end u v w) ∙ or_l (has q u) (covered qs u) (d u x y))

    go : (x : Bool) → ltb q.start r.start ≡ x → (suc end ≤ r.start → Gapped (suc end) e (put_run r qs))
        → Gapped k e (cond x (q ∷ put_run r qs) (r ∷ q ∷ qs))
    go true x i =
        let low = lt_of q.start r.start x in
        let away : r.start ≤ end → ⊥ =
        λ h. out (r.start - 1) (omega arith) (omega arith) (omega arith) (omega arith) in
        (g.0, g.1, g.2, i (omega arith))
    go false x i =
        let high = not_lt q.start r.start x in
        let one = g.1 in
        let away : q.start ≤ r.start + r.size → ⊥ =
        λ h. out q.start (omega arith) h (omega arith) (omega arith) in
        (a, b, c, (omega arith, g.1, g.2, g.3))

-- the list that covers the cells too is the one that `add_run` makes
added : (e s n : ℕ) (rs qs : List Run) → Gapped 0 e rs → Gapped 0 e qs → 1 ≤ n → s + n ≤ e
    → ((u : ℕ) → s ≤ u → u < s + n → covered rs u ≡ false)
    → ((u : ℕ) → covered qs u ≡ (covered rs u || within s (s + n) u))
    → add_run s n rs ≡ qs
added e s n rs qs g h filled inside clear cover =
    let old = runs_unique (covered rs) e rs (record { gapped = g; cover = λ u l. refl }) in
    let new = runs_unique (covered qs) e qs (record { gapped = h; cover = λ u l. refl }) in
    sym (ap (add_run s n) old)
    ∙ sym (runs_after_release (covered rs) (covered qs) e s n filled inside clear (λ u l. cover u)) ∙ new

-- ---- a run taken out of the arena

-- a search by another cell does not see it
begins_other : (z c n : ℕ) → z ≢ c → (xs ys : List Run)
    → first_that (begins_at z) (xs ++ run c n ∷ ys) ≡ first_that (begins_at z) (xs ++ ys)
begins_other z c n h [] ys = rw (eqb_ne c z (λ e. h (sym e)))
begins_other z c n h (x ∷ xs) ys = ap (cond (begins_at z x) (some x)) (begins_other z c n h xs ys)

module _ {F : Form} (readable : Readable F F.links) where
  pub take_out : {m m₁ m' : Words} {root c k : ℕ} → Deleted F m m₁ root c k → NodeCleared F m₁ m' c
      → TakenOut F m m' root c k
  take_out {c = c} del cleared xs n ys p =
      let (change, zeros) = all_taken readable xs c n ys p del cleared in
      let w = gone readable xs c n ys p in
      record {
        change = change;
        order = omega arith;
        cover = w.cover;
        clear = w.clear;
        zeros = zeros;
        others = λ z h. sym (begins_other z c n h xs ys);
      }

  -- where a block that lies in the tree begins and ends
  pub block_end : {m : Words} {root c : ℕ}
      → LiesAt F m root c
      → (c < cells F m) × (c + length_at F m c < F.links)
  block_end {m} {root} {c} (xs, n, ys, p) =
      let w = without 0 (cells F m) xs c n ys p.gapped in
      let filled = w.filled in
      let high = w.high in
      let small = p.tree.small in
      (omega arith, rw (run_length readable xs c n ys p) (omega arith))

-- ---- what a search found

-- what holds of the list with the run that was found, in the code's own number of its cell, holds of the list
found : (P : List Run → Type 0) (p : Run → Bool) {k : ℕ} (rs : List Run) → k ≢ 0 → k ≡ link_to (first_that p rs)
    → ((xs : List Run) (n : ℕ) (ys : List Run) → p (run (k - 1) n) ≡ true → P (xs ++ run (k - 1) n ∷ ys))
    → P rs
found P p [] z e f = absurd (z e)
found P p {k} (r ∷ rs) z e f = go (p r) refl e (λ e. found (λ l. P (r ∷ l)) p rs z e (λ xs. f (r ∷ xs)))
  where
    go : (b : Bool) → p r ≡ b → k ≡ link_to (cond b (some r) (first_that p rs))
        → (k ≡ link_to (first_that p rs) → P (r ∷ rs))
        → P (r ∷ rs)
    go true h e i =
        let c : k - 1 ≡ r.start = omega arith in
        subst (λ s. p (run s r.size) ≡ true → P (run s r.size ∷ rs)) c (f [] r.size rs) h
    go false h e i = i e

-- No run passes. Then cell u is as little free as cell v, if every run that does not pass has v where it has u.
none_found : (p : Run → Bool) (u v : ℕ)
    → ((r : Run) → p r ≡ false → (r.start ≤ u) × (u < r.start + r.size) → (r.start ≤ v) × (v < r.start + r.size))
    → (rs : List Run) → 0 ≡ link_to (first_that p rs) → covered rs v ≡ false → covered rs u ≡ false
none_found p u v f [] e h = refl
none_found p u v f (r ∷ rs) e h =
    go (p r) refl e (λ e. none_found p u v f rs e (or_r (has r v) (covered rs v) h))
  where
    go : (b : Bool) → p r ≡ b → 0 ≡ link_to (cond b (some r) (first_that p rs))
        → (0 ≡ link_to (first_that p rs) → covered rs u ≡ false)
        → covered (r ∷ rs) u ≡ false
    go true q e i = absurd (omega arith)
    go false q e i =
        let end = r.start + r.size in
        let out : has r u ≡ false = false_of (has r u) (λ w.
        let (a, b) = f r q (within_of r.start end u w) in
        true≢false (sym (within_in r.start end v a b) ∙ or_l (has r v) (covered rs v) h)) in
        rw out (i e)

-- what is left, what touched from below, the cells given back, and what touched from above
or_parts : (c a b d : Bool) → (c || (a || (b || d))) ≡ (((c || d) || a) || b)
or_parts true a b d = refl
or_parts false true b true = refl
or_parts false true b false = refl
or_parts false false true true = refl
or_parts false false true false = refl
or_parts false false false true = refl
or_parts false false false false = refl

module _ {F : Form} (readable : Readable F F.links) where
  module _ {m : Words} {root k : ℕ} {p : Run → Bool} where
    -- no run touches cell x, beside the cell v
    nothing : {rs : List Run} (v x : ℕ) → k ≡ 0 → HeldCell F m root v p k rs
        → ((u : ℕ) → x ≤ suc u → u ≤ x → u ≢ v → (r : Run) → p r ≡ false
        → (r.start ≤ u) × (u < r.start + r.size) → (r.start ≤ v) × (v < r.start + r.size))
        → Removed F m m rs rs x x root
    nothing {rs} v x z b f = record {
      change = record { lies = b.lies; frame = λ i h h'. refl; long = refl };
      order = omega arith;
      cover = λ u. sym (rw (empty u (dec_le x u)) (or-false (covered rs u)));
      clear = λ u h l. clear u h l (ℕ_discrete u v);
      zeros = λ i h l. absurd (omega arith);
      others = λ y h. refl;
    }
      where
        empty : (u : ℕ) → Dec (x ≤ u) → within x x u ≡ false
        empty u (yes h) = within_high x x u h
        empty u (no h) = within_low x x u (omega arith)

        clear : (u : ℕ) → x ≤ suc u → u ≤ x → Dec (u ≡ v) → covered rs u ≡ false
        clear u h l (yes e) = ap (covered rs) e ∙ b.held
        clear u h l (no e) = none_found p u v (f u h l e) rs (sym z ∙ b.found) b.held

    -- the run that was found lies in the tree
    pub block_lies : {u : ℕ} → k ≢ 0 → ((rs : List Run) × HeldCell F m root u p k rs)
        → LiesAt F m root (k - 1)
    block_lies z (rs, b) =
        found (λ l. Lies F m root l → LiesAt F m root (k - 1))
        p rs z b.found (λ xs n ys h q. (xs, n, ys, q)) b.lies

    -- it is taken out: the cells from x up to y
    taken : {m' : Words} {root' u : ℕ} (x y : ℕ) → k ≢ 0 → TakenOut F m m' root (k - 1) root'
        → ((xs : List Run) (n : ℕ) (ys : List Run) → p (run (k - 1) n) ≡ true → Lies F m root (xs ++ run (k - 1) n ∷ ys)
        → (k - 1 ≡ x) × (k - 1 + n ≡ y))
        → (rs : List Run) → HeldCell F m root u p k rs → (rest : List Run) × Removed F m m' rs rest x y root'
    taken {m'} {root'} x y z out place rs b =
        found (λ l. Lies F m root l → (rest : List Run) × Removed F m m' l rest x y root') p rs z b.found
        (λ xs n ys h q.
        let (e, f) = place xs n ys h q in
        let rest = xs ++ ys in (
          rest,
          subst (λ a. Removed F m m' (xs ++ run (k - 1) n ∷ ys) rest a y root') e
              (subst (λ b. Removed F m m' (xs ++ run (k - 1) n ∷ ys) rest (k - 1) b root') f (out xs n ys q)),
        )) b.lies

  -- ---- the ways through the two that merge

  module _ {m : Words} {root k lo : ℕ} where
    pub below_none : k ≡ 0 → MergedBelow F m m root k lo root lo
    below_none z rs b = (
      rs,
      nothing lo lo z b (λ u h l d r q w.
          let n = eqb_false (r.start + r.size) lo q in (omega arith, omega arith)),
    )

    pub below_found : {m' : Words} {root' : ℕ} → k ≢ 0 → TakenOut F m m' root (k - 1) root'
        → MergedBelow F m m' root k lo root' (k - 1)
    below_found z out = taken (k - 1) lo z out (λ xs n ys h q. (refl, eqb_eq (k - 1 + n) lo h))

  module _ {m : Words} {root k hi : ℕ} where
    pub above_none : k ≡ 0 → MergedAbove F m m root k hi root hi
    above_none z rs b = (
      rs,
      nothing (hi - 1) hi z b (λ u h l d r q w. let n = eqb_false r.start hi q in (omega arith, omega arith)),
    )

    pub above_found : {m' : Words} {root' n : ℕ} → k ≢ 0 → n ≡ length_at F m (k - 1)
        → TakenOut F m m' root (k - 1) root' → MergedAbove F m m' root k hi root' (k - 1 + n)
    above_found {n = n} z len out =
        taken hi (k - 1 + n) z out
        (λ xs j ys h q. (eqb_eq (k - 1) hi h, ap (λ i. k - 1 + i) (sym (len ∙ run_length readable xs (k - 1) j ys q))))

  -- ---- the whole

  module _ {m m₁ : Words} {root lo hi : ℕ} {rs : List Run} (wipe : m₁ ≡ wiped_cells F lo hi m)
      (g : Gives F m root lo hi rs) where
    wiped_long : length m₁ ≡ length m
    wiped_long = ap length wipe ∙ length_wiped 0 (F.cell * lo) (F.cell * hi) m

    not_wiped : (i : ℕ) → (lo ≤ i / F.cell → i / F.cell < hi → ⊥) → get_or m₁ i 0 ≡ get_or m i 0
    not_wiped i h =
        ap (λ w. get_or w i 0) wipe
        ∙ wiped_out 0 (F.cell * lo) (F.cell * hi) m i 0
        (false_of (within (F.cell * lo) (F.cell * hi) i)
        (λ e. let w = within_of (F.cell * lo) (F.cell * hi) i e in
        h (cell_from readable i lo w.0) (cell_below readable i hi w.1)))

    -- the free runs still lie, and none of them has one of the cells
    wiped_lies : Lies F m₁ root rs
    wiped_lies =
        kept readable g.lies wiped_long
        (λ i h. not_wiped i (λ a b. true≢false (sym h ∙ g.held (i / F.cell) a b)))

    pub wiped_clear : Clear F m₁ root lo hi (tree_of rs)
    wiped_clear =
        let lies = wiped_lies in
        record {
          tree = lies.tree;
          some = g.some;
          apart = apart_of (run lo (hi - lo)) (tree_of rs) 0 (cells F m₁) lies.tree.within
              (omega (arith, g.some)) (λ u h l. uncovered rs u (g.held u h (omega arith)));
        }

    module _ {a b : ℕ} (touch : TouchFound F m₁ root lo hi a b) where
      -- what touches the cells from below
      pub touch_below : HeldCell F m₁ root lo (ends_at lo) a rs
      touch_below = record {
        lies = wiped_lies;
        held = g.held lo (omega arith) (omega arith);
        found = rw (inorder_tree_of rs) at (touch (tree_of rs) wiped_clear).0;
      }

      module _ {m₂ : Words} {root₁ x : ℕ} (low : MergedBelow F m₁ m₂ root a lo root₁ x) where
        abbrev rest₁ : List Run
        rest₁ = (low rs touch_below).0

        abbrev out₁ : Removed F m₁ m₂ rs rest₁ x lo root₁
        out₁ = (low rs touch_below).1

        held₁ : (u : ℕ) → covered rs u ≡ false → covered rest₁ u ≡ false
        held₁ u h = or_l (covered rest₁ u) (within x lo u) (sym (out₁.cover u) ∙ h)

        -- and from above, which was not taken out
        pub touch_above : HeldCell F m₂ root₁ (hi - 1) (begins_at hi) b rest₁
        touch_above =
            let order = out₁.order in
            let before = g.some in
            record {
              lies = out₁.change.lies;
              held = held₁ (hi - 1) (g.held (hi - 1) (omega arith) (omega arith));
              found = (rw (inorder_tree_of rs) at (touch (tree_of rs) wiped_clear).1)
                  ∙ ap link_to (sym (out₁.others hi (λ e. omega arith)));
            }

        module _ {m₃ : Words} {root₂ y : ℕ} (high : MergedAbove F m₂ m₃ root₁ b hi root₂ y) where
          abbrev rest₂ : List Run
          rest₂ = (high rest₁ touch_above).0

          abbrev out₂ : Removed F m₂ m₃ rest₁ rest₂ hi y root₂
          out₂ = (high rest₁ touch_above).1

          abbrev sum : Run
          sum = run x (y - x)

          held₂ : (u : ℕ) → covered rest₁ u ≡ false → covered rest₂ u ≡ false
          held₂ u h = or_l (covered rest₂ u) (within hi y u) (sym (out₂.cover u) ∙ h)

          long₃ : length m₃ ≡ length m
          long₃ = out₂.change.long ∙ out₁.change.long ∙ wiped_long

          order : (x ≤ lo) × (hi ≤ y)
          order = (out₁.order, out₂.order)

          -- none of the blocks left overlaps or touches the sum
          clear₃ : (u : ℕ) → x ≤ suc u → u ≤ y → covered rest₂ u ≡ false
          clear₃ u h l = go (dec_le u lo) (dec_le hi (suc u))
            where
              go : Dec (u ≤ lo) → Dec (hi ≤ suc u) → covered rest₂ u ≡ false
              go (yes a) b = held₂ u (out₁.clear u h a)
              go (no a) (yes b) = out₂.clear u b l
              go (no a) (no b) = held₂ u (held₁ u (g.held u (omega arith) (omega arith)))

          -- the sum's words are zero
          zeros₃ : Zeros m₃ (F.cell * x) (F.cell * y)
          zeros₃ i h l = go (dec_le lo (i / F.cell)) (dec_le hi (i / F.cell))
            where
              same : covered rest₁ (i / F.cell) ≡ false → get_or m₃ i 0 ≡ get_or m₂ i 0
              same f = out₂.change.frame i f (held₂ (i / F.cell) f)

              go : Dec (lo ≤ i / F.cell) → Dec (hi ≤ i / F.cell) → get_or m₃ i 0 ≡ 0
              go a (yes b) = out₂.zeros i (from_cell readable i hi b) l
              go (no a) (no b) =
                  let from = cell_from readable i x h in
                  same (out₁.clear (i / F.cell) (omega arith) (omega arith))
                  ∙ out₁.zeros i h (below_cell readable i lo (omega arith))
              go (yes a) (no b) =
                  let f = g.held (i / F.cell) a (omega arith) in
                  let below = below_cell readable i hi (omega arith) in
                  let all = from_cell readable (length m) hi g.inside in
                  same (held₁ (i / F.cell) f) ∙ out₁.change.frame i f (held₁ (i / F.cell) f)
                  ∙ ap (λ w. get_or w i 0) wipe
                  ∙ wiped_in 0 (F.cell * lo) (F.cell * hi) m i 0 (from_cell readable i lo a) below (omega arith)

          inside₃ : y ≤ cells F m₃
          inside₃ = go (dec_le y hi)
            where
              go : Dec (y ≤ hi) → y ≤ cells F m₃
              go (yes a) = rw long₃ (omega arith)
              go (no a) =
                  let u = y - 1 in
                  let on : covered rest₁ u ≡ true =
                  out₂.cover u ∙ rw (within_in hi y u (omega arith) (omega arith)) (or-true (covered rest₂ u)) in
                  rw out₂.change.long (omega (arith, cell_inside readable out₁.change.lies u on))

          pub sum_fits : (x ≤ y) × (y < F.links)
          sum_fits =
              let small = out₂.change.lies.tree.small in
              (omega (arith, order), omega (arith, inside₃))

          pub room : Room F m₃ root₂ sum (tree_of rest₂)
          room =
              let (a, b) = order in
              let place = out₂.change.lies.tree in
              let end : y ≡ x + (y - x) = omega arith in
              record {
                tree = place;
                apart = apart_of sum (tree_of rest₂) 0 (cells F m₃) place.within (omega arith)
                    (λ u h l. uncovered rest₂ u (clear₃ u (omega arith) (omega arith)));
                filled = omega arith;
                inside = omega (arith, inside₃);
                zeros = subst (λ e. Zeros m₃ (F.cell * x) (F.cell * e)) end zeros₃;
              }

          -- the sum put in is what `add_run` makes
          put_gapped : Gapped 0 (cells F m) (put_run sum rest₂)
          put_gapped =
              let (a, b) = order in
              let inside : y ≤ cells F m = rw long₃ at inside₃ in
              let gapped : Gapped 0 (cells F m) rest₂ = rw long₃ at out₂.change.lies.gapped in
              gapped_put sum rest₂ 0 (cells F m) gapped (omega arith) (omega arith) (omega arith)
              (λ u h l. clear₃ u h (omega arith))

          put_covered : (u : ℕ) → covered (put_run sum rest₂) u ≡ (covered rs u || within lo (lo + (hi - lo)) u)
          put_covered u =
              let (a, b) = order in
              let top : x + (y - x) ≡ y = omega arith in
              let mid : lo + (hi - lo) ≡ hi = omega arith in
              covered_put sum rest₂ u
              ∙ rw (top, mid, within_parts x lo y u a (omega arith), within_parts lo hi y u (omega arith) b)
              (or_parts (covered rest₂ u) (within x lo u) (within lo hi u) (within hi y u)
              ∙ ap (λ b. (b || within x lo u) || within lo hi u) (sym (out₂.cover u))
              ∙ ap (λ b. b || within lo hi u) (sym (out₁.cover u)))

          sum_put : add_run lo (hi - lo) rs ≡ put_run sum rest₂
          sum_put =
              added (cells F m) lo (hi - lo) rs (put_run sum rest₂) g.lies.gapped put_gapped (omega arith)
              (omega arith) (λ u h l. g.held u h (omega arith)) put_covered

          module _ {m' : Words} {k : ℕ} (i : ℕ) (put : Inserted F m₃ m' root₂ sum i)
              (link : k ≡ link_of i) where
            made : Became F m₃ m' (NoNodeNor (tree_of rest₂) x) k (tree_of (add_run lo (hi - lo) rs))
            made =
                let lies = out₂.change.lies in
                let other = cell_no_node readable lies x (clear₃ x (omega arith) sum_fits.0) in
                rw (link, sum_put, ← insert_tree sum rest₂ 0 (cells F m₃) lies.tree.within other)
                (put (tree_of rest₂) room).0

            pub give : Changed F m m' rs (add_run lo (hi - lo) rs) k
            give = record {
              lies = record { tree = made.tree; gapped = rw (sum_put, made.long, long₃) put_gapped };
              frame = λ i h h'.
                  let u = i / F.cell in
                  let (a, b) = order in
                  let f₁ = held₁ u h in
                  let f₂ = held₂ u f₁ in
                  let away : x ≤ u → u < y → ⊥ = λ v w.
                  true≢false (sym (within_in x (x + (y - x)) u v (omega arith))
                  ∙ or_r (covered rest₂ u) (has sum u)
                  (sym (covered_put sum rest₂ u) ∙ ap (λ l. covered l u) (sym sum_put) ∙ h')) in
                  let none = cell_no_node readable out₂.change.lies u f₂ in
                  made.frame u (none, λ z. away (omega arith) (omega arith)) i refl
                  ∙ out₂.change.frame i f₁ f₂ ∙ out₁.change.frame i h f₁
                  ∙ not_wiped i (λ v w. away (omega arith) (omega arith));
              long = made.long ∙ long₃;
            }
