-- The map of an arena's cells: where it has 0 there is room for a block, and so it is after an insertion.
-- Assumes nothing.
use Rattle.std.proofs.Common.{◌≡◌, ℕ, Bool, false, ◌+◌, ◌-◌, ◌/◌, ◌<◌, ◌≤◌, true, ◌||◌, ◌≢◌, List, [], ◌∷◌, ◌++◌, length, get_or, replicate, sym, refl, ap, ◌∙◌, subst, true≢false, arith}
use mathlib.Core.Bool.{or_comm, or_assoc}
use lib.ListN.{length-replicate, get_or-replicate}
use Rattle.words.specs.Lists.{Words, zero_at}
use Rattle.words.specs.Counted.{within, every}
use Rattle.words.specs.Places.{wiped}
use Rattle.words.proofs.Tests.{false_of, eqb_eq, within_of}
use Rattle.words.proofs.CountedLaws.{every_at}
use Rattle.words.proofs.PlaceLaws.{length_wiped, wiped_in, wiped_out}
use Rattle.ledger.specs.Runs.{Run, run, covered}
use Rattle.stored_forms.specs.Tree.{Tree, leaf, inorder, form_one, form_two, form_three, form_of}
use Rattle.stored_forms.specs.Blocks.{In}
use Rattle.stored_forms.proofs.NodeLaws.{each_form, readable, covered_in, in_covered}
use Rattle.tree_nodes.specs.Nodes.{cells}
use Rattle.tree_nodes.proofs.FormLaws.{few_links}
use Rattle.free_tree.specs.Shapes.{below, above, insert}
use Rattle.free_tree.specs.Links.{link_of}
use Rattle.free_tree.specs.Held.{Room, Inserted}
use Rattle.free_tree.proofs.PartLaws.{inorder_parts}
use Rattle.free_tree.proofs.ChangeLaws.{inorder_insert}
use Rattle.free_tree.proofs.CellLaws.{outside_first, apart_of, cell_from, cell_below, from_cell, below_cell}
use Rattle.free_tree.proofs.StepLaws.{at_small}
use Rattle.insert_counts.specs.Map.{Paired, Mapped, Fits, Marked}

-- ---- the map

pub fits_all : {map : Words} {x n : ℕ} → n ≢ 0 → x < length map → n ≤ length map - x
    → true ≡ every (zero_at map) x (x + n - x) → Fits map x n
fits_all {map} {x} {n} some before enough all = record {
  some = omega arith;
  inside = omega arith;
  free = λ c a b. eqb_eq (get_or map c 0) 0 (every_at (zero_at map) x (x + n - x) (sym all) c a (omega arith));
}

pub marked : {map map' : Words} {lo hi : ℕ} → hi ≤ length map → map' ≡ wiped 1 lo hi map → Marked map map' lo hi
marked {map} {map'} {lo} {hi} h e = rw e (record {
  long = length_wiped 1 lo hi map;
  other = λ c z. go c z (within lo hi c) refl;
  away = away;
})
  where
    away : (c : ℕ) → get_or (wiped 1 lo hi map) c 0 ≡ 0 → lo ≤ c → c < hi → ⊥
    away c z a b = let one = wiped_in 1 lo hi map c 0 a b (omega arith) in omega arith

    go : (c : ℕ) → get_or (wiped 1 lo hi map) c 0 ≡ 0 → (v : Bool) → within lo hi c ≡ v → get_or map c 0 ≡ 0
    go c z true w = let (a, b) = within_of lo hi c w in absurd (away c z a b)
    go c z false w = sym (wiped_out 1 lo hi map c 0 w) ∙ z

-- ---- the cells of a tree with one run more

covered_middle : (xs : List Run) (r : Run) (ys : List Run) (u : ℕ)
    → covered (xs ++ r ∷ ys) u ≡ (covered (xs ++ ys) u || within r.start (r.start + r.size) u)
covered_middle [] r ys u = or_comm (within r.start (r.start + r.size) u) (covered ys u)
covered_middle (x ∷ xs) r ys u =
    rw (covered_middle xs r ys u)
    (sym (or_assoc (within x.start (x.start + x.size) u) (covered (xs ++ ys) u)
    (within r.start (r.start + r.size) u)))

outside_insert : (r : Run) (t : Tree) (u : ℕ) → (In u t → ⊥) → (r.start ≤ u → u < r.start + r.size → ⊥)
    → In u (insert r t) → ⊥
outside_insert r t u away out i =
    let x = r.start in
    let old = false_of (covered (inorder t) u) (λ e. away (covered_in t u e)) in
    let new = false_of (within x (x + r.size) u) (λ e. let (a, b) = within_of x (x + r.size) u e in out a b) in
    true≢false
    (sym (in_covered (insert r t) u i) ∙ ap (λ (l : List Run). covered l u) (inorder_insert r t)
    ∙ covered_middle (inorder (below x t)) r (inorder (above x t)) u
    ∙ rw (inorder_parts x t, old, new))

-- ---- an arena of zeros

-- a map has few cells
many_links : (f : ℕ) → 16384 < (form_of f).links
unfolding form_one form_two form_three
many_links = each_form (λ F. 16384 < F.links) (omega arith) (omega arith) (omega arith)

pub wiped_map : (f : ℕ) {m₀ map₀ m map : Words} → Paired (form_of f) m₀ map₀ → m ≡ replicate (length m₀) 0
    → map ≡ replicate (length map₀) 0 → Mapped (form_of f) m map 0
wiped_map f {m₀} {map₀} {m} {map} p e g =
    let same : length m ≡ length m₀ = ap length e ∙ length-replicate (length m₀) 0 in
    let same_map : length map ≡ length map₀ = ap length g ∙ length-replicate (length map₀) 0 in
    let long : length map ≡ cells (form_of f) m =
    same_map ∙ p.long ∙ ap (λ n. n / (form_of f).cell) (sym same) in
    let few = p.few in
    record {
      tree = leaf;
      at = record { at = refl; holds = tt; within = omega arith; small = omega (arith, many_links f) };
      paired = record { long = long; few = omega arith };
      outside = λ c h z i. i;
      zeros = λ i h z.
          let n = cells (form_of f) m in
          let below = below_cell (readable f) i n (omega arith) in
          let all = from_cell (readable f) (length m) n (omega arith) in
          ap (λ w. get_or w i 0) e ∙ get_or-replicate (length m₀) i 0 0 (omega arith);
    }

-- ---- an insertion

module _ (f : ℕ) {m map : Words} {l : ℕ} where
  pub root_read : Mapped (form_of f) m map l → Mapped (form_of f) m map (link_of l)
  root_read p =
      let small = at_small (readable f) p.at in
      let e : l ≡ link_of l = omega (arith, few_links f) in
      subst (Mapped (form_of f) m map) e p

  module _ {x n : ℕ} (p : Mapped (form_of f) m map l) (fit : Fits map x n) where
    pub room : Room (form_of f) m l (run x n) p.tree
    room =
        let long = p.paired.long in
        let inside = fit.inside in
        record {
          tree = p.at;
          apart = apart_of (run x n) p.tree 0 (cells (form_of f) m) p.at.within fit.some
              (λ u a b. p.outside u (omega arith) (fit.free u a b));
          filled = fit.some;
          inside = omega arith;
          zeros = λ i a b.
              let low = cell_from (readable f) i x a in
              let high = cell_below (readable f) i (x + n) b in
              p.zeros i (omega arith) (fit.free (i / (form_of f).cell) low high);
        }

    pub inserted : {m' map' : Words} (k : ℕ) → Marked map map' x (x + n) → Inserted (form_of f) m m' l (run x n) k
        → Mapped (form_of f) m' map' (link_of k)
    inserted {m'} {map'} k mark ins =
        let made = (ins p.tree room).0 in
        let same = mark.long in
        let few = p.paired.few in
        let some = fit.some in
        let long = p.paired.long in
        record {
          tree = insert (run x n) p.tree;
          at = made.tree;
          paired = record {
            long = same ∙ long ∙ ap (λ i. i / (form_of f).cell) (sym made.long);
            few = omega arith;
          };
          outside = λ c h z.
              outside_insert (run x n) p.tree c (p.outside c (omega arith) (mark.other c z)) (mark.away c z);
          zeros = λ i h z.
              let c = i / (form_of f).cell in
              let was = mark.other c z in
              let out = p.outside c (omega arith) was in
              made.frame c (
                outside_first p.tree 0 (cells (form_of f) m) c p.at.within out,
                λ e. mark.away c z (omega arith) (omega arith),
              ) i refl
              ∙ p.zeros i (omega arith) was;
        }
