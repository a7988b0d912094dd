-- Free blocks and records from the first cell to the last, with as many cells as the arena has: the table is a valid
-- ledger's, and the arena has the tree of its free runs; and back. Assumes nothing.
use Prim.Native.Nat.{ℕ, ◌+◌, ◌*◌, ◌/◌, ◌%◌, ◌≤◌, ◌<◌}
use native.Mathlib.Nat.{add-mul, mul-le-mul, div-le_self}
use native.Mathlib.Decide.{dec_le}
use native.Mathlib.Omega.{arith}
use mathlib.Core.Path.{◌≡◌, refl, sym, ap, ◌∙◌, subst}
use mathlib.Core.Bool.{Bool, false, ◌&&◌}
use mathlib.Core.List.{List, map}
use lib.Dec.{eqb}
use lib.ListN.{length, length-map}
use Rattle.words.specs.Lists.{Words}
use Rattle.words.proofs.Tests.{and_l, and_r, and_i, eqb_eq, eqb_same}
use Rattle.ledger.specs.declared.Rule.{Rule}
use Rattle.ledger.specs.Records.{Ledger, records_of, slots}
use Rattle.ledger.specs.Units.{free}
use Rattle.ledger.specs.Runs.{Run, covered, free_runs, Gapped}
use Rattle.ledger.proofs.RecordLaws.{length_records}
use Rattle.ledger.proofs.RunLaws.{runs_few}
use Rattle.stored_forms.specs.Tree.{Tree, link, tree_of, inorder, Form, form_one, form_two, form_three, form_of}
use Rattle.stored_forms.specs.Tree.{form_rule, cells_per_unit, free_tree}
use Rattle.stored_forms.specs.Blocks.{Holds}
use Rattle.stored_forms.proofs.TreeLaws.{tree_unique, inorder_tree_of, heaped_tree_of}
use Rattle.stored_forms.proofs.NodeLaws.{each_form, readable, form_unit}
use Rattle.stored_forms.proofs.FreeTreeLaws.{scaled, cells_pos, cells_are}
use Rattle.tree_nodes.specs.Nodes.{cells}
use Rattle.record_table.specs.Partition.{total}
use Rattle.record_table.proofs.PartitionLaws.{valid_exact}
use Rattle.tree_check.specs.declared.Head.{Head}
use Rattle.tree_check.specs.Maps.{Leads, CoversAll, Mapped, Shown}
use Rattle.words.specs.Flags.{Says}
use Rattle.std.specs.Prelude.{Option, Some}
use Rattle.std.proofs.lemmas.Option.{some_pair_parts}
use Rattle.tree_check.specs.Walk.{Linked, Walked, Apart, ends, LiesAt, Meets}
use Rattle.record_table.proofs.LeadLaws.{leads_up}
use Rattle.tree_check.proofs.LeadLaws.{leads_cover}
use Rattle.tree_check.proofs.GapLaws.{gapped_wider}
use Rattle.tree_check.proofs.ApartLaws.{gapped_short, apart_all}
use Rattle.tree_check.proofs.ScaleLaws.{total_scaled, free_are, cells_gapped, blocks_valid}

-- the free tree is that of the free runs' cells
tree_is : (F : Form) (W : ℕ) (L : Ledger)
    → free_tree F W L ≡ tree_of (map (scaled (cells_per_unit F)) (free_runs (form_rule F) W L))
unfolding free_tree
tree_is F W L = refl

module _ (h : Head) (m : Words) where
  abbrev F : Form
  F = form_of h.form

  abbrev ρ : Rule
  ρ = form_rule F

  abbrev p : ℕ
  p = cells_per_unit F

  abbrev N : ℕ
  N = cells F m

  unit : 0 < ρ.unit
  unit = form_unit h.form

  per : 0 < p
  per = cells_pos F F.links (readable h.form)

  module _ (whole : length m % F.unit ≡ 0) (t : Words) where
    abbrev rs : List Run
    rs = free_runs ρ (length m) (records_of t)

    abbrev blocks : List Run
    blocks = map (scaled p) rs

    cells_whole : length m / ρ.unit * p ≡ N
    cells_whole = cells_are F F.links (readable h.form) (length m) whole (records_of t)

    module _ {limit : ℕ} {spans : Words} {held end sum : ℕ} (mapped : Mapped ρ p (length m) h.next t held spans)
        (x : Walked F m spans N h.root limit 0 0 end sum) (behind : CoversAll spans end N) where
      -- records lie in the cells that are in no run of the tree
      records_rest : (c : ℕ) → c < N → covered (inorder x.tree) c ≡ false → free ρ (records_of t) (c / p) ≡ false
      records_rest c l e = go (dec_le end c)
        where
          go : Dec (end ≤ c) → free ρ (records_of t) (c / p) ≡ false
          go (yes b) = mapped.spans c (behind c b l)
          go (no b) = mapped.spans c (x.known c (omega arith) (omega arith) e)

      blocks_stored : sum + held * p ≡ N → Shown h m t
      blocks_stored exact =
          let size = x.size in
          let all = cells_whole in
          let runs = inorder x.tree in
          let (good, are) = blocks_valid ρ unit p per (length m) t h.next held mapped.entered runs
          (subst (λ n. Gapped 0 n runs) (sym cells_whole) (gapped_wider 0 end N runs x.inside x.gapped))
          (λ c l. records_rest c (omega arith)) (omega arith) in
          let is = tree_unique blocks x.tree (record { order = are; heap = x.heaped })
          ∙ sym (tree_is F (length m) (records_of t)) in
          (good, ap link (sym is) ∙ x.linked, subst (λ (y : Tree). Holds F m y) is x.holds)

    -- ---- and back

    module _ (spans : Words) (held : ℕ) (mapped : Mapped ρ p (length m) h.next t held spans)
        (shown : Shown h m t) where
      runs_apart : Apart spans 0 blocks × Leads spans (ends 0 blocks) N
      runs_apart =
          let are = free_are ρ unit p per (length m) t in
          subst (λ n. Apart spans 0 blocks × Leads spans (ends 0 blocks) n) cells_whole
          (apart_all ρ unit p per (length m) h.next t spans shown.0 (mapped.led shown.0) rs are.gapped
          are.cover)

      -- the tree of the free runs lies at the root
      lies : LiesAt F m spans N h.root (N + 1) 0 (tree_of blocks)
      lies =
          let is = tree_is F (length m) (records_of t) in
          let order = inorder_tree_of blocks in
          let gapped = subst (λ n. Gapped 0 n blocks) cells_whole (cells_gapped ρ unit p per (length m) t) in
          record {
            linked = ap link (sym is) ∙ shown.1;
            holds = subst (λ (y : Tree). Holds F m y) is shown.2;
            heaped = heaped_tree_of blocks;
            short = rw order (gapped_short 0 N blocks gapped);
            runs = rw order runs_apart.0;
            inside = rw order (leads_up runs_apart.1);
          }

      -- and has no more nodes than the walk is allowed
      few_nodes : length (inorder (tree_of blocks)) ≤ slots t + 1
      few_nodes =
          let order = inorder_tree_of blocks in
          let few = runs_few ρ (length m) (records_of t) in
          let same = length-map rs (scaled p) in
          rw order (omega (arith, length_records t))

      -- so the walk meets it
      pub tree_met : (met : Option (ℕ × ℕ)) → Meets F m spans N h.root (N + 1) (slots t + 1) met
          → met ≡ Some (ends 0 blocks, total blocks)
      tree_met met meets = let order = inorder_tree_of blocks in rw order at (meets (tree_of blocks) lies few_nodes)

      module _ (end sum : ℕ) (meets : Meets F m spans N h.root (N + 1) (slots t + 1) (Some (end, sum))) where
        met : (end ≡ ends 0 blocks) × (sum ≡ total blocks)
        met = some_pair_parts end _ sum _ (tree_met (Some (end, sum)) meets)

        end_leads : Leads spans end N
        end_leads = subst (λ k. Leads spans k N) (sym met.0) runs_apart.1

        end_exact : sum + held * p ≡ N
        end_exact =
            let exact = valid_exact ρ unit (length m) h.next t shown.0 held mapped.entered in
            omega (
              arith,
              met.1,
              total_scaled p per rs,
              add-mul (total rs) held p,
              ap (λ n. n * p) exact,
              cells_whole,
            )

    -- what the last two tests say, together, of the cells as they were counted
    pub both_say : {limit : ℕ} {spans : Words} {held end sum n q : ℕ} (b : Bool) → n ≡ N → q ≡ p
        → Mapped ρ p (length m) h.next t held spans → Walked F m spans N h.root limit 0 0 end sum
        → Meets F m spans N h.root (N + 1) (slots t + 1) (Some (end, sum)) → Says b (Leads spans end n)
        → Says (b && eqb (sum + held * q) n) (Shown h m t)
    both_say {limit} {spans} {held} {end} {sum} {n} {q} b is pers mapped x meets says =
        rw (is, pers) (
          (λ e. blocks_stored mapped x (leads_cover (behind.0 (and_l b (eqb known N) e)))
              (eqb_eq known N (and_r b (eqb known N) e))),
          λ shown. and_i b (eqb known N) (behind.1 (end_leads spans held mapped shown end sum meets))
              (ap (λ k. eqb k N) (end_exact spans held mapped shown end sum meets) ∙ eqb_same N),
        )
      where
        known : ℕ
        known = sum + held * p

        behind : Says b (Leads spans end N)
        behind = subst (λ k. Says b (Leads spans end k)) is says

-- a unit has few cells
few_cells : (f : ℕ) → cells_per_unit (form_of f) ≤ 4
unfolding form_one form_two form_three
few_cells = each_form (λ F. cells_per_unit F ≤ 4) (omega arith) (omega arith) (omega arith)

pub cells_few : (f held q : ℕ) → held ≤ 1048576 → q ≡ cells_per_unit (form_of f) → held * q ≤ 4194304
cells_few f held q low e = mul-le-mul {n₂ = 1048576} {m₂ = 4} low (rw e (few_cells f))

-- limits that were counted
pub limit_is : (F : Form) (m map : Words) (N l : ℕ) {x y u v : ℕ} → x ≡ y → u ≡ v → (met : Option (ℕ × ℕ))
    → Meets F m map N l (x + 1) (u + 1) met → Meets F m map N l (y + 1) (v + 1) met
limit_is F m map N l e d met meets = rw (sym e, sym d) meets

-- an arena has no more cells than words
pub cells_low : (F : Form) (m : Words) → Linked F m → cells F m ≤ 1048576
cells_low F m l = omega (arith, div-le_self (length m) F.cell, l.1)
