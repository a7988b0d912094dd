-- A release or trim on a sound tree pool: the cells given back, and the record as the plan leaves it, are the stored form
-- of the ledger with the plan carried out. Assumes nothing.
use Prim.Native.Nat.{ℕ, ◌+◌, ◌-◌, ◌*◌, ◌/◌, ◌≤◌, ◌<◌}
use native.Mathlib.Nat.{add-mul, suc-mul, zero-mul, mul-le-mul_right, le-div_iff_mul-le, div-lt_iff_lt-mul}
use native.Mathlib.Omega.{arith}
use native.Mathlib.Decide.{dec_le}
use mathlib.Core.Path.{◌≡◌, refl, sym, ap, ap₂, ◌∙◌, subst}
use mathlib.Core.Logic.{◌≢◌}
use mathlib.Core.Bool.{true, false}
use mathlib.Core.List.{List, [], ◌∷◌, map}
use mathlib.Core.Option.{some}
use lib.ListN.{length, set}
use Rattle.words.specs.Lists.{Words}
use Rattle.ledger.specs.declared.Row.{Row}
use Rattle.ledger.specs.declared.Rule.{Rule}
use Rattle.ledger.specs.Records.{Ledger, record_at, records_of, table_of, slots, record_of, Plan, vacate, keep}
use Rattle.ledger.specs.Records.{shortened, carry_out, feasible, member, settle}
use Rattle.ledger.specs.Units.{span, first, past, valid, free, kept_units, tail_units}
use Rattle.ledger.specs.Runs.{Run, covered, free_runs, runs_from, add_run}
use Rattle.ledger.proofs.UnitLaws.{Fitted, valid_record, valid_settle, owned_settle, covers_in, free_not}
use Rattle.ledger.proofs.RunLaws.{runs_are, kept_few, free_runs_settle, free_runs_stay}
use Rattle.stored_forms.specs.Tree.{Form, form_of, form_rule, cell_run, free_tree, tree_of, link}
use Rattle.stored_forms.specs.Tree.{cells_per_unit}
use Rattle.stored_forms.specs.Blocks.{Holds}
use Rattle.stored_forms.proofs.NodeLaws.{readable, form_unit, link_within}
use Rattle.stored_forms.proofs.FreeTreeLaws.{covered_scaled, cells_are}
use Rattle.stored_forms.proofs.ScaledLaws.{add_scaled}
use Rattle.tree_nodes.specs.Nodes.{cells}
use Rattle.tree_nodes.proofs.FormLaws.{few_links}
use Rattle.free_blocks.specs.Blocks.{Changed, Gives, Given}
use Rattle.calls.specs.Pool.{Pool, sound}
use Rattle.calls.specs.Step.{told, answer_to, pool_after}
use Rattle.calls.specs.Engines.{tree_engine}
use Rattle.calls.proofs.ActLaws.{named_zero, planned, plan_done}
use Rattle.record_table.proofs.SlotLaws.{ticket_found, ticket_settle}
use Rattle.std.specs.Prelude.{Ok}
use Rattle.call_parts.specs.Parts.{named_in}
use Rattle.call_parts.proofs.NamedLaws.{named_at_lem}
use Rattle.call_parts.proofs.FindLaws.{slot_number}
use Rattle.tree_check.specs.Gate.{tree_pool}
use Rattle.tree_check.proofs.GateLaws.{InRange}
use Rattle.tree_check.specs.declared.Head.{Head}
use Rattle.tree_requests.specs.Sizes.{cell_span}
use Rattle.tree_requests.proofs.SizeLaws.{free_cells, tree_of_lem, some_cells, first_cell, past_cell}
use Rattle.tree_requests.proofs.StoredLaws.{Shows, stored_pool}
use Rattle.tree_requests.proofs.SoundLaws.{sound_range, sound_good, sound_lies, held_word}

module _ (h : Head) (a t : Words) (r : Row) (slot : ℕ) (ok : sound tree_engine (tree_pool h a t) ≡ true)
    (found : named_in t r ≡ Ok slot) where
  abbrev lent : Pool
  lent = tree_pool h a t

  abbrev F : Form
  F = form_of h.form

  abbrev ρ : Rule
  ρ = form_rule F

  abbrev per : ℕ
  per = cells_per_unit F

  abbrev L : Ledger
  L = records_of t

  abbrev before : List Run
  before = free_cells F (length a) L

  -- the first cell past the record
  abbrev hi : ℕ
  hi = r.address / F.cell + cell_span F r.words

  pos : 0 < per
  pos = some_cells h.form

  held : record_of r.ticket L ≡ some r
  held = named_zero L r (slot_number lent r slot found)

  good : valid ρ (length a) h.next L ≡ true
  good = sound_good h a t ok

  pub plan_range : InRange (form_of h.form) a t
  plan_range = sound_range h a t ok

  pub plan_slot : slot < slots t
  plan_slot = (ticket_found r.ticket t slot (named_at_lem t r slot found)).0

  -- it is the slot's record that is named
  at_slot : record_at t slot ≡ r
  at_slot = let e = (ticket_found r.ticket t slot (named_at_lem t r slot found)).1 in let k = held in cc

  facts : Fitted ρ (length a) h.next r
  facts = valid_record ρ (form_unit h.form) (length a) h.next L good r.ticket r held

  to : hi ≡ past ρ r * per
  to = past_cell h.form r facts.place

  -- no cell of the record is free
  cell_held : (u : ℕ) → first ρ r * per ≤ u → u < hi → covered before u ≡ false
  unfolding free_runs
  cell_held u x y =
      let N = length a / F.unit in
      let low : first ρ r ≤ u / per = (le-div_iff_mul-le pos).1 x in
      let high : u / per < past ρ r = (div-lt_iff_lt-mul pos).1 (omega (arith, to)) in
      covered_scaled per pos (runs_from (free ρ L) 0 N) u
      ∙ (runs_are (free ρ L) N).cover (u / per) (omega (arith, facts.units))
      ∙ free_not ρ r.ticket L r held (u / per) (covers_in ρ (u / per) r facts.live low high)

  module _ (q : Plan) (can : feasible q r ≡ true) where
    abbrev rest : Ledger
    rest = settle (member r.ticket q ∷ []) L

    abbrev after : List Run
    after = free_cells F (length a) rest

    few : kept_units ρ q ≤ span ρ r.words
    few = kept_few ρ (form_unit h.form) q r can

    pub plan_answer : told q r ≡ answer_to tree_engine (tree_pool h a t) (planned q r)
    plan_answer = sym (plan_done tree_engine lent q r held can).0

    -- ---- the cells given back: the tail, from `lo` on

    module _ (lo : ℕ) (from : lo ≡ (first ρ r + kept_units ρ q) * per) where
      abbrev tail : ℕ
      tail = tail_units ρ q r * per

      ends : hi ≡ lo + tail
      unfolding past
      ends =
          let whole : past ρ r ≡ first ρ r + kept_units ρ q + tail_units ρ q r = omega (arith, few) in
          omega (arith, to, ap (λ (n : ℕ). n * per) whole, add-mul (first ρ r + kept_units ρ q) (tail_units ρ q r) per, from)

      pub plan_some : lo ≢ hi → 0 < tail_units ρ q r
      plan_some d = go (dec_le (tail_units ρ q r) 0)
        where
          go : Dec (tail_units ρ q r ≤ 0) → 0 < tail_units ρ q r
          go (yes z) =
              let none : tail_units ρ q r ≡ 0 = omega arith in
              absurd (d (omega (arith, ends, ap (λ (n : ℕ). n * per) none, zero-mul per)))
          go (no z) = omega arith

      long_tail : 0 < tail_units ρ q r → lo < hi
      long_tail l = omega (arith, ends, pos, mul-le-mul_right per l, suc-mul 0 per, zero-mul per)

      pub plan_none : lo ≡ hi → tail_units ρ q r ≡ 0
      plan_none e = go (dec_le (tail_units ρ q r) 0)
        where
          go : Dec (tail_units ρ q r ≤ 0) → tail_units ρ q r ≡ 0
          go (yes z) = omega arith
          go (no z) = absurd (omega (arith, long_tail (omega arith)))

      module _ (long : 0 < tail_units ρ q r) where
        pub plan_gives : Gives (form_of h.form) a h.root lo
            (r.address / (form_of h.form).cell + cell_span (form_of h.form) r.words)
            (free_cells (form_of h.form) (length a) (records_of t))
        plan_gives = record {
          lies = sound_lies h a t ok;
          some = long_tail long;
          inside = omega (
            arith,
            to,
            mul-le-mul_right per facts.units,
            cells_are F F.links (readable h.form) (length a) plan_range.whole L,
          );
          held = λ u x y. cell_held u (omega (arith, from, add-mul (first ρ r) (kept_units ρ q) per)) y;
        }

        cells_now : after ≡ add_run lo (hi - lo) before
        cells_now =
            let size : tail ≡ hi - lo = omega (arith, ends) in
            ap (map (cell_run F))
            (free_runs_settle ρ (form_unit h.form) (length a) h.next L good r.ticket q r held can long)
            ∙ add_scaled per pos (first ρ r + kept_units ρ q) (tail_units ρ q r) (free_runs ρ (length a) L)
            ∙ ap₂ (λ (x y : ℕ). add_run x y before) (sym from) size

        pub plan_given : (b : Words) (root' : ℕ) → Given F a b h.root lo hi root' → Changed F a b before after root'
        plan_given b root' given =
            subst (λ (rs : List Run). Changed F a b before rs root') (sym cells_now) (given before plan_gives)

    -- or there is no such cell
    pub plan_stays : tail_units ρ q r ≡ 0 → Changed F a a before after h.root
    plan_stays none =
        let same : after ≡ before = ap (map (cell_run F))
        (free_runs_stay ρ (form_unit h.form) (length a) h.next L good r.ticket q r held can none) in
        subst (λ (rs : List Run). Changed F a a before rs h.root) (sym same)
        (record { lies = sound_lies h a t ok; frame = λ i x y. refl; long = refl })

    -- ---- what they leave

    module _ (b : Words) (root' : ℕ) (change : Changed F a b before after root') where
      pub plan_root : root' < 4294967296
      plan_root =
          let tree = change.lies.tree in
          omega (
            arith,
            link_within (tree_of after) 0 (cells F b) tree.within,
            tree.at,
            tree.small,
            few_links h.form,
          )

      rest_good : valid ρ (length a) h.next rest ≡ true
      rest_good = valid_settle ρ (form_unit h.form) (length a) h.next (member r.ticket q ∷ []) L good

      shows : Shows F a b root' rest
      shows =
          let whole = plan_range.whole in
          let e : free_tree F (length a) rest ≡ tree_of after = tree_of_lem F (length a) rest in
          record {
            long = change.long;
            kept = λ i l o.
                change.frame i (held_word h.form (length a) whole L h.next good i l
                (owned_settle ρ (form_unit h.form) (member r.ticket q ∷ []) L i o))
                (held_word h.form (length a) whole rest h.next rest_good i l o);
            holds = subst (Holds F b) (sym e) change.lies.tree.holds;
            root = ap link e ∙ change.lies.tree.at;
          }

      pub plan_pool : (u : Words) → u ≡ table_of (set (records_of t) slot (carry_out q r))
          → tree_pool (record { root = root'; next = h.next; form = h.form }) b u
          ≡ pool_after tree_engine (tree_pool h a t) (planned q r)
      unfolding tree_engine
      plan_pool u e =
          stored_pool lent rest h.next h.next root' b u plan_range.whole rest_good shows
          (e ∙ ap (λ (s : Row). table_of (set L slot (carry_out q s))) (sym at_slot)
          ∙ ap table_of (sym (ticket_settle r.ticket t q ρ (length a) h.next good slot (named_at_lem t r slot found))))
          ∙ sym (plan_done tree_engine lent q r held can).1

  -- the tail begins at the record's first cell, or past the cells of the words kept
  pub release_from : r.address / (form_of h.form).cell ≡ (first ρ r + kept_units ρ vacate) * per
  release_from =
      let e : first ρ r ≡ first ρ r + kept_units ρ vacate = omega arith in
      first_cell h.form r facts.place ∙ ap (λ (n : ℕ). n * per) e

  pub release_some : 0 < tail_units ρ vacate r
  unfolding past
  release_some = omega (arith, facts.nonempty)

  pub trim_from : (n : ℕ) → r.address / (form_of h.form).cell + cell_span (form_of h.form) n
      ≡ (first ρ r + kept_units ρ (keep n)) * per
  unfolding past first
  trim_from n = past_cell h.form (shortened n r) facts.place
