-- A grant on a sound tree pool: the leftmost fit is the lowest fit, and the cells taken from its block leave the
-- stored form of the ledger with the new record. Assumes nothing.
use Prim.Native.Nat.{ℕ, suc, ◌+◌, ◌-◌, ◌*◌, ◌/◌, ◌%◌, ◌≤◌, ◌<◌}
use native.Mathlib.Nat.{add-mul, mul-le-mul_right}
use native.Mathlib.Omega.{arith}
use mathlib.Core.Path.{◌≡◌, refl, sym, ap, ◌∙◌, subst}
use mathlib.Core.Logic.{◌≢◌}
use mathlib.Core.Bool.{Bool, true, false, cond, ◌||◌}
use mathlib.Core.List.{List, [], ◌∷◌, ◌++◌, map}
use mathlib.Core.Option.{Option, none, some}
use lib.Dec.{eqb, ltb}
use lib.ListN.{length, get_or, set}
use Rattle.words.specs.Lists.{Words, first_that}
use Rattle.words.specs.Counted.{within}
use Rattle.words.proofs.Tests.{and_r, le_of, within_of, or_l, eqb_ne, eqb_false}
use Rattle.words.proofs.PlaceLaws.{wiped_in}
use Rattle.ledger.specs.declared.Row.{Row}
use Rattle.ledger.specs.declared.Rule.{Rule}
use Rattle.ledger.specs.Records.{Ledger, is_live, slots, row, records_of, table_of, enter}
use Rattle.ledger.specs.Units.{span, address_at, past, valid, free, owns, owned}
use Rattle.ledger.specs.Runs.{Run, covered, free_runs, shorten}
use Rattle.ledger.proofs.UnitLaws.{span_pos, owned_enter, past_new}
use Rattle.ledger.proofs.RunLaws.{free_runs_enter}
use Rattle.ledger.proofs.FitLaws.{first_fit, start_of, fit_first}
use Rattle.stored_forms.specs.Tree.{Form, form_of, form_rule, cell_run, free_tree, tree_of, link}
use Rattle.stored_forms.specs.Tree.{cells_per_unit}
use Rattle.stored_forms.specs.Blocks.{Holds}
use Rattle.stored_forms.proofs.TreeLaws.{long_enough}
use Rattle.stored_forms.proofs.NodeLaws.{readable, form_unit, link_within}
use Rattle.stored_forms.proofs.ScaledLaws.{scaled_fit, leftmost_scaled, append_scaled, shorten_scaled}
use Rattle.tree_nodes.specs.Nodes.{cells}
use Rattle.tree_nodes.proofs.FormLaws.{few_links}
use Rattle.free_tree.specs.Shapes.{link_to}
use Rattle.free_tree.specs.Held.{LeftmostFound}
use Rattle.free_blocks.proofs.TakeLaws.{take_in}
use Rattle.free_blocks.specs.Blocks.{Lies, Takes, Takeable, TakenFrom, Taken}
use Rattle.calls.specs.Pool.{Pool, next_after, sound}
use Rattle.calls.specs.Step.{ask, success, fit_of, answer_to, pool_after}
use Rattle.calls.specs.Engines.{tree_engine}
use Rattle.calls.proofs.ActLaws.{Asked, ask_done}
use Rattle.calls.proofs.GrantLaws.{on_arena, start, end, zeroed, length_zeroed, grant_store, grant_valid, zeroed_keeps}
use Rattle.calls.proofs.Engines.{tree_laws}
use Rattle.record_table.proofs.SlotLaws.{empty_found}
use Rattle.tree_check.specs.Gate.{tree_pool}
use Rattle.tree_check.proofs.GateLaws.{InRange}
use Rattle.tree_check.specs.declared.Head.{Head}
use Rattle.tree_requests.specs.Sizes.{cell_span}
use Rattle.tree_requests.specs.Granting.{Grantable}
use Rattle.tree_requests.proofs.SizeLaws.{free_cells, tree_of_lem, some_cells, cell_words_lem, cell_address, some_span}
use Rattle.tree_requests.proofs.StoredLaws.{Shows, stored_pool}
use Rattle.tree_requests.proofs.SoundLaws.{sound_range, sound_good, sound_lies, held_word}

-- ---- the first run that passes, with those before and after it

pub record FirstRun (p : Run → Bool) (rs : List Run) (r : Run) : Type 0 where
  pub before : List Run
  pub after : List Run
  pub split : rs ≡ before ++ r ∷ after
  pub passes : p r ≡ true

found_first : (p : Run → Bool) (rs : List Run) (r : Run) → first_that p rs ≡ some r → FirstRun p rs r
found_first p [] r e = absurd (absurd_none e)
  where
    absurd_none : none ≡ some r → ⊥
    absurd_none e = let z : ◌≡◌ {A = ℕ} 0 1 = cc in omega arith
found_first p (q ∷ rs) r e = go (p q) refl e (found_first p rs r)
  where
    go : (b : Bool) → p q ≡ b → cond b (some q) (first_that p rs) ≡ some r → (first_that p rs ≡ some r → FirstRun p rs r)
        → FirstRun p (q ∷ rs) r
    go true h e ih =
        let y : q ≡ r = cc in
        record { before = []; after = rs; split = ap (λ (x : Run). x ∷ rs) y; passes = ap p (sym y) ∙ h }
    go false h e ih =
        let f = ih e in
        record {
          before = q ∷ f.before;
          after = f.after;
          split = ap (λ (l : List Run). q ∷ l)
              f.split;
          passes = f.passes;
        }

module _ (h : Head) (a t : Words) (ok : sound tree_engine (tree_pool h a t) ≡ true) where
  abbrev F : Form
  F = form_of h.form

  abbrev ρ : Rule
  ρ = form_rule F

  abbrev per : ℕ
  per = cells_per_unit F

  abbrev L : Ledger
  L = records_of t

  abbrev p : Pool
  p = tree_pool h a t

  abbrev rs : List Run
  rs = free_runs ρ (length a) L

  pos : 0 < per
  pos = some_cells h.form

  -- ---- the search

  module _ (n block : ℕ) (some_units : 1 ≤ span ρ n)
      (found : LeftmostFound F a h.root (cell_span F n) block) where
    -- the first run of units that is long enough
    abbrev fit : Option Run
    fit = first_fit (span ρ n) rs

    is_link : block ≡ link_to (scaled_fit per pos fit)
    is_link =
        found (tree_of (free_cells F (length a) L)) (sound_lies h a t ok).tree
        ∙ ap link_to (leftmost_scaled per pos (span ρ n) rs)

    is_fit : fit_of tree_engine p n ≡ start_of fit
    unfolding fit_of tree_engine free_runs
    is_fit = fit_first (free ρ L) (length a / F.unit) (span ρ n) some_units

    -- no block: no room
    pub none_fits : block ≡ 0 → fit_of tree_engine (tree_pool h a t) n ≡ none
    none_fits z = is_fit ∙ go fit (sym is_link ∙ z)
      where
        go : (o : Option Run) → link_to (scaled_fit per pos o) ≡ 0 → start_of o ≡ none
        go none e = refl
        go (some r) e = absurd (omega arith)

    -- a block: the lowest fit, and a run of the list
    pub block_fits : (c : ℕ) → block ≡ suc c
        → (r : Run) × (fit_of tree_engine (tree_pool h a t) n ≡ some r.start) × (r.start * cells_per_unit (form_of h.form) ≡ c)
        × FirstRun (long_enough (span (form_rule (form_of h.form)) n))
        (free_runs (form_rule (form_of h.form)) (length a) (records_of t)) r
    block_fits c e = go fit refl (sym is_link ∙ e)
      where
        go : (o : Option Run) → fit ≡ o → link_to (scaled_fit per pos o) ≡ suc c
            → (r : Run) × (fit_of tree_engine p n ≡ some r.start) × (r.start * per ≡ c)
            × FirstRun (long_enough (span ρ n)) rs r
        go none l y = absurd (omega arith)
        go (some r) l y = (r, is_fit ∙ ap start_of l, omega arith, found_first (long_enough (span ρ n)) rs r l)

  -- ---- the grant

  module _ (c n root' : ℕ) (b u : Words) (r : Run) (asked : Asked tree_engine (tree_pool h a t) c n r.start)
      (listed : FirstRun (long_enough (span ρ n)) rs r)
      (taken : TakenFrom F a b (cell_span F n) root' (map (cell_run F) listed.before) (cell_run F r)
      (map (cell_run F) listed.after)) where
    abbrev new : Row
    new = row h.next (address_at ρ r.start) n c

    abbrev ground : Words
    ground = zeroed tree_engine p c n r.start

    next_some : h.next ≢ 0
    next_some = eqb_false h.next 0 asked.ticket

    good : valid ρ (length a) (next_after h.next) (enter new L) ≡ true
    unfolding tree_engine
    good = grant_valid tree_engine tree_laws p ok c n r.start asked

    long : length ground ≡ length a
    long = length_zeroed tree_engine p c n r.start

    cells_before : free_cells F (length a) L
        ≡ map (cell_run F) listed.before ++ cell_run F r ∷ map (cell_run F) listed.after
    cells_before = ap (map (cell_run F)) listed.split ∙ append_scaled per pos listed.before r listed.after

    cells_now : free_cells F (length a) (enter new L)
        ≡ map (cell_run F) listed.before ++ shorten (cell_span F n) (cell_run F r) (map (cell_run F) listed.after)
    cells_now =
        ap (map (cell_run F))
        (free_runs_enter ρ (form_unit h.form) (length a) L asked.slot h.next n c next_some listed.before r
        listed.after listed.split (le_of (span ρ n) r.size listed.passes))
        ∙ shorten_scaled per pos listed.before (span ρ n) r listed.after

    in_new : (i : ℕ) → owns ρ i new ≡ true
        → (F.cell * (r.start * per) ≤ i) × (i < F.cell * (r.start * per + cell_span F n))
    unfolding owns
    in_new i o =
        let (low, high) = within_of new.address (F.unit * past ρ new) i
        (and_r (is_live new) (within new.address (F.unit * past ρ new) i) o) in
        let end : F.unit * past ρ new ≡ F.cell * (r.start * per + cell_span F n) =
        ap (λ x. F.unit * x) (past_new ρ (form_unit h.form) h.next r.start n c)
        ∙ sym (cell_words_lem h.form (r.start + span ρ n))
        ∙ ap (λ x. F.cell * x) (add-mul r.start (span ρ n) per) in
        (omega (arith, low, cell_address h.form r.start), omega (arith, high, end))

    zero_there : (i : ℕ) → i < length a → owns ρ i new ≡ true → get_or ground i 0 ≡ 0
    unfolding owns zeroed tree_engine
    zero_there i l o =
        let lo = start tree_engine p c n r.start in
        let hi = end tree_engine p c n r.start in
        let (x, y) = within_of lo hi i (and_r (is_live new) (within lo hi i) o) in
        wiped_in 0 lo hi a i 0 x y l

    kept : (i : ℕ) → i < length ground → owned ρ (enter new L) i ≡ true → get_or b i 0 ≡ get_or ground i 0
    unfolding tree_engine
    kept i l o = go (owned ρ L i) refl (sym (owned_enter ρ new L asked.slot i) ∙ o)
      where
        inside : i < length a
        inside = subst (λ (m : ℕ). i < m) long l

        go : (x : Bool) → owned ρ L i ≡ x → (owned ρ L i || owns ρ i new) ≡ true → get_or b i 0 ≡ get_or ground i 0
        go true x y =
            taken.change.frame i
            (ap (λ (rs : List Run). covered rs (i / F.cell)) (sym cells_before)
            ∙ held_word h.form (length a) (sound_range h a t ok).whole L h.next
            (sound_good h a t ok) i inside x)
            (ap (λ (rs : List Run). covered rs (i / F.cell)) (sym cells_now)
            ∙ held_word h.form (length a) (sound_range h a t ok).whole (enter new L)
            (next_after h.next) good i inside o)
            ∙ sym (zeroed_keeps tree_engine tree_laws p ok c n r.start asked i x)
        go false x y =
            let (lo, hi) = in_new i (rw x at y) in
            taken.zeros i lo hi ∙ sym (zero_there i inside (rw x at y))

    shows : Shows F ground b root' (enter new L)
    shows =
        let tree = taken.change.lies.tree in
        let e : free_tree F (length ground) (enter new L)
        ≡ tree_of (map (cell_run F) listed.before
        ++ shorten (cell_span F n) (cell_run F r) (map (cell_run F) listed.after)) =
        ap (λ (m : ℕ). free_tree F m (enter new L)) long ∙ tree_of_lem F (length a) (enter new L) ∙ ap tree_of cells_now in
        record {
          long = taken.change.long ∙ sym long;
          kept = kept;
          holds = subst (Holds F b) (sym e) tree.holds;
          root = ap link e ∙ tree.at;
        }

    pub grant_pool : u ≡ table_of (enter (row h.next (address_at (form_rule (form_of h.form)) r.start) n c) (records_of t))
        → tree_pool (record { root = root'; next = next_after h.next; form = h.form }) b u
        ≡ pool_after tree_engine (tree_pool h a t) (ask c n)
    grant_pool e =
        stored_pool (on_arena p ground) (enter new L) (next_after h.next) (next_after h.next) root' b u
        (ap (λ (m : ℕ). m % F.unit) long ∙ (sound_range h a t ok).whole)
        (subst (λ (m : ℕ). valid ρ m (next_after h.next) (enter new L) ≡ true) (sym long) good) shows e
        ∙ unfold tree_engine in sym ((ask_done tree_engine p c n r.start asked).1 ∙ grant_store tree_engine p c n r.start)

-- ---- the code's way

pub some_units : (f n : ℕ) → (eqb n 0 || ltb (form_of f).limit n) ≡ false → 1 ≤ span (form_rule (form_of f)) n
some_units f n size =
    span_pos (form_rule (form_of f)) (form_unit f) n
    (let z = eqb_false n 0 (or_l (eqb n 0) (ltb (form_of f).limit n) size) in omega arith)

module _ (h : Head) (a t : Words) (c n slot block father : ℕ) (f : Grantable h a t c n slot block father) where
  abbrev lent : Pool
  lent = tree_pool h a t

  abbrev G : Form
  G = form_of h.form

  abbrev cell : ℕ
  cell = block - 1

  linked : block ≡ suc cell
  linked = let z = f.node_of.0 in omega arith

  units : 1 ≤ span (form_rule G) n
  units = some_units h.form n f.size

  fits : (r : Run) × (fit_of tree_engine lent n ≡ some r.start) × (r.start * cells_per_unit G ≡ cell)
      × FirstRun (long_enough (span (form_rule G) n)) (free_runs (form_rule G) (length a) (records_of t)) r
  fits = block_fits h a t f.ok n block units f.fit cell linked

  abbrev found : Run
  found = fits.0

  abbrev xs : List Run
  xs = map (cell_run G) fits.3.before

  abbrev ys : List Run
  ys = map (cell_run G) fits.3.after

  asked : Asked tree_engine lent c n found.start
  unfolding tree_engine
  asked = record {
    party = f.party;
    size = f.size;
    slot = (empty_found t slot f.empty).1;
    ticket = eqb_ne h.next 0 f.ticket;
    fit = fits.1;
  }

  takes : Takes G a h.root block father (cell_span G n) xs (cell_run G found) ys
  takes = record {
    lies = subst (λ (rs : List Run). Lies G a h.root rs)
        (ap (map (cell_run G)) fits.3.split
        ∙ append_scaled (cells_per_unit G) (some_cells h.form) fits.3.before found fits.3.after)
        (sound_lies h a t f.ok);
    at = linked ∙ ap suc (sym fits.2);
    node_of = f.node_of;
    some = some_span h.form n units;
    enough = mul-le-mul_right (cells_per_unit G) (le_of (span (form_rule G) n) found.size fits.3.passes);
  }

  pub place_takes : Takeable (form_of h.form) a h.root block father (cell_span (form_of h.form) n)
  place_takes = (xs, cell_run G found, ys, takes)

  -- the block lies in the arena
  pub place_inside : block - 1 < cells (form_of h.form) a
  place_inside = (take_in (readable h.form) place_takes).0

  -- its address is its first word
  address : address_at (form_rule G) found.start ≡ G.cell * cell
  address = cell_address h.form found.start ∙ ap (λ x. G.cell * x) fits.2

  pub place_answer : success (row h.next ((form_of h.form).cell * (block - 1)) n c)
      ≡ answer_to tree_engine (tree_pool h a t) (ask c n)
  unfolding tree_engine
  place_answer =
      ap (λ (x : ℕ). success (row h.next x n c)) (sym address)
      ∙ sym (ask_done tree_engine lent c n found.start asked).0

  module _ (b u : Words) (root' : ℕ) (taken : Taken G a b h.root block father (cell_span G n) root') where
    done : TakenFrom G a b (cell_span G n) root' xs (cell_run G found) ys
    done = taken xs (cell_run G found) ys takes

    pub place_root : root' < 4294967296
    place_root =
        let tree = done.change.lies.tree in
        let now-runs = xs ++ shorten (cell_span G n) (cell_run G found) ys in
        omega (
          arith,
          link_within (tree_of now-runs) 0 (cells G b) tree.within,
          tree.at,
          tree.small,
          few_links h.form,
        )

    pub place_pool : u ≡ table_of (set (records_of t) slot (row h.next ((form_of h.form).cell * (block - 1)) n c))
        → tree_pool (record { root = root'; next = next_after h.next; form = h.form }) b u
        ≡ pool_after tree_engine (tree_pool h a t) (ask c n)
    place_pool e =
        let new = row h.next (address_at (form_rule G) found.start) n c in
        grant_pool h a t f.ok c n root' b u found asked fits.3 done
        (e ∙ ap (λ (x : ℕ). table_of (set (records_of t) slot (row h.next x n c))) (sym address)
        ∙ ap table_of (sym ((empty_found t slot f.empty).2 new)))

  pub place_range : InRange (form_of h.form) a t
  place_range = sound_range h a t f.ok

  pub place_slot : slot < slots t
  place_slot = (empty_found t slot f.empty).0
