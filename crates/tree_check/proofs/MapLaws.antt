-- The map of a table's records, slot after slot. Assumes nothing.
use Prim.Native.Nat.{ℕ, zero, suc, ◌+◌, ◌*◌, ◌/◌, ◌≤◌, ◌<◌}
use native.Mathlib.Decide.{dec_le, dec_lt, ℕ_discrete}
use native.Mathlib.Nat.{add-zero, add-mul, zero-mul, mul_comm, mul_left_comm, mul-le-mul_right, mul-lt-mul_of_pos_right}
use native.Mathlib.Nat.{div-le_self, div-mul-le_self, le-div_iff_mul-le, div-lt_iff_lt-mul}
use native.Mathlib.Numerals.{add-one}
use native.Mathlib.Omega.{arith}
use mathlib.Core.Path.{◌≡◌, refl, sym, ap, ◌∙◌, subst}
use mathlib.Core.Logic.{◌≢◌}
use mathlib.Core.Bool.{Bool, true, false}
use lib.Dec.{eqb}
use lib.ListN.{length}
use Rattle.words.specs.Lists.{Words, all, is_zero}
use Rattle.words.proofs.Tests.{not_true, not_false}
use Rattle.ledger.specs.declared.Row.{Row}
use Rattle.ledger.specs.declared.Rule.{Rule}
use Rattle.ledger.specs.Records.{record_at, records_of, slots, is_empty, is_live}
use Rattle.ledger.specs.Units.{span, first, past, covers, valid}
use Rattle.ledger.proofs.UnitLaws.{Fitted, fits_facts, covers_in}
use Rattle.stored_forms.specs.Tree.{form_of, cells_per_unit}
use Rattle.stored_forms.proofs.NodeLaws.{readable}
use Rattle.stored_forms.proofs.FreeTreeLaws.{cells_pos}
use Rattle.record_table.specs.Checks.{row_ok}
use Rattle.record_table.specs.Partition.{units_of, Noted, Joins, Entered}
use Rattle.record_table.proofs.PartitionLaws.{sum_part, held_by, no_share, valid_entered, valid_exact}
use Rattle.record_table.proofs.EnterLaws.{enter_start, enter_next, empty_joins, noted_start, note_none}
use Rattle.tree_check.specs.Maps.{homes, home, Covers, Adds, Mapped}
use Rattle.tree_check.specs.Maps.{Leads, Bare, Spare, Grows, most, Led}
use Rattle.tree_check.proofs.LeadLaws.{leads_keep}
use Rattle.tree_check.proofs.SpanLaws.{no_units, grows_none}

-- ---- where searches begin

-- nothing else is known of it
pub home_low : (n k : ℕ) → home n k < homes n
unfolding home homes
home_low n k = go (eqb n 769) refl
  where
    go : (b : Bool) → eqb n 769 ≡ b → home n k < homes n
    go true e = rw e (omega arith)
    go false e = rw e (omega arith)

-- ---- the first i slots

-- what the map covers is held by one of the first i slots, with p cells to a unit
abbrev Known : Rule → ℕ → Words → Words → ℕ → Type 0
Known ρ p t map i = (c : ℕ) → Covers map c → (j : ℕ) × (j < i) × (covers ρ (c / p) (record_at t j) ≡ true)

-- the first i slots are entered and in the map
pub record Mapping (ρ : Rule) (p W next : ℕ) (t : Words) (m : ℕ) (map seen : Words) (held i : ℕ) : Type 0 where
  pub upto : i ≤ slots t
  pub entered : Entered ρ W next t i held
  pub few : held ≤ W
  pub residues : Noted m seen t i
  pub known : Known ρ p t map i
  pub enough : slots t ≤ most map
  pub bare : Bare map (homes (length map) + i)
  pub led : valid ρ W next (records_of t) ≡ true → Led ρ p t map i

module _ (ρ : Rule) where
  past_is : (r : Row) → past ρ r ≡ first ρ r + span ρ r.words
  unfolding past
  past_is r = refl

module _ (ρ : Rule) (unit : 0 < ρ.unit) where
  -- a record with units lies in the arena
  module _ (W next : ℕ) (r : Row) (n : ℕ) (some : n ≢ 0) (ok : row_ok ρ W next r ≡ true)
      (units : n ≡ units_of ρ r) where
    live_row : Fitted ρ W next r × (n ≡ span ρ r.words)
    live_row = go (is_empty r) refl
      where
        go : (b : Bool) → is_empty r ≡ b → Fitted ρ W next r × (n ≡ span ρ r.words)
        go true e = absurd (some (units ∙ rw e))
        go false e = (fits_facts ρ unit W next r (rw e at ok), units ∙ rw e)

    pub units_inside : first ρ r + n ≤ W / ρ.unit
    units_inside = let (f, long) = live_row in omega (arith, f.units, past_is ρ r)

  module _ (p : ℕ) (per : 0 < p) where
    -- a cell of a live record's lies in its units
    cell_covered : (r : Row) → is_live r ≡ true → (c : ℕ) → first ρ r * p ≤ c → c < past ρ r * p
        → covers ρ (c / p) r ≡ true
    cell_covered r live c low high =
        covers_in ρ (c / p) r live ((le-div_iff_mul-le per).1 low) ((div-lt_iff_lt-mul per).1 high)

    -- so does one of those that are noted of slot i
    module _ (W next : ℕ) (t : Words) (i n : ℕ) (joins : Joins ρ W next t i n) where
      noted_covered : (c : ℕ) → first ρ (record_at t i) * p ≤ c → c < first ρ (record_at t i) * p + n * p
          → covers ρ (c / p) (record_at t i) ≡ true
      noted_covered c low high =
          let r = record_at t i in
          let none : n ≢ 0 = λ e. let empty = ap (λ k. k * p) e ∙ zero-mul p in omega arith in
          let (fit, long) = live_row W next r n none joins.0 joins.2 in
          let end : first ρ r * p + n * p ≡ past ρ r * p =
          sym (add-mul (first ρ r) n p) ∙ ap (λ k. k * p) (omega (arith, past_is ρ r)) in
          cell_covered r fit.live c low (omega arith)

      -- the map with the cells of slot i
      known_next : (map map' : Words) → Adds map map' (first ρ (record_at t i) * p) (n * p)
          → Known ρ p t map i → Known ρ p t map' (i + 1)
      known_next map map' adds known c covered =
          go (dec_le (first ρ (record_at t i) * p) c) (dec_lt c (first ρ (record_at t i) * p + n * p))
        where
          lo : ℕ
          lo = first ρ (record_at t i) * p

          older : (lo ≤ c → c < lo + n * p → ⊥) → (j : ℕ) × (j < i + 1) × (covers ρ (c / p) (record_at t j) ≡ true)
          older out = let (j, x, y) = known c (adds c covered out) in (j, omega arith, y)

          go : Dec (lo ≤ c) → Dec (c < lo + n * p)
              → (j : ℕ) × (j < i + 1) × (covers ρ (c / p) (record_at t j) ≡ true)
          go (yes low) (yes high) = (i, omega arith, noted_covered c low high)
          go (yes low) (no high) = older (λ x y. high y)
          go (no low) q = older (λ x y. low x)

      -- and what it leads through
      module _ (map map' : Words) (in_table : i < slots t) (enough : slots t ≤ most map)
          (bare : Bare map (homes (length map) + i)) (known : Known ρ p t map i)
          (grows : Grows map map' (first ρ (record_at t i) * p) (n * p)) where
        abbrev row : Row
        row = record_at t i

        -- a place is left for the record
        spare : Spare map (first ρ row * p) (homes (length map) + i)
        spare e =
            let few = rw e at enough in
            let low = home_low (length map) (first ρ row * p) in
            (omega arith, omega arith, bare e)

        bare_next : length map' ≡ length map → Bare map' (homes (length map') + (i + 1))
        bare_next long e q l =
            let same = ap homes long in
            grows.bare (homes (length map) + i) spare e q (omega arith)

        module _ (good : valid ρ W next (records_of t) ≡ true) where
          alone : (j u : ℕ) → j < i → covers ρ u (record_at t j) ≡ true → covers ρ u row ≡ true → ⊥
          alone j u l x y =
              no_share ρ unit W next t good j i (omega arith) in_table (λ e. omega arith) u x y

          -- an earlier record is led through as before
          led_old : (j : ℕ) → j < i → is_live (record_at t j) ≡ true
              → Leads map (first ρ (record_at t j) * p) (past ρ (record_at t j) * p)
              → Leads map' (first ρ (record_at t j) * p) (past ρ (record_at t j) * p)
          led_old j l live x =
              leads_keep (λ k y a b f. grows.keeps k y (λ low high.
              alone j (k / p) l (cell_covered (record_at t j) live k a b) (noted_covered k low high)) f) x

          led_new : is_live row ≡ true → Leads map' (first ρ row * p) (past ρ row * p)
          led_new live =
              let empty = not_true (is_empty row) live in
              let fit = fits_facts ρ unit W next row (rw empty at joins.0) in
              let long : n ≡ span ρ row.words = joins.2 ∙ rw empty in
              let lo = first ρ row * p in
              let some = mul-lt-mul_of_pos_right fit.nonempty per in
              let out : Covers map lo → ⊥ =
              λ c. let (j, l, x) = known lo c in
              alone j (lo / p) l x (cell_covered row live lo (omega arith) some) in
              let end : lo + n * p ≡ past ρ row * p =
              sym (add-mul (first ρ row) n p) ∙ ap (λ k. k * p) (omega (arith, past_is ρ row)) in
              subst (λ h. Leads map' lo h) end (grows.leads (homes (length map) + i) spare out)

          led_next : Led ρ p t map i → Led ρ p t map' (i + 1)
          led_next led j l live = go (ℕ_discrete j i)
            where
              go : Dec (j ≡ i) → Leads map' (first ρ (record_at t j) * p) (past ρ (record_at t j) * p)
              go (yes e) =
                  subst (λ k. Leads map' (first ρ (record_at t k) * p) (past ρ (record_at t k) * p)) (sym e)
                  (led_new (ap (λ k. is_live (record_at t k)) (sym e) ∙ live))
              go (no e) = led_old j (omega arith) live (led j (omega arith) live)

  -- a record that joins has units, unless it is empty
  pub some_units : (W next : ℕ) (t : Words) (i n : ℕ) → is_empty (record_at t i) ≡ false → Joins ρ W next t i n → 0 < n
  some_units W next t i n live joins =
      let fit = fits_facts ρ unit W next (record_at t i) (rw live at joins.0) in
      let long : n ≡ span ρ (record_at t i).words = joins.2 ∙ rw live in
      omega (arith, fit.nonempty, past_is ρ (record_at t i))

  -- the first records of a valid table have few units together
  pub rows_few : (W next : ℕ) (t : Words) → valid ρ W next (records_of t) ≡ true
      → {i held : ℕ} → i ≤ slots t → Entered ρ W next t i held → held ≤ W
  rows_few W next t good {i} h e =
      let units : ℕ → ℕ = λ j. units_of ρ (record_at t j) in
      omega (
        arith,
        e.sum,
        sum_part units i (slots t) h,
        valid_exact ρ unit W next t good _ (valid_entered ρ unit W next t good),
        div-le_self W ρ.unit,
      )

-- a unit has cells
pub some_cells : (f q : ℕ) → q ≡ cells_per_unit (form_of f) → 0 < q
some_cells f q e = let some = cells_pos (form_of f) (form_of f).links (readable f) in omega arith

-- units that lie in the arena, in cells
pub units_cells : (f W lo n q : ℕ) → q ≡ cells_per_unit (form_of f) → lo + n ≤ W / (form_of f).unit
    → lo * q + n * q ≤ W / (form_of f).cell
units_cells f W lo n q e inside =
    let F = form_of f in
    let words : F.cell * (W / F.unit * q) ≤ W =
    rw (e, mul_left_comm F.cell (W / F.unit) (cells_per_unit F), (readable f).whole) (div-mul-le_self W F.unit) in
    omega (
      arith,
      add-mul lo n q,
      mul-le-mul_right q inside,
      (le-div_iff_mul-le {x = W / F.unit * q} {y = W} (readable f).cells).1 (rw (mul_comm (W / F.unit * q) F.cell) words),
    )

module _ {ρ : Rule} {p W next : ℕ} {t : Words} {m : ℕ} where
  pub map_start : (map seen : Words) → all is_zero map ≡ true → slots t ≤ most map
      → Mapping ρ p W next t m map seen 0 0
  map_start map seen e enough = record {
    upto = omega arith;
    entered = enter_start ρ W next t;
    few = omega arith;
    residues = noted_start m seen t;
    known = λ u (q, a, b). absurd (omega (arith, no_units map e q));
    enough = enough;
    bare = λ entries q h. no_units map e q;
    led = λ good j l. absurd (omega arith);
  }

  pub map_next : (unit : 0 < ρ.unit) (per : 0 < p) {map seen : Words} {held i : ℕ} (n : ℕ) (map' seen' : Words)
      → Mapping ρ p W next t m map seen held i
      → i < slots t → held + n ≤ W → Joins ρ W next t i n → Noted m seen' t (i + 1)
      → length map' ≡ length map → Grows map map' (first ρ (record_at t i) * p) (n * p)
      → Mapping ρ p W next t m map' seen' (held + n) (i + 1)
  map_next unit per {map} {held = held} {i} n map' seen' c l few joins residues long grows =
      record {
        upto = omega arith;
        entered = enter_next ρ W next t i held n c.entered joins;
        few = few;
        residues = residues;
        known = known_next ρ unit p per W next t i n joins map map' grows.adds c.known;
        enough = rw long c.enough;
        bare = bare_next ρ unit p per W next t i n joins map map' l c.enough c.bare c.known grows long;
        led = λ good. led_next ρ unit p per W next t i n joins map map' l c.enough c.bare c.known grows good
            (c.led good);
      }

  -- an empty slot adds nothing
  pub map_skip : (unit : 0 < ρ.unit) (per : 0 < p) {map seen : Words} {held i : ℕ}
      → Mapping ρ p W next t m map seen held i → i < slots t → is_empty (record_at t i) ≡ true
      → Mapping ρ p W next t m map seen held (i + 1)
  map_skip unit per {map} {seen} {held} {i} c l none =
      subst (λ h. Mapping ρ p W next t m map seen h (i + 1)) (add-zero held)
      (map_next unit per 0 map seen c l (omega (arith, c.few)) (empty_joins ρ W next t i none)
      (note_none m seen t i c.residues none) refl (grows_none map (first ρ (record_at t i) * p) (0 * p) (zero-mul p)))

  -- so do all before the first live one
  pub map_pass : (unit : 0 < ρ.unit) (per : 0 < p) {map seen : Words} {held : ℕ}
      → Mapping ρ p W next t m map seen held 0 → (k : ℕ) → k ≤ slots t
      → ((j : ℕ) → 0 ≤ j → j < k → is_live (record_at t j) ≡ false) → Mapping ρ p W next t m map seen held k
  map_pass unit per c zero h off = c
  map_pass unit per {map} {seen} {held} c (suc k) h off =
      subst (Mapping ρ p W next t m map seen held) (add-one k)
      (map_skip unit per (map_pass unit per c k (omega arith) (λ j a b. off j a (omega arith))) (omega arith)
      (not_false (is_empty (record_at t k)) (off k (omega arith) (omega arith))))

  pub map_end : {map seen : Words} {held i : ℕ} → Mapping ρ p W next t m map seen held i → slots t ≤ i
      → Mapped ρ p W next t held map
  map_end {map} {seen} {held} {i} c l =
      let upto = c.upto in
      let all : i ≡ slots t = omega arith in
      record {
        entered = subst (λ j. Entered ρ W next t j held) all c.entered;
        spans = λ u k. let (j, x, y) = c.known u k in held_by ρ t j (u / p) (omega arith) y;
        led = λ good. subst (Led ρ p t map) all (c.led good);
      }
