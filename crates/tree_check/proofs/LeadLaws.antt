-- Searches in a map, and cells that they lead through. Assumes nothing.
use Prim.Native.Nat.{ℕ, ◌+◌, ◌≤◌, ◌<◌}
use native.Mathlib.Decide.{dec_le, dec_lt}
use native.Mathlib.Omega.{arith}
use mathlib.Core.Path.{◌≡◌, refl, sym, ap, ◌∙◌, subst}
use mathlib.Core.Bool.{Bool, true, false, false≢true}
use lib.Dec.{eqb}
use lib.ListN.{get_or}
use Rattle.words.specs.Lists.{Words}
use Rattle.words.proofs.Tests.{eqb_eq, eqb_same}
use Rattle.tree_check.specs.Maps.{is_entries, cells_at, Covers, CoversAll}
use Rattle.record_table.specs.Leads.{here, more}
use Rattle.record_table.proofs.LeadLaws.{leads_up}
use Rattle.tree_check.specs.Maps.{Next, Leads}
use Rattle.words.specs.Flags.{Says}

-- ---- one search

-- a byte for each cell
pub byte_next : (map : Words) (k : ℕ) → is_entries map ≡ false → 0 < get_or map k 0 → Next map k (get_or map k 0)
byte_next map k bytes h = record {
  place = k;
  is = rw bytes refl;
  units = rw bytes refl;
  some = h;
  reached = λ e. absurd (false≢true (sym bytes ∙ e));
}

pub byte_found : (map : Words) (k x : ℕ) → is_entries map ≡ false → Next map k x → get_or map k 0 ≡ x
byte_found map k x bytes n =
    let at : n.place ≡ k = rw bytes at n.is in
    let units : get_or map n.place 0 ≡ x = rw bytes at n.units in
    ap (λ p. get_or map p 0) (sym at) ∙ units

module _ {map : Words} where
  -- a search finds one span
  pub next_one : {k x y : ℕ} → Next map k x → Next map k y → x ≡ y
  next_one {k} {x} {y} a b = go (is_entries map) refl
    where
      go : (e : Bool) → is_entries map ≡ e → x ≡ y
      go false e = sym (byte_found map k x e a) ∙ byte_found map k y e b
      go true e = split (dec_lt a.place b.place) (dec_lt b.place a.place)
        where
          split : Dec (a.place < b.place) → Dec (b.place < a.place) → x ≡ y
          split (yes l) d = absurd (((b.reached e).1 a.place (a.reached e).0 l).1 a.is)
          split (no l) (yes m) = absurd (((a.reached e).1 b.place (b.reached e).0 m).1 b.is)
          split (no l) (no m) =
              let same : a.place ≡ b.place = omega arith in
              sym a.units ∙ ap (cells_at map) same ∙ b.units

  -- ---- cells that are led through

  pub leads_cover : {hi lo : ℕ} → Leads map lo hi → CoversAll map lo hi
  leads_cover (here e) u a b = absurd (omega arith)
  leads_cover {hi} {lo} (more {n = n} s x) u a b = go (λ h. leads_cover x u h b) (dec_le (lo + n) u)
    where
      go : (lo + n ≤ u → Covers map u) → Dec (lo + n ≤ u) → Covers map u
      go f (yes h) = f h
      go f (no h) =
          let is = s.is in
          let units = s.units in
          (s.place, omega arith, omega arith)

  -- there is a next search, where there is something to lead through
  pub leads_none : {k hi : ℕ} → k < hi → ((n : ℕ) → Next map k n → ⊥) → Leads map k hi → ⊥
  leads_none h none (here e) = omega arith
  leads_none h none (more {n = n} s y) = none n s

  pub leads_step : {k hi n : ℕ} → k < hi → Next map k n → Leads map k hi → Leads map (k + n) hi
  leads_step h s (here e) = absurd (omega arith)
  leads_step {k} {hi} h s (more x y) = subst (λ j. Leads map (k + j) hi) (next_one x s) y

  -- ---- a loop that has come from lo to k

  pub leads_says : {lo k hi : ℕ} → hi ≤ k → (Leads map k hi → Leads map lo hi) → (Leads map lo hi → Leads map k hi)
      → Says (eqb k hi) (Leads map lo hi)
  leads_says {lo} {k} {hi} h back forth =
      ((λ e. back (here (eqb_eq k hi e))), λ x. let up = leads_up (forth x) in same (omega arith))
    where
      same : k ≡ hi → eqb k hi ≡ true
      same e = ap (λ n. eqb n hi) e ∙ eqb_same hi

-- what is found in one map is found in another
pub leads_keep : {map map' : Words} {hi lo : ℕ} → ((k x : ℕ) → lo ≤ k → k < hi → Next map k x → Next map' k x)
    → Leads map lo hi → Leads map' lo hi
leads_keep f (here e) = here e
leads_keep {lo = lo} f (more {n = n} s x) =
    let up = leads_up x in
    let some = s.some in
    more (f lo n (omega arith) (omega arith) s) (leads_keep (λ k y a b. f k y (omega arith) b) x)
