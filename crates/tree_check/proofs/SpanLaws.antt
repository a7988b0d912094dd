-- The spans of a map: noted in a byte or in an entry, and read again. Assumes nothing.
use Prim.Native.Nat.{ℕ, zero, suc, ◌+◌, ◌-◌, ◌*◌, ◌/◌, ◌%◌, ◌≤◌, ◌<◌}
use native.Mathlib.Decide.{dec_lt, ℕ_discrete}
use native.Mathlib.Numerals.{unary_clauses}
use native.Mathlib.Omega.{arith}
use mathlib.Core.Path.{◌≡◌, refl, sym, ap, ◌∙◌, subst}
use mathlib.Core.Logic.{◌≢◌}
use mathlib.Core.Bool.{Bool, true, false, false≢true}
use mathlib.Core.List.{[], ◌∷◌}
use lib.ListN.{length, get_or, set, length-set}
use lib.Seq.{get_or-set_same, get_or-set_other}
use borrow.Rule.Slice.PartMut.{put_mid}
use Rattle.std.specs.Int.{w32, to_le_bytes}
use Rattle.words.specs.Lists.{Words, all, is_zero}
use Rattle.words.proofs.ListLaws.{zeros_at}
use Rattle.tree_check.specs.Maps.{four_at, is_entries, first_at, cells_at, Covers, Adds}
use Rattle.record_table.specs.Leads.{here, more}
use Rattle.tree_check.specs.Maps.{home, Reaches, Next, Leads, Bare, Spare, Grows, FourPut}
use Rattle.tree_check.proofs.LeadLaws.{byte_next, byte_found, next_one}

-- ---- no span

-- a map that is all zero has no cells at any place
pub no_units : (map : Words) → all is_zero map ≡ true → (p : ℕ) → cells_at map p ≡ 0
no_units map zeros p = go (is_entries map) refl
  where
    go : (b : Bool) → is_entries map ≡ b → cells_at map p ≡ 0
    go true e =
        let none = zeros_at map zeros in
        rw e (omega (
          arith,
          none (8 * p + 4),
          none (8 * p + 4 + 1),
          none (8 * p + 4 + 2),
          none (8 * p + 4 + 3),
        ))
    go false e = rw e (zeros_at map zeros p)

-- ---- a span that is noted

-- in a byte, where the map has one for each cell
pub adds_byte : (map map' : Words) (lo n at v : ℕ) → is_entries map' ≡ false → at < length map' → lo ≤ at
    → at + v ≤ lo + n → Adds map map' lo n → Adds map (set map' at v) lo n
adds_byte map map' lo n at v bytes h low high old u (p, a, b) out =
    go (ℕ_discrete p at) (rw same at a) (rw same at b)
  where
    same : is_entries (set map' at v) ≡ false
    same = rw (length-set map' at v) bytes

    go : Dec (p ≡ at) → p ≤ u → u < p + get_or (set map' at v) p 0 → Covers map u
    go (yes e) a b =
        let there : get_or (set map' at v) p 0 ≡ v = ap (λ k. get_or (set map' at v) k 0) e ∙ get_or-set_same map' at v 0 h in
        absurd (out (omega arith) (omega arith))
    go (no e) a b = let there = get_or-set_other map' at p v 0 e in old u (p, rw bytes a, rw bytes (omega arith)) out

-- A loop writes them: it has come to cell `at`, and `left` cells are left. A map that has the bytes up to there leads
-- from cell lo to it.
pub record Spanning (map map' : Words) (lo n at left : ℕ) : Type 0 where
  pub long : length map' ≡ length map
  pub sum : at + left ≡ lo + n
  pub low : lo ≤ at
  pub some : 0 < left
  pub adds : Adds map map' lo n
  pub others : (k : ℕ) → (lo ≤ k → k < lo + n → ⊥) → get_or map' k 0 ≡ get_or map k 0
  pub led : (map'' : Words) → is_entries map'' ≡ false → ((k : ℕ) → lo ≤ k → k < at → get_or map'' k 0 ≡ get_or map' k 0)
      → Leads map'' at (lo + n) → Leads map'' lo (lo + n)

module _ {map map' : Words} {lo n at left : ℕ} (s : Spanning map map' lo n at left)
    (bytes : is_entries map ≡ false) (room : lo + n ≤ length map) where
  bytes_still : is_entries map' ≡ false
  bytes_still = let long = s.long in rw long bytes

  put_adds : (v : ℕ) → v ≤ left → Adds map (set map' at v) lo n
  put_adds v h =
      let long = s.long in
      let sum = s.sum in
      let some = s.some in
      adds_byte map map' lo n at v bytes_still (omega arith) s.low (omega arith) s.adds

  put_others : (v k : ℕ) → (lo ≤ k → k < lo + n → ⊥) → get_or (set map' at v) k 0 ≡ get_or map k 0
  put_others v k out =
      let sum = s.sum in
      let some = s.some in
      let low = s.low in
      get_or-set_other map' at k v 0 (λ e. out (omega arith) (omega arith)) ∙ s.others k out

  -- from the byte that is written the map leads on
  put_led : (v : ℕ) → 0 < v → (map'' : Words) → is_entries map'' ≡ false
      → ((k : ℕ) → lo ≤ k → k < at + v → get_or map'' k 0 ≡ get_or (set map' at v) k 0)
      → Leads map'' (at + v) (lo + n) → Leads map'' lo (lo + n)
  put_led v h map'' b same x =
      let long = s.long in
      let sum = s.sum in
      let some = s.some in
      let low = s.low in
      let there : get_or map'' at 0 ≡ v = same at low (omega arith) ∙ get_or-set_same map' at v 0 (omega arith) in
      let step = subst (Next map'' at) there (byte_next map'' at b (omega arith)) in
      s.led map'' b (λ k l g. same k l (omega arith) ∙ get_or-set_other map' at k v 0 (λ e. omega arith)) (more step x)

  pub span_more : 255 < left → Spanning map (set map' at 255) lo n (at + 255) (left - 255)
  span_more h =
      let sum = s.sum in
      let low = s.low in
      record {
        long = length-set map' at 255 ∙ s.long;
        sum = omega arith;
        low = omega arith;
        some = omega arith;
        adds = put_adds 255 (omega arith);
        others = put_others 255;
        led = put_led 255 (omega arith);
      }

  pub span_last : Grows map (set map' at left) lo n
  span_last =
      let same : is_entries (set map' at left) ≡ false = rw (length-set map' at left) bytes_still in
      record {
        adds = put_adds left (omega arith);
        keeps = λ k x out f.
            let was = byte_found map k x bytes f in
            let is = put_others left k out ∙ was in
            let some = f.some in
            subst (Next (set map' at left) k) is (byte_next (set map' at left) k same (omega arith));
        bare = λ p spare e. absurd (false≢true (sym same ∙ e));
        leads = λ p spare out. put_led left s.some (set map' at left) same (λ k a b. refl) (here s.sum);
      }

-- in the eight bytes of an entry
pub record EntryPut (map map' : Words) (i lo n : ℕ) : Type 0 where
  pub first : four_at map' i ≡ lo
  pub units : four_at map' (i + 4) ≡ n
  pub others : (k : ℕ) → (i ≤ k → k < i + 8 → ⊥) → get_or map' k 0 ≡ get_or map k 0
  pub long : length map' ≡ length map

-- four bytes that are the same in both maps
same_four : (map map' : Words) (i : ℕ) → ((k : ℕ) → i ≤ k → k < i + 4 → get_or map' k 0 ≡ get_or map k 0)
    → four_at map' i ≡ four_at map i
same_four map map' i same =
    let a = same i (omega arith) (omega arith) in
    let b = same (i + 1) (omega arith) (omega arith) in
    let c = same (i + 2) (omega arith) (omega arith) in
    let d = same (i + 3) (omega arith) (omega arith) in
    omega arith

-- a number written in four bytes
module _ (map : Words) (i x : ℕ) (room : i + 3 < length map) (small : x < 4294967296) where
  abbrev one : Words
  one = set map i (x % 256)

  abbrev two : Words
  two = set one (i + 1) (x / 256 % 256)

  abbrev three : Words
  three = set two (i + 2) (x / 65536 % 256)

  abbrev four : Words
  four = set three (i + 3) (x / 16777216)

  -- a byte that is written, behind the later ones
  past_two : (k : ℕ) → k < i + 2 → get_or four k 0 ≡ get_or two k 0
  past_two k h =
      get_or-set_other three (i + 3) k (x / 16777216) 0 (λ e. omega arith)
      ∙ get_or-set_other two (i + 2) k (x / 65536 % 256) 0 (λ e. omega arith)

  pub four_put : FourPut map four i x
  four_put =
      let a = past_two i (omega arith) ∙ get_or-set_other one (i + 1) i (x / 256 % 256) 0 (λ e. omega arith)
      ∙ get_or-set_same map i (x % 256) 0 (omega arith) in
      let b = past_two (i + 1) (omega arith)
      ∙ get_or-set_same one (i + 1) (x / 256 % 256) 0 (simp length-set (omega arith)) in
      let c = get_or-set_other three (i + 3) (i + 2) (x / 16777216) 0 (λ e. omega arith)
      ∙ get_or-set_same two (i + 2) (x / 65536 % 256) 0 (simp length-set (omega arith)) in
      let d = get_or-set_same three (i + 3) (x / 16777216) 0 (simp length-set (omega arith)) in
      record {
        is = omega arith;
        others = λ k out.
            get_or-set_other three (i + 3) k (x / 16777216) 0 (λ e. out (omega arith) (omega arith))
            ∙ get_or-set_other two (i + 2) k (x / 65536 % 256) 0 (λ e. out (omega arith) (omega arith))
            ∙ get_or-set_other one (i + 1) k (x / 256 % 256) 0 (λ e. out (omega arith) (omega arith))
            ∙ get_or-set_other map i k (x % 256) 0 (λ e. out (omega arith) (omega arith));
        long = simp length-set;
      }

-- a copy of four bytes over four places writes one after another
four_cells : (map : Words) (i a b c d : ℕ) → i + 3 < length map
    → put_mid i 4 map (a ∷ b ∷ c ∷ d ∷ []) ≡ set (set (set (set map i a) (i + 1) b) (i + 2) c) (i + 3) d
four_cells [] i a b c d h = absurd (omega arith)
four_cells (w ∷ []) zero a b c d h = absurd (omega arith)
four_cells (w ∷ x ∷ []) zero a b c d h = absurd (omega arith)
four_cells (w ∷ x ∷ y ∷ []) zero a b c d h = absurd (omega arith)
four_cells (w ∷ x ∷ y ∷ z ∷ map) zero a b c d h = refl
four_cells (w ∷ map) (suc i) a b c d h =
    simp unary_clauses (ap (λ m. w ∷ m) (simp unary_clauses at (four_cells map i a b c d (omega arith))))

pub four_copied : (map : Words) (i x k : ℕ) (ys : Words) → i + 3 < length map → x < 4294967296 → k ≡ 4
    → ys ≡ to_le_bytes w32 x → FourPut map (put_mid i k map ys) i x
four_copied map i x k ys room small e is =
    let top : x / 16777216 % 256 ≡ x / 16777216 = omega arith in
    rw (e, is, four_cells map i (x % 256) (x / 256 % 256) (x / 65536 % 256) (x / 16777216 % 256) room, top)
    (four_put map i x room small)

pub entry_put : {map one two : Words} {i lo n : ℕ} → FourPut map one i lo → FourPut one two (i + 4) n
    → EntryPut map two i lo n
entry_put {map} {one} {two} {i} x y = record {
  first = same_four one two i (λ k a b. y.others k (λ l h. omega arith)) ∙ x.is;
  units = y.is;
  others = λ k out. y.others k (λ l h. out (omega arith) (omega arith)) ∙ x.others k (λ l h. out l (omega arith));
  long = y.long ∙ x.long;
}

-- at a place that is empty in the map
module _ {map map' : Words} {i lo n : ℕ} (put : EntryPut map map' i lo n) (some : 0 < n)
    (entries : is_entries map ≡ true) (whole : i % 8 ≡ 0) (empty : four_at map (i + 4) ≡ 0) where
  still : is_entries map' ≡ true
  still = let long = put.long in rw long entries

  home_still : (k : ℕ) → home (length map') k ≡ home (length map) k
  home_still k = ap (λ j. home j k) put.long

  put_first : (p : ℕ) → 8 * p ≡ i → first_at map' p ≡ lo
  put_first p e = rw (still, e) put.first

  put_units : (p : ℕ) → 8 * p ≡ i → cells_at map' p ≡ n
  put_units p e = rw (still, e) put.units

  other_first : (p : ℕ) → 8 * p ≢ i → first_at map' p ≡ first_at map p
  other_first p e =
      rw (still, entries) (same_four map map' (8 * p) (λ k a b. put.others k (λ l h. e (omega arith))))

  other_units : (p : ℕ) → 8 * p ≢ i → cells_at map' p ≡ cells_at map p
  other_units p e =
      rw (still, entries) (same_four map map' (8 * p + 4) (λ k a b. put.others k (λ l h. e (omega arith))))

  -- a place with cells is another one
  apart : (p : ℕ) → 0 < cells_at map p → 8 * p ≢ i
  apart p h e =
      let is : four_at map (8 * p + 4) ≡ 0 = ap (λ j. four_at map (j + 4)) e ∙ empty in
      let units : 0 < four_at map (8 * p + 4) = rw entries at h in
      omega arith

  entry_adds : Adds map map' lo n
  entry_adds u (p, l, m) out = go (ℕ_discrete (8 * p) i)
    where
      go : Dec (8 * p ≡ i) → Covers map u
      go (yes e) =
          let first = put_first p e in
          let units = put_units p e in
          absurd (out (omega arith) (omega arith))
      go (no e) =
          let first = other_first p e in
          let units = other_units p e in
          (p, omega arith, omega arith)

  entry_keeps : (k x : ℕ) → Next map k x → Next map' k x
  entry_keeps k x f =
      let there = f.units in
      let more-than = f.some in
      let away = apart f.place (omega arith) in
      let (low, before) = f.reached entries in
      let begin = home_still k in
      record {
        place = f.place;
        is = other_first f.place away ∙ f.is;
        units = other_units f.place away ∙ f.units;
        some = f.some;
        reached = λ e. (
          omega arith,
          λ q l h.
              let (full, unlike) = before q (omega arith) h in
              let off = apart q full in
              let same = other_units q off in
              (omega arith, λ is. unlike (sym (other_first q off) ∙ is)),
        );
      }

  -- the search for cell lo has met no empty place before
  module _ (begin : 8 * home (length map) lo ≤ i)
      (met : (q : ℕ) → home (length map) lo ≤ q → 8 * q < i → 0 < cells_at map q) where
    entry_bare : (p : ℕ) → Spare map lo p → Bare map' (p + 1)
    entry_bare p spare e q g =
        let (l, h, bare) = spare entries in
        other_units q (λ is. let full = met p l (omega arith) in omega (arith, bare p (omega arith)))
        ∙ bare q (omega arith)

    entry_leads : (Covers map lo → ⊥) → Leads map' lo (lo + n)
    entry_leads out =
        let place : 8 * (i / 8) ≡ i = omega arith in
        let at_home = home_still lo in
        more {k = lo} {n = n} (record {
          place = i / 8;
          is = put_first (i / 8) place;
          units = put_units (i / 8) place;
          some = some;
          reached = λ e. (
            omega arith,
            λ q l g.
                let full = met q (omega arith) (omega arith) in
                let off = apart q full in
                let same = other_units q off in (
                  omega arith,
                  λ is.
                      let first = sym (other_first q off) ∙ is in
                      out (q, omega arith, omega arith),
                ),
          );
        }) (here refl)

    pub entry_grows : Grows map map' lo n
    entry_grows = record {
      adds = entry_adds;
      keeps = λ k x o f. entry_keeps k x f;
      bare = entry_bare;
      leads = λ p spare out. entry_leads out;
    }

-- nothing is written where all places from the first on are taken
pub entry_full : (map : Words) (lo n p : ℕ) → length map / 8 ≤ p
    → ((q : ℕ) → home (length map) lo ≤ q → q < p → 0 < cells_at map q) → is_entries map ≡ true → Grows map map lo n
entry_full map lo n p end met entries =
    let none : (p : ℕ) → Spare map lo p → ⊥ =
    λ p spare.
    let (l, h, bare) = spare entries in
    let full = met p l (omega arith) in
    omega (arith, bare p (omega arith)) in
    record {
      adds = λ u k out. k;
      keeps = λ k x out f. f;
      bare = λ p spare. absurd (none p spare);
      leads = λ p spare. absurd (none p spare);
    }

-- no cells are noted
pub grows_none : (map : Words) (lo n : ℕ) → n ≡ 0 → Grows map map lo n
grows_none map lo n e = record {
  adds = λ u k out. k;
  keeps = λ k x out f. f;
  bare = λ p spare e q g. (spare e).2 q (omega arith);
  leads = λ p spare out. here {k = lo} (omega arith);
}

-- ---- a span that is read

-- where a search has come to an entry that begins with cell k, that says how many cells it has, and none if it is empty
pub search_told : {map : Words} {k p : ℕ} → is_entries map ≡ true → Reaches map k p → (n : ℕ)
    → four_at map (8 * p) ≡ k → n ≡ four_at map (8 * p + 4) → (x : ℕ) → Next map k x → n ≡ x
search_told {map} {k} {p} entries s n first units x f = go (ℕ_discrete n 0)
  where
    found : 0 < n → Next map k n
    found some = record {
      place = p;
      is = rw entries first;
      units = rw entries (sym units);
      some = some;
      reached = λ e. s;
    }

    empty : n ≡ 0 → Dec (f.place < p) → Dec (p < f.place) → ⊥
    empty z (yes l) d = (s.1 f.place (f.reached entries).0 l).1 f.is
    empty z (no l) (yes m) =
        let full : 0 < four_at map (8 * p + 4) = rw entries at ((f.reached entries).1 p s.0 m).0 in
        omega arith
    empty z (no l) (no m) =
        let same : f.place ≡ p = omega arith in
        let is : four_at map (8 * p + 4) ≡ x = rw (entries, same) at f.units in
        let some = f.some in
        omega arith

    go : Dec (n ≡ 0) → n ≡ x
    go (no some) = next_one (found (omega arith)) f
    go (yes z) = absurd (empty z (dec_lt f.place p) (dec_lt p f.place))
