-- The index follows a change of three control words: its segments are brought up to date one after another.
-- Assumes nothing.
use Prim.Native.Nat.{ℕ, ◌+◌, ◌*◌, ◌/◌, ◌<◌, ◌≤◌, min}
use native.Mathlib.Decide.{dec_lt, ℕ_discrete}
use native.Mathlib.Omega.{arith}
use mathlib.Core.Bool.{Bool, true, false, not, ◌&&◌, true≢false, and_self}
use mathlib.Core.List.{List}
use mathlib.Core.Logic.{◌≢◌, ◌⊎◌, inl, inr}
use mathlib.Core.Path.{◌≡◌, refl, sym, ap, subst, ◌∙◌}
use lib.Dec.{eqb, ltb}
use lib.IntN.{ℤ}
use lib.ListN.{length, get_or}
use Rattle.words.specs.Lists.{Words}
use Rattle.words.proofs.Tests.{and_l, and_r, not_true, not_false, eqb_eq, eqb_same, eqb_ne, eqb_false, lt_of}
use Rattle.words.proofs.Tests.{of_lt}
use Rattle.stored_forms.specs.Segments.{weight, first_block, segment_size}
use Rattle.segment_index.specs.Index.{index_of, Agree}
use Rattle.segment_index.specs.Tree.{Heap}
use Rattle.segment_index.proofs.IndexLaws.{length_index_of, index_zero, index_heap, index_agrees, index_is, agree_moves}
use Rattle.segment_index.proofs.RangeLaws.{first_found, first_either}
use Rattle.segment_index.proofs.SizeLaws.{segment_low, segment_high, segment_is, segment_in, segment_below}
use Rattle.segment_blocks.specs.Upkeep.{Ready, Refreshed, RefreshedIf, Touched}
use Rattle.segment_blocks.proofs.UpkeepLaws.{sizes_some, sizes_each, not_refreshed, is_refreshed}

-- t is the index of c but for the segments in D
pub record Pending (c : ℕ → ℤ) (W s : ℕ) (t : Words) (D : ℕ → Type 0) : Type 0 where
  pub heap : Heap s t
  pub long : length t ≡ 3 * s
  pub first : get_or t 0 0 ≡ 0
  pub agree : (k : ℕ) → k < s → (D k → ⊥) → Agree c W s t k

abbrev pub But : ℕ → (ℕ → Type 0) → ℕ → Type 0
But j D k = (k ≢ j) × D k

-- another segment is refreshed
agree_stays : (c : ℕ → ℤ) (W s : ℕ) (t u : Words) (k j : ℕ) → Refreshed c W s k t u → k < s → j < s → j ≢ k
    → Agree c W s t j → Agree c W s u j
agree_stays c W s t u k j r h i n a = record {
  leaf = r.rest (s + j) (omega arith) (omega arith) (omega arith) ∙ a.leaf;
  first = r.rest (2 * s + j) (omega arith) (omega arith) (omega arith) ∙ a.first;
}

pub step : (c : ℕ → ℤ) (W s : ℕ) (t u : Words) (D : ℕ → Type 0) (on : Bool) (j : ℕ) → (on ≡ true → j < s)
    → Pending c W s t D → RefreshedIf on c W s j t u → (on ≡ false → D j → ⊥) → Pending c W s u (But j D)
step c W s t u D true j h P R f =
    let r = R.done refl in
    record {
      heap = r.heap;
      long = r.same ∙ P.long;
      first = r.zero ∙ P.first;
      agree = λ k i n. go k i n (ℕ_discrete k j);
    }
  where
    go : (k : ℕ) → k < s → (But j D k → ⊥) → Dec (k ≡ j) → Agree c W s u k
    go k i n (yes e) = rw e (R.done refl).here
    go k i n (no e) = agree_stays c W s t u j k (R.done refl) (h refl) i e (P.agree k i (λ d. n (e, d)))
step c W s t u D false j h P R f =
    rw (R.kept refl)
    (record { heap = P.heap; long = P.long; first = P.first; agree = λ k i n. go k i n (ℕ_discrete k j) })
  where
    go : (k : ℕ) → k < s → (But j D k → ⊥) → Dec (k ≡ j) → Agree c W s t k
    go k i n (yes e) = P.agree k i (λ d. f refl (subst D e d))
    go k i n (no e) = P.agree k i (λ d. n (e, d))

module _ {b c : ℕ → ℤ} {v : List ℤ} {t : Words} {s g a p e end y : ℕ} (X : Touched b c v t s g a p e end y) where
  abbrev W : ℕ
  W = length v

  some : 0 < s
  some = sizes_some W s g X.sizes

  each_pos : 0 < g
  each_pos = sizes_each W s g X.sizes

  a_in : a < W
  a_in = omega (arith, X.low, X.mid, X.high, X.top)

  segment : (u k : ℕ) → k ≡ u / g → u < W → k < s
  segment u k i h = rw (i, X.sizes.each) (segment_in W s u some h)

  was_heap : Heap s t
  was_heap = rw X.was (index_heap b W s X.sizes.power)

  pub was_long : length t ≡ 3 * s
  was_long = rw X.was (length_index_of b W s)

  -- ---- the segment of a is scanned from its first block: the one it had, or the one at a

  module _ {ka : ℕ} (ia : ka ≡ a / g) where
    pub a_segment : ka < s
    a_segment = segment a ka ia a_in

    low : ka * g ≤ a
    low = rw ia (segment_low a g)

    high : a < ka * g + g
    high = rw ia (segment_high a g each_pos)

    now_first : min (get_or t (2 * s + ka) 0) a ≡ first_block c W (ka * g) g
    now_first =
        let was : get_or t (2 * s + ka) 0 ≡ first_block b W (ka * g) g =
        ap (λ (t : Words). get_or t (2 * s + ka) 0) X.was ∙ (index_agrees b W s ka a_segment).first
        ∙ rw X.sizes.each in
        rw was
        (first_either b c W (ka * g) g a low high (omega (arith, a_in)) X.after
        (λ u x y.
        X.same u (omega arith) (omega (arith, X.low)) (λ i. absurd (omega (arith, X.low, X.mid)))))

    pub ready_a : Ready v c t s g ka (min (get_or t (2 * s + ka) 0) a)
    ready_a =
        let (l, r) = first_found c W (ka * g) g a low high X.after in
        rw now_first
        (record {
          facing = record {
            sizes = X.sizes;
            is = a_segment;
            low = omega (arith, r.low);
            scan = record { blocks = X.blocks; inside = omega (arith, l, a_in); begins = λ h. r.begins };
            quiet = r.quiet;
          };
          heap = was_heap;
          long = was_long;
        })

  -- ---- the three segments

  module _ {ka kp ke : ℕ} (ia : ka ≡ a / g) (ip : kp ≡ p / g) (ie : ke ≡ e / g) where
    p_segment : kp < s
    p_segment = segment p kp ip (omega (arith, X.mid, X.high, X.top))

    e_segment : 0 < y → ke < s
    e_segment h = segment e ke ie (X.last h)

    -- the segments whose control words changed
    abbrev D : ℕ → Type 0
    D k = (k ≡ ka) ⊎ ((k ≡ kp) ⊎ ((k ≡ ke) × (0 < y)))

    untouched : (k : ℕ) → (D k → ⊥) → (u : ℕ) → k * segment_size W s ≤ u → u < k * segment_size W s + segment_size W s
        → weight (b u) ≡ weight (c u)
    untouched k n u h i =
        sym
        (X.same u (λ j. n (inl (at j ∙ sym ia))) (λ j. n (inr (inl (at j ∙ sym ip)))) (λ j. none j (dec_lt 0 y)))
      where
        at : {j : ℕ} → u ≡ j → k ≡ j / g
        at {j} l = sym (rw X.sizes.each (segment_is u (segment_size W s) k h i)) ∙ ap (λ (x : ℕ). x / g) l

        none : u ≡ e → Dec (0 < y) → y ≡ 0
        none j (yes q) = absurd (n (inr (inr (at j ∙ sym ie, q))))
        none j (no q) = omega arith

    pending : Pending c W s t D
    pending = record {
      heap = was_heap;
      long = was_long;
      first = rw X.was (index_zero b W s some);
      agree = λ k h n.
          rw X.was (agree_moves b c W s (index_of b W s) k (untouched k n) (index_agrees b W s k h));
    }

    -- any other changed segment than a's begins past a, and has no block before `end`
    ready_end : (u : Words) (D : ℕ → Type 0) → Pending c W s u D → (q k : ℕ) → k ≡ q / g → a ≤ q → q ≤ end → k < s
        → k ≢ ka → Ready v c u s g k end
    ready_end u D P q k z h i l n = record {
      facing = record {
        sizes = X.sizes;
        is = l;
        low = omega (arith, start);
        scan = record { blocks = X.blocks; inside = X.top; begins = X.begins };
        quiet = λ r x w. X.quiet r (omega (arith, past)) w;
      };
      heap = P.heap;
      long = P.long;
    }
      where
        start : k * g ≤ q
        start = rw z (segment_low q g)

        past : a < k * g
        past = rw z (segment_below a q g each_pos h (λ x. n (z ∙ x ∙ sym ia)))

    -- what the tests say
    abbrev on_p : Bool
    on_p = not (eqb kp ka)

    abbrev on_e : Bool
    on_e = ltb 0 y && (not (eqb ke ka) && not (eqb ke kp))

    off_p : on_p ≡ false → But ka D kp → ⊥
    off_p f d = d.0 (eqb_eq kp ka (not_false (eqb kp ka) f))

    e_facts : on_e ≡ true → (0 < y) × (ke ≢ ka)
    e_facts h =
        let apart = not (eqb ke ka) && not (eqb ke kp) in
        let other = and_l (not (eqb ke ka)) (not (eqb ke kp)) (and_r (ltb 0 y) apart h) in
        (lt_of 0 y (and_l (ltb 0 y) apart h), eqb_false ke ka (not_true (eqb ke ka) other))

    off_e : on_e ≡ false → But kp (But ka D) ke → ⊥
    off_e f (x, (z, inl d)) = z d
    off_e f (x, (z, inr (inl d))) = x d
    off_e f (x, (z, inr (inr d))) = true≢false (sym on ∙ f)
      where
        on : on_e ≡ true
        on = rw (of_lt 0 y d.1, eqb_ne ke ka z, eqb_ne ke kp x)

    -- ---- the three calls

    module _ {t₁ : Words} (r : Refreshed c W s ka t t₁) where
      after_a : Pending c W s t₁ (But ka D)
      after_a =
          step c W s t t₁ D true ka (λ i. a_segment ia) pending (is_refreshed true c W s ka t t₁ refl r)
          (λ i. absurd (true≢false i))

      pub ready_p : on_p ≡ true → Ready v c t₁ s g kp end
      ready_p i =
          ready_end t₁ (But ka D) after_a p kp ip X.low (omega (arith, X.mid, X.high)) p_segment
          (eqb_false kp ka (not_true (eqb kp ka) i))

      module _ {t₂ : Words} (q : RefreshedIf on_p c W s kp t₁ t₂) where
        after_p : Pending c W s t₂ (But kp (But ka D))
        after_p = step c W s t₁ t₂ (But ka D) on_p kp (λ i. p_segment) after_a q off_p

        pub ready_e : on_e ≡ true → Ready v c t₂ s g ke end
        ready_e i =
            let (l, n) = e_facts i in
            ready_end t₂ (But kp (But ka D)) after_p e ke ie (omega (arith, X.low, X.mid)) X.high (e_segment l) n

        pub reindexed : {t₃ : Words} → RefreshedIf on_e c W s ke t₂ t₃ → t₃ ≡ index_of c W s
        reindexed {t₃} z =
            let in_range : on_e ≡ true → ke < s = λ i. e_segment (e_facts i).0 in
            let P = step c W s t₂ t₃ (But kp (But ka D)) on_e ke in_range after_p z off_e in
            index_is c W s X.sizes.power t₃ P.long P.first P.heap (λ k h. P.agree k h (λ d. none k d))
          where
            none : (k : ℕ) → But ke (But kp (But ka D)) k → ⊥
            none k (x, (y, (z, inl d))) = z d
            none k (x, (y, (z, inr (inl d)))) = y d
            none k (x, (y, (z, inr (inr d)))) = x d.0

-- ---- a grant, where a is p and `end` is e: p's segment is not scanned twice

module _ {b c : ℕ → ℤ} {v : List ℤ} {t : Words} {s g p e y : ℕ} (X : Touched b c v t s g p p e e y) {kp ke : ℕ}
    (ip : kp ≡ p / g) (ie : ke ≡ e / g) {t₁ : Words} (r : Refreshed c (length v) s kp t t₁) where
  once : RefreshedIf (not (eqb kp kp)) c (length v) s kp t₁ t₁
  once = not_refreshed (not (eqb kp kp)) c (length v) s kp t₁ (ap not (eqb_same kp))

  pub ready_rest : (ltb 0 y && not (eqb ke kp)) ≡ true → Ready v c t₁ s g ke e
  ready_rest h = ready_e X ip ip ie r once (rw (and_self (not (eqb ke kp))) h)

  pub reindexed_grant : {t₂ : Words} → RefreshedIf (ltb 0 y && not (eqb ke kp)) c (length v) s ke t₁ t₂
      → t₂ ≡ index_of c (length v) s
  reindexed_grant z = reindexed X ip ip ie r once (rw (and_self (not (eqb ke kp))) z)
