-- Laws of memory that is set by its places: `stamp` and `wiped`. Assumes nothing.
use Prim.Native.Nat.{ℕ, zero, suc, ◌+◌, ◌-◌, ◌≤◌, ◌<◌}
use native.Mathlib.Nat.{add-zero, zero-add, add-suc, suc-add, not-suc-le-zero, le_of_suc-le-suc}
use native.Mathlib.Decide.{dec_le}
use native.Mathlib.Omega.{arith}
use mathlib.Core.Path.{◌≡◌, refl, sym, ap, ap₂, ◌∙◌}
use mathlib.Core.Bool.{Bool, true, false, cond, not}
use mathlib.Core.List.{List, [], ◌∷◌, ◌++◌, map, append_assoc}
use borrow.Rule.Slice.PartMut.{mid_of, put_mid, mid_len}
use lib.ListN.{length, get_or, take, drop, replicate}
use lib.ListN.{length-append, length-drop, length-replicate, get_or-replicate, get_or-append}
use lib.Seq.{drop-drop, length-take-le, ext_get_or}
use lib.Seq.{get_or-append-add, get_or-take, get_or-drop}
use Rattle.words.specs.Counted.{within, outside}
use Rattle.words.specs.Places.{stamp_from, stamp, constant, wiped}
use Rattle.words.proofs.Tests.{within_in, within_low, within_high}

module _ {A : Type 0} where
  cons_same : {x y : A} {a b : List A} → x ≡ y → a ≡ b → x ∷ a ≡ y ∷ b
  cons_same p q = ap₂ (λ (c : A) (l : List A). c ∷ l) p q

  -- ---- a stamp that starts at place i

  length_stamp_from : (o : ℕ → Bool) (v : ℕ → A) (i : ℕ) (a : List A) → length (stamp_from o v i a) ≡ length a
  length_stamp_from o v i [] = refl
  length_stamp_from o v i (x ∷ a) = ap suc (length_stamp_from o v (suc i) a)

  stamp_from_twice : (o₁ o₂ : ℕ → Bool) (v₁ v₂ : ℕ → A) → ((i : ℕ) → o₂ i ≡ true → o₁ i ≡ true)
      → (i : ℕ) (a : List A) → stamp_from o₂ v₂ i (stamp_from o₁ v₁ i a) ≡ stamp_from o₂ v₂ i a
  stamp_from_twice o₁ o₂ v₁ v₂ h i [] = refl
  stamp_from_twice o₁ o₂ v₁ v₂ h i (x ∷ a) = cons_same (go (o₂ i) refl) (stamp_from_twice o₁ o₂ v₁ v₂ h (suc i) a)
    where
      go : (b : Bool) → o₂ i ≡ b → cond (o₂ i) (cond (o₁ i) x (v₁ i)) (v₂ i) ≡ cond (o₂ i) x (v₂ i)
      go true e = rw e (rw (h i e))
      go false e = rw e

  stamp_from_keeps : (o : ℕ → Bool) (v : ℕ → A) (i : ℕ) (a : List A) (k : ℕ) (d : A) → o (i + k) ≡ true
      → get_or (stamp_from o v i a) k d ≡ get_or a k d
  stamp_from_keeps o v i [] k d h = refl
  stamp_from_keeps o v i (x ∷ a) zero d h = rw (rw add-zero at h)
  stamp_from_keeps o v i (x ∷ a) (suc k) d h = stamp_from_keeps o v (suc i) a k d (rw suc-add (rw add-suc at h))

  stamp_from_sets : (o : ℕ → Bool) (v : ℕ → A) (i : ℕ) (a : List A) (k : ℕ) (d : A) → k < length a → o (i + k) ≡ false
      → get_or (stamp_from o v i a) k d ≡ v (i + k)
  stamp_from_sets o v i [] k d l h = absurd (not-suc-le-zero l)
  stamp_from_sets o v i (x ∷ a) zero d l h = rw add-zero (rw (rw add-zero at h))
  stamp_from_sets o v i (x ∷ a) (suc k) d l h =
      rw (add-suc, ← suc-add) (stamp_from_sets o v (suc i) a k d (le_of_suc-le-suc l) (rw suc-add (rw add-suc at h)))

  -- ---- a stamp of a whole list

  pub length_stamp : (o : ℕ → Bool) (v : ℕ → A) (a : List A) → length (stamp o v a) ≡ length a
  length_stamp o v a = length_stamp_from o v 0 a

  -- a second stamp that keeps no more than the first covers it
  pub stamp_twice : (o₁ o₂ : ℕ → Bool) (v₁ v₂ : ℕ → A) → ((i : ℕ) → o₂ i ≡ true → o₁ i ≡ true)
      → (a : List A) → stamp o₂ v₂ (stamp o₁ v₁ a) ≡ stamp o₂ v₂ a
  stamp_twice o₁ o₂ v₁ v₂ h a = stamp_from_twice o₁ o₂ v₁ v₂ h 0 a

  pub stamp_keeps : (o : ℕ → Bool) (v : ℕ → A) (a : List A) (k : ℕ) (d : A) → o k ≡ true
      → get_or (stamp o v a) k d ≡ get_or a k d
  stamp_keeps o v a k d h = stamp_from_keeps o v 0 a k d (rw zero-add h)

  pub stamp_sets : (o : ℕ → Bool) (v : ℕ → A) (a : List A) (k : ℕ) (d : A) → k < length a → o k ≡ false
      → get_or (stamp o v a) k d ≡ v k
  stamp_sets o v a k d l h = stamp_from_sets o v 0 a k d l (rw zero-add h) ∙ rw zero-add

  pub stamp_is : (o : ℕ → Bool) (v : ℕ → A) (a b : List A) (d : A) → length b ≡ length a
      → ((i : ℕ) → i < length a → o i ≡ true → get_or b i d ≡ get_or a i d)
      → ((i : ℕ) → i < length a → o i ≡ false → get_or b i d ≡ v i)
      → b ≡ stamp o v a
  stamp_is o v a b d e h k =
      ext_get_or d b (stamp o v a) (e ∙ sym (length_stamp o v a)) (λ i l. go i (rw e at l) (o i) refl)
    where
      go : (i : ℕ) → i < length a → (c : Bool) → o i ≡ c → get_or b i d ≡ get_or (stamp o v a) i d
      go i l true q = h i l q ∙ sym (stamp_keeps o v a i d q)
      go i l false q = k i l q ∙ sym (stamp_sets o v a i d l q)

  stamp_from_same : (o p : ℕ → Bool) (v w : ℕ → A) (i : ℕ) (a : List A)
      → ((k : ℕ) → k < length a → o (i + k) ≡ p (i + k)) → ((k : ℕ) → k < length a → v (i + k) ≡ w (i + k))
      → stamp_from o v i a ≡ stamp_from p w i a
  stamp_from_same o p v w i [] h k = refl
  stamp_from_same o p v w i (x ∷ a) h k =
      cons_same (rw (rw add-zero at (h 0 (omega arith)), rw add-zero at (k 0 (omega arith))))
      (stamp_from_same o p v w (suc i) a (λ j l. rw (suc-add, ← add-suc) (h (suc j) (omega arith)))
      (λ j l. rw (suc-add, ← add-suc) (k (suc j) (omega arith))))

  pub stamp_same : (o p : ℕ → Bool) (v w : ℕ → A) (a : List A)
      → ((k : ℕ) → k < length a → o k ≡ p k) → ((k : ℕ) → k < length a → v k ≡ w k)
      → stamp o v a ≡ stamp p w a
  stamp_same o p v w a h k = stamp_from_same o p v w 0 a (λ j l. rw zero-add (h j l)) (λ j l. rw zero-add (k j l))

  pub stamp_none : (o : ℕ → Bool) (v : ℕ → A) (a : List A) → ((k : ℕ) → k < length a → o k ≡ true) → stamp o v a ≡ a
  stamp_none o v a h = stamp_same o (λ k. true) v v a h (λ k l. refl) ∙ go 0 a
    where
      go : (i : ℕ) (a : List A) → stamp_from (λ k. true) v i a ≡ a
      go i [] = refl
      go i (x ∷ a) = cons_same refl (go (suc i) a)

  -- ---- a wiped part

  pub length_wiped : (z : A) (lo hi : ℕ) (a : List A) → length (wiped z lo hi a) ≡ length a
  unfolding wiped
  length_wiped z lo hi a = length_stamp (outside lo hi) (constant z) a

  pub wiped_in : (z : A) (lo hi : ℕ) (a : List A) (k : ℕ) (d : A) → lo ≤ k → k < hi → k < length a
      → get_or (wiped z lo hi a) k d ≡ z
  unfolding wiped
  wiped_in z lo hi a k d h l m = stamp_sets (outside lo hi) (constant z) a k d m (ap not (within_in lo hi k h l))

  pub wiped_out : (z : A) (lo hi : ℕ) (a : List A) (k : ℕ) (d : A) → within lo hi k ≡ false
      → get_or (wiped z lo hi a) k d ≡ get_or a k d
  unfolding wiped
  wiped_out z lo hi a k d e = stamp_keeps (outside lo hi) (constant z) a k d (ap not e)

  pub wiped_part : (z : A) (lo hi : ℕ) (a : List A) → lo ≤ hi → hi ≤ length a
      → wiped z lo hi a ≡ take lo a ++ replicate (hi - lo) z ++ drop hi a
  wiped_part z lo hi a h l =
      ext_get_or z (wiped z lo hi a) (front ++ drop hi a)
      (length_wiped z lo hi a ∙ omega (arith, length-append front (drop hi a), length-drop hi a, long))
      (λ k m. go k (rw length_wiped at m) (dec_le lo k) (dec_le hi k))
    where
      front : List A
      front = take lo a ++ replicate (hi - lo) z

      first : length (take lo a) ≡ lo
      first = length-take-le lo a (omega arith)

      long : length front ≡ hi
      long = length-append (take lo a) (replicate (hi - lo) z) ∙ rw (first, length-replicate) (omega arith)

      go : (k : ℕ) → k < length a → Dec (lo ≤ k) → Dec (hi ≤ k)
          → get_or (wiped z lo hi a) k z ≡ get_or (front ++ drop hi a) k z
      go k m (no x) y =
          wiped_out z lo hi a k z (within_low lo hi k (omega arith))
          ∙ sym (get_or-append front (drop hi a) z k (omega (arith, long))
          ∙ get_or-append (take lo a) (replicate (hi - lo) z) z k (omega (arith, first))
          ∙ get_or-take lo a k z (omega arith))
      go k m (yes x) (no y) =
          let q : length (take lo a) + (k - lo) ≡ k = omega (arith, first) in
          wiped_in z lo hi a k z x (omega arith) m
          ∙ sym (get_or-append front (drop hi a) z k (omega (arith, long))
          ∙ ap (λ j. get_or front j z) (sym q) ∙ get_or-append-add (take lo a) (replicate (hi - lo) z) (k - lo) z
          ∙ get_or-replicate (hi - lo) (k - lo) z z (omega arith))
      go k m (yes x) (yes y) =
          let q : length front + (k - hi) ≡ k = omega (arith, long) in
          let r : hi + (k - hi) ≡ k = omega arith in
          wiped_out z lo hi a k z (within_high lo hi k y)
          ∙ sym (ap (λ j. get_or (front ++ drop hi a) j z) (sym q) ∙ get_or-append-add front (drop hi a) (k - hi) z
          ∙ get_or-drop hi a (k - hi) z ∙ ap (λ j. get_or a j z) r)

  -- what a write of one value to a part leaves
  pub wiped_put : (z : A) (lo hi : ℕ) (a b : List A) → lo ≤ hi → hi ≤ length a
      → b ≡ replicate (length (mid_of lo (hi - lo) a)) z → put_mid lo (hi - lo) a b ≡ wiped z lo hi a
  wiped_put z lo hi a b h l e =
      let n : lo + (hi - lo) ≡ hi = omega arith in
      rw (e, mid_len lo hi a l, drop-drop (hi - lo) lo a, n, ← append_assoc) (sym (wiped_part z lo hi a h l))

module _ {A B : Type 0} (g : A → B) where
  map_stamp_from : (o : ℕ → Bool) (v : ℕ → A) (i : ℕ) (a : List A)
      → map g (stamp_from o v i a) ≡ stamp_from o (λ k. g (v k)) i (map g a)
  map_stamp_from o v i [] = refl
  map_stamp_from o v i (x ∷ a) = cons_same (go (o i)) (map_stamp_from o v (suc i) a)
    where
      go : (b : Bool) → g (cond b x (v i)) ≡ cond b (g x) (g (v i))
      go true = refl
      go false = refl

  pub map_stamp : (o : ℕ → Bool) (v : ℕ → A) (a : List A) → map g (stamp o v a) ≡ stamp o (λ k. g (v k)) (map g a)
  map_stamp o v a = map_stamp_from o v 0 a

  pub map_wiped : (z : A) (lo hi : ℕ) (a : List A) → map g (wiped z lo hi a) ≡ wiped (g z) lo hi (map g a)
  unfolding wiped
  map_wiped z lo hi a = map_stamp (outside lo hi) (constant z) a
