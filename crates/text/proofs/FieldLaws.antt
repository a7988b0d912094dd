-- Fields of a line: where the first tab is, and a step of the loop that reads numbers. Assumes nothing.
use Rattle.std.proofs.Common.{get_or, ℕ, zero, suc, ◌+◌, ◌<◌, ◌≡◌, Bool, true, false, cond, not, position, drop, List, [], ◌∷◌, ◌++◌, length, take, refl, sym, ap, ◌∙◌, one-add, ne_eqb, eq-eqb, arith}
use borrow.Author.Tests.{ltb-true, ltb-false, le-leb, lt-leb}
use Rattle.std.proofs.lemmas.Option.{cond_some}
use Rattle.std.specs.Prelude.{Option, Some, None, option_map, option_and_then, eqb, leb}
use Rattle.std.specs.List.{position_or_len}
use mathlib.Core.List.{append_assoc}
use Rattle.text.specs.Numbers.{Bytes, value_of}
use Rattle.text.specs.Fields.{tab_in, before_tab, after_tab, field_at, two, three, four, pair_of, triple_of, quad_of, with_more, numbers_of}

first_tab : (t : Bool) (n m : ℕ) → n ≡ m → cond (not t) (1 + n) 0 ≡ cond t 0 (suc m)
first_tab true n m e = refl
first_tab false n m e = one-add n ∙ ap suc e

pub tab_is : (s : Bytes) → position_or_len (λ b. eqb b 9) s ≡ tab_in s
unfolding tab_in
tab_is [] = refl
tab_is (b ∷ s) = first_tab (eqb b 9) _ _ (tab_is s)

-- the first tab, as the code finds it
is_false : (b : Bool) (x : ℕ) → cond b (Some x) None ≡ None → b ≡ false
is_false true x e = cc
is_false false x e = refl

module _ (s : Bytes) where
  abbrev found : Option ℕ
  found = position (λ b. eqb b 9) s

  pub no_tab : None ≡ found → None ≡ field_at false s
  no_tab e =
      let h = rw (tab_is s) at (ltb-false _ _ (is_false _ _ (sym e))) in
      simp (le-leb _ _ h)

  pub some_tab : (t : ℕ) → Some t ≡ found → Some (take t s, drop (t + 1) s) ≡ field_at false s
  some_tab t e =
      let p = cond_some _ _ _ (sym e) in
      let i : tab_in s ≡ t = sym (tab_is s) ∙ p.1 in
      let h : t < length s = rw p.1 at (ltb-true _ _ p.0) in
      simp (i, lt-leb _ _ h)

-- numbers before those of the fields that are left
abbrev pub joined : List ℕ → Option (List ℕ) → Option (List ℕ)
joined ns None = None
joined ns (Some more) = Some (ns ++ more)

pub joined_more : (ns : List ℕ) (n : ℕ) (more : Option (List ℕ)) → joined ns (with_more (Some n) more) ≡ joined (ns ++ n ∷ []) more
joined_more ns n None = refl
joined_more ns n (Some more) = ap Some (sym (append_assoc ns (n ∷ []) more))

-- a step of the loop that reads numbers, and its end
pub last_is : (i k n : ℕ) → k + (i + 1) ≡ n → eqb (i + 1) n ≡ eqb k 0
last_is i zero n e = eq-eqb (i + 1) n (omega arith)
last_is i (suc k) n e = ne_eqb (i + 1) n (λ z. omega arith) ∙ sym (ne_eqb (suc k) 0 (λ z. omega arith))

module _ (k : ℕ) (s : Bytes) where
  pub numbers_stop : None ≡ field_at (eqb k 0) s → numbers_of (suc k) s ≡ None
  unfolding numbers_of
  numbers_stop e = rw (← e)

  pub numbers_step : (f more : Bytes) → Some (f, more) ≡ field_at (eqb k 0) s
      → numbers_of (suc k) s ≡ with_more (value_of f) (numbers_of k more)
  unfolding numbers_of
  numbers_step f more e = rw (← e)

pub none_more : (n : Option ℕ) (more : Option (List ℕ)) → None ≡ n → with_more n more ≡ None
none_more n more e = rw (← e)

-- ---- two, three and four numbers

abbrev pub pair_list : ℕ × ℕ → List ℕ
pair_list p = p.0 ∷ p.1 ∷ []

abbrev pub triple_list : ℕ × ℕ × ℕ → List ℕ
triple_list p = p.0 ∷ p.1 ∷ p.2 ∷ []

abbrev pub quad_list : ℕ × ℕ × ℕ × ℕ → List ℕ
quad_list p = p.0 ∷ p.1 ∷ p.2 ∷ p.3 ∷ []

one_more : (a b : Option ℕ) → with_more a (with_more b (Some [])) ≡ option_map pair_list (two a b)
one_more None b = refl
one_more (Some x) None = refl
one_more (Some x) (Some y) = refl

two_more : (a : Option ℕ) (b : Option (ℕ × ℕ)) → with_more a (option_map pair_list b) ≡ option_map triple_list (three a b)
two_more None b = refl
two_more (Some x) None = refl
two_more (Some x) (Some (y, z)) = refl

three_more : (a : Option ℕ) (b : Option (ℕ × ℕ × ℕ)) → with_more a (option_map triple_list b) ≡ option_map quad_list (four a b)
three_more None b = refl
three_more (Some x) None = refl
three_more (Some x) (Some (y, z, w)) = refl

at_tab : {A B : Type 0} (f : A → Option B) (t : Bool) (x : A) → option_and_then f (cond t None (Some x)) ≡ cond t None (f x)
at_tab f true x = refl
at_tab f false x = refl

numbers_more : (k : ℕ) (s : Bytes) → numbers_of (suc (suc k)) s
    ≡ cond (leb (length s) (tab_in s)) None (with_more (value_of (before_tab s)) (numbers_of (suc k) (after_tab s)))
unfolding numbers_of
numbers_more k s =
    let more : Bytes × Bytes → Option (List ℕ) = λ f. with_more (value_of f.0) (numbers_of (suc k) f.1) in
    rw (ne_eqb (suc k) 0 (λ e. omega arith)) (at_tab more (leb (length s) (tab_in s)) (before_tab s, after_tab s))

mapped : {A B : Type 0} (f : A → B) (t : Bool) (x : Option A) → cond t None (option_map f x) ≡ option_map f (cond t None x)
mapped f true x = refl
mapped f false x = refl

pub pair_is : (s : Bytes) → numbers_of 2 s ≡ option_map pair_list (pair_of s)
unfolding numbers_of pair_of
pair_is s =
    let t = leb (length s) (tab_in s) in
    let a = value_of (before_tab s) in
    let b = value_of (after_tab s) in
    numbers_more 0 s ∙ ap (λ x. cond t None x) (one_more a b) ∙ mapped pair_list t (two a b)

pub triple_is : (s : Bytes) → numbers_of 3 s ≡ option_map triple_list (triple_of s)
unfolding triple_of
triple_is s =
    let t = leb (length s) (tab_in s) in
    let a = value_of (before_tab s) in
    let b = pair_of (after_tab s) in
    numbers_more 1 s ∙ ap (λ x. cond t None (with_more a x)) (pair_is (after_tab s)) ∙ ap (λ x. cond t None x) (two_more a b)
    ∙ mapped triple_list t (three a b)

pub quad_is : (s : Bytes) → numbers_of 4 s ≡ option_map quad_list (quad_of s)
unfolding quad_of
quad_is s =
    let t = leb (length s) (tab_in s) in
    let a = value_of (before_tab s) in
    let b = triple_of (after_tab s) in
    numbers_more 2 s ∙ ap (λ x. cond t None (with_more a x)) (triple_is (after_tab s)) ∙ ap (λ x. cond t None x) (three_more a b)
    ∙ mapped quad_list t (four a b)

-- ---- what was read, by what the code answers

was_none : {A B : Type 0} (f : A → B) (o : Option A) → None ≡ option_map f o → o ≡ None
was_none f None e = refl
was_none f (Some x) e = cc

was_pair : (o : Option (ℕ × ℕ)) (ns : List ℕ) → Some ns ≡ option_map pair_list o → o ≡ Some (get_or ns 0 0, get_or ns 1 0)
was_pair None ns e = cc
was_pair (Some (x, y)) ns e = let q : ns ≡ x ∷ y ∷ [] = cc in rw q

was_triple : (o : Option (ℕ × ℕ × ℕ)) (ns : List ℕ) → Some ns ≡ option_map triple_list o
    → o ≡ Some (get_or ns 0 0, get_or ns 1 0, get_or ns 2 0)
was_triple None ns e = cc
was_triple (Some (x, y, z)) ns e = let q : ns ≡ x ∷ y ∷ z ∷ [] = cc in rw q

was_quad : (o : Option (ℕ × ℕ × ℕ × ℕ)) (ns : List ℕ) → Some ns ≡ option_map quad_list o
    → o ≡ Some (get_or ns 0 0, get_or ns 1 0, get_or ns 2 0, get_or ns 3 0)
was_quad None ns e = cc
was_quad (Some (w, x, y, z)) ns e = let q : ns ≡ w ∷ x ∷ y ∷ z ∷ [] = cc in rw q

module _ (s : Bytes) where
  pub pair_none : None ≡ numbers_of 2 s → pair_of s ≡ None
  pair_none e = was_none pair_list (pair_of s) (e ∙ pair_is s)

  pub triple_none : None ≡ numbers_of 3 s → triple_of s ≡ None
  triple_none e = was_none triple_list (triple_of s) (e ∙ triple_is s)

  pub quad_none : None ≡ numbers_of 4 s → quad_of s ≡ None
  quad_none e = was_none quad_list (quad_of s) (e ∙ quad_is s)

  module _ (ns : List ℕ) where
    pub pair_some : Some ns ≡ numbers_of 2 s → pair_of s ≡ Some (get_or ns 0 0, get_or ns 1 0)
    pair_some e = was_pair (pair_of s) ns (e ∙ pair_is s)

    pub triple_some : Some ns ≡ numbers_of 3 s → triple_of s ≡ Some (get_or ns 0 0, get_or ns 1 0, get_or ns 2 0)
    triple_some e = was_triple (triple_of s) ns (e ∙ triple_is s)

    pub quad_some : Some ns ≡ numbers_of 4 s → quad_of s ≡ Some (get_or ns 0 0, get_or ns 1 0, get_or ns 2 0, get_or ns 3 0)
    quad_some e = was_quad (quad_of s) ns (e ∙ quad_is s)
