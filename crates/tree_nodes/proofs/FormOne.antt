-- The first form by words: word 0 of a cell is its node's length, and word 1 its links. 01, "Stored form of the tree
-- pool". Assumes nothing.
use Prim.Native.Nat.{ℕ, zero, suc, ◌+◌, ◌*◌, ◌/◌, ◌%◌, ◌<◌}
use native.Mathlib.Omega.{arith}
use mathlib.Core.Path.{◌≡◌, sym, ap, ◌∙◌}
use mathlib.Core.Logic.{◌≢◌}
use lib.ListN.{length, get_or, take, drop, set, length-set, length-drop}
use lib.Seq.{length-take-le, get_or-take, get_or-drop, ext_get_or, get_or-set_same, get_or-set_other, set-get_or}
use Rattle.words.specs.Lists.{Words}
use Rattle.stored_forms.specs.Tree.{form_one, two_words, length_at, left_at, right_at}
use Rattle.stored_forms.specs.Blocks.{Zeros}
use Rattle.tree_nodes.specs.Nodes.{cells, NodePut}

cell_word : (m : Words) (c j : ℕ) → j < 2 → get_or (take 2 (drop (2 * c) m)) j 0 ≡ get_or m (2 * c + j) 0
cell_word m c j h = get_or-take 2 (drop (2 * c) m) j 0 h ∙ get_or-drop (2 * c) m j 0

word_zero : (m : Words) (c : ℕ) → get_or m (2 * c + 0) 0 ≡ get_or m (2 * c) 0
word_zero m c = ap (λ k. get_or m k 0) (omega arith)

module _ (m : Words) (c : ℕ) where
  pub one_length : length_at form_one m c ≡ get_or m (2 * c) 0
  unfolding form_one
  one_length = cell_word m c 0 (omega arith) ∙ word_zero m c

  pub one_left : left_at form_one m c ≡ get_or m (2 * c + 1) 0 % 65536
  unfolding form_one
  one_left = ap (λ w. w % 65536) (cell_word m c 1 (omega arith))

  pub one_right : right_at form_one m c ≡ get_or m (2 * c + 1) 0 / 65536
  unfolding form_one
  one_right = ap (λ w. w / 65536) (cell_word m c 1 (omega arith))

  module _ (inside : c < cells form_one m) where
    pub one_in : 2 * c + 1 < length m
    unfolding form_one
    one_in = omega arith

    module _ (v w : ℕ) where
      abbrev stored : Words
      stored = set (set m (2 * c) v) (2 * c + 1) w

      stored_other : (d : ℕ) → d ≢ c → (k : ℕ) → k / 2 ≡ d → get_or stored k 0 ≡ get_or m k 0
      stored_other d h k e =
          get_or-set_other (set m (2 * c) v) (2 * c + 1) k w 0 (λ z. omega arith)
          ∙ get_or-set_other m (2 * c) k v 0 (λ z. omega arith)

      stored_long : length stored ≡ length m
      stored_long = simp length-set

      stored_first : get_or stored (2 * c) 0 ≡ v
      stored_first =
          get_or-set_other (set m (2 * c) v) (2 * c + 1) (2 * c) w 0 (λ z. omega arith)
          ∙ get_or-set_same m (2 * c) v 0 (omega (arith, one_in))

      stored_second : get_or stored (2 * c + 1) 0 ≡ w
      stored_second = get_or-set_same (set m (2 * c) v) (2 * c + 1) w 0 (simp length-set one_in)

    pub one_put : (n l r : ℕ) → NodePut form_one m (set (set m (2 * c) n) (2 * c + 1) (l + 65536 * r)) c n l r
    unfolding form_one
    one_put n l r =
        let w = l + 65536 * r in
        let m' = stored n w in
        let long : length (take 2 (drop (2 * c) m')) ≡ 2 =
        length-take-le 2 (drop (2 * c) m') (rw (length-drop (2 * c) m', stored_long n w) (omega (arith, one_in))) in
        record {
          node = ext_get_or 0 (take 2 (drop (2 * c) m')) (two_words n l r) long (λ j h. word j (omega arith));
          frame = stored_other n w;
          long = stored_long n w;
        }
      where
        word : (j : ℕ) → j < 2
            → get_or (take 2 (drop (2 * c) (stored n (l + 65536 * r)))) j 0 ≡ get_or (two_words n l r) j 0
        word zero h =
            cell_word (stored n (l + 65536 * r)) c 0 h ∙ word_zero (stored n (l + 65536 * r)) c
            ∙ stored_first n (l + 65536 * r)
        word (suc zero) h = cell_word (stored n (l + 65536 * r)) c 1 h ∙ stored_second n (l + 65536 * r)
        word (suc (suc j)) h = absurd (omega arith)

    -- the node of a cell that was zero, with no links: they lie there already
    pub one_put_bare : (n l r : ℕ) → Zeros m (form_one.cell * c) (form_one.cell * suc c) → l ≡ 0 → r ≡ 0
        → NodePut form_one m (set m (2 * c) n) c n l r
    unfolding form_one
    one_put_bare n l r zeros el er =
        let m₁ = set m (2 * c) n in
        let bare : l + 65536 * r ≡ get_or m₁ (2 * c + 1) 0 =
        rw (el, er) (sym (get_or-set_other m (2 * c) (2 * c + 1) n 0 (λ z. omega arith)
        ∙ zeros (2 * c + 1) (omega arith) (omega arith))) in
        rw (bare, set-get_or m₁ (2 * c + 1) 0) at (one_put n l r)

    pub one_set_left : (l : ℕ)
        → NodePut form_one m (set m (2 * c + 1) (l + 65536 * (get_or m (2 * c + 1) 0 / 65536))) c (length_at form_one m c) l
        (right_at form_one m c)
    one_set_left l =
        rw (one_length, one_right)
        (rw (set-get_or m (2 * c) 0) at (one_put (get_or m (2 * c) 0) l (get_or m (2 * c + 1) 0 / 65536)))

    pub one_set_right : (r : ℕ)
        → NodePut form_one m (set m (2 * c + 1) (get_or m (2 * c + 1) 0 % 65536 + 65536 * r)) c (length_at form_one m c)
        (left_at form_one m c) r
    one_set_right r =
        rw (one_length, one_left)
        (rw (set-get_or m (2 * c) 0) at (one_put (get_or m (2 * c) 0) (get_or m (2 * c + 1) 0 % 65536) r))
