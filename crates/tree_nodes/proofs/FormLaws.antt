-- The forms by their numbers, and each form's nodes by the words of their cells. 01, "Stored form of the tree pool";
-- 02, ticket 3. Assumes nothing.
use Prim.Native.Nat.{ℕ, zero, suc, ◌+◌, ◌-◌, ◌*◌, ◌/◌, ◌%◌, ◌≤◌, ◌<◌}
use native.Mathlib.Nat.{mul_comm, mod-lt, div-add-mod'}
use native.Mathlib.Numerals.{add-one}
use native.Mathlib.Omega.{arith}
use native.Mathlib.Decide.{ℕ_discrete}
use mathlib.Core.Path.{◌≡◌, refl, sym, ap, ◌∙◌}
use mathlib.Core.Logic.{◌≢◌}
use mathlib.Core.Bool.{Bool, true, false, cond}
use mathlib.Core.List.{◌∷◌, []}
use lib.Dec.{eqb}
use lib.ListN.{length, get_or, take, drop}
use lib.Seq.{drop-cons, get_or-take, get_or-drop}
use Rattle.words.specs.Lists.{Words, zero_at}
use Rattle.words.specs.Flags.{Says}
use Rattle.words.specs.Counted.{every}
use Rattle.words.proofs.Tests.{eqb_eq, eqb_ne}
use Rattle.words.proofs.CountedLaws.{every_at, every_of}
use Rattle.stored_forms.specs.Tree.{form_one, form_two, form_three, form_of, narrow, two_words, four_words}
use Rattle.stored_forms.specs.Tree.{length_at, left_at, right_at}
use Rattle.stored_forms.specs.Blocks.{Zeros}
use Rattle.stored_forms.proofs.NodeLaws.{each_form, readable}
use Rattle.tree_nodes.specs.Nodes.{NodeOnly, NodePut, NodeCleared}

-- ---- the forms

pub form_two_lem : (f : ℕ) → f ≡ 2 → form_of f ≡ form_two
unfolding form_of
form_two_lem f e = rw e

pub form_three_lem : (f : ℕ) → f ≡ 3 → form_of f ≡ form_three
unfolding form_of
form_three_lem f e = rw e

pub form_one_lem : (f : ℕ) → f ≢ 2 → f ≢ 3 → form_of f ≡ form_one
unfolding form_of
form_one_lem f two three = rw (eqb_ne f 2 two, eqb_ne f 3 three)

-- all but the second have the first's cells and nodes
pub form_narrow : (f : ℕ) → f ≢ 2 → form_of f ≡ narrow (form_of f).unit
unfolding form_of form_one form_three
form_narrow f e = rw (eqb_ne f 2 e) (go (eqb f 3))
  where
    go : (b : Bool) → cond b form_three form_one ≡ narrow (cond b form_three form_one).unit
    go true = refl
    go false = refl

-- which form has the number, for goals that a form's number decides
pub ruleset by_form = (form_one_lem, form_two_lem, form_three_lem, form_narrow)

pub link_zero : (f : ℕ) → 0 < (form_of f).links
unfolding form_one form_two form_three
link_zero = each_form (λ F. 0 < F.links) (omega arith) (omega arith) (omega arith)

-- a link fits a word
pub few_links : (f : ℕ) → (form_of f).links ≤ 4294967296
unfolding form_one form_two form_three
few_links = each_form (λ F. F.links ≤ 4294967296) (omega arith) (omega arith) (omega arith)

-- the words of the node of no cells with no links
zero_node : (f j : ℕ) → get_or ((form_of f).node 0 0 0) j 0 ≡ 0
unfolding form_one form_two form_three
zero_node = each_form (λ F. (j : ℕ) → get_or (F.node 0 0 0) j 0 ≡ 0) one two one
  where
    one : (j : ℕ) → get_or (two_words 0 0 0) j 0 ≡ 0
    one zero = refl
    one (suc zero) = refl
    one (suc (suc j)) = refl

    two : (j : ℕ) → get_or (four_words 0 0 0) j 0 ≡ 0
    two zero = refl
    two (suc zero) = refl
    two (suc (suc zero)) = refl
    two (suc (suc (suc zero))) = refl
    two (suc (suc (suc (suc j)))) = refl

pub put_cleared : (f : ℕ) {m m' : Words} {c : ℕ} → NodePut (form_of f) m m' c 0 0 0 → NodeCleared (form_of f) m m' c
put_cleared f {m} {m'} {c} put = record { zero = word; frame = put.frame; long = put.long }
  where
    word : (k : ℕ) → k / (form_of f).cell ≡ c → get_or m' k 0 ≡ 0
    word k e =
        let z = (form_of f).cell in
        let j = k % z in
        let at : z * c + j ≡ k = rw (sym e, mul_comm z (k / z)) (div-add-mod' k z) in
        ap (λ i. get_or m' i 0) (sym at)
        ∙ sym (get_or-take z (drop (z * c) m') j 0 (mod-lt k (readable f).cells) ∙ get_or-drop (z * c) m' j 0)
        ∙ ap (λ (ws : Words). get_or ws j 0) put.node ∙ zero_node f j

-- ---- cells by their words

pub two_cell : (m : Words) (c : ℕ) → 2 * c + 1 < length m
    → take 2 (drop (2 * c) m) ≡ get_or m (2 * c) 0 ∷ get_or m (2 * c + 1) 0 ∷ []
two_cell m c h = rw (drop-cons m (2 * c) 0 (omega arith), drop-cons m (suc (2 * c)) 0 (omega arith), add-one)

pub four_cell : (m : Words) (c : ℕ) → 4 * c + 3 < length m
    → take 4 (drop (4 * c) m)
    ≡ get_or m (4 * c) 0 ∷ get_or m (4 * c + 1) 0 ∷ get_or m (4 * c + 2) 0 ∷ get_or m (4 * c + 3) 0 ∷ []
four_cell m c h =
    rw (
      drop-cons m (4 * c) 0 (omega arith),
      drop-cons m (suc (4 * c)) 0 (omega arith),
      drop-cons m (suc (suc (4 * c))) 0 (omega arith),
      drop-cons m (suc (suc (suc (4 * c)))) 0 (omega arith),
    ) (λ i. get_or m (4 * c) 0 ∷ get_or m (one i) 0 ∷ get_or m (two i) 0 ∷ get_or m (three i) 0 ∷ [])
  where
    one : suc (4 * c) ≡ 4 * c + 1
    one = omega arith

    two : suc (suc (4 * c)) ≡ 4 * c + 2
    two = omega arith

    three : suc (suc (suc (4 * c))) ≡ 4 * c + 3
    three = omega arith

module _ (m : Words) (c : ℕ) (inside : c < length m / 4) where
  pub four_length : length_at form_two m c ≡ get_or m (4 * c) 0
  unfolding form_two
  four_length = ap (λ (ws : Words). get_or ws 0 0) (four_cell m c (omega arith))

  pub four_left : left_at form_two m c ≡ get_or m (4 * c + 1) 0
  unfolding form_two
  four_left = ap (λ (ws : Words). get_or ws 1 0) (four_cell m c (omega arith))

  pub four_right : right_at form_two m c ≡ get_or m (4 * c + 2) 0
  unfolding form_two
  four_right = ap (λ (ws : Words). get_or ws 2 0) (four_cell m c (omega arith))

-- ---- the blocks of a node

-- words that are zero, by the test of each
zeros_says : (m : Words) (lo hi : ℕ) → Says (every (zero_at m) lo (hi - lo)) (Zeros m lo hi)
zeros_says m lo hi = (
  (λ e i a b. eqb_eq (get_or m i 0) 0 (every_at (zero_at m) lo (hi - lo) e i a (omega arith))),
  λ z. every_of (zero_at m) lo (hi - lo) (λ i a b. rw (z i a (omega arith))),
)

module _ (m : Words) (c z : ℕ) (some : 1 ≤ z) where
  -- in the first form a cell reads as a node whatever stands in it
  pub two_clear : c + z ≤ length m / 2
      → Says (every (zero_at m) (2 * c + 2) (2 * (c + z) - (2 * c + 2))) (NodeOnly form_one m c z)
  unfolding form_one
  two_clear inside =
      let x = get_or m (2 * c) 0 in
      let y = get_or m (2 * c + 1) 0 in
      let whole : y ≡ y % 65536 + 65536 * (y / 65536) = omega arith in
      let cell = two_cell m c (omega arith) in
      let reads = cell ∙ ap (λ w. x ∷ w ∷ []) whole
      ∙ sym (ap (λ ws. two_words (get_or ws 0 0) (get_or ws 1 0 % 65536) (get_or ws 1 0 / 65536)) cell) in
      let (there, back) = zeros_says m (2 * c + 2) (2 * (c + z)) in
      ((λ e. (reads, λ i a b. there e i (omega arith) b)), λ k. back (λ i a b. k.1 i (omega arith) b))

  -- in the second its fourth word is 0
  pub four_clear : c + z ≤ length m / 4
      → Says (every (zero_at m) (4 * c + 3) (4 * (c + z) - (4 * c + 3))) (NodeOnly form_two m c z)
  unfolding form_two
  four_clear inside =
      let cell = four_cell m c (omega arith) in
      let (there, back) = zeros_says m (4 * c + 3) (4 * (c + z)) in
      let back-cell = sym (ap (λ (ws : Words). four_words (get_or ws 0 0) (get_or ws 1 0) (get_or ws 2 0)) cell) in (
        (λ e. (
          cell
              ∙ ap (λ w. get_or m (4 * c) 0 ∷ get_or m (4 * c + 1) 0 ∷ get_or m (4 * c + 2) 0 ∷ w ∷ [])
              (there e (4 * c + 3) (omega arith) (omega arith)) ∙ back-cell,
          λ i a b. there e i (omega arith) b,
        )),
        λ k.
            let last = sym (ap (λ (ws : Words). get_or ws 3 0) cell) ∙ ap (λ (ws : Words). get_or ws 3 0) k.0 in
            back (λ i a b. go i a b last k.1 (ℕ_discrete i (4 * c + 3))),
      )
    where
      go : (i : ℕ) → 4 * c + 3 ≤ i → i < 4 * (c + z) → get_or m (4 * c + 3) 0 ≡ 0
          → Zeros m (4 * suc c) (4 * (c + z)) → Dec (i ≡ 4 * c + 3) → get_or m i 0 ≡ 0
      go i a b last rest (yes e) = ap (λ j. get_or m j 0) e ∙ last
      go i a b last rest (no e) = rest i (omega arith) b
