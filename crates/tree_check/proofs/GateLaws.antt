-- The gate: the lent lengths, and when a pool is stored. Assumes nothing.
use Prim.Native.Nat.{ℕ, ◌%◌, ◌≤◌, ◌<◌}
use native.Mathlib.Omega.{arith}
use mathlib.Core.Path.{◌≡◌, refl, sym, ap, ◌∙◌}
use mathlib.Core.Bool.{Bool, true, false, ◌&&◌, and-true, true≢false}
use mathlib.Core.List.{[], ◌∷◌}
use lib.Dec.{eqb, leb}
use lib.ListN.{length, get_or}
use Rattle.words.specs.Lists.{Words}
use Rattle.words.proofs.Tests.{bool_iff, and_l, and_r, eqb_eq, le_of}
use Rattle.ledger.specs.Records.{Ledger, record_words, slots, records_of}
use Rattle.ledger.specs.Units.{valid, owned}
use Rattle.ledger.proofs.RecordLaws.{table_records}
use Rattle.stored_forms.specs.Tree.{Tree, link, Form, form_one, form_two, form_three, is_form, form_of}
use Rattle.stored_forms.specs.Tree.{form_rule, tree_range, free_tree}
use Rattle.stored_forms.specs.Blocks.{Holds}
use Rattle.stored_forms.proofs.NodeLaws.{each_form, readable}
use Rattle.stored_forms.proofs.FreeTreeLaws.{tree_range_lem, stamped, of_stamped}
use Rattle.calls.specs.Pool.{Pool, store, lengths, same_pool, stored}
use Rattle.calls.specs.Engines.{tree_engine}
use Rattle.calls.proofs.StoreLaws.{same_pool_eq, same_pool_same}
use Rattle.tree_check.specs.declared.Head.{Head}
use Rattle.tree_check.specs.Maps.{Shown}
use Rattle.words.specs.Flags.{Says}
use Rattle.tree_check.specs.Walk.{Linked}
use Rattle.tree_check.specs.Gate.{tree_pool}

-- ---- the lent lengths

-- what the tests of row 8 say
pub record InRange (F : Form) (m t : Words) : Type 0 where
  pub whole : length m % F.unit ≡ 0
  pub some : F.unit ≤ length m
  pub most : length m ≤ F.most
  pub fours : length t % record_words ≡ 0
  pub few : slots t ≤ 256

module _ (h : Head) (m t : Words) where
  -- x says that the form is known, y that its range has the arena, and the table has n slots
  pub lengths_are : (x y : Bool) (n : ℕ) → x ≡ is_form h.form → y ≡ tree_range (form_of h.form) (length m) → n ≡ slots t
      → ((((x && y) && eqb (length t % 4) 0) && leb 1 n) && leb n 256) ≡ lengths tree_engine (tree_pool h m t)
  unfolding lengths tree_engine
  lengths_are x y n ex ey en = rw (ex, ey, en) (sym (and-true _))

  pub in_range : lengths tree_engine (tree_pool h m t) ≡ true → InRange (form_of h.form) m t
  in_range right =
      let e = lengths_are (is_form h.form) (tree_range (form_of h.form) (length m)) (slots t) refl refl refl ∙ right in
      let range = tree_range_lem (form_of h.form) (length m) (search (and_l, and_r)) in
      record {
        whole = range.2;
        some = range.0;
        most = range.1;
        fours = eqb_eq (length t % record_words) 0 (search (and_l, and_r));
        few = le_of (slots t) 256 (search (and_l, and_r));
      }

-- in each form links reach every cell of the largest arena
pub all_linked : (f : ℕ) (m : Words) → length m ≤ (form_of f).most → length m % (form_of f).unit ≡ 0 → Linked (form_of f) m
unfolding form_one form_two form_three
all_linked =
    each_form (λ F. (m : Words) → length m ≤ F.most → length m % F.unit ≡ 0 → Linked F m)
    (λ m l e. (omega arith, omega arith, e)) (λ m l e. (omega arith, omega arith, e))
    (λ m l e. (omega arith, omega arith, e))

-- ---- the pool

module _ (h : Head) where
  abbrev F : Form
  F = form_of h.form

  -- b is what the check of the table says
  pub not_stored : (m t : Words) (b : Bool) → b ≡ valid (form_rule F) (length m) h.next (records_of t)
      → b ≡ false → false ≡ stored tree_engine (tree_pool h m t)
  unfolding stored tree_engine
  not_stored m t b e off = let bad = sym e ∙ off in sym (rw bad)

-- right lengths and a valid table
pub record Valid (F : Form) (next : ℕ) (m t : Words) : Type 0 where
  pub fit : InRange F m t
  pub good : valid (form_rule F) (length m) next (records_of t) ≡ true

module _ (h : Head) {m t : Words} (k : Valid (form_of h.form) h.next m t) where
  abbrev G : Form
  G = form_of h.form

  abbrev L : Ledger
  L = records_of t

  abbrev T : Tree
  T = free_tree G (length m) L

  abbrev p : Pool
  p = tree_pool h m t

  -- the tree of the ledger's free runs in the arena is what the stored form says of it, both ways
  holds_store : (link T ≡ h.root) × Holds G m T → p ≡ store tree_engine L h.next p
  unfolding store tree_engine
  holds_store lies =
      let keeps : (i : ℕ) → i < length m → owned (form_rule G) L i ≡ true → get_or m i 0 ≡ get_or m i 0 =
      λ i l o. refl in
      let arena = stamped G G.links (readable h.form) (length m) k.fit.whole L h.next k.good m m refl
      refl keeps lies.1 in
      let table = table_records t k.fit.fours in
      λ i. record {
        head = record { own = sym lies.0 i ∷ h.form ∷ []; next = h.next };
        shape = h.form;
        arena = arena i;
        table = sym table i;
        index = [];
      }

  store_holds : p ≡ store tree_engine L h.next p → (link T ≡ h.root) × Holds G m T
  unfolding store tree_engine
  store_holds e =
      let arena = ap (λ (q : Pool). q.arena) e in (
        sym (ap (λ (q : Pool). get_or q.head.own 0 0) e),
        (of_stamped G G.links (readable h.form) (length m) k.fit.whole L h.next k.good m m refl arena).2,
      )

  stored_same : stored tree_engine p ≡ same_pool p (store tree_engine L h.next p)
  unfolding stored tree_engine
  stored_same = let good = k.good in rw good

  pub shown_stored : (link T ≡ h.root) × Holds G m T → true ≡ stored tree_engine (tree_pool h m t)
  shown_stored lies = sym (stored_same ∙ ap (same_pool p) (sym (holds_store lies)) ∙ same_pool_same p)

  pub stored_shown : stored tree_engine (tree_pool h m t) ≡ true → (link T ≡ h.root) × Holds G m T
  stored_shown e = store_holds (same_pool_eq p (store tree_engine L h.next p) (sym stored_same ∙ e))

-- so the pool is stored exactly where that is shown
pub stored_is : (h : Head) (m t : Words) → InRange (form_of h.form) m t → (r : Bool) → Says r (Shown h m t)
    → r ≡ stored tree_engine (tree_pool h m t)
stored_is h m t fit r says =
    bool_iff r (stored tree_engine (tree_pool h m t))
    (λ e. let (good, linked, holds) = says.0 e in
    sym (shown_stored h (record { fit = fit; good = good }) (linked, holds)))
    (λ e. says.1 (go (valid (form_rule (form_of h.form)) (length m) h.next (records_of t)) refl e))
  where
    go : (b : Bool) → valid (form_rule (form_of h.form)) (length m) h.next (records_of t) ≡ b
        → stored tree_engine (tree_pool h m t) ≡ true → Shown h m t
    go true good e = let (linked, holds) = stored_shown h (record { fit = fit; good = good }) e in (good, linked, holds)
    go false bad e = absurd (true≢false (sym e ∙ sym (not_stored h m t false (sym bad) refl)))
