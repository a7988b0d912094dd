-- What the walk of the tree finds, no tree or a node between two parts; and that it finds each that lies there. Assumes
-- nothing.
use Prim.Native.Nat.{ℕ, suc, ◌+◌, ◌≤◌, ◌<◌}
use native.Mathlib.Decide.{dec_le}
use native.Mathlib.Omega.{arith}
use mathlib.Core.Path.{◌≡◌, refl, sym, ap, ◌∙◌, subst}
use mathlib.Core.Bool.{true, false, false≢true}
use mathlib.Core.List.{List, [], ◌∷◌, ◌++◌}
use lib.ListN.{length, length-append}
use Rattle.words.specs.Lists.{Words, all}
use Rattle.words.specs.Counted.{within}
use Rattle.words.proofs.Tests.{and_l, or_l, or_r, le_of, lt_of, of_lt, within_in}
use Rattle.words.proofs.ListLaws.{all_imp, all_append_r}
use Rattle.ledger.proofs.RunLaws.{covered_append}
use Rattle.ledger.specs.Runs.{Run, run, Gapped, covered}
use Rattle.stored_forms.specs.Tree.{Tree, leaf, node, link, inorder, no_longer_than, Form}
use Rattle.stored_forms.specs.Tree.{length_at, left_at, right_at}
use Rattle.stored_forms.proofs.NodeLaws.{Readable, holds_reads}
use Rattle.tree_nodes.specs.Nodes.{NodeOnly}
use Rattle.record_table.specs.Partition.{total}
use Rattle.record_table.proofs.PartitionLaws.{total_append}
use Rattle.tree_check.specs.Maps.{Covers}
use Rattle.tree_check.specs.Walk.{earliest, under, Ready, Between, NodeFollows, Walked}
use Rattle.tree_check.specs.Walk.{Apart, ends, LiesAt, Passes}
use Rattle.tree_check.proofs.LeadLaws.{leads_cover}
use Rattle.tree_check.proofs.GapLaws.{gapped_join}
use Rattle.tree_check.proofs.LimitLaws.{node_heaped, node_short}

-- ---- what is found

module _ {F : Form} {m map : Words} {N : ℕ} where
  -- no tree at the link 0
  pub none_found : {l limit k before : ℕ} → l ≡ 0 → k ≤ N → before ≤ k
      → Walked F m map N l limit k before k before
  none_found e h f = record {
    tree = leaf;
    linked = sym e;
    holds = tt;
    heaped = tt;
    short = refl;
    gapped = tt;
    onward = omega arith;
    inside = h;
    size = omega arith;
    few = f;
    known = λ u a b c. absurd (omega arith);
  }

  module _ {c z lf rt limit k before next sum last free : ℕ} (ez : z ≡ length_at F m c)
      (el : lf ≡ left_at F m c) (er : rt ≡ right_at F m c) (fit : Between k N limit c z)
      (x : Walked F m map N lf z k before next sum) (inner : next ≤ c) (p : NodeFollows F m map next c z)
      (y : Walked F m map N rt (z + 1) (c + z) (sum + z) last free) where
    abbrev q : Run
    q = run c z

    abbrev a : Tree
    a = x.tree

    abbrev b : Tree
    b = y.tree

    -- a cell in none of the runs lies before the node, or behind it
    join_known : (u : ℕ) → k ≤ u → u < last → covered (inorder (node a q b)) u ≡ false → Covers map u
    join_known u lo hi e =
        let parts = sym (covered_append (inorder a) (q ∷ inorder b) u) ∙ e in
        let left = or_l (covered (inorder a) u) (covered (q ∷ inorder b) u) parts in
        let behind = or_r (covered (inorder a) u) (covered (q ∷ inorder b) u) parts in
        let own = or_l (within c (c + z) u) (covered (inorder b) u) behind in
        let right = or_r (within c (c + z) u) (covered (inorder b) u) behind in
        go left own right (dec_le next u) (dec_le c u) (dec_le (c + z) u)
      where
        go : covered (inorder a) u ≡ false → within c (c + z) u ≡ false → covered (inorder b) u ≡ false
            → Dec (next ≤ u) → Dec (c ≤ u) → Dec (c + z ≤ u) → Covers map u
        go left own right (no s) d f = x.known u lo (omega arith) left
        go left own right (yes s) (no d) f = leads_cover p.led u s (omega arith)
        go left own right (yes s) (yes d) (no f) = absurd (false≢true (sym own ∙ within_in c (c + z) u d (omega arith)))
        go left own right (yes s) (yes d) (yes f) = y.known u f hi right

    -- the sons' trees and the node make the tree
    pub joined : {l : ℕ} → l ≡ suc c → Walked F m map N l limit k before last free
    joined at-cell =
        let apart = p.apart in
        let some = fit.some in
        let inside = fit.high in
        let short = fit.short in
        let on-left = x.onward in
        let on-right = y.onward in
        let sum_left = x.size in
        let sum-right = y.size in
        let past : earliest (c + z) ≡ suc (c + z) = omega arith in
        let rest = subst (λ j. Gapped j last (inorder b)) past y.gapped in
        let behind : Gapped (earliest next) last (q ∷ inorder b) = (apart, some, on-right, rest) in
        record {
          tree = node a q b;
          linked = sym at-cell;
          holds = (
            p.clear.0 ∙ cc (ez, el, er, x.linked, y.linked),
            p.clear.1,
            x.holds,
            y.holds,
          );
          heaped = node_heaped a b c z x.short y.short x.heaped y.heaped;
          short = node_short a b c z x.short y.short limit short;
          gapped =
              gapped_join (earliest k) next last (inorder a) (q ∷ inorder b) (omega arith) (omega arith) x.gapped
              behind;
          onward = omega arith;
          inside = y.inside;
          size = omega (arith, total_append (inorder a) (q ∷ inorder b));
          few = y.few;
          known = join_known;
        }

-- what a walk says, said of equal numbers
pub walked_as : {F : Form} {m map : Words} {N l limit k allowed before next free n s : ℕ} → n ≡ next → s ≡ free
    → Walked F m map N l limit k before next free → Passes F m map N l limit k allowed before next free
    → Walked F m map N l limit k before n s × Passes F m map N l limit k allowed before n s
walked_as en es x p = rw (en, es) (x, p)

-- ---- runs one after another

ends_append : (k : ℕ) (xs ys : List Run) → ends k (xs ++ ys) ≡ ends (ends k xs) ys
ends_append k [] ys = refl
ends_append k (x ∷ xs) ys = ends_append (x.start + x.size) xs ys

module _ (map : Words) where
  apart_left : (k : ℕ) (xs ys : List Run) → Apart map k (xs ++ ys) → Apart map k xs
  apart_left k [] ys l = tt
  apart_left k (x ∷ xs) ys l = (l.0, l.1, l.2, apart_left (x.start + x.size) xs ys l.3)

  apart_right : (k : ℕ) (xs ys : List Run) → Apart map k (xs ++ ys) → Apart map (ends k xs) ys
  apart_right k [] ys l = l
  apart_right k (x ∷ xs) ys l = apart_right (x.start + x.size) xs ys l.3

  apart_up : (k : ℕ) (xs : List Run) → Apart map k xs → k ≤ ends k xs
  apart_up k [] l = omega arith
  apart_up k (x ∷ xs) l =
      let apart = l.0 in
      let up = apart_up (x.start + x.size) xs l.3 in
      omega arith

  link_apart : (k : ℕ) (t : Tree) → Apart map k (inorder t) → link t ≤ ends k (inorder t)
  link_apart k leaf l = omega arith
  link_apart k (node a q b) l =
      let behind = apart_right k (inorder a) (q ∷ inorder b) l in
      let some = behind.2 in
      let up = apart_up (q.start + q.size) (inorder b) behind.3 in
      omega (arith, ends_append k (inorder a) (q ∷ inorder b))

-- ---- a tree that lies at a link

-- "no longer" is "shorter than one more"
longer_under : (q r : Run) → no_longer_than q r ≡ true → under (q.size + 1) r ≡ true
longer_under q r e = of_lt r.size (q.size + 1) (omega (arith, le_of r.size q.size e))

-- it has the node at cell c
record Here (F : Form) (m map : Words) (N limit k c z : ℕ) (t : Tree) : Type 0 where
  a : Tree
  b : Tree
  is : t ≡ node a (run c z) b
  lies : LiesAt F m map N (suc c) limit k (node a (run c z) b)

module _ {F : Form} (back : Readable F F.links) {m map : Words} {N : ℕ} (ready : Ready F m map N) where
  -- a node's parts, and the node between them
  module _ {l limit k : ℕ} {a b : Tree} {q : Run} (x : LiesAt F m map N l limit k (node a q b)) where
    left_apart : Apart map k (inorder a)
    left_apart = apart_left map k (inorder a) (q ∷ inorder b) x.runs

    behind : Apart map (ends k (inorder a)) (q ∷ inorder b)
    behind = apart_right map k (inorder a) (q ∷ inorder b) x.runs

    end_is : ends k (inorder (node a q b)) ≡ ends (q.start + q.size) (inorder b)
    end_is = ends_append k (inorder a) (q ∷ inorder b)

    places : (k ≤ q.start) × (ends k (inorder a) ≤ q.start) × (q.start + q.size ≤ N)
    places =
        let up = apart_up map k (inorder a) left_apart in
        let apart = behind.0 in
        let over = apart_up map (q.start + q.size) (inorder b) behind.3 in
        let inside = x.inside in
        (omega arith, omega arith, omega (arith, end_is))

    sons_in : (link a < F.links) × (link b < F.links)
    sons_in =
        let reach = ready.linked in
        let inside = x.inside in
        let (low, left_end, high) = places in
        let left-link = link_apart map k a left_apart in
        let right-link = link_apart map (q.start + q.size) b behind.3 in
        (omega arith, omega (arith, end_is))

  -- at the link to cell c it has the root that is read there
  rooted : {limit k c : ℕ} (t : Tree) → LiesAt F m map N (suc c) limit k t
      → (a : Tree) × (b : Tree) × (t ≡ node a (run c (length_at F m c)) b)
  rooted leaf x = absurd (omega (arith, x.linked))
  rooted {c = c} (node a q b) x =
      let small = sons_in x in
      let start : q.start ≡ c = omega (arith, x.linked) in
      let size = sym (holds_reads F F.links back m a q b x.holds small.0 small.1).0
      ∙ ap (length_at F m) start in
      (a, b, λ i. node a (run (start i) (size i)) b)

  module _ {l limit k c z lf rt : ℕ} (at-cell : l ≡ suc c) (ez : z ≡ length_at F m c)
      (el : lf ≡ left_at F m c) (er : rt ≡ right_at F m c) where
    -- a tree that lies there has the node that is read there
    here_is : (t : Tree) → LiesAt F m map N l limit k t → Here F m map N limit k c z t
    here_is t x =
        let there = subst (λ j. LiesAt F m map N j limit k t) at-cell x in
        let (a, b, e) = rooted t there in
        let is : t ≡ node a (run c z) b = e ∙ ap (λ n. node a (run c n) b) (sym ez) in
        record { a = a; b = b; is = is; lies = subst (λ (u : Tree). LiesAt F m map N (suc c) limit k u) is there }

    module _ {a b : Tree} (x : LiesAt F m map N (suc c) limit k (node a (run c z) b)) where
      reads : (link a ≡ lf) × (link b ≡ rt)
      reads =
          let small = sons_in x in
          let (_, l, r) = holds_reads F F.links back m a (run c z) b x.holds small.0 small.1 in
          (sym l ∙ sym el, sym r ∙ sym er)

      node_between : Between k N limit c z
      node_between =
          let own = all_append_r (under limit) (inorder a) (run c z ∷ inorder b) x.short in
          let (low, left_end, high) = places x in
          record {
            low = low;
            some = (behind x).2;
            high = high;
            short = lt_of z limit (and_l (under limit (run c z)) (all (under limit) (inorder b)) own);
          }

      left_lies : LiesAt F m map N lf z k a
      left_lies = record {
        linked = reads.0;
        holds = x.holds.2;
        heaped = x.heaped.2;
        short = x.heaped.0;
        runs = left_apart x;
        inside = let (low, left_end, high) = places x in omega arith;
      }

      right_lies : LiesAt F m map N rt (z + 1) (c + z) b
      right_lies =
          let inside = x.inside in
          record {
            linked = reads.1;
            holds = x.holds.3;
            heaped = x.heaped.3;
            short = all_imp (no_longer_than (run c z)) (under (z + 1)) (longer_under (run c z)) (inorder b) x.heaped.1;
            runs = (behind x).3;
            inside = omega (arith, end_is x);
          }

      node_clear : NodeOnly F m c z
      node_clear =
          let small = sons_in x in
          let (n, l, r) = holds_reads F F.links back m a (run c z) b x.holds small.0 small.1 in
          (x.holds.0 ∙ sym (λ i. F.node (n i) (l i) (r i)), x.holds.1)

      node_follows : {j : ℕ} → j ≡ ends k (inorder a) → NodeFollows F m map j c z
      node_follows e = rw e (record { apart = (behind x).0; led = (behind x).1; clear = node_clear })

    -- the nodes of its parts are fewer
    few_sons : {t : Tree} {allowed rest : ℕ} (h : Here F m map N limit k c z t) → allowed ≡ suc rest
        → length (inorder t) ≤ allowed → (length (inorder h.a) ≤ rest) × (length (inorder h.b) ≤ rest)
    few_sons h may few =
        let size = ap (λ (u : Tree). length (inorder u)) h.is in
        let parts = length-append (inorder h.a) (run c z ∷ inorder h.b) in
        (omega arith, omega arith)

    -- ---- the ways through the walk: where a tree lies, none is refused

    pub not_between : {allowed before r free : ℕ} → (Between k N limit c z → ⊥)
        → Passes F m map N l limit k allowed before r free
    not_between bad = record { meets = λ t x few. let h = here_is t x in absurd (bad (node_between h.lies)) }

    module _ {allowed rest before next sum : ℕ} (may : allowed ≡ suc rest)
        (left : Passes F m map N lf z k rest before next sum) where
      pub not_left : {r free : ℕ} → c < next → Passes F m map N l limit k allowed before r free
      not_left over = record {
        meets = λ t x few.
            let h = here_is t x in
            let (end, size) = left.meets h.a (left_lies h.lies) (few_sons h may few).0 in
            let low = (places h.lies).1 in
            absurd (omega arith);
      }

      pub not_following : {r free : ℕ} → (NodeFollows F m map next c z → ⊥)
          → Passes F m map N l limit k allowed before r free
      not_following bad = record {
        meets = λ t x few.
            let h = here_is t x in
            absurd (bad (node_follows h.lies (left.meets h.a (left_lies h.lies) (few_sons h may few).0).0));
      }

      pub passes_both : {last free : ℕ} → Passes F m map N rt (z + 1) (c + z) rest (sum + z) last free
          → Passes F m map N l limit k allowed before last free
      passes_both right = record {
        meets = λ t x few.
            let h = here_is t x in
            let (few-left, few-right) = few_sons h may few in
            let (end, size) = left.meets h.a (left_lies h.lies) few-left in
            let (last_is, free_is) = right.meets h.b (right_lies h.lies) few-right in
            let whole = end_is h.lies in
            let sums = total_append (inorder h.a) (run c z ∷ inorder h.b) in
            rw h.is (omega arith, omega arith);
      }

  pub passes_none : {l limit k allowed before : ℕ} → l ≡ 0 → Passes F m map N l limit k allowed before k before
  passes_none {l} {limit} {k} {allowed} {before} e = record { meets = go }
    where
      go : (t : Tree) → LiesAt F m map N l limit k t → length (inorder t) ≤ allowed
          → (k ≡ ends k (inorder t)) × (before ≡ before + total (inorder t))
      go leaf x few = (refl, omega arith)
      go (node a q b) x few = absurd (omega (arith, x.linked))

  pub not_inside : {l limit k allowed before r free : ℕ} → N < l → Passes F m map N l limit k allowed before r free
  not_inside {k = k} h = record {
    meets = λ t x few.
        let low = link_apart map k t x.runs in
        let inside = x.inside in
        let linked = x.linked in
        absurd (omega arith);
  }
