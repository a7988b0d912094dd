-- The split by address in an arena, over the form: one law for each way on from a node, and the way down one side.
-- Assumes of a form that its nodes are readable.
use Prim.Native.Nat.{ℕ, ◌+◌, ◌-◌, ◌*◌, ◌≤◌, ◌<◌}
use native.Mathlib.Omega.{arith}
use mathlib.Core.Path.{◌≡◌, refl, sym, ap₂, ◌∙◌, subst}
use mathlib.Core.Logic.{◌≢◌}
use Rattle.words.specs.Lists.{Words}
use Rattle.words.proofs.Tests.{of_lt, of_ge}
use Rattle.ledger.specs.Runs.{run}
use Rattle.stored_forms.specs.Tree.{Tree, leaf, node, Form, left_at, right_at}
use Rattle.stored_forms.proofs.NodeLaws.{Readable}
use Rattle.tree_nodes.specs.Nodes.{cells, differ, LeftSet, RightSet}
use Rattle.tree_nodes.proofs.LinkLaws.{same_link, other_link}
use Rattle.free_tree.specs.Links.{link_of, count_of}
use Rattle.free_tree.specs.Held.{At, Became, NoNode, Parted, Parts}
use Rattle.free_tree.proofs.PartLaws.{within_below, within_above}
use Rattle.free_tree.proofs.LinkLaws.{parts_of_left, parts_of_right, parts_few, below_link, above_link}
use Rattle.free_tree.proofs.CellLaws.{no_node_below, no_node_above}
use Rattle.free_tree.proofs.StepLaws.{rooted, at_none, at_in, at_small, at_left, at_right, at_nodes}
use Rattle.free_tree.proofs.StepLaws.{count, down_left, down_right, unchanged}
use Rattle.free_tree.proofs.StepLaws.{still, reads_node, left_replaced, right_replaced, left_kept, right_kept}

-- ---- the way down one side: the nodes passed keep their links

-- The search came from the link l down to cell c, all of it below cell x, and s is the link to the right son there. The
-- split of the son's tree is that of the whole: as it is where the son's link stays, and with one link more stored
-- where the son is the root of the upper part.
pub record DownRight (F : Form) (m : Words) (l x c s : ℕ) : Type 0 where
  pub inside : c < cells F m
  pub son : (t : Tree) × At F m s t
  pub fewer : count F m s < count F m l
  pub stays : {m₁ : Words} {lo hi n : ℕ} → Parts F m m₁ s x lo hi n → lo ≡ s → Parts F m m₁ l x l hi n
  pub turns : {m₁ m' : Words} {lo hi n k : ℕ} → Parts F m m₁ s x lo hi n → s ≢ 0 → x ≤ s - 1
      → RightSet F m₁ m' c lo → k ≡ n + 1 → Parts F m m' l x l hi k

-- the same where nothing passed is below cell x, s is the link to the left son, and that is the root of the lower part
-- where its link does not stay
pub record DownLeft (F : Form) (m : Words) (l x c s : ℕ) : Type 0 where
  pub inside : c < cells F m
  pub son : (t : Tree) × At F m s t
  pub fewer : count F m s < count F m l
  pub stays : {m₁ : Words} {lo hi n : ℕ} → Parts F m m₁ s x lo hi n → hi ≡ s → Parts F m m₁ l x lo l n
  pub turns : {m₁ m' : Words} {lo hi n k : ℕ} → Parts F m m₁ s x lo hi n → s ≢ 0 → s - 1 < x
      → LeftSet F m₁ m' c hi → k ≡ n + 1 → Parts F m m' l x lo l k

module _ {F : Form} (readable : Readable F F.links) where
  pub parts_none : {m : Words} {l : ℕ} (x : ℕ) → l ≡ 0 → Parts F m m l x 0 0 0
  parts_none {m} x z t p =
      at_none (λ t. Parted F m m x t 0 0 0) z (record { low = none; high = none; count = refl }) t p
    where
      none : {off : ℕ → Type 0} → Became F m m off 0 leaf
      none = unchanged readable (record { at = refl; holds = tt; within = omega arith; small = p.small })

  -- the link to one part and the count, read off one number
  module _ {m m' : Words} {l x lo hi n : ℕ} (k : ℕ) where
    pub lower_read : (link_of k ≡ lo) × (count_of k ≡ n) → Parts F m m' l x lo hi n
        → Parts F m m' l x (link_of k) hi (count_of k)
    lower_read (e, f) p = rw (e, f) p

    pub upper_read : (link_of k ≡ hi) × (count_of k ≡ n) → Parts F m m' l x lo hi n
        → Parts F m m' l x lo (link_of k) (count_of k)
    upper_read (e, f) p = rw (e, f) p

  -- both parts' links are small, and so is the number of links stored
  pub parts_small : {m m' : Words} {l x lo hi n : ℕ} → Parts F m m' l x lo hi n → ((t : Tree) × At F m l t)
      → (lo < F.links) × (hi < F.links) × (2 * n < F.links)
  parts_small {m} {x = x} post (t, p) =
      let j = post t p in
      let few = parts_few x t 0 (cells F m) p.within in (
        at_small readable j.low.tree,
        at_small readable j.high.tree,
        omega (arith, few, at_nodes readable p, j.count),
      )

  module _ {m m₁ : Words} {l x s lo hi n : ℕ} (z : l ≢ 0) (post : Parts F m m₁ s x lo hi n) where
    -- ---- down the right side: the root stays that of the lower part

    module _ (e : s ≡ right_at F m (l - 1)) (h : l - 1 < x) where
      put_right : {m' : Words} → RightSet F m₁ m' (l - 1) lo → Parts F m m' l x l hi (differ s lo + n)
      put_right {m'} put =
          rooted (λ t. Parted F m m' x t l hi (differ s lo + n)) z
          (λ a i b p.
          let c = l - 1 in
          let some = p.within.1 in
          let place = p.within.2 in
          let son = at_right readable p e in
          let j = post b son in
          let out : (d : ℕ) → NoNode (node a (run c i) b) d → NoNode b d × (d ≢ c) = λ d o. (o.2, o.1) in
          record {
            low =
                rw (of_lt c x h)
                (right_replaced readable p j.low out put (within_below x b (c + i) (cells F m) place)
                (λ d u. no_node_below b (c + i) (cells F m) d place u));
            high =
                rw (of_lt c x h)
                (still readable (c + i) (cells F m) j.high (within_above x b (c + i) (cells F m) place)
                (put (reads_node readable p j.high (no_node_below b (c + i) (cells F m) c place (omega arith))))
                (λ d u v w. omega arith) out);
            count =
                sym (parts_of_right a (run c i) b 0 (cells F m) p.within h
                ∙ ap₂ (λ x y. x + y) (ap₂ differ son.at j.low.tree.at) (sym j.count));
          })

      -- the son's link stays
      right_stays : lo ≡ s → Parts F m m₁ l x l hi n
      right_stays f =
          rooted (λ t. Parted F m m₁ x t l hi n) z
          (λ a i b p.
          let c = l - 1 in
          let away = no_node_below b (c + i) (cells F m) c p.within.2 (omega (arith, p.within.1)) in
          let kept = right_kept readable p (post b (at_right readable p e)).low away (f ∙ e) in
          let same : differ s lo + n ≡ n = omega (arith, same_link (sym f)) in
          subst (Parted F m m₁ x (node a (run c i) b) l hi) same (put_right kept (node a (run c i) b) p))

      -- the son is the root of the upper part
      right_turns : {m' : Words} {k : ℕ} → s ≢ 0 → x ≤ s - 1 → RightSet F m₁ m' (l - 1) lo → k ≡ n + 1
          → Parts F m m' l x l hi k
      right_turns {m'} {k} y g put f =
          rooted (λ t. Parted F m m' x t l hi k) z
          (λ a i b p.
          let under = below_link x b in
          let at = (post b (at_right readable p e)).low.tree.at in
          let other = other_link {x = s} {y = lo} (λ w. omega arith) in
          let more : differ s lo + n ≡ k = omega arith in
          subst (Parted F m m' x (node a (run (l - 1) i) b) l hi) more
          (put_right put (node a (run (l - 1) i) b) p))

    -- ---- down the left side: the root stays that of the upper part

    module _ (e : s ≡ left_at F m (l - 1)) (h : x ≤ l - 1) where
      put_left : {m' : Words} → LeftSet F m₁ m' (l - 1) hi → Parts F m m' l x lo l (differ s hi + n)
      put_left {m'} put =
          rooted (λ t. Parted F m m' x t lo l (differ s hi + n)) z
          (λ a i b p.
          let c = l - 1 in
          let place = p.within.0 in
          let son = at_left readable p e in
          let j = post a son in
          let out : (d : ℕ) → NoNode (node a (run c i) b) d → NoNode a d × (d ≢ c) = λ d o. (o.0, o.1) in
          record {
            low =
                rw (of_ge c x h)
                (still readable 0 c j.low (within_below x a 0 c place)
                (put (reads_node readable p j.low (no_node_above a 0 c c place (omega arith))))
                (λ d u v w. omega arith) out);
            high =
                rw (of_ge c x h)
                (left_replaced readable p j.high out put (within_above x a 0 c place)
                (λ d u. no_node_above a 0 c d place u));
            count =
                sym (parts_of_left a (run c i) b 0 (cells F m) p.within h
                ∙ ap₂ (λ x y. x + y) (ap₂ differ son.at j.high.tree.at) (sym j.count));
          })

      left_stays : hi ≡ s → Parts F m m₁ l x lo l n
      left_stays f =
          rooted (λ t. Parted F m m₁ x t lo l n) z
          (λ a i b p.
          let c = l - 1 in
          let away = no_node_above a 0 c c p.within.0 (omega arith) in
          let kept = left_kept readable p (post a (at_left readable p e)).high away (f ∙ e) in
          let same : differ s hi + n ≡ n = omega (arith, same_link (sym f)) in
          subst (Parted F m m₁ x (node a (run c i) b) lo l) same (put_left kept (node a (run c i) b) p))

      left_turns : {m' : Words} {k : ℕ} → s ≢ 0 → s - 1 < x → LeftSet F m₁ m' (l - 1) hi → k ≡ n + 1
          → Parts F m m' l x lo l k
      left_turns {m'} {k} y g put f =
          rooted (λ t. Parted F m m' x t lo l k) z
          (λ a i b p.
          let at = (post a (at_left readable p e)).high.tree.at in
          let other =
          other_link {x = s} {y = hi} (λ w. let over = above_link x a (λ v. omega arith) in omega arith) in
          let more : differ s hi + n ≡ k = omega arith in
          subst (Parted F m m' x (node a (run (l - 1) i) b) lo l) more
          (put_left put (node a (run (l - 1) i) b) p))

  -- ---- the way down one side: its first node, and one way after another

  module _ {m : Words} {l x s : ℕ} (z : l ≢ 0) (tree : (t : Tree) × At F m l t) where
    pub right_start : s ≡ right_at F m (l - 1) → l - 1 < x → DownRight F m l x (l - 1) s
    right_start e h =
        let (less, down) = down_right readable z e tree in
        record {
          inside = at_in readable z tree;
          son = down;
          fewer = less;
          stays = λ p f. right_stays z p e h f;
          turns = λ p y g put f. right_turns z p e h y g put f;
        }

    pub left_start : s ≡ left_at F m (l - 1) → x ≤ l - 1 → DownLeft F m l x (l - 1) s
    left_start e h =
        let (less, down) = down_left readable z e tree in
        record {
          inside = at_in readable z tree;
          son = down;
          fewer = less;
          stays = λ p f. left_stays z p e h f;
          turns = λ p y g put f. left_turns z p e h y g put f;
        }

  module _ {m : Words} {l x c d s r : ℕ} where
    pub right_on : DownRight F m l x c s → DownRight F m s x d r → DownRight F m l x d r
    right_on w v = record {
      inside = v.inside;
      son = v.son;
      fewer = omega (arith, w.fewer, v.fewer);
      stays = λ p f. w.stays (v.stays p f) refl;
      turns = λ p y g put f. w.stays (v.turns p y g put f) refl;
    }

    pub left_on : DownLeft F m l x c s → DownLeft F m s x d r → DownLeft F m l x d r
    left_on w v = record {
      inside = v.inside;
      son = v.son;
      fewer = omega (arith, w.fewer, v.fewer);
      stays = λ p f. w.stays (v.stays p f) refl;
      turns = λ p y g put f. w.stays (v.turns p y g put f) refl;
    }
