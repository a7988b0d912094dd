-- When head, arena and table are the tree pool's stored form of a ledger: the arena holds the tree of the free runs,
-- and every other word is its holder's. Assumes nothing.
use Prim.Native.Nat.{ℕ, ◌%◌, ◌<◌}
use mathlib.Core.Path.{◌≡◌, refl, sym}
use mathlib.Core.Bool.{true}
use mathlib.Core.List.{[], ◌∷◌}
use lib.ListN.{length, get_or}
use Rattle.words.specs.Lists.{Words}
use Rattle.ledger.specs.Records.{Ledger, table_of}
use Rattle.ledger.specs.Units.{valid, owned}
use Rattle.stored_forms.specs.Tree.{Form, form_of, form_rule, free_tree, link}
use Rattle.stored_forms.specs.Blocks.{Holds}
use Rattle.stored_forms.proofs.NodeLaws.{readable}
use Rattle.stored_forms.proofs.FreeTreeLaws.{stamped}
use Rattle.calls.specs.Pool.{Pool, word_count, store}
use Rattle.calls.specs.Engines.{tree_engine}
use Rattle.tree_check.specs.Gate.{tree_pool}

-- the arena b with the root link k shows the ledger L, over what the holders wrote in a
pub record Shows (F : Form) (a b : Words) (k : ℕ) (L : Ledger) : Type 0 where
  pub long : length b ≡ length a
  pub kept : (i : ℕ) → i < length a → owned (form_rule F) L i ≡ true → get_or b i 0 ≡ get_or a i 0
  pub holds : Holds F b (free_tree F (length a) L)
  pub root : link (free_tree F (length a) L) ≡ k

pub stored_pool : (p : Pool) (L : Ledger) (n next k : ℕ) (b t : Words) → word_count p % (form_of p.shape).unit ≡ 0
    → valid (form_rule (form_of p.shape)) (word_count p) next L ≡ true → Shows (form_of p.shape) p.arena b k L
    → t ≡ table_of L
    → tree_pool (record { root = k; next = n; form = p.shape }) b t ≡ store tree_engine L n p
unfolding store tree_engine
stored_pool p L n next k b t whole good shown e =
    let F = form_of p.shape in
    let same = stamped F F.links (readable p.shape) (word_count p) whole L next good p.arena b refl
    shown.long shown.kept shown.holds in
    λ i. record {
      head = record { own = sym shown.root i ∷ p.shape ∷ []; next = n };
      shape = p.shape;
      arena = same i;
      table = e i;
      index = [];
    }
