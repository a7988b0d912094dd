-- The two engines, by what each stores. 01, "The pool and its two engines": "the tree pool (Stephenson, source
-- document 000) and the segment pool (Brent, source document 001). Above both stands one ledger". Assumes nothing.
use Rattle.std.specs.Prelude.{◌*◌, true, [], ◌∷◌}
use Rattle.stored_forms.specs.Tree.{is_form, form_of, form_rule, tree_range, free_tree, node_word, link}
use Rattle.stored_forms.specs.Segments.{segment_rule, segment_range, segment_word, segment_index, most_words}
use Rattle.calls.specs.Pool.{Engine}

-- Stephenson's tree; the shape is the form number f, which the head has too.
unfoldable pub tree_engine : Engine
tree_engine = record {
  known = is_form;
  rule = λ f. form_rule (form_of f);
  range = λ f W. tree_range (form_of f) W;
  limit = λ f. (form_of f).limit;
  word = λ f W L i. node_word (form_of f) (free_tree (form_of f) W L) i;
  own_words = 2;
  own = λ f W L. link (free_tree (form_of f) W L) ∷ f ∷ [];
  index_words = λ f. 0;
  index = λ f W L. [];
}

-- Brent's segment tree; the shape is S, and any number is looked at by its range alone.
unfoldable pub segment_engine : Engine
segment_engine = record {
  known = λ S. true;
  rule = λ S. segment_rule;
  range = segment_range;
  limit = λ S. most_words;
  word = λ S W L i. segment_word W L i;
  own_words = 0;
  own = λ S W L. [];
  index_words = λ S. 3 * S;
  index = segment_index;
}
