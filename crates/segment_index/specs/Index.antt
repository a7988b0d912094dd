-- The segments of an arena, the index over any control words, and one segment of it. Assumes nothing.
use Rattle.std.specs.Prelude.{ℕ, ◌+◌, ◌*◌, ◌^◌, ◌≤◌, ◌≡◌, ℤ, get_or}
use Rattle.words.specs.Lists.{Words, list_from}
use Rattle.stored_forms.specs.Segments.{largest, first_block, segment_size, index_word, depth}
use Rattle.segment_index.specs.declared.Segments.{Segments}

-- r are the s segments of an arena of W words
pub record Divided (s W : ℕ) (r : Segments) : Type 0 where
  pub count : r.count ≡ s
  pub power : s ≡ 2 ^ r.log
  pub few : r.log ≤ depth
  pub size : r.size ≡ segment_size W s

-- `segment_index S W L` is the index of L's control words
abbrev pub index_of : (ℕ → ℤ) → ℕ → ℕ → Words
index_of c W S = list_from (index_word c W S) 0 (3 * S)

-- segment k's leaf and first-block word are those of the control words c
pub record Agree (c : ℕ → ℤ) (W S : ℕ) (t : Words) (k : ℕ) : Type 0 where
  pub leaf : get_or t (S + k) 0 ≡ largest c (k * segment_size W S) (segment_size W S)
  pub first : get_or t (2 * S + k) 0 ≡ first_block c W (k * segment_size W S) (segment_size W S)
