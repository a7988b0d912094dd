-- For each engine two pools such as 02's ticket 14 speaks of: in the first a block is held, in the second all is free.
-- Assumes nothing.
use Rattle.std.specs.Prelude.{[], ◌∷◌, replicate}
use Rattle.calls.specs.Pool.{Pool}

-- ---- tree pool of form 1, 10 words: words 2 and 3 are held under ticket 2; and after its release

abbrev pub tree_held : Pool
tree_held = record {
  head = record { own = 3 ∷ 1 ∷ []; next = 3 };
  shape = 1;
  arena = 1 ∷ 0 ∷ 7 ∷ 7 ∷ 3 ∷ 1 ∷ 0 ∷ 0 ∷ 0 ∷ 0 ∷ [];
  table = 0 ∷ 0 ∷ 0 ∷ 0 ∷ 2 ∷ 2 ∷ 2 ∷ 1 ∷ 0 ∷ 0 ∷ 0 ∷ 0 ∷ [];
  index = [];
}

abbrev pub tree_free : Pool
tree_free = record {
  head = record { own = 1 ∷ 1 ∷ []; next = 3 };
  shape = 1;
  arena = 5 ∷ replicate 9 0;
  table = replicate 12 0;
  index = [];
}

-- ---- segment pool, 16 words: T13, and all free with another S and other slots

abbrev pub segment_held : Pool
segment_held = record {
  head = record { own = []; next = 2 };
  shape = 4;
  arena = 4294967292 ∷ 7 ∷ 7 ∷ 7 ∷ 12 ∷ replicate 11 0;
  table = 1 ∷ 1 ∷ 3 ∷ 1 ∷ 0 ∷ 0 ∷ 0 ∷ 0 ∷ [];
  index = 0 ∷ 12 ∷ 12 ∷ 0 ∷ 1 ∷ 12 ∷ 0 ∷ 0 ∷ 0 ∷ 4 ∷ 16 ∷ 16 ∷ [];
}

abbrev pub segment_free : Pool
segment_free = record {
  head = record { own = []; next = 9 };
  shape = 2;
  arena = 16 ∷ replicate 15 0;
  table = replicate 4 0;
  index = 0 ∷ 16 ∷ 16 ∷ 0 ∷ 0 ∷ 16 ∷ [];
}
