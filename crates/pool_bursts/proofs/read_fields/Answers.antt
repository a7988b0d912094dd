-- `pool_bursts::read_fields` meets its contract: six words. Assumes nothing.
use Rattle.pool_bursts.proofs.read_fields.Goals as goal

pub returns : goal.returns
returns c = (
  (λ i. record {
    stage = c.get_word.ensures.0 i;
    kept = c.get_word-2.ensures.0 i;
    words = c.get_word-3.ensures.0 i;
    slots = c.get_word-4.ensures.0 i;
    root = c.get_word-5.ensures.0 i;
    next = c.get_word-6.ensures.0 i;
  }),
  c.get_word-6.ensures.1,
)
