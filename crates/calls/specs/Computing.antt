-- What a test opens that computes the machine: `unfolding tree_machine` or `unfolding segment_machine` opens every
-- definition below it. Assumes nothing.
use Rattle.words.specs.Places.{wiped}
use Rattle.ledger.specs.Records.{is_party, records_of}
use Rattle.ledger.specs.Units.{span, address_at, first, past, fits, apart, valid, covers, free, owns, owned, lowest_fit}
use Rattle.ledger.specs.Runs.{free_runs}
use Rattle.stored_forms.specs.Tree.{form_one, form_two, form_three, form_of, tree_range, free_tree}
use Rattle.stored_forms.specs.Segments.{control_word, segment_word, segment_size, index_word, segment_index, segment_range}
use Rattle.stored_forms.specs.Search.{places_to}
use Rattle.calls.specs.Pool.{store, same_pool, lengths, stored, sound}
use Rattle.calls.specs.Step.{copied, named, fit_of, number_of, grant, answer_done, pool_done, answer_to, pool_after}
use Rattle.calls.specs.Step.{behind, gate, acts_done, perform, step}
use Rattle.calls.specs.Engines.{tree_engine, segment_engine}
use Rattle.calls.specs.Search.{places_of}
use Rattle.calls.specs.Lent.{is_whole, own_table, head_returns, outcome, after}
use Rattle.calls.specs.Demand3.{live, is_due, is_replay, is_old, stands, after_act}
use Rattle.calls.specs.Restart.{as_left}

unfoldable pub ledger_opened : Unit {0}
unfolding wiped is_party records_of span address_at first past fits apart valid covers free owns owned lowest_fit free_runs
ledger_opened = tt

unfoldable pub step_opened : Unit {0}
unfolding store same_pool lengths stored sound copied named fit_of number_of grant answer_done pool_done answer_to pool_after behind
    gate acts_done perform step
step_opened = tt

unfoldable pub sequence_opened : Unit {0}
unfolding is_whole own_table head_returns outcome after live is_due is_replay is_old stands after_act as_left
sequence_opened = tt

unfoldable pub tree_machine : Unit {0}
unfolding ledger_opened step_opened sequence_opened form_one form_two form_three form_of tree_range free_tree tree_engine
tree_machine = tt

unfoldable pub segment_machine : Unit {0}
unfolding ledger_opened step_opened sequence_opened control_word segment_word segment_size index_word segment_index
    segment_range segment_engine places_to places_of
segment_machine = tt
