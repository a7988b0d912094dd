-- `segment_requests::grant` meets its contract: the rows 2, 3, 4, 5 in turn, then the grant. Assumes nothing.
use Prim.Native.Nat.{ℕ, ◌≤◌}
use native.Mathlib.Omega.{arith}
use mathlib.Core.Path.{refl, ◌∙◌, sym, ap}
use mathlib.Core.List.{[]}
use borrow.Author.Tests.{eq-eqb, ne_eqb}
use lib.Dec.{eqb, ltb}
use lib.ListN.{length}
use Rattle.words.proofs.Tests.{or_r, not_lt}
use Rattle.ledger.specs.Records.{Ledger, records_of}
use Rattle.ledger.specs.Units.{span}
use Rattle.stored_forms.specs.Segments.{segment_rule}
use Rattle.segment_cores.proofs.UnitLaws.{span_words}
use Rattle.calls.specs.Pool.{Pool}
use Rattle.calls.specs.Engines.{segment_engine}
use Rattle.segment_check.specs.Gate.{segment_pool}
use Rattle.record_table.proofs.SlotLaws.{empty_found, empty_missing}
use Rattle.call_parts.proofs.AskLaws.{ask_two, ask_three, ask_four, ask_five}
use Rattle.segment_requests.specs.Granting.{Grantable}
use Rattle.segment_requests.specs.Outcomes.{handed, grant_outcome}
use Rattle.segment_requests.proofs.StoredLaws.{sound_range}
use Rattle.segment_requests.proofs.RefusedLaws.{grant_refused}
use Rattle.segment_requests.proofs.GrantLaws.{fit_is, none_fits, one_fits, few_places, searching, search_found}
use Rattle.segment_requests.proofs.GrantLaws.{place_places}
use Rattle.segment_requests.proofs.grant.Goals as goal
use Rattle.segment_requests.proofs.grant.Goals.{Start}

abbrev pool : Start → Pool
pool s =
    segment_pool s.args.s s.args.head s.args.arena.now s.args.table.now s.args.index.now

abbrev old : Start → Ledger
old s = records_of s.args.table.now

some_span : (n : ℕ) → 1 ≤ span segment_rule n
some_span n = omega (arith, span_words n)

pub returns-then-words : goal.returns-then-words
unfolding segment_engine
returns-then-words c =
    let both = grant_refused c.args.head c.args.s c.args.arena.now c.args.table.now c.args.index.now
    c.with_places.result c.no_effect.result _ 2 c.with_places.ensures
    c.no_effect.ensures refl refl c.args.party c.args.words
    (ask_two segment_engine (pool (goal.at.returns-then-words c).Start) c.args.party c.args.words c.requires.1 c.if-words.true) in
    record { index_after = both.0; result_value = both.1 }

pub returns-in_default : goal.returns-in_default
unfolding segment_engine
returns-in_default c =
    let both = grant_refused c.args.head c.args.s c.args.arena.now c.args.table.now c.args.index.now
    c.with_places-in_default.result c.no_effect-in_default.result _ 3 c.with_places-in_default.ensures
    c.no_effect-in_default.ensures refl refl c.args.party c.args.words
    (ask_three segment_engine (pool (goal.at.returns-in_default c).Start) c.args.party c.args.words c.requires.1 c.if-words.false
    (empty_missing c.args.table.now (sym c.empty_slot.ensures ∙ c.in_default.is))) in
    record { index_after = both.0; result_value = both.1 }

pub returns-then-next-eq0 : goal.returns-then-next-eq0
unfolding segment_engine
returns-then-next-eq0 c =
    let slot = sym c.empty_slot.ensures ∙ c.in-Some.is in
    let both = grant_refused c.args.head c.args.s c.args.arena.now c.args.table.now c.args.index.now
    c.with_places-then-next-eq0.result c.no_effect-then-next-eq0.result _ 4 c.with_places-then-next-eq0.ensures
    c.no_effect-then-next-eq0.ensures refl refl c.args.party c.args.words
    (ask_four segment_engine (pool (goal.at.returns-then-next-eq0 c).Start) c.args.party c.args.words c.requires.1 c.if-words.false
    (empty_found c.args.table.now c.in-Some.slot slot).1 (eq-eqb _ _ c.if-next-eq0.true)) in
    record { index_after = both.0; result_value = both.1 }

pub segments_of-segments-requires : goal.segments_of-segments-requires
segments_of-segments-requires c =
    let range = sound_range c.args.s c.args.head c.args.arena.now c.args.table.now
    c.args.index.now c.requires.0 in
    (range.power, range.most)

pub overflow_add-words : goal.overflow_add-words
overflow_add-words c =
    let few = not_lt 16384 c.args.words
    (or_r (eqb c.args.words 0) (ltb 16384 c.args.words) c.if-words.false) in
    omega arith

-- the search is asked on a sound pool
pub search-fit-requires : goal.search-fit-requires
search-fit-requires c =
    let s = (goal.at.search-fit-requires c).Start in
    let d = c.segments_of-segments.ensures in
    let searched = searching c.args.s c.args.head c.args.arena.now c.args.table.now c.args.index.now c.args.words d
    c.requires.0 c.ranged.ensures c.if-words.false in
    (old s, searched)

-- what it finds, in the ledger's units: the places that it counts take 16 bits
pub with_places-requires-then-at-arena : goal.with_places-requires-then-at-arena
with_places-requires-then-at-arena c =
    let s = (goal.at.with_places-requires-then-at-arena c).Start in
    let d = c.segments_of-segments.ensures in
    let searched = searching c.args.s c.args.head c.args.arena.now c.args.table.now c.args.index.now c.args.words d
    c.requires.0 c.ranged.ensures c.if-words.false in
    let W = length c.args.arena.now in
    let found = search_found c.args.s c.args.head c.args.arena.now c.args.table.now c.args.index.now c.args.words d
    c.search-fit.result (c.search-fit.ensures (old s) searched) in
    let range = sound_range c.args.s c.args.head c.args.arena.now c.args.table.now
    c.args.index.now c.requires.0 in
    few_places c.args.s W (old s) (span segment_rule c.args.words)
    (some_span c.args.words) c.search-fit.result found range.power (omega (arith, range.some)) range.most

pub returns-then-at-arena : goal.returns-then-at-arena
unfolding segment_engine
returns-then-at-arena c =
    let s = (goal.at.returns-then-at-arena c).Start in
    let d = c.segments_of-segments.ensures in
    let searched = searching c.args.s c.args.head c.args.arena.now c.args.table.now c.args.index.now c.args.words d
    c.requires.0 c.ranged.ensures c.if-words.false in
    let W = length c.args.arena.now in
    let found = search_found c.args.s c.args.head c.args.arena.now c.args.table.now c.args.index.now c.args.words d
    c.search-fit.result (c.search-fit.ensures (old s) searched) in
    let slot = sym c.empty_slot.ensures ∙ c.in-Some.is in
    let none = none_fits c.args.s W (old s) (span segment_rule c.args.words) (some_span c.args.words)
    c.search-fit.result found c.if-at-arena.true in
    let both = grant_refused c.args.head c.args.s c.args.arena.now c.args.table.now c.args.index.now
    c.with_places-then-at-arena.result c.no_effect-then-at-arena.result _ 5 c.with_places-then-at-arena.ensures
    c.no_effect-then-at-arena.ensures refl none.1 c.args.party c.args.words
    (ask_five segment_engine (pool s) c.args.party c.args.words c.requires.1 c.if-words.false
    (empty_found c.args.table.now c.in-Some.slot slot).1 (ne_eqb _ _ c.if-next-eq0.false)
    (fit_is c.args.s c.args.head c.args.words c.args.arena.now c.args.table.now
    c.args.index.now ∙ none.0)) in
    record { index_after = both.0; result_value = both.1 }

-- what is known where the words are taken
pub place-effect-requires : goal.place-effect-requires
place-effect-requires c =
    let s = (goal.at.place-effect-requires c).Start in
    let d = c.segments_of-segments.ensures in
    let searched = searching c.args.s c.args.head c.args.arena.now c.args.table.now c.args.index.now c.args.words d
    c.requires.0 c.ranged.ensures c.if-words.false in
    let W = length c.args.arena.now in
    let found = search_found c.args.s c.args.head c.args.arena.now c.args.table.now c.args.index.now c.args.words d
    c.search-fit.result (c.search-fit.ensures (old s) searched) in
    let one = one_fits c.args.s W (old s) (span segment_rule c.args.words)
    (some_span c.args.words) c.search-fit.result found c.if-at-arena.false in
    let ready : Grantable c.args.head c.args.s c.args.arena.now c.args.table.now c.args.index.now
    c.args.party c.args.words c.in-Some.slot
    c.search-fit.result.at
    = record {
      ok = c.requires.0;
      party = c.requires.1;
      ranged = c.ranged.ensures;
      size = c.if-words.false;
      empty = sym c.empty_slot.ensures ∙ c.in-Some.is;
      ticket = c.if-next-eq0.false;
      fit = one.0;
    } in
    ready

pub with_places-requires-2 : goal.with_places-requires-2
with_places-requires-2 c =
    let s = (goal.at.with_places-requires-2 c).Start in
    let d = c.segments_of-segments.ensures in
    let searched = searching c.args.s c.args.head c.args.arena.now c.args.table.now c.args.index.now c.args.words d
    c.requires.0 c.ranged.ensures c.if-words.false in
    let W = length c.args.arena.now in
    let found = search_found c.args.s c.args.head c.args.arena.now c.args.table.now c.args.index.now c.args.words d
    c.search-fit.result (c.search-fit.ensures (old s) searched) in
    let range = sound_range c.args.s c.args.head c.args.arena.now c.args.table.now
    c.args.index.now c.requires.0 in
    few_places c.args.s W (old s) (span segment_rule c.args.words)
    (some_span c.args.words) c.search-fit.result found range.power (omega (arith, range.some)) range.most

pub returns : goal.returns
returns c =
    let s = (goal.at.returns c).Start in
    let d = c.segments_of-segments.ensures in
    let searched = searching c.args.s c.args.head c.args.arena.now c.args.table.now c.args.index.now c.args.words d
    c.requires.0 c.ranged.ensures c.if-words.false in
    let W = length c.args.arena.now in
    let found = search_found c.args.s c.args.head c.args.arena.now c.args.table.now c.args.index.now c.args.words d
    c.search-fit.result (c.search-fit.ensures (old s) searched) in
    let one = one_fits c.args.s W (old s) (span segment_rule c.args.words)
    (some_span c.args.words) c.search-fit.result found c.if-at-arena.false in
    let ready : Grantable c.args.head c.args.s c.args.arena.now c.args.table.now c.args.index.now
    c.args.party c.args.words c.in-Some.slot
    c.search-fit.result.at
    = record {
      ok = c.requires.0;
      party = c.requires.1;
      ranged = c.ranged.ensures;
      size = c.if-words.false;
      empty = sym c.empty_slot.ensures ∙ c.in-Some.is;
      ticket = c.if-next-eq0.false;
      fit = one.0;
    } in
    let b = c.place-effect.new.arena in
    let u = c.place-effect.new.table in
    let x = c.place-effect.new.index in record {
      index_after = ap (λ (e : ℕ). handed c.args.s (grant_outcome c.args.head c.args.words e) b u x [])
          c.with_places-2.ensures.0
          ∙ c.place-effect.ensures;
      result_value = c.with_places-2.ensures.1 ∙ one.1
          ∙ place_places c.args.head c.args.s c.args.arena.now c.args.table.now
          c.args.index.now c.args.party c.args.words c.in-Some.slot c.search-fit.result.at ready;
    }
