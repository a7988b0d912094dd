-- Bytes lead from a good session to a good one. Assumes nothing.
use Prim.Native.Nat.{ℕ, ◌*◌, ◌≤◌}
use mathlib.Core.Path.{◌≡◌, refl, ap, ◌∙◌}
use mathlib.Core.Bool.{Bool, true, false, cond, not, ◌&&◌, and-false, or-true}
use mathlib.Core.List.{List, [], ◌∷◌, ◌++◌}
use mathlib.Core.Option as plans
use mathlib.Core.Option.{none, some}
use native.Mathlib.Omega.{arith}
use lib.Dec.{eqb, leb, ltb}
use lib.ListN.{length, drop, replicate, length-append, length-replicate}
use borrow.Author.Tests.{ltb-false}
use Rattle.words.specs.Lists.{all}
use Rattle.words.proofs.Tests.{and_l, and_r, and_i, le_of, of_le, eqb_eq, eqb_ne}
use Rattle.words.proofs.ByPlace.{all_replicate}
use Rattle.words.proofs.ListLaws.{all_map, all_append}
use Rattle.ledger.specs.declared.Row.{Row}
use Rattle.ledger.specs.Records.{Ledger, record_words, slots, empty_row, is_empty, enter, Plan, carry_out, carry_if, Member, member}
use Rattle.ledger.specs.Records.{plan_for, settle}
use Rattle.ledger.proofs.RecordLaws.{carry_by}
use Rattle.calls.specs.Pool.{Pool, ledger, word_count, Engine, next_after, sound}
use Rattle.calls.specs.Step.{Outcome, Act, ask, give, query, cut, bad, accepted, new_row, pool_after, blank}
use Rattle.calls.specs.Engines.{tree_engine}
use Rattle.calls.proofs.Engines.{tree_laws, tree_demand2}
use Rattle.calls.proofs.ActLaws.{act_by}
use Rattle.calls.proofs.GateLaws.{format_done_lem}
use Rattle.calls.proofs.GrantLaws.{entered, zeroed, length_zeroed, grant_store, on_arena}
use Rattle.calls.proofs.StoreLaws.{ledger_store, words_store, shape_store}
use Rattle.calls.proofs.Demand2.{act_sound, act_shape}
use Rattle.tree_check.specs.Gate.{tree_pool, no_head}
use Rattle.std.specs.Prelude.{Option, Some, None}
use Rattle.text.specs.Numbers.{Bytes}
use Rattle.text.specs.Fields.{pair_of, triple_of}
use Rattle.text.specs.Lines.{most_bytes, keep, also, feed}
use Rattle.word_bytes.specs.Little.{is_other}
use Rattle.session.specs.declared.LineRequest.{LineRequest}
use Rattle.session.specs.declared.LineRequest.TheVariants as request
use Rattle.session.specs.Meaning.{Standing, before, serving, stopped, served, serve, fresh, opening, opened}
use Rattle.session.specs.Meaning.{begins, bad_first, three_numbers, two_numbers, first_line, request_of, refusal_line}
use Rattle.session.specs.Meaning.{act_of, most_text_words, text_form, text_party}
use Rattle.session.specs.State.{session, is_ours, right_pool, good}

-- ---- a pool of the text program stays one

abbrev ours : Pool → Bool
ours p = all is_ours (ledger p)

right_of_lem : (p : Pool) → sound tree_engine p ≡ true → p.shape ≡ text_form → word_count p ≤ most_text_words
    → ours p ≡ true → right_pool (serving p) ≡ true
right_of_lem p ok e h own =
    let form = and_i (sound tree_engine p) (eqb p.shape text_form) ok (ap (λ n. eqb n text_form) e) in
    let words = and_i (sound tree_engine p && eqb p.shape text_form) (leb (word_count p) most_text_words) form
    (of_le (word_count p) most_text_words h) in
    and_i (sound tree_engine p && eqb p.shape text_form && leb (word_count p) most_text_words) (ours p) words own

module _ (p : Pool) (h : right_pool (serving p) ≡ true) where
  pub right_sound : sound tree_engine p ≡ true
  right_sound = and_l _ _ (and_l _ _ (and_l _ _ h))

  pub right_form : p.shape ≡ text_form
  right_form = eqb_eq p.shape text_form (and_r (sound tree_engine p) _ (and_l _ _ (and_l _ _ h)))

  pub right_words : word_count p ≤ most_text_words
  right_words =
      le_of (word_count p) most_text_words (and_r (sound tree_engine p && eqb p.shape text_form) _ (and_l _ _ h))

  right_ours : ours p ≡ true
  right_ours =
      and_r (sound tree_engine p && eqb p.shape text_form && leb (word_count p) most_text_words) (ours p) h

act_words : (E : Engine) (p : Pool) (a : Act) → word_count (pool_after E p a) ≡ word_count p
act_words E =
    act_by E (λ p a q. word_count q ≡ word_count p)
    (λ p a. refl)
    (λ p c n k asked. ap word_count (grant_store E p c n k) ∙ words_store E (entered E p c n k) _ (on_arena p (zeroed E p c n k))
    ∙ length_zeroed E p c n k)
    (λ p q r e h. words_store E _ p.head.next p)

-- a new record of party 1
ours_enter : (new : Row) (L : Ledger) → is_ours new ≡ true → all is_ours L ≡ true → all is_ours (enter new L) ≡ true
ours_enter new [] n h = refl
ours_enter new (r ∷ L) n h =
    let rest = and_r (is_ours r) (all is_ours L) h in
    go (is_empty r) (and_l (is_ours r) (all is_ours L) h) rest (ours_enter new L n rest)
  where
    go : (b : Bool) → is_ours r ≡ true → all is_ours L ≡ true → all is_ours (enter new L) ≡ true
        → all is_ours (cond b (new ∷ L) (r ∷ enter new L)) ≡ true
    go true x y ih = and_i (is_ours new) (all is_ours L) n y
    go false x y ih = and_i (is_ours r) (all is_ours (enter new L)) x ih

-- a record of party 1 that is emptied, or shorter, or as it was
ours_carried : (r : Row) (q : Plan) → is_ours r ≡ true → is_ours (carry_out q r) ≡ true
ours_carried =
    carry_by (λ (r : Row) (q : Plan) (s : Row). is_ours r ≡ true → is_ours s ≡ true)
    (λ r h. refl)
    (λ r n some few h.
    let words : eqb r.words 0 ≡ false = eqb_ne r.words 0 (λ z. omega arith) in
    let live : is_empty r ≡ false = rw (words, and-false) in
    let party : eqb r.party text_party ≡ true = rw live at h in
    rw (party, or-true))
    (λ r q h. h)

ours_settle : (ms : List Member) (L : Ledger) → all is_ours L ≡ true → all is_ours (settle ms L) ≡ true
ours_settle ms = all_map (λ r. carry_if (plan_for r.ticket ms) r) is_ours (λ r. go (plan_for r.ticket ms) r)
  where
    go : (o : plans.Option Plan) (r : Row) → is_ours r ≡ true → is_ours (carry_if o r) ≡ true
    go none r h = h
    go (some q) r h = ours_carried r q h

-- the party that asks for words, the text program's where none does
abbrev asked_by : Act → ℕ
asked_by (ask c n) = c
asked_by (give r) = text_party
asked_by (query r) = text_party
asked_by (cut r n) = text_party
asked_by bad = text_party

act_ours : (E : Engine) (p : Pool) (a : Act) → asked_by a ≡ text_party → ours p ≡ true → ours (pool_after E p a) ≡ true
act_ours E =
    act_by E (λ p a q. asked_by a ≡ text_party → ours p ≡ true → ours q ≡ true)
    (λ p a g h. h)
    (λ p c n k asked g h. ap ours (grant_store E p c n k)
    ∙ ap (all is_ours) (ledger_store E (entered E p c n k) (next_after p.head.next) (on_arena p (zeroed E p c n k)))
    ∙ ours_enter (new_row E p c n k) (ledger p) (rw (g, or-true)) h)
    (λ p q r e f g h. ap (all is_ours) (ledger_store E (settle (member r.ticket q ∷ []) (ledger p)) p.head.next p)
    ∙ ours_settle (member r.ticket q ∷ []) (ledger p) h)

right_act : (p : Pool) (a : Act) → asked_by a ≡ text_party → right_pool (serving p) ≡ true
    → right_pool (serving (pool_after tree_engine p a)) ≡ true
right_act p a g h =
    right_of_lem (pool_after tree_engine p a) (act_sound tree_engine tree_laws p a (right_sound p h))
    (act_shape tree_engine tree_laws p a ∙ right_form p h)
    (omega (arith, act_words tree_engine p a, right_words p h))
    (act_ours tree_engine p a g (right_ours p h))

-- a line asks for party 1
line_asks : (q : Option LineRequest) → asked_by (act_of q) ≡ text_party
line_asks (Some (request.Ask n)) = refl
line_asks (Some (request.Give r)) = refl
line_asks (Some (request.Cut r n)) = refl
line_asks None = refl

-- ---- a pool that P opens is one

right_opening : (w s first : ℕ) (ns : List ℕ) → w ≤ most_text_words → (b : Bool)
    → accepted (fresh w s first).answer ≡ b → right_pool (opening (fresh w s first) ns).state ≡ true
unfolding fresh
right_opening w s first ns h true e =
    let z = tree_pool (no_head text_form) (replicate w 0) (replicate (record_words * s) 0) in
    let made = (format_done_lem tree_engine z first e).1 in
    rw e
    (right_of_lem (fresh w s first).pool (tree_demand2.formats z first e).0
    (ap (λ (o : Outcome). o.pool.shape) made ∙ shape_store tree_engine (blank tree_engine z) first z)
    (omega (
      arith,
      h,
      ap (λ (o : Outcome). word_count o.pool) made ∙ words_store tree_engine (blank tree_engine z) first z
          ∙ length-replicate {A = ℕ} w 0,
    ))
    (ap (λ (o : Outcome). ours o.pool) made
    ∙ ap (all is_ours) (ledger_store tree_engine (blank tree_engine z) first z)
    ∙ all_replicate is_ours empty_row refl (slots z.table)))
right_opening w s first ns h false e = rw e

right_opened : (w s first : ℕ) (ns : List ℕ) → right_pool (opened w s first ns).state ≡ true
unfolding opened
right_opened w s first ns = go (leb w most_text_words) refl
  where
    go : (b : Bool) → leb w most_text_words ≡ b
        → right_pool (cond b (opening (fresh w s first) ns) (served stopped (refusal_line 8))).state ≡ true
    go true e = right_opening w s first ns (le_of w most_text_words e) (accepted (fresh w s first).answer) refl
    go false e = refl

right_three : (t : Option (ℕ × ℕ × ℕ)) → right_pool (three_numbers t).state ≡ true
right_three (Some (w, s, first)) = right_opened w s first (w ∷ s ∷ first ∷ [])
right_three None = refl

right_two : (p : Option (ℕ × ℕ)) (t : Option (ℕ × ℕ × ℕ)) → right_pool (two_numbers p t).state ≡ true
right_two (Some (w, s)) t = right_opened w s 1 (w ∷ s ∷ [])
right_two None t = right_three t

right_first : (line : Bytes) → right_pool (first_line line).state ≡ true
unfolding first_line
right_first line = go (begins line 80)
  where
    go : (b : Bool)
        → right_pool (cond b (two_numbers (pair_of (drop 2 line)) (triple_of (drop 2 line))) bad_first).state ≡ true
    go true = right_two (pair_of (drop 2 line)) (triple_of (drop 2 line))
    go false = refl

right_serve : (s : Standing) (line : Bytes) → right_pool s ≡ true → right_pool (serve s line).state ≡ true
unfolding serve
right_serve before line h = right_first line
right_serve (serving p) line h = right_act p (act_of (request_of line)) (line_asks (request_of line)) h
right_serve stopped line h = refl

-- ---- a good session

pub record Good (s : Standing) (k : Bytes) : Type 0 where
  pub short : length k ≤ 65
  pub plain : all (is_other 10) k ≡ true
  pub right : right_pool s ≡ true

pub good_parts : (s : Standing) (k : Bytes) → good (session s k) ≡ true → Good s k
unfolding good
good_parts s k h = record {
  short = le_of (length k) 65 (and_l _ _ (and_l _ _ h));
  plain = and_r (leb (length k) 65) _ (and_l _ _ h);
  right = and_r (leb (length k) 65 && all (is_other 10) k) _ h;
}

pub good_of : (s : Standing) (k : Bytes) → Good s k → good (session s k) ≡ true
unfolding good
good_of s k g =
    and_i (leb (length k) 65 && all (is_other 10) k) (right_pool s)
    (and_i (leb (length k) 65) (all (is_other 10) k) (of_le (length k) 65 g.short) g.plain) g.right

pub good_begun : Good before []
good_begun = record { short = omega arith; plain = refl; right = refl }

-- a byte more
good_keep : (s : Standing) (k : Bytes) (b : ℕ) → eqb b 10 ≡ false → Good s k → Good s (keep k b)
unfolding keep
good_keep s k b e g = go (ltb most_bytes (length k)) refl
  where
    go : (t : Bool) → ltb most_bytes (length k) ≡ t → Good s (cond t k (k ++ b ∷ []))
    go true q = g
    go false q = record {
      short = omega (arith, ltb-false most_bytes (length k) q, length-append k (b ∷ []));
      plain = all_append (is_other 10) k (b ∷ []) g.plain (and_i (is_other 10 b) true (ap not e) refl);
      right = g.right;
    }

-- a line served
good_line : (s : Standing) (k line : Bytes) → Good s k → Good (serve s line).state []
good_line s k line g = record { short = omega arith; plain = refl; right = right_serve s line g.right }

pub good_feed : (s : Standing) (k xs : Bytes) → Good s k
    → (let f = feed serve s k xs in Good f.state f.kept)
good_feed s k [] g = g
good_feed s k (b ∷ xs) g =
    go (eqb b 10) refl (good_feed (serve s k).state [] xs (good_line s k k g))
    (λ e. good_feed s (keep k b) xs (good_keep s k b e g))
  where
    go : (t : Bool) → eqb b 10 ≡ t
        → (let f = feed serve (serve s k).state [] xs in Good f.state f.kept)
        → (eqb b 10 ≡ false → (let f = feed serve s (keep k b) xs in Good f.state f.kept))
        → (let f = cond t (also (serve s k).said (feed serve (serve s k).state [] xs)) (feed serve s (keep k b) xs) in
        Good f.state f.kept)
    go true e g h = g
    go false e g h = h e
