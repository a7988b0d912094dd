-- A session read from its state: its words, and whether its pool is sound. Assumes nothing.
use Prim.Native.Nat.{ℕ, ◌*◌, ◌≤◌}
use mathlib.Core.Path.{◌≡◌, refl, sym, ap, ap₂, ◌∙◌}
use mathlib.Core.Bool.{Bool, true, false, cond, ◌&&◌, and-true, false≢true}
use mathlib.Core.List.{◌++◌}
use native.Mathlib.Omega.{arith}
use lib.Dec.{eqb, leb}
use lib.ListN.{length, take, drop}
use lib.Seq.{take_at, length-take-le}
use Rattle.words.specs.Lists.{Words, all, list_from}
use Rattle.words.proofs.Tests.{bool_iff, eqb_eq, eqb_ne, of_le}
use Rattle.words.proofs.ListLaws.{length_list_from}
use Rattle.ledger.specs.Records.{record_words, record_at, records_of}
use Rattle.calls.specs.Pool.{Pool, word_count, sound}
use Rattle.calls.specs.Step.{GateIs}
use Rattle.calls.specs.Engines.{tree_engine}
use Rattle.calls.proofs.Engines.{tree_laws}
use Rattle.calls.proofs.StoreLaws.{sound_lengths, sound_stored}
use Rattle.calls.proofs.GateLaws.{is_zero, gate_opens}
use Rattle.tree_check.specs.Gate.{tree_pool}
use Rattle.text.specs.Numbers.{Bytes}
use Rattle.word_bytes.specs.Little.{word_at}
use Rattle.session.specs.Meaning.{before, serving, stopped, most_text_words, text_form}
use Rattle.session.specs.State.{session, table_from, arena_from, session_in, is_ours, right_pool}
use Rattle.pool_text.specs.declared.Own.{Own}
use Rattle.pool_text.specs.declared.Stage.TheVariants.{Before, Serving, Stopped}
use Rattle.pool_text.specs.Session.{own_pool, standing_of}
use Rattle.pool_bursts.specs.declared.Fields.{Fields}
use Rattle.pool_bursts.specs.Layout.{fields_in}
use Rattle.pool_bursts.specs.Inside.{stage_in}

-- the first n words, where code took them as a part
pub front_words : (f : ℕ → ℕ) (from n : ℕ) (out new rest : Words) → n ≤ length out
    → new ≡ list_from f from (length (take n out)) → take n (new ++ rest) ≡ list_from f from n
front_words f from n out new rest h e =
    let is : new ≡ list_from f from n = e ∙ ap (list_from f from) (length-take-le n out h) in
    take_at new rest n (ap length is ∙ length_list_from f from n) ∙ is

-- the gate's number of a pool, and the rest of the test
pub fitting_is : (o : Own) (a t : Words) (x : ℕ) → o.head.form ≡ text_form → o.words ≤ most_text_words
    → o.words ≤ length a → GateIs tree_engine (own_pool o a t) x
    → (y : Bool) → y ≡ all is_ours (records_of (take (record_words * o.slots) t))
    → (eqb x 0 && y) ≡ right_pool (serving (own_pool o a t))
fitting_is o a t x form few lies there y own =
    let p = own_pool o a t in
    let same : eqb x 0 ≡ sound tree_engine p =
    bool_iff (eqb x 0) (sound tree_engine p)
    (λ h. gate_opens tree_engine p x there (eqb_eq x 0 h))
    (λ h. ap (λ (n : ℕ). eqb n 0)
    (there ∙ sym (is_zero tree_engine p (sound_lengths tree_engine tree_laws p h) (sound_stored tree_engine tree_laws p h)))) in
    let long : length (take o.words a) ≤ most_text_words = omega (arith, length-take-le o.words a lies) in
    let fine : eqb x 0 ≡ (sound tree_engine p && eqb p.shape text_form && leb (word_count p) most_text_words) =
    same ∙ sym (rw (form, of_le (length (take o.words a)) most_text_words long, and-true, and-true)) in
    ap₂ (λ (b c : Bool). b && c) fine own

-- the record at slot i is empty or party 1's
abbrev pub ours_at : Words → ℕ → Bool
ours_at t i = is_ours (record_at t i)

module _ (f : Fields) (b line : Bytes) (e : f ≡ fields_in b) (same : line ≡ take f.kept (drop 24 b)) where
  stage_is : (n : ℕ) → f.stage ≡ n → word_at b 0 ≡ n
  stage_is n h = ap (λ (g : Fields). g.stage) (sym e) ∙ h

  kept_is : line ≡ take (word_at b 1) (drop 24 b)
  kept_is = same ∙ ap (λ (g : Fields). take g.kept (drop 24 b)) e

  pub loaded_pool : (a t : Words) → f.stage ≡ 2 → take f.words a ≡ list_from (word_at b) arena_from f.words
      → take (record_words * f.slots) t ≡ list_from (word_at b) table_from (record_words * f.slots)
      → session (serving (tree_pool (record { root = f.root; next = f.next; form = 1 }) (take f.words a)
      (take (record_words * f.slots) t))) line ≡ session_in b
  unfolding session_in
  loaded_pool a t h arena table =
      let read : Fields → Pool =
      λ (g : Fields). tree_pool (record { root = g.root; next = g.next; form = 1 })
      (list_from (word_at b) arena_from g.words) (list_from (word_at b) table_from (record_words * g.slots)) in
      rw (stage_is 2 h)
      (ap₂ (λ (p : Pool) (k : Bytes). session (serving p) k)
      (ap₂ (λ (x y : Words). tree_pool (record { root = f.root; next = f.next; form = 1 }) x y) arena table ∙ ap read e)
      kept_is)

  pub loaded_stopped : f.stage ≡ 3 → session stopped line ≡ session_in b
  unfolding session_in
  loaded_stopped h = rw (stage_is 3 h) (ap (session stopped) kept_is)

  pub loaded_before : (f.stage ≡ 2 → ⊥) → (f.stage ≡ 3 → ⊥) → session before line ≡ session_in b
  unfolding session_in
  loaded_before h k =
      let stage : f.stage ≡ word_at b 0 = ap (λ (g : Fields). g.stage) e in
      rw (eqb_ne (word_at b 0) 2 (λ z. h (stage ∙ z)), eqb_ne (word_at b 0) 3 (λ z. k (stage ∙ z)))
      (ap (session before) kept_is)

  -- at each stage
  pub loaded : (a t : Words)
      → (f.stage ≡ 2
      → (take f.words a ≡ list_from (word_at b) arena_from f.words)
      × (take (record_words * f.slots) t ≡ list_from (word_at b) table_from (record_words * f.slots)))
      → session (standing_of (stage_in f) a t) line ≡ session_in b
  loaded a t fronts = go (eqb f.stage 2) refl
    where
      own : Own
      own = record {
        head = record { root = f.root; next = f.next; form = text_form };
        words = f.words;
        slots = f.slots;
      }

      on : (f.stage ≡ 2 → ⊥) → (w : Bool) → eqb f.stage 3 ≡ w
          → session (standing_of (cond w Stopped Before) a t) line ≡ session_in b
      on n true q = loaded_stopped (eqb_eq f.stage 3 q)
      on n false q = loaded_before n (λ e. false≢true (sym q ∙ ap (λ (m : ℕ). eqb m 3) e))

      go : (v : Bool) → eqb f.stage 2 ≡ v
          → session (standing_of (cond v (Serving own) (cond (eqb f.stage 3) Stopped Before)) a t) line
          ≡ session_in b
      go true q =
          let here = eqb_eq f.stage 2 q in
          let (words, records) = fronts here in
          loaded_pool a t here words records
      go false q = on (λ e. false≢true (sym q ∙ ap (λ (m : ℕ). eqb m 2) e)) (eqb f.stage 3) refl
