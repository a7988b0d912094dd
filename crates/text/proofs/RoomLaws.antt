-- A burst does what its taken bytes do alone, and any handing over does what all the bytes do. Assumes nothing.
use Prim.Native.Nat.{ℕ, suc, ◌+◌, ◌*◌, ◌-◌, ◌≤◌, ◌<◌}
use mathlib.Core.Path.{◌≡◌, refl, sym, ap, ◌∙◌}
use mathlib.Core.Bool.{Bool, true, false, cond}
use mathlib.Core.List.{List, [], ◌∷◌, ◌++◌, append_assoc, append-nil}
use native.Mathlib.Omega.{arith}
use native.Mathlib.Nat.{mul-suc}
use lib.ListN.{length, length-append}
use lib.Dec.{eqb, leb}
use borrow.Author.Tests.{eqb-true, leb-true, leb-false}
use Rattle.text.specs.Numbers.{Bytes}
use Rattle.text.specs.Lines.{Served, Fed, keep, also, feed, Run, run}
use Rattle.text.specs.Rooms.{Burst, also_said, within, burst, Offer, fed_by, Offers}
use Rattle.text.proofs.CutLaw.{cut}
use Rattle.text.proofs.LineLaws.{stops_at_feed}

module _ {S : Type 0} (serve : S → Bytes → Served S) where
  -- the bytes that a burst took, and what they do alone
  pub record Took (s : S) (k line : Bytes) (f : Burst S) : Type 0 where
    pub taken : Bytes
    pub split : line ≡ taken ++ f.rest
    pub alone : feed serve s k taken ≡ f.fed

  abbrev quiet : S → Bytes → Fed S
  quiet s u = record { state = s; kept = u; said = [] }

  -- the bytes ws of the line so far change the unfinished line alone
  module _ (s : S) (k ws u : Bytes) (so : feed serve s k ws ≡ quiet s u) where
    after_ws : (ys : Bytes) → feed serve s k (ws ++ ys) ≡ feed serve s u ys
    after_ws ys =
        cut serve s k ws ys
        ∙ ap (λ (f : Fed S). also f.said (feed serve f.state f.kept ys)) so

  took : (room : ℕ) (s : S) (k line ws u bs : Bytes) → line ≡ ws ++ bs → feed serve s k ws ≡ quiet s u
      → Took s k line (within serve room s k line u bs)
  took room s k line ws u [] e so = record {
    taken = line;
    split = sym (append-nil line);
    alone =
        ap (λ (x : Bytes). feed serve s k x) (e ∙ append-nil ws) ∙ so;
  }
  took room s k line ws u (b ∷ bs) e so =
      by_byte (eqb b 10) refl
      (λ q. took room s k line (ws ++ b ∷ []) (keep u b) bs (e ∙ sym (append_assoc ws (b ∷ []) bs))
      (after_ws s k ws u so (b ∷ [])
      ∙ ap (λ (v : Bool). cond v (also (serve s u).said (feed serve (serve s u).state [] []))
      (feed serve s (keep u b) [])) q))
      (took (room - length (serve s u).said) (serve s u).state [] bs [] [] bs refl refl)
    where
      on : (f : Burst S) → Took (serve s u).state [] bs f → b ≡ 10 → Took s k line (also_said (serve s u).said f)
      on f t ten = record {
        taken = ws ++ b ∷ t.taken;
        split = e ∙ ap (λ (x : Bytes). ws ++ b ∷ x) t.split ∙ sym (append_assoc ws (b ∷ t.taken) f.rest);
        alone =
            after_ws s k ws u so (b ∷ t.taken)
            ∙ ap (λ (x : ℕ). feed serve s u (x ∷ t.taken)) ten
            ∙ ap (also (serve s u).said) t.alone;
      }

      fits : (v : Bool) (f : Burst S) → Took (serve s u).state [] bs f → b ≡ 10
          → Took s k line (cond v (also_said (serve s u).said f) (record { fed = quiet s k; rest = line }))
      fits true f t ten = on f t ten
      fits false f t ten = record { taken = []; split = refl; alone = refl }

      by_byte : (v : Bool) → eqb b 10 ≡ v
          → (eqb b 10 ≡ false → Took s k line (within serve room s k line (keep u b) bs))
          → Took (serve s u).state [] bs
          (within serve (room - length (serve s u).said) (serve s u).state [] bs [] bs)
          → Took s k line
          (cond v
          (cond (leb (length (serve s u).said) room)
          (also_said (serve s u).said
          (within serve (room - length (serve s u).said) (serve s u).state [] bs [] bs))
          (record { fed = quiet s k; rest = line }))
          (within serve room s k line (keep u b) bs))
      by_byte true q no-feed next =
          fits (leb (length (serve s u).said) room) _ next (eqb-true b 10 q)
      by_byte false q no-feed next = no-feed q

  pub burst_took : (room : ℕ) (s : S) (k bs : Bytes) → Took s k bs (burst serve room s k bs)
  unfolding burst
  burst_took room s k bs = took room s k bs [] k bs refl refl

  -- a burst that is taken whole does what its bytes do
  pub burst_whole : (room : ℕ) (s : S) (k bs : Bytes) → (burst serve room s k bs).rest ≡ []
      → (burst serve room s k bs).fed ≡ feed serve s k bs
  burst_whole room s k bs e =
      let t = burst_took room s k bs in
      sym t.alone ∙ ap (λ (x : Bytes). feed serve s k x)
      (sym (t.split ∙ ap (λ (r : Bytes). t.taken ++ r) e ∙ append-nil t.taken))

  -- "any cutting of the same bytes, with zero-length bursts among them"
  pub any_handing : (s : S) (k xs : Bytes) (os : List Offer) → Offers serve s k xs os
      → fed_by serve s k os ≡ feed serve s k xs
  any_handing s k xs [] h = ap (λ (x : Bytes). feed serve s k x) (sym h)
  any_handing s k xs (o ∷ os) h =
      let f = burst serve o.room s k o.bytes in
      let t = burst_took o.room s k o.bytes in
      let rest = f.rest ++ h.0 in
      let all : xs ≡ t.taken ++ rest =
      h.1 ∙ ap (λ (x : Bytes). x ++ h.0) t.split ∙ append_assoc t.taken f.rest h.0 in
      ap (also f.fed.said) (any_handing f.fed.state f.fed.kept rest os h.2)
      ∙ sym (cut serve s k t.taken rest
      ∙ ap (λ (g : Fed S). also g.said (feed serve g.state g.kept rest)) t.alone)
      ∙ ap (λ (x : Bytes). feed serve s k x) (sym all)

  -- ---- line by line

  run_byte : (t : Bool) (room : ℕ) (s : S) (k line u : Bytes) (b : ℕ) (bs : Bytes) (r : Run) → eqb b 10 ≡ t
      → within serve room s k line (keep u b) bs ≡ within serve room s k line r.kept r.rest
      → (let x = cond t (record { kept = u; rest = b ∷ bs }) r in
      within serve room s k line u (b ∷ bs) ≡ within serve room s k line x.kept x.rest)
  run_byte true room s k line u b bs r e h = refl
  run_byte false room s k line u b bs r e h = rw e h

  -- the bytes as far as the next line feed change the unfinished line alone
  within_run : (room : ℕ) (s : S) (k line u bs : Bytes)
      → within serve room s k line u bs ≡ within serve room s k line (run u bs).kept (run u bs).rest
  unfolding run
  within_run room s k line u [] = refl
  within_run room s k line u (b ∷ bs) =
      run_byte (eqb b 10) room s k line u b bs (run (keep u b) bs) refl (within_run room s k line (keep u b) bs)

  module _ (room : ℕ) (s : S) (k bs kept : Bytes) where
    -- the burst ends inside a line
    pub burst_open : record { kept = kept; rest = [] } ≡ run k bs
        → burst serve room s k bs ≡ record { fed = quiet s kept; rest = [] }
    unfolding burst
    burst_open e =
        within_run room s k bs k bs
        ∙ ap (λ (r : Run). within serve room s k bs r.kept r.rest) (sym e)

    -- a line ends in the burst: it is served, or there is no room
    pub burst_line : (b : ℕ) (more : Bytes) → record { kept = kept; rest = b ∷ more } ≡ run k bs
        → (let r = serve s kept in
        burst serve room s k bs ≡
        cond (leb (length r.said) room)
        (also_said r.said (burst serve (room - length r.said) r.state [] more))
        (record { fed = quiet s k; rest = bs }))
    unfolding burst
    burst_line b more e =
        let ten : b ≡ 10 = stops_at_feed k bs b more (ap (λ (r : Run). r.rest) (sym e)) in
        within_run room s k bs k bs
        ∙ ap (λ (r : Run). within serve room s k bs r.kept r.rest) (sym e)
        ∙ rw ten

  -- ---- the answers fit

  by_room : (v w : Bool) (room : ℕ) (said : Bytes) (x y z : Burst S) → (w ≡ true → length said ≤ room)
      → length x.fed.said ≤ room - length said → length y.fed.said ≤ room → length z.fed.said ≤ room
      → length (cond v (cond w (also_said said x) z) y).fed.said ≤ room
  by_room true true room said x y z f p q r =
      let h = f refl in
      omega (arith, length-append said x.fed.said)
  by_room true false room said x y z f p q r = r
  by_room false w room said x y z f p q r = q

  within_fits : (room : ℕ) (s : S) (k line u bs : Bytes) → length (within serve room s k line u bs).fed.said ≤ room
  within_fits room s k line u [] = omega arith
  within_fits room s k line u (b ∷ bs) =
      let r = serve s u in
      by_room (eqb b 10) (leb (length r.said) room) room r.said
      (within serve (room - length r.said) r.state [] bs [] bs) (within serve room s k line (keep u b) bs)
      (record { fed = quiet s k; rest = line })
      (λ q. leb-true (length r.said) room q)
      (within_fits (room - length r.said) r.state [] bs [] bs)
      (within_fits room s k line (keep u b) bs)
      (omega arith)

  pub answers_fit : (room : ℕ) (s : S) (k bs : Bytes) → length (burst serve room s k bs).fed.said ≤ room
  unfolding burst
  answers_fit room s k bs = within_fits room s k bs k bs

  -- ---- progress

  by_test : (v w : Bool) (n : ℕ) (said : Bytes) (x y z : Burst S) → (w ≡ true → length x.rest ≤ n)
      → (w ≡ false → length z.rest ≤ n) → length y.rest ≤ n
      → length (cond v (cond w (also_said said x) z) y).rest ≤ n
  by_test true true n said x y z p q r = p refl
  by_test true false n said x y z p q r = q refl
  by_test false w n said x y z p q r = r

  -- a burst hands back no more than it was handed
  hands_back : (room : ℕ) (s : S) (k line u bs : Bytes) (n : ℕ) → length line ≤ n → length bs ≤ n
      → length (within serve room s k line u bs).rest ≤ n
  hands_back room s k line u [] n h g = omega arith
  hands_back room s k line u (b ∷ bs) n h g =
      let r = serve s u in
      by_test (eqb b 10) (leb (length r.said) room) n r.said
      (within serve (room - length r.said) r.state [] bs [] bs) (within serve room s k line (keep u b) bs)
      (record { fed = quiet s k; rest = line })
      (λ q. hands_back (room - length r.said) r.state [] bs [] bs n (omega arith) (omega arith))
      (λ q. h)
      (hands_back room s k line (keep u b) bs n h (omega arith))

  -- with room for the longest answer
  module _ (most room : ℕ) (short : (s : S) (line : Bytes) → length (serve s line).said ≤ most) (h : most ≤ room) where
    takes_one : (s : S) (k line u bs : Bytes) (n : ℕ) → length bs ≤ suc n
        → length (within serve room s k line u bs).rest ≤ n
    takes_one s k line u [] n g = omega arith
    takes_one s k line u (b ∷ bs) n g =
        let r = serve s u in
        by_test (eqb b 10) (leb (length r.said) room) n r.said
        (within serve (room - length r.said) r.state [] bs [] bs) (within serve room s k line (keep u b) bs)
        (record { fed = quiet s k; rest = line })
        (λ q. hands_back (room - length r.said) r.state [] bs [] bs n (omega arith) (omega arith))
        (λ q. absurd (never q))
        (takes_one s k line (keep u b) bs n (omega arith))
      where
        never : leb (length (serve s u).said) room ≡ false → ⊥
        never q = omega (arith, leb-false, short s u)

    -- of a burst that is not empty at least one byte is taken
    pub progress : (s : S) (k bs : Bytes) → 0 < length bs → length (burst serve room s k bs).rest < length bs
    unfolding burst
    progress s k [] n = absurd (omega arith)
    progress s k (b ∷ bs) n = omega (arith, takes_one s k (b ∷ bs) k (b ∷ bs) (length bs) (omega arith))

  -- ---- bytes whose answers have room

  by_answers : (v : Bool) (room : ℕ) (said : Bytes) (g h : Fed S) (x y z : Burst S)
      → (length g.said ≤ room - length said → length x.rest ≤ 0) → (length h.said ≤ room → length y.rest ≤ 0)
      → length (cond v (also said g) h).said ≤ room
      → length (cond v (cond (leb (length said) room) (also_said said x) z) y).rest ≤ 0
  by_answers false room said g h x y z p q e = q e
  by_answers true room said g h x y z p q e = go (leb (length said) room) refl
    where
      long : length said + length g.said ≤ room
      long = omega (arith, length-append said g.said)

      go : (w : Bool) → leb (length said) room ≡ w → length (cond w (also_said said x) z).rest ≤ 0
      go true t = p (omega (arith, long))
      go false t = absurd (omega (arith, long, leb-false (length said) room t))

  within_taken : (room : ℕ) (s : S) (k line u bs : Bytes) → length (feed serve s u bs).said ≤ room
      → length (within serve room s k line u bs).rest ≤ 0
  within_taken room s k line u [] h = omega arith
  within_taken room s k line u (b ∷ bs) h =
      let r = serve s u in
      by_answers (eqb b 10) room r.said (feed serve r.state [] bs) (feed serve s (keep u b) bs)
      (within serve (room - length r.said) r.state [] bs [] bs) (within serve room s k line (keep u b) bs)
      (record { fed = quiet s k; rest = line })
      (λ g. within_taken (room - length r.said) r.state [] bs [] bs g)
      (λ g. within_taken room s k line (keep u b) bs g)
      h

  -- all of them are taken
  pub burst_taken : (room : ℕ) (s : S) (k bs : Bytes) → length (feed serve s k bs).said ≤ room
      → (burst serve room s k bs).rest ≡ []
  unfolding burst
  burst_taken room s k bs h = nothing (within serve room s k bs k bs).rest (within_taken room s k bs k bs h)
    where
      nothing : (l : Bytes) → length l ≤ 0 → l ≡ []
      nothing [] e = refl
      nothing (x ∷ l) e = absurd (omega arith)

  -- "the lines it took are done, as if they had come alone"
  pub burst_alone : (room : ℕ) (s : S) (k bs : Bytes)
      → (let t = (burst_took room s k bs).taken in
      ((burst serve room s k t).rest ≡ []) × ((burst serve room s k t).fed ≡ (burst serve room s k bs).fed))
  burst_alone room s k bs =
      let t = burst_took room s k bs in
      let fits = ap (λ (f : Fed S). length f.said) t.alone in
      let all = burst_taken room s k t.taken (omega (arith, fits, answers_fit room s k bs)) in
      (all, burst_whole room s k t.taken all ∙ t.alone)

  -- with room for the longest answer to each byte
  module _ (most : ℕ) (short : (s : S) (line : Bytes) → length (serve s line).said ≤ most) where
    pub said_short : (s : S) (u bs : Bytes) → length (feed serve s u bs).said ≤ most * length bs
    said_short s u [] = omega arith
    said_short s u (b ∷ bs) =
        let r = serve s u in
        go (eqb b 10) (said_short r.state [] bs) (said_short s (keep u b) bs)
      where
        go : (v : Bool) → length (feed serve (serve s u).state [] bs).said ≤ most * length bs
            → length (feed serve s (keep u b) bs).said ≤ most * length bs
            → length (cond v (also (serve s u).said (feed serve (serve s u).state [] bs)) (feed serve s (keep u b) bs)).said
            ≤ most * suc (length bs)
        go true g h =
            omega (
              arith,
              short s u,
              mul-suc most (length bs),
              length-append (serve s u).said
                  (feed serve (serve s u).state [] bs).said,
            )
        go false g h = omega (arith, mul-suc most (length bs))
