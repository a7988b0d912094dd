-- Bytes that come in bursts, served as far as there is room for the answers, for any meaning of a line. 02, ticket 1.
-- Assumes nothing.
use Rattle.std.specs.Prelude.{ℕ, ◌-◌, ◌≡◌, cond, List, [], ◌∷◌, ◌++◌, length, eqb, leb}
use Rattle.text.specs.Numbers.{Bytes}
use Rattle.text.specs.Lines.{Served, Fed, also, keep}

-- what a burst did, and the bytes of it that were not taken
pub record Burst (S : Type 0) : Type 0 where
  pub fed : Fed S
  pub rest : Bytes

-- the same after something was said
abbrev pub also_said : {S : Type 0} → Bytes → Burst S → Burst S
also_said said f = record { fed = also said f.fed; rest = f.rest }

module _ {S : Type 0} (serve : S → Bytes → Served S) where
  -- Inside a burst, u is the unfinished line; it began, in this burst, with `line`, where k was kept of it. "If the room
  -- is too short for the next line's answer, the call stops before that line's first byte in this burst [..]; else it
  -- takes all."
  abbrev pub within : ℕ → S → Bytes → Bytes → Bytes → Bytes → Burst S
  within room s k line u [] = record { fed = record { state = s; kept = u; said = [] }; rest = [] }
  within room s k line u (b ∷ bs) =
      let r = serve s u in
      cond (eqb b 10)
      (cond (leb (length r.said) room)
      (also_said r.said (within (room - length r.said) r.state [] bs [] bs))
      (record { fed = record { state = s; kept = k; said = [] }; rest = line }))
      (within room s k line (keep u b) bs)

  -- a burst, after a state and an unfinished line, with room for so many bytes of answers
  unfoldable pub burst : ℕ → S → Bytes → Bytes → Burst S
  burst room s k bs = within room s k bs k bs

-- ---- one burst after another

-- bytes that are handed over, and the room for their answers
pub record Offer : Type 0 where
  pub bytes : Bytes
  pub room : ℕ

module _ {S : Type 0} (serve : S → Bytes → Served S) where
  -- the bursts, each with state and unfinished line as the one before left them
  abbrev pub fed_by : S → Bytes → List Offer → Fed S
  fed_by s k [] = record { state = s; kept = k; said = [] }
  fed_by s k (o ∷ os) =
      let f = burst serve o.room s k o.bytes in
      also f.fed.said (fed_by f.fed.state f.fed.kept os)

  -- The bursts hand over exactly the bytes xs, in any cutting: "bytes not taken are handed over again until they are
  -- taken".
  abbrev pub Offers : S → Bytes → Bytes → List Offer → Type 0
  Offers s k xs [] = xs ≡ []
  Offers s k xs (o ∷ os) =
      let f = burst serve o.room s k o.bytes in
      (ys : Bytes) × (xs ≡ o.bytes ++ ys) × Offers f.fed.state f.fed.kept (f.rest ++ ys) os
