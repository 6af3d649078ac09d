-- The tight steps of attained labels are a net by themselves, in which each walk is as long as its start's label. So walks there
-- are shortest, have fewer steps than there are arrivals, and an attained label that is a number is far below "none" (`far_label`).
-- Assumes nothing.
use mathlib.Core.Path.{◌≡◌}
use Prim.Native.Nat.{ℕ, ◌+◌, ◌*◌, ◌≤◌, ◌<◌}
use native.Mathlib.Nat.{mul-le-mul}
use native.Mathlib.Omega.{arith}
use lib.ListN.{length}
use Rattle.rules.specs.Net.{no_distance, Net, Remaining, no_walk, by_walk, within, KeepsRules}
use Rattle.rules.proofs.Walks.{Bounded, Tight, Attained, unreached, at_end, by_step, attained_remaining}
use Rattle.rules.proofs.Simple.{few_steps, at_most_steps}

-- a step that is tight, from a label that is a number
record TightStep (N : Net) (label : ℕ → ℕ) (a b : ℕ) : Type 0 where
  step : N.Step a b
  tight : Tight N label a b
  number : label a < no_distance

-- an end whose label is the room
record TightEnd (N : Net) (label : ℕ → ℕ) (a : ℕ) : Type 0 where
  end : N.Finish a
  tight : label a ≡ N.room

abbrev tight_net : Net → (ℕ → ℕ) → Net
tight_net N label = record { Step = TightStep N label; cost = N.cost; Finish = TightEnd N label; room = N.room }

module _ {N : Net} {n top : ℕ} (B : Bounded N n top) {label : ℕ → ℕ} (attained : (a : ℕ) → a < n → Attained N label a) where
  bounded : Bounded (tight_net N label) n top
  bounded = record {
    positive = λ s. B.positive s.step;
    capped = λ s. B.capped s.step;
    from = λ s. B.from s.step;
    to = λ s. B.to s.step;
    ending = λ f. B.ending f.end;
    same_step = λ s t. B.same_step s.step t.step;
  }

  keeps : (a : ℕ) → KeepsRules (tight_net N label) label a
  keeps a = record { at_finish = λ f. let e = f.tight in omega arith; at_step = λ b s. let e = s.tight in within s.number (omega arith) }

  still_attained : (a : ℕ) → a < n → Attained (tight_net N label) label a
  still_attained a h = go (attained a h)
    where
      go : Attained N label a → Attained (tight_net N label) label a
      go (unreached e) = unreached e
      go (at_end f e) = at_end (record { end = f; tight = e }) e
      go (by_step b s e m) = by_step b (record { step = s; tight = e; number = m }) e m

  pub far_label : n ≤ 2048 → top ≤ 220000 → N.room ≤ 200000 → (a : ℕ) → a < n → label a < no_distance → label a + 220000 < no_distance
  far_label ln lt lr a h m = go (attained_remaining bounded still_attained (omega arith) keeps a h)
    where
      go : Remaining (tight_net N label) a (label a) → label a + 220000 < no_distance
      go (no_walk e w) = absurd (omega arith)
      go (by_walk bs s e) =
          let few = few_steps bounded bs h s in
          let far = at_most_steps bounded s.walk in
          let p : length bs * top ≤ 2048 * 220000 = mul-le-mul {n₂ = 2048} {m₂ = 220000} (omega arith) lt in
          omega arith
