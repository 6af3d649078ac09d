-- How a guess is made of others: over a section, and over the sections of a point.
-- Assumes nothing.
use Rattle.std.proofs.Common.{◌≡◌, refl, ⊎_elim, List, [], ◌∷◌, ℕ, ◌+◌, ◌-◌, ◌*◌, ◌≤◌, ◌<◌, get_or, arith, below_more, Option, None, Some, true}
use Rattle.std.proofs.lemmas.Bool.{false≢true}
use Rattle.std.specs.Option.{is_some}
use Rattle.turns.specs.declared.yard.Turn.{Turn}
use Rattle.turns.specs.Tables.{Tables}
use Rattle.tries.specs.Tried.{Over}
use Rattle.tries.proofs.Going.{in_slots}
use Rattle.reversal.specs.Glanced.{Takes}
use Rattle.reversal.specs.Guessed.{Missed, Guessed}

-- a guess at the lists that begin with e: none does, or all go on from there
module _ {P : List ℕ → Type 0} {budget e : ℕ} where
  pub guess_shut : ((qs : List ℕ) → P (e ∷ qs) → ⊥) → Missed (Over P e) budget (budget - 1)
  guess_shut shut = record { within = omega arith; nothing = go }
    where
      go : (qs : List ℕ) → Over P e qs → ⊥
      go [] u = u.0
      go (q ∷ qs) u = shut qs (rw u.0 at u.1)

pub guess_on : (P Q : List ℕ → Type 0) (budget e : ℕ) (r : Option ℕ) → ((qs : List ℕ) → P (e ∷ qs) → Q qs) → Guessed Q (budget - 1) r
    → Guessed (Over P e) budget r
guess_on P Q budget e None on g = tt
guess_on P Q budget e (Some r) on g = record { within = omega (arith, g.within); nothing = go }
  where
    go : (qs : List ℕ) → Over P e qs → ⊥
    go [] u = u.0
    go (q ∷ qs) u = g.nothing qs (on qs (rw u.0 at u.1))

-- what is left says that there is none
pub guess_missed : (P : List ℕ → Type 0) (budget : ℕ) (r : Option ℕ) → Guessed P budget r → is_some r ≡ true → (qs : List ℕ) → P qs → ⊥
guess_missed P budget None g e = absurd (false≢true e)
guess_missed P budget (Some r) g e = g.nothing

-- the guesses at the lists from p on that begin with the sections in the slots before j have missed, and r is left of the budget
pub record MissedTo (P : List ℕ → Type 0) (slots : List ℕ) (p budget r j : ℕ) : Type 0 where
  pub within : r ≤ budget
  pub nothing : (k : ℕ) → k < j → (qs : List ℕ) → Over P (get_or slots (3 * p + k) 0) qs → ⊥

module _ {P : List ℕ → Type 0} {slots : List ℕ} {p budget : ℕ} where
  pub missed_none : MissedTo P slots p budget budget 0
  missed_none = record { within = omega arith; nothing = λ k l. absurd (omega arith) }

  -- e is what stands in slot j
  pub missed_more : {r s j e : ℕ} → MissedTo P slots p budget r j → e ≡ get_or slots (3 * p + j) 0 → Missed (Over P e) r s
      → MissedTo P slots p budget s (j + 1)
  missed_more {j} before i more =
      record {
        within = omega (arith, before.within, more.within);
        nothing = below_more (λ k. (qs : List ℕ) → Over P (get_or slots (3 * p + k) 0) qs → ⊥) j before.nothing (rw i at more.nothing);
      }

-- no list begins with a section at p, so there is none
module _ {ss ts slots : List ℕ} {table : List (Option Turn)} (tables : Tables ss ts slots table) {c s n h p : ℕ} where
  pub missed_all : {budget r j : ℕ} → MissedTo (Takes ss ts c s n h p) slots p budget r j → 3 ≤ j → Missed (Takes ss ts c s n h p) budget r
  missed_all {j} before l =
      record {
        within = before.within;
        nothing = λ qs w. ⊎_elim (λ u. before.nothing 0 (omega arith) qs (u, w))
            (⊎_elim (λ u. before.nothing 1 (omega arith) qs (u, w)) (λ u. before.nothing 2 (omega arith) qs (u, w)))
            (in_slots tables c s refl refl refl qs w.way);
      }
