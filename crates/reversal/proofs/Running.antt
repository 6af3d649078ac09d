-- A run through a pull-out: what leads on from where the train stands makes a pull-out from the start.
-- Assumes nothing.
use Rattle.std.proofs.Common.{◌≡◌, refl, ⊎_elim, Bool, true, List, [], ◌∷◌, ◌++◌, ℕ, arith}
use Rattle.std.specs.List.{Contains}
use Rattle.std.proofs.lemmas.List.Elements.{Contains-append_left, Contains-append_right}
use lib.Dec.{T, eqb→eq}
use Rattle.rules.proofs.Tests.{fails}
use Rattle.rules.proofs.Ways.{only, mark, mark_cases, last}
use Rattle.turns.specs.declared.enter.Serving.{Serving}
use Rattle.reversal.specs.declared.glance.Position.{Position}
use Rattle.reversal.specs.declared.glance.Ahead.TheVariants.{Last}
use Rattle.reversal.specs.Reverses.{CanReverse}
use Rattle.reversal.specs.Glanced.{Starts, CameTo, Glanced, LeadsTo}
use Rattle.reversal.proofs.Glancing.{WayFrom, leads_came, leads_way}
use Rattle.reversal.proofs.Reversing.{way_reverses}

-- A pull-out for the turn at p that takes the length n is run through: the train has come to the position, and the points that have marks
-- are among those passed.
pub record Running (v : Serving) (n p : ℕ) (passed : List ℕ) (train : Position) : Type 0 where
  pub marks : ℕ → Bool
  pub noted : (k : ℕ) → T (marks k) → Contains passed k
  pub came : CameTo v train
  pub leads : (qs : List ℕ) → WayFrom v train marks qs → CanReverse v p n true

pub running_first : {v : Serving} {passed : List ℕ} {start : Position} → passed ≡ start.at ∷ [] → Starts v start → Running v start.left start.at passed start
running_first {start = start} e s =
    record {
      marks = only start.at;
      noted = λ k t. rw (e, eqb→eq k start.at t) (0, omega arith, refl);
      came = s.came;
      leads = λ qs w. way_reverses s.some qs (rw s.over at w);
    }

module _ {v : Serving} {n p : ℕ} where
  -- over a section to a point that is not among those passed
  module _ {passed : List ℕ} {from to : Position} (f : Running v n p passed from) {e : ℕ} (g : LeadsTo v from e to) (new : Contains passed to.at → ⊥) where
    noted_more : (k : ℕ) → T (mark to.at f.marks k) → Contains (passed ++ (to.at ∷ [])) k
    noted_more k t =
        ⊎_elim (λ z. rw z (Contains-append_right passed (to.at ∷ []) to.at (0, omega arith, refl)))
        (λ o. Contains-append_left passed (to.at ∷ []) k (f.noted k o)) (mark_cases to.at f.marks k t)

    pub running_more : {more : List ℕ} → more ≡ passed ++ (to.at ∷ []) → Running v n p more to
    running_more i =
        record {
          marks = mark to.at f.marks;
          noted = rw i noted_more;
          came = leads_came g;
          leads = λ qs w. f.leads (e ∷ qs) (leads_way g (fails (f.marks to.at) (λ t. new (f.noted to.at t))) w);
        }

  pub running_last : {passed : List ℕ} {train : Position} {e : ℕ} → Running v n p passed train → Glanced v train e Last → CanReverse v p n true
  running_last {e} f l = f.leads (e ∷ []) (last l.0 l.1)
