-- What an answer of the search says to whoever asked: a walk handed out is admissible (`handed_out_walk`), shortest
-- (`handed_out_shortest`) and the first of the shortest (`handed_out_first`), its numbers are its own (`handed_out_numbers`); 12 is given
-- exactly when the checks before it pass and there is no walk (`twelve_none`, `none_twelve`); labels that are written are right
-- (`labels_right`).
-- Assumes nothing.
use mathlib.Core.Path.{◌≡◌, refl, sym, ap, ◌∙◌}
use mathlib.Core.Logic.{◌≢◌, ◌⊎◌, inl, inr}
use mathlib.Core.Bool.{Bool, true, false}
use mathlib.Core.List.{List, [], ◌∷◌, ◌++◌, map}
use Prim.Native.Nat.{ℕ, ◌≤◌}
use native.Mathlib.Omega.{arith}
use lib.Dec.{ltb}
use lib.ListN.{length, take, drop}
use lib.Seq.{take-append_seam}
use Rattle.rules.specs.Plan.{sec}
use Rattle.rules.specs.Refusals.{Verdict, passed, once, verdict}
use Rattle.rules.specs.Query.{Query, start_arrival, query_checks}
use Rattle.rules.specs.Net.{Walk, distance, Shortest, NotAfter, FirstShortest, NoWalk}
use Rattle.rules.specs.Trip.{query_net}
use Rattle.rules.specs.Search.{success, Outcome, Labelled, Answer, refused, no_route, unwritten, found}
use Rattle.rules.proofs.Verdicts.{number_of, number_at_most, not_both}

-- the list in the front of the route buffer
abbrev pub handed_out : Outcome → List ℕ
handed_out r = take r.numbers.steps r.route

abbrev refusal_of : Outcome → ℕ
refusal_of r = r.numbers.refusal

-- a refusal by 1 to 11 is not 12, nor are 13 and 14
below_12 : (q : Query) (n : ℕ) (v : Verdict) → verdict (query_checks q n) ≡ v → v.number ≢ 12
below_12 q n v e h =
    let k = number_at_most 11 (query_checks q n) tt in
    let g = ap number_of e in
    omega arith

after_12 : (b c : Bool) → (verdict (once 13 b ∷ once 14 c ∷ [])).number ≢ 12
after_12 true c h = omega arith
after_12 false true h = omega arith
after_12 false false h = omega arith

-- what a walk handed out comes with
pub record HandedOut (q : Query) (n : ℕ) (r : Outcome) : Type 0 where
  pub accepted : verdict (query_checks q n) ≡ passed
  pub first : FirstShortest (query_net q) (start_arrival q) (handed_out r)
  pub numbers : r.numbers ≡ success q (handed_out r)
  pub labelled : Labelled q r.labels

module _ {q : Query} {route labels : List ℕ} {r : Outcome} where
  -- with number 0 the walk found stands in front, and the numbers are its own
  pub walk_there : Answer q route labels r → r.numbers.refusal ≡ 0 → HandedOut q (length labels) r
  walk_there (refused v e n z) h = absurd (n (sym (ap refusal_of z) ∙ h))
  walk_there (no_route ls e w l z) h = let f = ap refusal_of z in absurd (omega arith)
  walk_there (unwritten bs v e g i n z) h = absurd (n (sym (ap refusal_of z) ∙ h))
  walk_there (found bs ls e g i l z) h =
      let c : take (length bs) (bs ++ drop (length bs) route) ≡ bs = take-append_seam bs (drop (length bs) route) in
      rw z (record { accepted = e; first = rw c g; numbers = rw c refl; labelled = l })

  module _ (a : Answer q route labels r) (h : r.numbers.refusal ≡ 0) where
    pub handed_out_walk : Walk (query_net q) (start_arrival q) (handed_out r)
    handed_out_walk = (walk_there a h).first.shortest.walk

    pub handed_out_shortest : (cs : List ℕ) → Walk (query_net q) (start_arrival q) cs
        → distance (query_net q) (start_arrival q) (handed_out r) ≤ distance (query_net q) (start_arrival q) cs
    handed_out_shortest = (walk_there a h).first.shortest.least

    pub handed_out_first : (cs : List ℕ) → Shortest (query_net q) (start_arrival q) cs → NotAfter (map sec (handed_out r)) (map sec cs)
    handed_out_first = (walk_there a h).first.first

    pub handed_out_numbers : r.numbers ≡ success q (handed_out r)
    handed_out_numbers = (walk_there a h).numbers

  pub twelve_none : Answer q route labels r → r.numbers.refusal ≡ 12
      → (verdict (query_checks q (length labels)) ≡ passed) × NoWalk (query_net q) (start_arrival q) × Labelled q r.labels
  twelve_none (refused v e n z) h = absurd (below_12 q (length labels) v e (sym (ap refusal_of z) ∙ h))
  twelve_none (no_route ls e w l z) h = (e, w, rw z l)
  twelve_none (unwritten bs v e g i n z) h =
      absurd (after_12 (ltb 2048 (length bs)) (ltb (length route) (length bs)) (ap number_of i ∙ sym (ap refusal_of z) ∙ h))
  twelve_none (found bs ls e g i l z) h = let f = ap refusal_of z in absurd (omega arith)

  pub none_twelve : Answer q route labels r → verdict (query_checks q (length labels)) ≡ passed → NoWalk (query_net q) (start_arrival q)
      → r.numbers.refusal ≡ 12
  none_twelve (refused v e n z) ok none = absurd (not_both e ok n)
  none_twelve (no_route ls e w l z) ok none = ap refusal_of z
  none_twelve (unwritten bs v e g i n z) ok none = absurd (none bs g.shortest.walk)
  none_twelve (found bs ls e g i l z) ok none = absurd (none bs g.shortest.walk)

  pub labels_right : Answer q route labels r → (r.numbers.refusal ≡ 0) ⊎ (r.numbers.refusal ≡ 12) → Labelled q r.labels
  labels_right a (inl h) = (walk_there a h).labelled
  labels_right a (inr h) = (twelve_none a h).2
