-- What is offered to an arrival: by its steps (`step_offered`), by itself (`ends_here`, `ends_not`), and that a lower label makes
-- offers lower (`best_falls`).
-- Assumes nothing.
use mathlib.Core.Path.{◌≡◌, refl}
use mathlib.Core.List.{List}
use Prim.Native.Nat.{ℕ, ◌+◌, ◌≤◌, ◌<◌, min}
use native.Mathlib.Decide.{ℕ_discrete}
use native.Mathlib.Omega.{arith}
use lib.ListN.{length, get_or, set}
use lib.Seq.{get_or-set_same, get_or-set_other}
use Rattle.std.specs.Prelude.{Bool, true, false, cond}
use Rattle.std.proofs.lemmas.List.{get_or_default}
use Rattle.rules.specs.declared.net.NetTable.{NetTable}
use Rattle.rules.specs.declared.net.Row.{Row}
use Rattle.rules.specs.declared.net.Step.{Step}
use Rattle.rules.specs.declared.net.TheConstants.Row.{NONE}
use Rattle.rules.specs.Net.{no_distance}
use Rattle.rules.proofs.Lists.{any_default}
use Rattle.rules.specs.Rows.{row_at, StepOf, first_of, second_of}
use Rattle.distance.specs.Labels.{offer, end_offer, best}

-- what is offered where a walk may end, and where not
pub ends_here : (row : Row) (room : ℕ) → row.ends ≡ true → end_offer row room ≡ room
unfolding end_offer
ends_here row room e = rw e refl

pub ends_not : (row : Row) (room : ℕ) → row.ends ≡ false → end_offer row room ≡ no_distance
unfolding end_offer
ends_not row room e = rw e refl

-- one of the two steps of an arrival as the code finds it: a read within the table
pub step_read : (rows : List Row) (a : ℕ) (d : Row) (odd : Bool) {s : Step} → s ≡ cond odd (get_or rows a d).second (get_or rows a d).first
    → a < length rows → StepOf rows a s
step_read rows a d true e h = rw (e, get_or_default rows a d NONE h) (second_of refl)
step_read rows a d false e h = rw (e, get_or_default rows a d NONE h) (first_of refl)

-- an offer as the worklist finds it: it knows to which arrival the step leads
offer_known : (s : Step) (labels : List ℕ) {b r : ℕ} → b < length labels → s.next ≡ b → r ≡ min (s.cost + get_or labels b 0) no_distance → r ≡ offer s labels
unfolding offer
offer_known s labels {b} i e q = rw (q, e, any_default labels b 0 no_distance i) refl

-- no offer is above "none"
pub offer_low : (s : Step) (labels : List ℕ) → offer s labels ≤ no_distance
unfolding offer
offer_low s labels = omega arith

-- what a step offers is not below the best
pub step_offered : (t : NetTable) (labels : List ℕ) (a : ℕ) {s : Step} → StepOf t.rows.now a s → best t labels a ≤ offer s labels
unfolding best
step_offered t labels a (first_of e) = rw e (omega arith)
step_offered t labels a (second_of e) = rw e (omega arith)

-- nor is what the arrival offers by itself
pub end_offered : (t : NetTable) (labels : List ℕ) (a : ℕ) → best t labels a ≤ end_offer (row_at t.rows.now a) t.room
unfolding best
end_offered t labels a = omega arith

-- as the worklist finds them
pub known_offered : (t : NetTable) (labels : List ℕ) (a : ℕ) {s : Step} {b r : ℕ} → StepOf t.rows.now a s → b < length labels → s.next ≡ b
    → r ≡ min (s.cost + get_or labels b 0) no_distance → best t labels a ≤ r
known_offered t labels a {s} p i e q = omega (arith, step_offered t labels a p, offer_known s labels i e q)

pub room_offered : (t : NetTable) (labels : List ℕ) (a : ℕ) (d : Row) → a < length t.rows.now → (get_or t.rows.now a d).ends ≡ true → best t labels a ≤ t.room
room_offered t labels a d h e =
    let f : (row_at t.rows.now a).ends ≡ true = rw (get_or_default t.rows.now a d NONE h) at e in
    omega (arith, end_offered t labels a, ends_here (row_at t.rows.now a) t.room f)

-- no label of m is above that of l
abbrev pub NotAbove : List ℕ → List ℕ → Type 0
NotAbove m l = (b : ℕ) → get_or m b no_distance ≤ get_or l b no_distance

pub set_not_above : (l : List ℕ) (a v : ℕ) → a < length l → v ≤ get_or l a no_distance → NotAbove (set l a v) l
set_not_above l a v h p b = go (ℕ_discrete b a)
  where
    go : Dec (b ≡ a) → get_or (set l a v) b no_distance ≤ get_or l b no_distance
    go (yes e) = rw e (rw (get_or-set_same l a v no_distance h) p)
    go (no e) = omega (arith, get_or-set_other l a b v no_distance e)

offer_falls : (m l : List ℕ) → NotAbove m l → (s : Step) → offer s m ≤ offer s l
unfolding offer
offer_falls m l h s = omega (arith, h s.next)

pub best_falls : (t : NetTable) (m l : List ℕ) → NotAbove m l → (a : ℕ) → best t m a ≤ best t l a
unfolding best
best_falls t m l h a = omega (arith, offer_falls m l h (row_at t.rows.now a).first, offer_falls m l h (row_at t.rows.now a).second)
