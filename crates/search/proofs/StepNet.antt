-- The rows of a trip's steps are fit for distances over them (`trip_table`), and the net that they are is alike the trip's own
-- (`table_to_trip`, `trip_to_table`).
-- Assumes nothing.
use Rattle.std.proofs.Common.{◌≡◌, ℕ, refl, sym, ap, ◌∙◌, arith, true, false, ◌<◌, length}
use native.Mathlib.Decide.{ℕ_discrete}
use borrow.Author.Tests.{eq-eqb, ne_eqb}
use Rattle.rules.specs.Plan.{arrivals}
use Rattle.rules.specs.Trip.{Trip, Step, cost, Finish, net_of}
use Rattle.rules.specs.declared.net.NetTable.{NetTable}
use Rattle.rules.specs.declared.net.Step as rows
use Rattle.rules.specs.Rows.{row_at, StepOf, first_of, second_of}
use Rattle.rules.proofs.Alike.{Within}
use Rattle.rules.proofs.Trips.{SoundTrip, bounded}
use Rattle.steps.specs.StepTable.{StepTable, EndAt, may_end, goes_on, Ends}
use Rattle.distance.specs.Table.{Listed, Ending, listed_cost, table_net, Table}

module _ {t : Trip} (S : SoundTrip t) (net : NetTable) (sized : length net.rows.now ≡ arrivals t.plan) (room : net.room ≡ t.room) (steps : StepTable t net.rows.now) (marks : Ends t net.rows.now) where
  -- what stands in the row of a leads to an arrival: it is a step from a
  entry_at : (a b : ℕ) (s : rows.Step) → a < arrivals t.plan → b < arrivals t.plan → StepOf net.rows.now a s → s.next ≡ b
      → Step t a b × (s.cost ≡ cost t a b)
  entry_at a b s i j p e =
      let f = S.few_sections in
      let x = steps.each a s i p (omega arith) in
      (rw e at x.step, rw e at x.cost_of)

  listed_step : {a b : ℕ} → Listed net.rows.now a b → Step t a b
  listed_step {a} {b} l = (entry_at a b l.step (omega (arith, l.from)) (omega (arith, l.to)) l.place l.leads).0

  -- the step stands first, or else second
  listed_right : {a b : ℕ} → Listed net.rows.now a b → listed_cost net.rows.now a b ≡ cost t a b
  listed_right {a} {b} l = go (ℕ_discrete (row_at net.rows.now a).first.next b)
    where
      inside : a < arrivals t.plan
      inside = omega (arith, l.from)

      there : b < arrivals t.plan
      there = omega (arith, l.to)

      go : Dec ((row_at net.rows.now a).first.next ≡ b) → listed_cost net.rows.now a b ≡ cost t a b
      go (yes e) =
          rw (eq-eqb (row_at net.rows.now a).first.next b e) (entry_at a b (row_at net.rows.now a).first inside there (first_of refl) e).1
      go (no d) =
          rw (ne_eqb (row_at net.rows.now a).first.next b d) (entry_at a b (row_at net.rows.now a).second inside there (second_of refl) (second l.place)).1
        where
          second : StepOf net.rows.now a l.step → (row_at net.rows.now a).second.next ≡ b
          second (first_of p) = absurd (d (ap (λ (s : rows.Step). s.next) (sym p) ∙ l.leads))
          second (second_of p) = ap (λ (s : rows.Step). s.next) (sym p) ∙ l.leads

  step_listed : {a b : ℕ} → Step t a b → Listed net.rows.now a b
  step_listed {a} {b} s =
      let p = steps.every a b s in
      record { from = omega (arith, s.from); to = omega (arith, s.to); step = p.step; place = p.place; leads = p.leads }

  ending_right : {a : ℕ} → Ending net.rows.now a → Finish t a
  ending_right {a} e = go (marks.at a (omega (arith, e.inside)))
    where
      go : EndAt t net.rows.now a → Finish t a
      go (may_end i f) = f
      go (goes_on i n) = let z : true ≡ false = sym e.marked ∙ i in cc

  ending_marked : {a : ℕ} → Finish t a → Ending net.rows.now a
  ending_marked {a} f = record { inside = omega (arith, f.inside); marked = go (marks.at a f.inside) }
    where
      go : EndAt t net.rows.now a → (row_at net.rows.now a).ends ≡ true
      go (may_end i g) = i
      go (goes_on i n) = absurd (n f)

  pub table_to_trip : Within (table_net net) (net_of t)
  table_to_trip = record { step = listed_step; cost = listed_right; ending = ending_right; room = room }

  pub trip_to_table : Within (net_of t) (table_net net)
  trip_to_table = record { step = step_listed; cost = λ s. sym (listed_right (step_listed s)); ending = ending_marked; room = sym room }

  pub trip_table : Table net
  trip_table = record {
    few = omega (arith, sized, S.few_sections);
    costs = λ a s i p l.
        let x = entry_at a s.next s (omega (arith, sized)) (omega (arith, sized)) p refl in
        let c = (bounded S).positive x.0 in
        let d = (bounded S).capped x.0 in
        omega (arith, x.1);
    room_small = omega (arith, room, S.room);
    ascending = λ a i l m. let f = S.few_sections in steps.ascending a (omega (arith, sized)) (omega (arith, sized)) (omega (arith, sized));
  }
