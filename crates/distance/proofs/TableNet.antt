-- A table of steps as a net: what a step costs is what stands beside it (`cost_at`), and the net is bounded (`bounded`), so that
-- all laws of walks hold of it.
-- Assumes nothing.
use mathlib.Core.Path.{◌≡◌, refl, sym, ◌∙◌}
use Prim.Native.Nat.{ℕ, ◌≤◌, ◌<◌}
use native.Mathlib.Decide.{ℕ_discrete}
use native.Mathlib.Omega.{arith}
use borrow.Author.Tests.{eq-eqb, ne_eqb}
use lib.ListN.{length}
use Rattle.rules.specs.declared.net.NetTable.{NetTable}
use Rattle.rules.specs.declared.net.Row.{Row}
use Rattle.rules.specs.declared.net.Step.{Step}
use Rattle.rules.specs.Plan.{sec}
use Rattle.rules.proofs.Walks.{Bounded}
use Rattle.rules.specs.Rows.{row_at, StepOf, first_of, second_of}
use Rattle.distance.specs.Table.{Listed, listed_cost, table_net, Table}

module _ {t : NetTable} (T : Table t) where
  abbrev n : ℕ
  n = length t.rows.now

  abbrev row : ℕ → Row
  row a = row_at t.rows.now a

  -- the two steps of a lead over different sections
  apart : (a : ℕ) {s u : Step} → a < n → s ≡ (row a).first → u ≡ (row a).second → s.next < n → u.next < n → sec s.next < sec u.next
  apart a h e f p q = rw (e, f) (T.ascending a h (rw e at p) (rw f at q))

  -- a step of a to an arrival costs what the table says: the other step leads elsewhere
  pub cost_at : (a b : ℕ) {s : Step} → a < n → StepOf t.rows.now a s → s.next ≡ b → b < n → listed_cost t.rows.now a b ≡ s.cost
  cost_at a b h (first_of e) q l = let f : (row a).first.next ≡ b = rw e at q in rw (eq-eqb (row a).first.next b f, e) refl
  cost_at a b {s} h (second_of e) q l = go (ℕ_discrete (row a).first.next b)
    where
      go : Dec ((row a).first.next ≡ b) → listed_cost t.rows.now a b ≡ s.cost
      go (yes d) = absurd (omega (arith, apart a h refl e (omega arith) (omega arith)))
      go (no d) = rw (ne_eqb (row a).first.next b d, e) refl

  -- what a step costs
  step_cost : {a b : ℕ} → Listed t.rows.now a b → (1 ≤ listed_cost t.rows.now a b) × (listed_cost t.rows.now a b ≤ 220000)
  step_cost {a} {b} s =
      let e = cost_at a b s.from s.place s.leads s.to in
      let c = T.costs a s.step s.from s.place (omega (arith, s.leads, s.to)) in
      (omega arith, omega arith)

  same_place : {a b c : ℕ} → Listed t.rows.now a b → Listed t.rows.now a c → sec b ≡ sec c → b ≡ c
  same_place {a} {b} {c} s u e = go s.place u.place
    where
      ends_at : s.step ≡ u.step → b ≡ c
      ends_at d = sym s.leads ∙ rw d u.leads

      go : StepOf t.rows.now a s.step → StepOf t.rows.now a u.step → b ≡ c
      go (first_of d) (first_of f) = ends_at (d ∙ sym f)
      go (second_of d) (second_of f) = ends_at (d ∙ sym f)
      go (first_of d) (second_of f) =
          let l = rw (s.leads, u.leads) at (apart a s.from d f (omega (arith, s.to, s.leads)) (omega (arith, u.to, u.leads))) in
          absurd (omega arith)
      go (second_of d) (first_of f) =
          let l = rw (s.leads, u.leads) at (apart a s.from f d (omega (arith, u.to, u.leads)) (omega (arith, s.to, s.leads))) in
          absurd (omega arith)

  pub bounded : Bounded (table_net t) n 220000
  bounded = record {
    positive = λ s. (step_cost s).0;
    capped = λ s. (step_cost s).1;
    from = λ s. s.from;
    to = λ s. s.to;
    ending = λ f. f.inside;
    same_step = λ s u e. same_place s u e;
  }
