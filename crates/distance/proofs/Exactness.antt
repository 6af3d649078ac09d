-- Settled labels of a table of steps are the remaining distances (`settled_exact`): they keep the label rules, and each is attained.
-- Nothing here speaks of how they were found.
-- Assumes nothing.
use mathlib.Core.Path.{◌≡◌, refl, ap, ◌∙◌}
use mathlib.Core.Logic.{◌≢◌}
use mathlib.Core.List.{List}
use Prim.Native.Nat.{ℕ, ◌+◌, ◌≤◌, ◌<◌}
use native.Mathlib.Decide.{dec_lt, ℕ_discrete}
use native.Mathlib.Omega.{arith}
use lib.ListN.{length, get_or, get_or-eq_default}
use Rattle.std.specs.Prelude.{Bool, true, false}
use Rattle.rules.specs.declared.net.NetTable.{NetTable}
use Rattle.rules.specs.declared.net.Row.{Row}
use Rattle.rules.specs.declared.net.Step.{Step}
use Rattle.rules.specs.Net.{no_distance, AtMost, above_all, within, KeepsRules}
use Rattle.rules.proofs.Walks.{Tight, Attained, unreached, at_end, by_step, attained_remaining}
use Rattle.rules.specs.Rows.{row_at, StepOf, first_of, second_of}
use Rattle.distance.specs.Table.{Listed, listed_cost, table_net, Table}
use Rattle.distance.specs.Answer.{Labels}
use Rattle.distance.specs.Labels.{offer, end_offer, best, Settled}
use Rattle.distance.proofs.Offers.{ends_here, ends_not, offer_low, step_offered, end_offered}
use Rattle.distance.proofs.TableNet.{cost_at, bounded}
use Rattle.distance.proofs.TightNet.{far_label}

-- the label of an arrival
abbrev pub label_of : List ℕ → ℕ → ℕ
label_of labels a = get_or labels a no_distance

-- an offer that is a number comes from an arrival
offer_leads : (labels : List ℕ) (s : Step) → offer s labels < no_distance → (s.next < length labels) × (offer s labels ≡ s.cost + label_of labels s.next)
unfolding offer
offer_leads labels s m = go (dec_lt s.next (length labels))
  where
    go : Dec (s.next < length labels) → (s.next < length labels) × (offer s labels ≡ s.cost + label_of labels s.next)
    go (yes h) = (h, omega arith)
    go (no h) = let d : label_of labels s.next ≡ no_distance = get_or-eq_default labels no_distance (omega arith) in absurd (omega arith)

-- and not more than that
offer_most : (labels : List ℕ) (s : Step) {b : ℕ} → s.next ≡ b → offer s labels ≤ s.cost + label_of labels b
unfolding offer
offer_most labels s e = let f = ap (label_of labels) e in omega arith

-- the best that is offered, where neither the arrival by itself nor its first step offers it
best_second : (t : NetTable) (labels : List ℕ) (a : ℕ) → best t labels a ≢ end_offer (row_at t.rows.now a) t.room
    → best t labels a ≢ offer (row_at t.rows.now a).first labels → best t labels a ≡ offer (row_at t.rows.now a).second labels
unfolding best
best_second t labels a e f = omega arith

module _ {t : NetTable} (T : Table t) (labels : List ℕ) (long : length labels ≡ length t.rows.now) where
  -- a step of a that offers its label, a number, is tight
  pub offered_step : (a : ℕ) {s : Step} → a < length t.rows.now → StepOf t.rows.now a s → label_of labels a ≡ offer s labels
      → label_of labels a < no_distance → Listed t.rows.now a s.next × Tight (table_net t) (label_of labels) a s.next
  offered_step a {s} h p e m =
      let o = offer_leads labels s (omega arith) in
      let i : s.next < length t.rows.now = omega arith in
      let c = cost_at T a s.next h p refl i in
      (record { from = h; to = i; step = s; place = p; leads = refl }, omega arith)

module _ {t : NetTable} (T : Table t) {labels : List ℕ} (long : length labels ≡ length t.rows.now) (S : Settled t labels) where
  abbrev row : ℕ → Row
  row a = row_at t.rows.now a

  label_best : (a : ℕ) → a < length t.rows.now → label_of labels a ≡ best t labels a
  label_best a h = S.settled a (omega arith)

  label_low : (a : ℕ) → a < length t.rows.now → label_of labels a ≤ no_distance
  label_low a h = omega (arith, label_best a h, step_offered t labels a (first_of refl), offer_low (row a).first labels)

  -- a label that is a number and that a step of a offers is attained by that step
  attained_by : (a : ℕ) {s : Step} → a < length t.rows.now → StepOf t.rows.now a s → label_of labels a ≡ offer s labels → label_of labels a < no_distance
      → Attained (table_net t) (label_of labels) a
  attained_by a {s} h p e m = let o = offered_step T labels long a h p e m in by_step s.next o.0 o.1 m

  -- a settled label is what something offers
  attained : (a : ℕ) → a < length t.rows.now → Attained (table_net t) (label_of labels) a
  attained a h =
      go (dec_lt (label_of labels a) no_distance) (ℕ_discrete (best t labels a) (end_offer (row a) t.room))
      (ℕ_discrete (best t labels a) (offer (row a).first labels)) (row a).ends refl
    where
      go : Dec (label_of labels a < no_distance) → Dec (best t labels a ≡ end_offer (row a) t.room) → Dec (best t labels a ≡ offer (row a).first labels)
          → (e : Bool) → (row a).ends ≡ e → Attained (table_net t) (label_of labels) a
      go (no m) d f e g = unreached (omega (arith, label_low a h))
      go (yes m) (yes d) f true g = at_end (record { inside = h; marked = g }) (label_best a h ∙ d ∙ ends_here (row a) t.room g)
      go (yes m) (yes d) f false g = absurd (omega (arith, label_best a h, ends_not (row a) t.room g))
      go (yes m) (no d) (yes f) e g = attained_by a h (first_of refl) (label_best a h ∙ f) m
      go (yes m) (no d) (no f) e g = attained_by a h (second_of refl) (label_best a h ∙ best_second t labels a d f) m

  -- a number after a step is far below "none", so what the step offers is a number
  rules_kept : (a : ℕ) → KeepsRules (table_net t) (label_of labels) a
  rules_kept a = record {
    at_finish = λ f. omega (arith, label_best a f.inside, end_offered t labels a, ends_here (row a) t.room f.marked);
    at_step = λ b s. step b s (dec_lt (label_of labels b) no_distance);
  }
    where
      step : (b : ℕ) → Listed t.rows.now a b → Dec (label_of labels b < no_distance) → AtMost (label_of labels a) (listed_cost t.rows.now a b) (label_of labels b)
      step b s (no m) = above_all (omega (arith, label_low b s.to))
      step b s (yes m) =
          let e = cost_at T a b s.from s.place s.leads s.to in
          let l = step_offered t labels a s.place in
          let o = offer_most labels s.step s.leads in
          let c = (bounded T).capped s in
          let f = far_label (bounded T) attained T.few (omega arith) T.room_small b s.to m in
          within (omega (arith, label_best a s.from)) (omega (arith, label_best a s.from))

  pub settled_exact : Labels (table_net t) (length t.rows.now) labels
  settled_exact = record {
    long = long;
    exact = record { right = attained_remaining (bounded T) attained (omega (arith, T.room_small)) rules_kept };
  }
