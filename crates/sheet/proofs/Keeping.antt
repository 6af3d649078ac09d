-- Labels against the rows: the rules at an arrival are those of its row's end and of its two steps; and what is found of a range of arrivals.
-- Assumes nothing.
use Rattle.std.proofs.Common.{◌≡◌, true, false, Bool, ℕ, ◌≤◌, ◌<◌, List, Option, None, Some, length, refl, arith}
use denote.Ref.{Bor}
use denote.Param.Members.{Mut}
use Rattle.std.specs.declared.ops.Range.{Range}
use Rattle.std.specs.Iterator.{YieldsThen}
use Rattle.std.specs.List.{FoldsTo}
use Rattle.std.specs.Fn.{CalledAt}
use Rattle.std.specs.Option.{MatchOption}
use Rattle.std.specs.Prelude.{⊤}
use Rattle.std.proofs.iter.Yields.{nat_range_steps}
use Rattle.std.proofs.lemmas.Iterator.{first_from_Range}
use Rattle.rules.specs.Net.{AtMost, KeepsRules}
use Rattle.rules.specs.Trip.{Trip, Step, Finish, cost, net_of}
use Rattle.rules.specs.Rows.{row_at, StepOf, first_of, second_of}
use Rattle.rules.specs.declared.net.Row.{Row}
use Rattle.rules.specs.declared.net.Step as net
use Rattle.steps.specs.StepTable.{Place, EndAt, may_end, goes_on}
use Rattle.sheet.specs.Laid.{LaidOut}
use Rattle.sheet.specs.Keeping.{label_at, EndKept, StepKept}
use Rattle.sheet.proofs.Following.{placed}

module _ {t : Trip} {rows : List Row} (labels : List ℕ) (L : LaidOut t rows) (e : length labels ≡ length rows) {a : ℕ} (i : a < length labels) where
  mark : EndAt t rows a
  mark = L.endings.at a (omega (arith, L.laid.count))

  -- what the rules say of the row's end and of a step in it
  end_of_rules : KeepsRules (net_of t) (label_at labels) a → EndKept (row_at rows a) t.room (label_at labels a)
  end_of_rules k y = go mark
    where
      go : EndAt t rows a → label_at labels a ≤ t.room
      go (may_end j f) = k.at_finish f
      go (goes_on j f) = absurd cc

  step_of_rules : {s : net.Step} → StepOf rows a s → KeepsRules (net_of t) (label_at labels) a → StepKept s labels (label_at labels a)
  step_of_rules {s} p k j =
      let x = placed L.laid (omega arith) (omega arith) p refl in
      rw x.1 (k.at_step s.next x.0)

  -- and the other way round
  rules_of_row : EndKept (row_at rows a) t.room (label_at labels a) → StepKept (row_at rows a).first labels (label_at labels a)
      → StepKept (row_at rows a).second labels (label_at labels a) → KeepsRules (net_of t) (label_at labels) a
  rules_of_row h x y = record { at_finish = finish mark; at_step = λ b s. step b s (L.laid.steps.every a b s) }
    where
      finish : EndAt t rows a → Finish t a → label_at labels a ≤ t.room
      finish (may_end j f) z = h j
      finish (goes_on j f) z = absurd (f z)

      kept : {u : net.Step} → StepOf rows a u → StepKept u labels (label_at labels a)
      kept (first_of q) = rw q x
      kept (second_of q) = rw q y

      step : (b : ℕ) → Step t a b → Place rows a b → AtMost (label_at labels a) (cost t a b) (label_at labels b)
      step b s p =
          let c = placed L.laid (omega arith) (omega (arith, s.to, L.laid.count)) p.place p.leads in
          let r = kept p.place in
          rw (c.1, p.leads) at (r (omega (arith, p.leads, s.to, L.laid.count)))

  -- both, of the row and the label as they are read
  pub row_rules : {row : Row} {before room : ℕ} → row ≡ row_at rows a → before ≡ label_at labels a → room ≡ t.room
      → (EndKept row room before → StepKept row.first labels before → StepKept row.second labels before → KeepsRules (net_of t) (label_at labels) a)
      × (KeepsRules (net_of t) (label_at labels) a → EndKept row room before × StepKept row.first labels before × StepKept row.second labels before)
  row_rules p q m = rw (p, q, m) (rules_of_row, λ k. (end_of_rules k, step_of_rules (first_of refl) k, step_of_rules (second_of refl) k))

-- what `find` tells of the numbers below n: the first that does not keep the rules
pub first_from : {F : Type 0} {g : Mut F (Bor ℕ × Unit {0}) Bool} (s u : Range ℕ) (c : F) (r : Option ℕ) (Keeps : ℕ → Type 0) (n : ℕ)
    → (xs : List ℕ) × (j : F) × YieldsThen nat_range_steps s xs r u × FoldsTo (λ p x q. CalledAt g p x false q) c xs j × MatchOption r ⊤ (λ x. (h : F) × CalledAt g j x true h)
    → s.start ≡ 0 → s.end ≡ n → ((x : ℕ) (q : F) → CalledAt g c x true q → Keeps x → ⊥) → ((x : ℕ) (q : F) → CalledAt g c x false q → (q ≡ c) × Keeps x)
    → MatchOption r ((b : ℕ) → b < n → Keeps b) (λ a. (a < n) × (Keeps a → ⊥) × ((b : ℕ) → b < a → Keeps b))
first_from {F} {g} s u c r Keeps n ran a b yes' no' = go r (first_from_Range {g = g} s u c r (λ k. Keeps k → ⊥) Keeps ran yes' no')
  where
    go : (r : Option ℕ)
        → MatchOption r ((k : ℕ) → s.start ≤ k → k < s.end → Keeps k) (λ i. (s.start ≤ i) × (i < s.end) × (Keeps i → ⊥) × ((k : ℕ) → s.start ≤ k → k < i → Keeps k))
        → MatchOption r ((b : ℕ) → b < n → Keeps b) (λ a. (a < n) × (Keeps a → ⊥) × ((b : ℕ) → b < a → Keeps b))
    go None h = λ k l. h k (omega (arith, a)) (omega (arith, b))
    go (Some i) h = (omega (arith, h.1, b), h.2, λ k l. h.3 k (omega (arith, a)) l)
