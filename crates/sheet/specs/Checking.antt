-- What is found of a sheet whose query has passed: refusals 17, 18 and 19.
-- Assumes nothing.
use Rattle.std.specs.Prelude.{◌≡◌, ◌↔◌, ℕ, ◌<◌, Option, MatchOption, Result, Ok, Err}
use Rattle.rules.specs.Plan.{arrivals}
use Rattle.rules.specs.Query.{Query, start_arrival}
use Rattle.rules.specs.Net.{Net, KeepsRules}
use Rattle.rules.specs.Sheet.{Sheet, label_of, Claims, RulesAt, StartLabel}
use Rattle.rules.specs.declared.refusal.Refusal.{Refusal}
use Rattle.rules.specs.declared.refusal.Refusal.TheVariants as refusal

-- the claim and the list do not go together, or they do, and n is what the start label has to be; a label is a number of 32 bits
abbrev pub DueLabel : Query → Sheet → Option ℕ → Type 0
DueLabel q h r =
    MatchOption r (Claims q h → ⊥)
    (λ n. Claims q h × (label_of h (start_arrival q) < 4294967296 → StartLabel q h ↔ (label_of h (start_arrival q) ≡ n)))

-- refusals 18 and 19 of labels over a net of so many arrivals, where the label of the arrival a has to be n
pub data LabelsChecked (N : Net) (label : ℕ → ℕ) (count a n : ℕ) (r : Result (Unit {0}) Refusal) : Type 0 where
  bad_label : (b : ℕ) → r ≡ Err (refusal.Label b) → b < count → (KeepsRules N label b → ⊥) → ((d : ℕ) → d < b → KeepsRules N label d)
      → LabelsChecked N label count a n r
  bad_start : r ≡ Err refusal.StartLabel → ((b : ℕ) → b < count → KeepsRules N label b) → (label a ≡ n → ⊥) → LabelsChecked N label count a n r
  good : r ≡ Ok tt → ((b : ℕ) → b < count → KeepsRules N label b) → label a ≡ n → LabelsChecked N label count a n r

-- none of 17, 18 and 19 applies
pub record SheetPasses (q : Query) (h : Sheet) : Type 0 where
  pub claims : Claims q h
  pub rules : (a : ℕ) → a < arrivals q.plan → RulesAt q h a
  pub start : StartLabel q h

-- refusals 17, 18 and 19 in their order
pub data SheetChecked (q : Query) (h : Sheet) (r : Result (Unit {0}) Refusal) : Type 0 where
  bad_claim : r ≡ Err refusal.Claim → (Claims q h → ⊥) → SheetChecked q h r
  bad_label : (a : ℕ) → r ≡ Err (refusal.Label a) → Claims q h → a < arrivals q.plan → (RulesAt q h a → ⊥) → ((b : ℕ) → b < a → RulesAt q h b)
      → SheetChecked q h r
  bad_start : r ≡ Err refusal.StartLabel → Claims q h → ((a : ℕ) → a < arrivals q.plan → RulesAt q h a) → (StartLabel q h → ⊥) → SheetChecked q h r
  good : r ≡ Ok tt → SheetPasses q h → SheetChecked q h r
