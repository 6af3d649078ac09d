-- How the rows are filled, and that they then list the admissible steps and nothing else.
-- Assumes nothing.
use mathlib.Core.Path.{◌≡◌, refl, sym, ◌∙◌}
use mathlib.Core.Logic.{◌≢◌, ⊎_elim}
use mathlib.Core.Bool.{Bool}
use mathlib.Core.List.{List}
use Prim.Native.Nat.{ℕ, ◌+◌, ◌≤◌, ◌<◌}
use native.Mathlib.Omega.{arith}
use native.Mathlib.Decide.{ℕ_discrete}
use lib.ListN.{length, set, get_or}
use lib.Seq.{get_or-set_same, get_or-set_other}
use Rattle.std.proofs.lemmas.List.{get_or_default}
use Rattle.rules.specs.Plan.{arrivals, sec}
use Rattle.rules.specs.Net.{no_distance}
use Rattle.rules.specs.Trip.{Trip, Step}
use Rattle.rules.specs.Rows.{row_at, StepOf, first_of, second_of}
use Rattle.rules.specs.declared.net.Row.{Row}
use Rattle.rules.specs.declared.net.Step as rows
use Rattle.rules.specs.declared.net.TheConstants.Row.{NONE}
use Rattle.steps.specs.StepTable.{Entry, Place, StepTable, SameEnds}
use Rattle.steps.specs.StepOver.{StepsFrom}

-- the rows of the arrivals before a are written, and the ends are as they were
pub record Written (t : Trip) (before after : List Row) (a : ℕ) : Type 0 where
  pub steps : (b : ℕ) → b < a → StepsFrom t b (row_at after b)
  pub kept : SameEnds before after

pub written_none : {t : Trip} {table : List Row} → Written t table table 0
written_none = record { steps = λ b l. absurd (omega arith); kept = record { same = λ a. refl } }

-- in the table it does not matter what a read past its end would give
pub ends_read : (rows : List Row) (a : ℕ) (d : Row) → a < length rows → (get_or rows a d).ends ≡ (row_at rows a).ends
ends_read rows a d h = rw (get_or_default rows a d NONE h) refl

-- a row with the steps of another
abbrev pub with_steps : Row → Bool → Row
with_steps row e = record { first = row.first; second = row.second; ends = e }

module _ {t : Trip} {before after : List Row} {a : ℕ} {row : Row} {e : Bool} (same : e ≡ (row_at after a).ends) (w : Written t before after a)
    (l : a < length after) (k : StepsFrom t a row) where
  from_a : StepsFrom t a (with_steps row e)
  from_a = record { low = k.low; high = k.high; first = k.first; second = k.second; ascending = k.ascending; all = k.all }

  steps : (b : ℕ) → Dec (b ≡ a) → b < a + 1 → StepsFrom t b (row_at (set after a (with_steps row e)) b)
  steps b (yes i) h = rw (i, get_or-set_same after a (with_steps row e) NONE l) from_a
  steps b (no n) h = rw (get_or-set_other after a b (with_steps row e) NONE n) (w.steps b (omega arith))

  ends : (b : ℕ) → Dec (b ≡ a) → (row_at (set after a (with_steps row e)) b).ends ≡ (row_at before b).ends
  ends b (yes i) = rw (i, get_or-set_same after a (with_steps row e) NONE l) (same ∙ w.kept.same a)
  ends b (no n) = rw (get_or-set_other after a b (with_steps row e) NONE n) (w.kept.same b)

  pub written_more : Written t before (set after a (with_steps row e)) (a + 1)
  written_more = record { steps = λ b h. steps b (ℕ_discrete b a) h; kept = record { same = λ b. ends b (ℕ_discrete b a) } }

-- the rows of all arrivals are written
module _ (t : Trip) (table : List Row) (few : arrivals t.plan ≤ 2048) (written : (a : ℕ) → a < arrivals t.plan → StepsFrom t a (row_at table a)) where
  each_entry : (a : ℕ) (s : rows.Step) → a < arrivals t.plan → StepOf table a s → s.next ≢ no_distance → Entry t a s
  each_entry a s l (first_of e) n = rw e ((written a l).first.entry (rw e at n))
  each_entry a s l (second_of e) n = rw e ((written a l).second.entry (rw e at n))

  every_step : (a b : ℕ) → Step t a b → Place table a b
  every_step a b w =
      let row = written a w.from in
      ⊎_elim (λ q. record { step = (row_at table a).first; place = first_of refl; leads = sym (row.first.only b w q) })
      (λ q. record { step = (row_at table a).second; place = second_of refl; leads = sym (row.second.only b w q) }) (row.all b w)

  rising : (a : ℕ) → a < arrivals t.plan → (row_at table a).first.next ≢ no_distance → (row_at table a).second.next ≢ no_distance
      → sec (row_at table a).first.next < sec (row_at table a).second.next
  rising a l m n =
      let row = written a l in
      omega (arith, row.first.over m, row.second.over n, row.ascending (λ q. omega (arith, row.second.over n, (row.second.entry n).step.to)))

  pub step_table : StepTable t table
  step_table = record { each = each_entry; every = every_step; ascending = rising }
