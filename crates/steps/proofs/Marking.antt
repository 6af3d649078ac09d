-- How the arrivals are marked at which a walk may end, and that the steps stay.
-- Assumes nothing.
use mathlib.Core.Path.{◌≡◌, refl, sym, ◌∙◌}
use mathlib.Core.Logic.{◌≢◌}
use mathlib.Core.Bool.{Bool}
use mathlib.Core.List.{List}
use Prim.Native.Nat.{ℕ, ◌+◌, ◌<◌}
use native.Mathlib.Omega.{arith}
use native.Mathlib.Decide.{ℕ_discrete}
use lib.ListN.{length, set}
use lib.Seq.{get_or-set_same, get_or-set_other}
use Rattle.rules.specs.Plan.{arrivals, end_at}
use Rattle.rules.specs.Query.{Query}
use Rattle.rules.specs.Net.{no_distance}
use Rattle.rules.specs.Trip.{Trip, trip_of}
use Rattle.rules.specs.Rows.{row_at, StepOf, first_of, second_of}
use Rattle.rules.specs.declared.net.Row.{Row}
use Rattle.rules.specs.declared.net.Step as rows
use Rattle.rules.specs.declared.net.TheConstants.Row.{NONE}
use Rattle.steps.specs.StepTable.{Entry, Place, StepTable, EndAt, may_end, goes_on, Ends, SameSteps}
use Rattle.steps.specs.Ending.{EndMark, ends_there, elsewhere}

-- the arrivals before a are marked, and the steps are as they were
pub record Marked (ss : List ℕ) (finish goal : ℕ) (before after : List Row) (a : ℕ) : Type 0 where
  pub marks : (b : ℕ) → b < a → EndMark ss finish goal b (row_at after b).ends
  pub kept : SameSteps before after

pub marked_none : {ss : List ℕ} {finish goal : ℕ} {table : List Row} → Marked ss finish goal table table 0
marked_none = record { marks = λ b l. absurd (omega arith); kept = record { first = λ a. refl; second = λ a. refl } }

-- the row of a with another mark
abbrev pub marked_row : List Row → ℕ → Bool → Row
marked_row table a r = record { first = (row_at table a).first; second = (row_at table a).second; ends = r }

module _ {ss : List ℕ} {finish goal : ℕ} {before after : List Row} {a : ℕ} {r : Bool} (m : Marked ss finish goal before after a) (l : a < length after)
    (k : EndMark ss finish goal a r) where
  put : List Row
  put = set after a (marked_row after a r)

  marks : (b : ℕ) → Dec (b ≡ a) → b < a + 1 → EndMark ss finish goal b (row_at (set after a (marked_row after a r)) b).ends
  marks b (yes e) h = rw (e, get_or-set_same after a (marked_row after a r) NONE l) k
  marks b (no n) h = rw (get_or-set_other after a b (marked_row after a r) NONE n) (m.marks b (omega arith))

  first : (b : ℕ) → Dec (b ≡ a) → (row_at (set after a (marked_row after a r)) b).first ≡ (row_at before b).first
  first b (yes e) = rw (e, get_or-set_same after a (marked_row after a r) NONE l) (m.kept.first a)
  first b (no n) = rw (get_or-set_other after a b (marked_row after a r) NONE n) (m.kept.first b)

  second : (b : ℕ) → Dec (b ≡ a) → (row_at (set after a (marked_row after a r)) b).second ≡ (row_at before b).second
  second b (yes e) = rw (e, get_or-set_same after a (marked_row after a r) NONE l) (m.kept.second a)
  second b (no n) = rw (get_or-set_other after a b (marked_row after a r) NONE n) (m.kept.second b)

  pub marked_more : Marked ss finish goal before (set after a (marked_row after a r)) (a + 1)
  marked_more = record {
    marks = λ b h. marks b (ℕ_discrete b a) h;
    kept = record { first = λ b. first b (ℕ_discrete b a); second = λ b. second b (ℕ_discrete b a) };
  }

-- every arrival is marked
pub marked_all : (q : Query) {before after : List Row} {goal : ℕ} → goal ≡ end_at q.plan q.finish q.finish_end
    → Marked q.plan.sections q.finish goal before after (arrivals q.plan) → Ends (trip_of q) after
marked_all q {before} {after} {goal} i m = record { at = λ b k. go b k (m.marks b k) }
  where
    go : (b : ℕ) → b < arrivals q.plan → EndMark q.plan.sections q.finish goal b (row_at after b).ends → EndAt (trip_of q) after b
    go b k (ends_there z w) = may_end z (record { inside = k; point = w.point ∙ i; over = w.over })
    go b k (elsewhere z n) = goes_on z (λ f. n (record { point = f.point ∙ sym i; over = f.over }))

-- rows whose steps are the same list the same steps
pub kept_table : {t : Trip} {before after : List Row} → SameSteps before after → StepTable t before → StepTable t after
kept_table {t} {before} {after} k w = record {
  each = each;
  every = λ a b m. place a b (w.every a b m);
  ascending = λ a l m n. rw (k.first a, k.second a) (w.ascending a l (rw (k.first a) at m) (rw (k.second a) at n));
}
  where
    each : (a : ℕ) (s : rows.Step) → a < arrivals t.plan → StepOf after a s → s.next ≢ no_distance → Entry t a s
    each a s l (first_of e) n = w.each a s l (first_of (e ∙ k.first a)) n
    each a s l (second_of e) n = w.each a s l (second_of (e ∙ k.second a)) n

    there : (a : ℕ) (s : rows.Step) → StepOf before a s → StepOf after a s
    there a s (first_of e) = first_of (e ∙ sym (k.first a))
    there a s (second_of e) = second_of (e ∙ sym (k.second a))

    place : (a b : ℕ) → Place before a b → Place after a b
    place a b p = record { step = p.step; place = there a p.step p.place; leads = p.leads }
