-- What a look at a section tells: what the section is to a try.
-- Assumes nothing.
use mathlib.Core.Path.{◌≡◌, ◌∙◌}
use mathlib.Core.Bool.{Bool, true, false}
use mathlib.Core.List.{List, [], ◌∷◌}
use Prim.Native.Nat.{ℕ, ◌≤◌, ◌<◌}
use native.Mathlib.Omega.{arith}
use lib.Dec.{eqb_refl, eqb→eq}
use Rattle.rules.specs.Plan.{plan_of, is_free, far, free_from}
use Rattle.rules.specs.PullOut.{any_section}
use Rattle.rules.proofs.Tests.{clash, says_true, says_false}
use Rattle.rules.proofs.Ways.{may_use, only, Way, last, next, way_fits, free_whole}
use Rattle.points.specs.Points.{Among}
use Rattle.turns.specs.Tables.{Passes}
use Rattle.turns.specs.Enters.{Enters}
use Rattle.turns.proofs.Entering.{far_low, entry, entry_T, T_entry}
use Rattle.lessons.specs.Limit.{Limit}
use Rattle.tries.specs.declared.look.Look.TheVariants.{Shut, Met, On}
use Rattle.tries.specs.Tried.{Heads}
use Rattle.turns.specs.declared.enter.Serving.{Serving}
use Rattle.tries.specs.declared.marks.Try.{Try}
use Rattle.tries.specs.Marks.{marked}
use Rattle.tries.specs.Looked.{GoesOn}
use Rattle.tries.specs.Serves.{LookedFor}

-- a limit of the lists that begin with e
pub limit_over : {ss ts : List ℕ} {c s h p e most : ℕ} {why : ℕ → Bool}
    → ((r : ℕ) (marks : ℕ → Bool) (qs : List ℕ) → Among why marks → Way (plan_of 0 ss ts) (may_use any_section c s) r h p marks (e ∷ qs) → r ≤ most)
    → Limit ss ts c s h p (Heads e) why most
limit_over {ss} {ts} {c} {s} {h} {p} {e} {most} {why} f = record { limit = go }
  where
    go : (r : ℕ) (marks : ℕ → Bool) (qs : List ℕ) → Among why marks → Heads e qs → Way (plan_of 0 ss ts) (may_use any_section c s) r h p marks qs → r ≤ most
    go r marks [] a k w = absurd k
    go r marks (q ∷ qs) a k w = f r marks qs a (rw k at w)

module _ (serving : Serving) (t : Try) (h p e : ℕ) where
  abbrev ss : List ℕ
  ss = serving.yard.now.plan.sections.now

  abbrev ts : List ℕ
  ts = serving.yard.now.plan.turns.now

  abbrev c : ℕ
  c = serving.from

  abbrev s : ℕ
  s = serving.onto

  pub looked_out : {r : Bool} → r ≡ entry ss ts c s h p e → r ≡ false → 0 < t.left → LookedFor serving t h p e (Shut 0)
  looked_out {r} i n l =
      record {
        met = λ k u. absurd u;
        less = l;
        limit = limit_over (λ x m qs a w. absurd (clash (entry ss ts c s h p e) (T_entry ss ts c s h p e (way_fits w)) (says_false (entry ss ts c s h p e) n i)));
      }

  pub looked_in : {r : Bool} → r ≡ entry ss ts c s h p e → r ≡ true → Enters ss ts c s h p e
  looked_in {r} i n = entry_T ss ts c s h p e (says_true (entry ss ts c s h p e) n i)

  -- it is too short to be the last
  module _ {x : ℕ} (i : x ≡ free_from (plan_of 0 ss ts) e p) (l : x < t.left) where
    pub occupied : {r : Bool} → r ≡ is_free (plan_of 0 ss ts) e → r ≡ false → LookedFor serving t h p e (Shut x)
    occupied {r} j n = record { met = λ k u. absurd u; less = l; limit = limit_over (λ y m qs a w. stop w) }
      where
        stop : {y : ℕ} {m : ℕ → Bool} {qs : List ℕ} → Way (plan_of 0 ss ts) (may_use any_section c s) y h p m (e ∷ qs) → y ≤ x
        stop (last f v) = omega arith
        stop (next f v d u w) = absurd (clash (is_free (plan_of 0 ss ts) e) v (says_false (is_free (plan_of 0 ss ts) e) n j))

    pub passed_before : {q : ℕ} {r : Bool} → Passes ss ts → Enters ss ts c s h p e → q ≡ far (plan_of 0 ss ts) e p → r ≡ marked t q → r ≡ true
        → LookedFor serving t h p e (Met q x)
    passed_before {q} {r} ok f k j n = (
      rw k (far_low ok e p f.inside),
      record { met = λ v u. rw (eqb→eq v q u) (says_true (marked t q) n j); less = l; limit = limit_over (λ y m qs a w. stop a w) },
    )
      where
        stop : {y : ℕ} {m : ℕ → Bool} {qs : List ℕ} → Among (only q) m → Way (plan_of 0 ss ts) (may_use any_section c s) y h p m (e ∷ qs) → y ≤ x
        stop a (last f v) = omega arith
        stop {m = m} a (next f v d u w) = absurd (clash (m (far (plan_of 0 ss ts) e p)) (rw k at (a q (eqb_refl q))) u)

    pub goes_on : {q : ℕ} {f m : Bool} → Enters ss ts c s h p e → f ≡ is_free (plan_of 0 ss ts) e → f ≡ true → q ≡ far (plan_of 0 ss ts) e p
        → m ≡ marked t q → m ≡ false → LookedFor serving t h p e (On q x)
    goes_on {q} {f} en ef nf k j z =
        let free = says_true (is_free (plan_of 0 ss ts) e) nf ef in
        record { enters = en; short = omega arith; free = free; far = k; new = says_false (marked t q) z j; long = i ∙ free_whole (plan_of 0 ss ts) e p free }

-- a section to go on over is shorter than what is left
pub on_fits : {ss ts : List ℕ} {c s left h p e q n : ℕ} {marks : ℕ → Bool} → GoesOn ss ts c s marks left h p e q n → n < left
on_fits {ss} {ts} {p = p} {e = e} g = omega (arith, g.short, g.long, free_whole (plan_of 0 ss ts) e p g.free)
