-- How a try in vain is made of others: of a section by what the look tells or by what lies beyond, of a point by its sections one by
-- one or by a lesson.
-- Assumes nothing.
use mathlib.Core.Path.{◌≡◌, refl}
use mathlib.Core.Logic.{◌⊎◌, inl, inr, ⊎_elim}
use mathlib.Core.Bool.{Bool, false, not, ◌&&◌, ◌||◌}
use mathlib.Core.List.{List, ◌∷◌}
use Prim.Native.Nat.{ℕ, ◌+◌, ◌-◌, ◌≤◌, ◌<◌, max}
use native.Mathlib.Omega.{arith}
use native.Mathlib.Decide.{ℕ_discrete, dec_lt}
use lib.Dec.{T, eqb}
use Rattle.rules.specs.Plan.{plan_of, len, far}
use Rattle.rules.specs.PullOut.{any_section}
use Rattle.rules.proofs.Tests.{tests, or_T, T_or_left, T_or_right, and_T, T_and}
use Rattle.rules.proofs.Ways.{may_use, only, mark, Way, last, next, mark_put, mark_stays, mark_cases, free_whole}
use Rattle.std.proofs.Common.{Option, Some}
use Rattle.points.specs.declared.Points.{Points}
use Rattle.points.specs.Points.{member, Among, Empty, Put, Taken, Added}
use Rattle.turns.specs.declared.yard.Turn.{Turn}
use Rattle.turns.specs.Tables.{Tables}
use Rattle.lessons.specs.Limit.{AnyList, Hopeless}
use Rattle.lessons.specs.declared.lesson.Row.{Row}
use Rattle.lessons.specs.Table.{Lessons, Recalled}
use Rattle.lessons.proofs.Limits.{looser, in_vain}
use Rattle.lessons.proofs.Remembering.{recalled_hopeless}
use Rattle.tries.specs.declared.marks.Try.{Try}
use Rattle.tries.specs.Marks.{marked, Past}
use Rattle.tries.specs.Tried.{Heads}
use Rattle.tries.specs.Looked.{Goes, GoesOn}
use Rattle.tries.specs.Fails.{Fails}
use Rattle.tries.proofs.Looking.{limit_over, on_fits}
use Rattle.tries.proofs.Going.{slot, InVain, in_slots}

module _ {ss ts : List ℕ} {c s : ℕ} {t : Try} {h p : ℕ} where
  -- the reasons of one section are added to those of the sections before
  added : {e n : ℕ} {ws us : Points} {why : ℕ → Bool} → Among (member ws) (member us) → Among why (member us)
      → ((k : ℕ) → T (member us k) → T (member ws k) ⊎ T (why k)) → Among (member ws) (marked t)
      → Hopeless ss ts c s h p (Heads e) (marked t) t.left why n → Fails ss ts c s t h p (Heads e) ws us n
  added more in-us either before u =
      record {
        more = more;
        hopeless = record {
          met = λ k m. ⊎_elim (before k) (u.met k) (either k m);
          less = u.less;
          limit = looser (λ qs k. k) in-us (omega arith) u.limit;
        };
      }

  -- the look tells that it is shut, or leads to a point that has a mark
  pub shut_fails : {e n : ℕ} {ws : Points} → Among (member ws) (marked t) → Hopeless ss ts c s h p (Heads e) (marked t) t.left (λ k. false) n
      → Fails ss ts c s t h p (Heads e) ws ws n
  shut_fails before u = added (λ k m. m) (λ k m. absurd m) (λ k m. inl m) before u

  pub met_fails : {e q n : ℕ} {ws us : Points} → Put ws q us → Among (member ws) (marked t)
      → Hopeless ss ts c s h p (Heads e) (marked t) t.left (only q) n → Fails ss ts c s t h p (Heads e) ws us n
  met_fails {q = q} {ws = ws} put before u =
      added (λ k m. rw (put.members k) (mark_stays q (member ws) k m)) (λ k m. rw (put.members k) (T_or_left (eqb k q) (member ws k) m))
      (λ k m. ⊎_elim inr inl (or_T (eqb k q) (member ws k) (rw (put.members k) at m))) before u

  -- it leads to the point q, from which the try r goes on in vain
  module _ {e q n m : ℕ} {r : Try} {bs us : Points} (g : GoesOn ss ts c s (marked t) t.left h p e q n) (past : Past t q n r)
      (fails : Fails ss ts c s r e q AnyList bs us m) where
    -- what is a reason beyond q and not the mark there
    abbrev elsewhere : ℕ → Bool
    elsewhere k = not (eqb k q) && member us k

    -- the reasons beyond are marks of a train that enters q, where the others have marks before
    marks_beyond : (marks : ℕ → Bool) → Among elsewhere marks → Among (member us) (mark (far (plan_of 0 ss ts) e p) marks)
    marks_beyond marks a k o = go (ℕ_discrete k q)
      where
        go : Dec (k ≡ q) → T (mark (far (plan_of 0 ss ts) e p) marks k)
        go (yes i) = rw (i, ← g.far) (mark_put q marks)
        go (no i) = mark_stays (far (plan_of 0 ss ts) e p) marks k (a k (T_and (not (eqb k q)) (member us k) (simp tests i) o))

    limit_beyond : {x : ℕ} {marks : ℕ → Bool} {qs : List ℕ} → Among elsewhere marks → Way (plan_of 0 ss ts) (may_use any_section c s) x h p marks (e ∷ qs) → x ≤ n + m
    limit_beyond a (last f v) = omega (arith, g.long, free_whole (plan_of 0 ss ts) e p g.free)
    limit_beyond {x} {marks} {qs} a (next f v d u w) =
        let rest : Way (plan_of 0 ss ts) (may_use any_section c s) (x - len (plan_of 0 ss ts) e) e q (mark (far (plan_of 0 ss ts) e p) marks) qs = rw g.far w in
        omega (arith, g.long, fails.hopeless.limit.limit (x - len (plan_of 0 ss ts) e) (mark (far (plan_of 0 ss ts) e p) marks) qs (marks_beyond marks a) tt rest)

    met_before : Among elsewhere (marked t)
    met_before k o =
        let u = and_T (not (eqb k q)) (member us k) o in
        let not-q = simp tests at u.0 in
        ⊎_elim (λ i. absurd (not-q i)) (λ w. w) (mark_cases q (marked t) k (rw (past.marks k) at (fails.hopeless.met k u.1)))

    hopeless_beyond : Hopeless ss ts c s h p (Heads e) (marked t) t.left elsewhere (n + m)
    hopeless_beyond =
        record {
          met = met_before;
          less = omega (arith, fails.hopeless.less, past.left, on_fits g);
          limit = limit_over (λ x marks qs a w. limit_beyond a w);
        }

    -- the reasons beyond, without q, are added to those before
    pub beyond_fails : {ws cs vs : Points} → Taken us q cs → Added ws cs vs → Among (member ws) (marked t) → Fails ss ts c s t h p (Heads e) ws vs (n + m)
    beyond_fails {ws} {cs} {vs} taken more before =
        added (λ k o. rw (members k) (T_or_left (member ws k) (elsewhere k) o)) (λ k o. rw (members k) (T_or_right (member ws k) (elsewhere k) o))
        (λ k o. or_T (member ws k) (elsewhere k) (rw (members k) at o)) before hopeless_beyond
      where
        members : (k : ℕ) → member vs k ≡ (member ws k || elsewhere k)
        members k = rw (← (taken.members k)) (more.members k)

  -- there is no list for a try in vain
  pub over_vain : {e n : ℕ} {ws us : Points} → Fails ss ts c s t h p (Heads e) ws us n → (qs : List ℕ) → Goes ss ts c s t h p (e ∷ qs) → ⊥
  over_vain {e} f qs w = in_vain f.hopeless (e ∷ qs) refl w

  pub point_vain : {n : ℕ} {ws us : Points} → Fails ss ts c s t h p AnyList ws us n → (qs : List ℕ) → Goes ss ts c s t h p qs → ⊥
  point_vain f qs w = in_vain f.hopeless qs tt w

-- the set before, by whatever name
pub fails_from : {ss ts : List ℕ} {c s : ℕ} {t : Try} {h p m : ℕ} {Kind : List ℕ → Type 0} {ws us vs : Points} → us ≡ ws
    → Fails ss ts c s t h p Kind us vs m → Fails ss ts c s t h p Kind ws vs m
fails_from e f = rw e at f

-- the list begins with what stands in one of the first j slots of p
abbrev pub Before : List ℕ → ℕ → ℕ → List ℕ → Type 0
Before slots p j qs = (k : ℕ) × (k < j) × Heads (slot slots p k) qs

module _ {ss ts : List ℕ} (slots : List ℕ) {c s : ℕ} {t : Try} {h p : ℕ} {ws : Points} where
  -- the sections of a point, one by one
  pub fails_first : Empty ws → 0 < t.left → Fails ss ts c s t h p (Before slots p 0) ws ws 0
  fails_first none l =
      record {
        more = λ k m. m;
        hopeless = record { met = λ k m. absurd (rw (none.members k) at m); less = l; limit = record { limit = λ r marks qs a k w. absurd (omega (arith, k.1)) } };
      }

  pub fails_more : {j e m n o : ℕ} {us vs : Points} → Fails ss ts c s t h p (Before slots p j) ws us m → e ≡ slot slots p j
      → Fails ss ts c s t h p (Heads e) us vs n → o ≡ max m n → Fails ss ts c s t h p (Before slots p (j + 1)) ws vs o
  fails_more {j} {e} {m} {n} {o} {us} {vs} f i g l =
      record {
        more = λ k u. g.more k (f.more k u);
        hopeless = record {
          met = g.hopeless.met;
          less = omega (arith, f.hopeless.less, g.hopeless.less);
          limit = record { limit = λ r marks qs a k w. go r marks qs a w k.0 k.1 k.2 (dec_lt k.0 j) };
        };
      }
    where
      go : (r : ℕ) (marks : ℕ → Bool) (qs : List ℕ) → Among (member vs) marks → Way (plan_of 0 ss ts) (may_use any_section c s) r h p marks qs
          → (k : ℕ) → k < j + 1 → Heads (slot slots p k) qs → Dec (k < j) → r ≤ o
      go r marks qs a w k d u (yes z) = omega (arith, f.hopeless.limit.limit r marks qs (λ x v. a x (g.more x v)) (k, z, u) w)
      go r marks qs a w k d u (no z) =
          let same : k ≡ j = omega arith in
          omega (arith, g.hopeless.limit.limit r marks qs a (rw (i, ← same) u) w)

  pub fails_vain : {j m : ℕ} {us : Points} → Fails ss ts c s t h p (Before slots p j) ws us m → InVain ss ts slots c s t h p j
  fails_vain f k l qs o = in_vain f.hopeless qs (k, l, o.0) o.1

  -- all three
  pub fails_all : {table : List (Option Turn)} {us : Points} {j m : ℕ} → Tables ss ts slots table → Fails ss ts c s t h p (Before slots p j) ws us m → 3 ≤ j
      → Fails ss ts c s t h p AnyList ws us m
  fails_all {table} {us} {j} {m} tables f l =
      record {
        more = f.more;
        hopeless = record {
          met = f.hopeless.met;
          less = f.hopeless.less;
          limit = record { limit = λ r marks qs a k w. f.hopeless.limit.limit r marks qs a (begins r marks qs w) w };
        };
      }
    where
      begins : (r : ℕ) (marks : ℕ → Bool) (qs : List ℕ) → Way (plan_of 0 ss ts) (may_use any_section c s) r h p marks qs → Before slots p j qs
      begins r marks qs w =
          ⊎_elim (λ u. (0, omega arith, u)) (⊎_elim (λ u. (1, omega arith, u)) (λ u. (2, omega arith, u))) (in_slots tables c s refl refl refl qs w)

-- what the lessons of an arrival tell
pub recalled_fails : {ss ts : List ℕ} {c s : ℕ} {t : Try} {h p most : ℕ} {r : Option ℕ} {b m : List Row} {ws us : Points} → Lessons ss ts c s b → Empty ws
    → Recalled h p (marked t) t.left b ws r m us → r ≡ Some most → Fails ss ts c s t h p AnyList ws us most
recalled_fails right none heard l =
    record { more = λ k u. absurd (rw (none.members k) at u); hopeless = recalled_hopeless right heard l }
