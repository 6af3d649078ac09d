-- The refusals of the code and their numbers: none is 0, and a refusal is known by its number and its place.
-- Assumes nothing.
use Rattle.std.proofs.Common.{◌≡◌, ◌≢◌, ℕ, Result, Err, refl, sym, ap, arith, cond, eqb, ◌∙◌}
use Rattle.rules.specs.Refusals.{Verdict, passed}
use Rattle.rules.specs.Refused.{verdict_of, verdict_in}
use Rattle.rules.specs.declared.refusal.Refusal.{Refusal}
use Rattle.rules.specs.declared.refusal.Refusal.TheVariants.{Tables, Section, Doubled, Degree, Turn, SecondTurn, Length, Start, Finish, Room, Labels, NoRoute, Buffer, NoTurn, NoPullOut, Claim, Label, StartLabel, File}

-- the refusal with a number and a place; of a number that is none, any
refusal_at : ℕ → ℕ → Refusal
refusal_at n p =
    cond (eqb n 1) Tables
    (cond (eqb n 2) (Section p)
    (cond (eqb n 3) (Doubled p)
    (cond (eqb n 4) (Degree p)
    (cond (eqb n 5) (Turn p)
    (cond (eqb n 6) (SecondTurn p)
    (cond (eqb n 7) Length
    (cond (eqb n 8) Start
    (cond (eqb n 9) Finish
    (cond (eqb n 10) Room
    (cond (eqb n 11) Labels
    (cond (eqb n 12) NoRoute
    (cond (eqb n 14) Buffer
    (cond (eqb n 15) NoTurn
    (cond (eqb n 16) NoPullOut
    (cond (eqb n 17) Claim
    (cond (eqb n 18) (Label p)
    (cond (eqb n 19) StartLabel
    (File p))))))))))))))))))

refusal_back : (r : Refusal) → refusal_at (verdict_of r).number (verdict_of r).place ≡ r
unfolding refusal_at
refusal_back Tables = refl
refusal_back (Section s) = refl
refusal_back (Doubled s) = refl
refusal_back (Degree p) = refl
refusal_back (Turn t) = refl
refusal_back (SecondTurn t) = refl
refusal_back Length = refl
refusal_back Start = refl
refusal_back Finish = refl
refusal_back Room = refl
refusal_back Labels = refl
refusal_back NoRoute = refl
refusal_back Buffer = refl
refusal_back NoTurn = refl
refusal_back NoPullOut = refl
refusal_back Claim = refl
refusal_back (Label a) = refl
refusal_back StartLabel = refl
refusal_back (File b) = refl

-- two refusals with the same number and place are one
pub same_refusal : (r s : Refusal) → verdict_of r ≡ verdict_of s → r ≡ s
same_refusal r s e = sym (refusal_back r) ∙ ap (λ (v : Verdict). refusal_at v.number v.place) e ∙ refusal_back s

-- no refusal has the number 0
pub refusal_numbered : (r : Refusal) → (verdict_of r).number ≢ 0
refusal_numbered r e = go r e
  where
    go : (r : Refusal) → (verdict_of r).number ≡ 0 → ⊥
    go Tables z = omega arith
    go (Section s) z = omega arith
    go (Doubled s) z = omega arith
    go (Degree p) z = omega arith
    go (Turn t) z = omega arith
    go (SecondTurn t) z = omega arith
    go Length z = omega arith
    go Start z = omega arith
    go Finish z = omega arith
    go Room z = omega arith
    go Labels z = omega arith
    go NoRoute z = omega arith
    go Buffer z = omega arith
    go NoTurn z = omega arith
    go NoPullOut z = omega arith
    go Claim z = omega arith
    go (Label a) z = omega arith
    go StartLabel z = omega arith
    go (File b) z = omega arith

-- what is refused is not passed
pub not_passed : {A : Type 0} {r : Result A Refusal} (s : Refusal) → r ≡ Err s → verdict_in r ≡ passed → ⊥
not_passed s e p = refusal_numbered s (ap (λ (v : Verdict). v.number) (sym (ap verdict_in e) ∙ p))
