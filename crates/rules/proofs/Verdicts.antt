-- The laws of the verdict: what it says of its checks, and how a function that makes the checks in order computes it.
-- Assumes nothing.
use mathlib.Core.Path.{◌≡◌, refl, sym, ap, ◌∙◌}
use mathlib.Core.Logic.{◌≢◌}
use mathlib.Core.Bool.{Bool, true, false, not, ◌&&◌}
use mathlib.Core.List.{List, [], ◌∷◌, ◌++◌}
use Prim.Native.Nat.{ℕ, ◌≤◌, ◌<◌}
use native.Mathlib.Omega.{arith}
use lib.Dec.{T, leb, leb→le, ltb, ltb→lt, nltb→le}
use Rattle.rules.specs.Ranges.{first_where}
use Rattle.rules.specs.Refusals.{Verdict, Check, refused_at, passed, once, verdict}
use Rattle.rules.proofs.Tests.{and_T}
use Rattle.rules.proofs.Ranges.{Least, hit, past, least, first_past}

abbrev pub number_of : Verdict → ℕ
number_of v = v.number

-- no check has the number 0
abbrev pub numbered : List Check → Bool
numbered [] = true
numbered (c ∷ cs) = ltb 0 c.number && numbered cs

-- no check has a number above m
abbrev pub numbers_to : ℕ → List Check → Bool
numbers_to m [] = true
numbers_to m (c ∷ cs) = leb c.number m && numbers_to m cs

-- no check applies anywhere
abbrev pub Passed : List Check → Type 0
Passed [] = Unit {0}
Passed (c ∷ cs) = ((k : ℕ) → k < c.places → T (not (c.bad k))) × Passed cs

-- a check whose first place is k gives the verdict, or leaves it to the rest
module _ (c : Check) (cs : List Check) (k : ℕ) (e : k ≡ first_where c.bad 0 c.places) where
  pub refuses : k < c.places → verdict (c ∷ cs) ≡ refused_at c.number k
  refuses l = go (first_where c.bad 0 c.places) e (ltb (first_where c.bad 0 c.places) c.places) refl
    where
      go : (h : ℕ) → k ≡ h → (b : Bool) → ltb h c.places ≡ b
          → ◌≡◌ {A = Verdict} (elim b [ true ↦ refused_at c.number h | false ↦ verdict cs ]) (refused_at c.number k)
      go h i true q = rw i
      go h i false q = let z = nltb→le h c.places (rw q tt) in absurd (omega arith)

  pub goes_on : c.places ≤ k → verdict (c ∷ cs) ≡ verdict cs
  goes_on l = go (first_where c.bad 0 c.places) e (ltb (first_where c.bad 0 c.places) c.places) refl
    where
      go : (h : ℕ) → k ≡ h → (b : Bool) → ltb h c.places ≡ b → elim b [ true ↦ refused_at c.number h | false ↦ verdict cs ] ≡ verdict cs
      go h i true q = let z = ltb→lt h c.places (rw q tt) in absurd (omega arith)
      go h i false q = refl

-- the same for a check with one place
pub refuses_once : (b : Bool) (n : ℕ) (cs : List Check) → T b → verdict (once n b ∷ cs) ≡ refused_at n 0
refuses_once true n cs t = refl
refuses_once false n cs t = absurd t

pub passes_once : (b : Bool) (n : ℕ) (cs : List Check) → T (not b) → verdict (once n b ∷ cs) ≡ verdict cs
passes_once true n cs t = absurd t
passes_once false n cs t = refl

-- the same for a function that asks whether all is well, r, and refuses where it is not
pub refused_by : {r : Bool} (b : Bool) (n : ℕ) (cs : List Check) → r ≡ b → not r ≡ true → refused_at n 0 ≡ verdict (once n (not b) ∷ cs)
refused_by b n cs e h = sym (refuses_once (not b) n cs (rw (← e, h) tt))

pub passed_by : {r : Bool} (b : Bool) (n : ℕ) (cs : List Check) → r ≡ b → not r ≡ false → verdict cs ≡ verdict (once n (not b) ∷ cs)
passed_by b n cs e h = sym (passes_once (not b) n cs (rw (← e, h) tt))

-- the first check of a list stops at its lowest place, or applies nowhere and leaves the verdict v to the rest
pub data FirstCheck (c : Check) (cs : List Check) (v : Verdict) : Type 0 where
  stops : (k : ℕ) → k < c.places → T (c.bad k) → ((h : ℕ) → h < k → T (not (c.bad h))) → v ≡ refused_at c.number k → FirstCheck c cs v
  leaves : ((h : ℕ) → h < c.places → T (not (c.bad h))) → v ≡ verdict cs → FirstCheck c cs v

pub first_check : (c : Check) (cs : List Check) → FirstCheck c cs (verdict (c ∷ cs))
first_check c cs = go (least c.bad 0 c.places)
  where
    go : Least c.bad 0 c.places (first_where c.bad 0 c.places) → FirstCheck c cs (verdict (c ∷ cs))
    go (hit u v t g) =
        stops (first_where c.bad 0 c.places) (omega arith) t (λ h l. g h (omega arith) l)
        (refuses c cs (first_where c.bad 0 c.places) refl (omega arith))
    go (past e g) = leaves (λ h l. g h (omega arith) (omega arith)) (goes_on c cs (first_where c.bad 0 c.places) refl (omega arith))

-- a verdict with the number 0 is the one that refuses nothing
pub number_0 : (cs : List Check) → T (numbered cs) → (verdict cs).number ≡ 0 → verdict cs ≡ passed
number_0 [] n e = refl
number_0 (c ∷ cs) n e = go (first_check c cs) e (and_T (ltb 0 c.number) (numbered cs) n) (λ m q. number_0 cs m q)
  where
    go : {v : Verdict} → FirstCheck c cs v → v.number ≡ 0 → T (ltb 0 c.number) × T (numbered cs)
        → (T (numbered cs) → (verdict cs).number ≡ 0 → verdict cs ≡ passed) → v ≡ passed
    go (stops k l t g q) z h below = let o = ltb→lt 0 c.number h.0 in let w = ap number_of q in absurd (omega arith)
    go (leaves g q) z h below = q ∙ below h.1 (sym (ap number_of q) ∙ z)

-- where nothing is refused, no check applies; and the other way round
pub passes : (cs : List Check) → T (numbered cs) → verdict cs ≡ passed → Passed cs
passes [] n e = tt
passes (c ∷ cs) n e = go (first_check c cs) e (and_T (ltb 0 c.number) (numbered cs) n) (λ m q. passes cs m q)
  where
    go : {v : Verdict} → FirstCheck c cs v → v ≡ passed → T (ltb 0 c.number) × T (numbered cs)
        → (T (numbered cs) → verdict cs ≡ passed → Passed cs) → Passed (c ∷ cs)
    go (stops k l t g q) z h below = let o = ltb→lt 0 c.number h.0 in let w = ap number_of (sym q ∙ z) in absurd (omega arith)
    go (leaves g q) z h below = (g, below h.1 (sym q ∙ z))

pub accepts : (cs : List Check) → Passed cs → verdict cs ≡ passed
accepts [] p = refl
accepts (c ∷ cs) p = goes_on c cs c.places (sym (first_past c.bad c.places p.0)) (omega arith) ∙ accepts cs p.1

-- a verdict's number is that of a check, or 0
pub number_at_most : (m : ℕ) (cs : List Check) → T (numbers_to m cs) → (verdict cs).number ≤ m
number_at_most m [] t = omega arith
number_at_most m (c ∷ cs) t = go (ltb k c.places) (number_at_most m cs h.1)
  where
    k : ℕ
    k = first_where c.bad 0 c.places

    h : T (leb c.number m) × T (numbers_to m cs)
    h = and_T (leb c.number m) (numbers_to m cs) t

    go : (b : Bool) → (verdict cs).number ≤ m → number_of (elim b [ true ↦ refused_at c.number k | false ↦ verdict cs ]) ≤ m
    go true below = leb→le c.number m h.0
    go false below = below

-- two lists of checks, one after the other
pub passes_both : (cs ds : List Check) → Passed (cs ++ ds) → Passed cs × Passed ds
passes_both [] ds p = (tt, p)
passes_both (c ∷ cs) ds p = let r = passes_both cs ds p.1 in ((p.0, r.0), r.1)

pub both_pass : (cs ds : List Check) → Passed cs → Passed ds → Passed (cs ++ ds)
both_pass [] ds p q = q
both_pass (c ∷ cs) ds p q = (p.0, both_pass cs ds p.1 q)

-- the first list's refusal stands; where it passes, the second one decides
pub refused_first : (cs ds : List Check) → (verdict cs).number ≢ 0 → verdict (cs ++ ds) ≡ verdict cs
refused_first [] ds n = absurd (n refl)
refused_first (c ∷ cs) ds n = go (ltb (first_where c.bad 0 c.places) c.places) n (λ m. refused_first cs ds m)
  where
    go : (b : Bool) → number_of (elim b [ true ↦ refused_at c.number (first_where c.bad 0 c.places) | false ↦ verdict cs ]) ≢ 0
        → ((verdict cs).number ≢ 0 → verdict (cs ++ ds) ≡ verdict cs)
        → ◌≡◌ {A = Verdict} (elim b [ true ↦ refused_at c.number (first_where c.bad 0 c.places) | false ↦ verdict (cs ++ ds) ])
        (elim b [ true ↦ refused_at c.number (first_where c.bad 0 c.places) | false ↦ verdict cs ])
    go true m below = refl
    go false m below = below m

pub passed_first : (cs ds : List Check) → T (numbered cs) → verdict cs ≡ passed → verdict (cs ++ ds) ≡ verdict ds
passed_first cs ds n e = skip cs (passes cs n e)
  where
    skip : (cs : List Check) → Passed cs → verdict (cs ++ ds) ≡ verdict ds
    skip [] p = refl
    skip (c ∷ cs) p = goes_on c (cs ++ ds) c.places (sym (first_past c.bad c.places p.0)) (omega arith) ∙ skip cs p.1

-- a verdict is no refusal and a refusal at once
pub not_both : {u v : Verdict} → u ≡ v → u ≡ passed → v.number ≢ 0 → ⊥
not_both e f n = n (ap number_of (sym e ∙ f))
