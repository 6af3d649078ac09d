-- A refusal: its number, its place, and which one is given where several apply.
-- Assumes nothing.
use Rattle.std.specs.Prelude.{Bool, true, false, List, [], ◌∷◌, ℕ, ltb}
use Rattle.rules.specs.Ranges.{first_where}

-- [Refusal numbers] a refusal's number and place; the number 0 stands for "not refused"
pub record Verdict : Type 0 where
  pub number : ℕ
  pub place : ℕ

-- [Refusal numbers] refused with number n at place p
abbrev pub refused_at : ℕ → ℕ → Verdict
refused_at n p = record { number = n; place = p }

-- [Refusal numbers] not refused
abbrev pub passed : Verdict
passed = refused_at 0 0

-- [Refusal numbers] one row of the list of refusals: its number, how many places it is tested at, and where it applies
pub record Check : Type 0 where
  pub number : ℕ
  pub places : ℕ
  pub bad : ℕ → Bool

-- [Refusal numbers] a refusal whose place is always 0
abbrev pub once : ℕ → Bool → Check
once n b = record { number = n; places = 1; bad = λ k. b }

-- [Refusal numbers] a refusal that is tested at each of m places
abbrev pub each : ℕ → ℕ → (ℕ → Bool) → Check
each n m f = record { number = n; places = m; bad = f }

-- [Refusal numbers] the first row that applies anywhere, at the lowest place where it does
abbrev pub verdict : List Check → Verdict
verdict [] = passed
verdict (c ∷ cs) =
    let k = first_where c.bad 0 c.places in
    elim (ltb k c.places) [ true ↦ refused_at c.number k | false ↦ verdict cs ]
