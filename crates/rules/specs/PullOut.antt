-- Pull-outs, clause by clause.
-- Assumes nothing.
use Rattle.std.specs.Prelude.{Bool, true, not, ℕ, ◌+◌, ◌≤◌, ◌<◌, T, length}
use mathlib.Core.List.{List, [], ◌∷◌, Memᴰ}
use Rattle.rules.specs.Ranges.{Distinct}
use Rattle.rules.specs.Plan.{Plan, section_count, len, is_free, touches, far, free_from, forbidden}
use Rattle.rules.specs.Net.{NotAfter}

-- [An admissible walk, pull-out] all of a list but its last entry
abbrev pub all_but_last : List ℕ → List ℕ
all_but_last [] = []
all_but_last (q ∷ []) = []
all_but_last (q ∷ r ∷ qs) = q ∷ all_but_last (r ∷ qs)

module _ (y : Plan) where
  -- [An admissible walk, pull-out] the first section is entered at p, each next one at the far end of the one before
  pub data Chain : ℕ → List ℕ → Type 0 where
    chain_end : {p : ℕ} → Chain p []
    chain : {p q : ℕ} {qs : List ℕ} → q < section_count y → T (touches y q p) → Chain (far y q p) qs → Chain p (q ∷ qs)

  -- [An admissible walk, pull-out] the points at which they are entered: p and the points passed between sections
  abbrev pub entries : ℕ → List ℕ → List ℕ
  entries p [] = []
  entries p (q ∷ qs) = p ∷ entries (far y q p) qs

  -- [An admissible walk, pull-out] no turn is forbidden, that from section c into the first one included
  pub data Turns : ℕ → List ℕ → Type 0 where
    turns_end : {c : ℕ} → Turns c []
    turns : {c q : ℕ} {qs : List ℕ} → T (not (forbidden y c q)) → Turns q qs → Turns c (q ∷ qs)

  -- [An admissible walk, pull-out] the sum of the lengths of sections
  abbrev pub lengths : List ℕ → ℕ
  lengths [] = 0
  lengths (q ∷ qs) = len y q + lengths qs

  -- [An admissible walk, pull-out] the last section's free length from its entry
  abbrev pub last_free : ℕ → List ℕ → ℕ
  last_free p [] = 0
  last_free p (q ∷ []) = free_from y q p
  last_free p (q ∷ r ∷ qs) = last_free (far y q p) (r ∷ qs)

-- [An admissible walk, pull-out] the list is a pull-out for (c, p, s) that takes the length need, over sections that pass the test
-- may_pull: a field for each clause
pub record PullOut (y : Plan) (may_pull : ℕ → Bool) (need c p s : ℕ) (qs : List ℕ) : Type 0 where
  pub one_or_more : 0 < length qs
  pub chained : Chain y p qs
  pub allowed : Turns y c qs
  pub free : (q : ℕ) → Memᴰ q (all_but_last qs) → T (is_free y q)
  pub not_c : Memᴰ c qs → ⊥
  pub not_s : Memᴰ s qs → ⊥
  pub once : Distinct qs
  pub apart : Distinct (entries y p qs)
  pub short : lengths y (all_but_last qs) < need
  pub enough : need ≤ lengths y (all_but_last qs) + last_free y p qs
  pub usable : (q : ℕ) → Memᴰ q qs → T (may_pull q)

-- [An admissible walk, pull-out] document 01 lets a pull-out use every section, the start and the finish section too
abbrev pub any_section : ℕ → Bool
any_section s = true

-- [An admissible walk] of the pull-outs for (c, p, s), the one whose list is smallest
pub record FirstPullOut (y : Plan) (may_pull : ℕ → Bool) (need c p s : ℕ) (qs : List ℕ) : Type 0 where
  pub pull_out : PullOut y may_pull need c p s qs
  pub first : (rs : List ℕ) → PullOut y may_pull need c p s rs → NotAfter qs rs

-- [Refusal 16] there is no pull-out for (c, p, s)
abbrev pub NoPullOut : Plan → (ℕ → Bool) → ℕ → ℕ → ℕ → ℕ → Type 0
NoPullOut y may_pull need c p s = (qs : List ℕ) → PullOut y may_pull need c p s qs → ⊥
