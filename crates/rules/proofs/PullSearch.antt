-- A search for the first pull-out, computed by antt, and that it is right: what it finds is the first one, and it misses none.
-- Assumes nothing.
use mathlib.Core.Path.{◌≡◌, refl}
use mathlib.Core.Bool.{Bool, true, false, not, ◌&&◌}
use mathlib.Core.Option.{Option, none, some}
use mathlib.Core.List.{List, [], ◌∷◌}
use Prim.Native.Nat.{ℕ, zero, suc, ◌+◌, ◌-◌, ◌≤◌, ◌<◌}
use native.Mathlib.Omega.{arith}
use lib.Dec.{T, eqb, leb, leb→le, nleb→lt}
use Rattle.rules.specs.Plan.{Plan, section_count, len, is_free, touches, far, free_from, forbidden}
use Rattle.rules.specs.Net.{over}
use Rattle.rules.specs.PullOut.{PullOut, FirstPullOut, NoPullOut}
use Rattle.rules.proofs.Tests.{clash, and_T, T_and, and_iff, not_eqb_iff}
use Rattle.rules.proofs.Ways.{may_use, only, mark, Fits, Way, last, next, free_whole, way_fits, way_onward}
use Rattle.rules.proofs.PullWays.{first_pull, no_pull}
use Rattle.rules.proofs.Smallest.{Smallest, found, missing, first_list, Begins, first_list_right, on_test, same_lists}

-- every section has some length: so what is left to take falls from section to section
abbrev pub Positive : Plan → Type 0
Positive y = (q : ℕ) → q < section_count y → 1 ≤ len y q

module _ (y : Plan) (may : ℕ → Bool) where
  -- the test of `Fits`, for a section of the plan
  abbrev pub fits : ℕ → ℕ → ℕ → Bool
  fits c p q = touches y q p && not (forbidden y c q) && not (eqb q c) && may q

  -- a train may go on beyond section q, which it entered at p
  abbrev pub passable : ℕ → (ℕ → Bool) → ℕ → Bool
  passable p marks q = is_free y q && not (marks (far y q p))

  -- how the smallest way over section q goes on, where `further` looks for the smallest way from its far end
  abbrev pub attempt : (ℕ → ℕ → ℕ → (ℕ → Bool) → Option (List ℕ)) → ℕ → ℕ → ℕ → (ℕ → Bool) → ℕ → Option (List ℕ)
  attempt further r c p marks q =
      elim (fits c p q) [
        | true ↦ elim (leb r (free_from y q p)) [
          | true ↦ some []
          | false ↦ elim (passable p marks q) [
            | true ↦ further (r - len y q) q (far y q p) (mark (far y q p) marks)
            | false ↦ none
          ]
        ]
        | false ↦ none
      ]

  -- the smallest way of at most k sections
  abbrev pub find_way : ℕ → ℕ → ℕ → ℕ → (ℕ → Bool) → Option (List ℕ)
  find_way zero r c p marks = none
  find_way (suc k) r c p marks = first_list (attempt (find_way k) r c p marks) 0 (section_count y)

  pub fits_T : (c p q : ℕ) → q < section_count y → T (fits c p q) → Fits y may c p q
  fits_T c p q l t =
      let h = simp and_iff at t in
      record { inside = l; touch = h.0.0.0; turn = h.0.0.1; other = (not_eqb_iff q c).0 h.0.1; usable = h.1 }

  pub T_fits : {c p q : ℕ} → Fits y may c p q → T (fits c p q)
  T_fits {c} {p} {q} f = simp and_iff (((f.touch, f.turn), (not_eqb_iff q c).1 f.other), f.usable)

  module _ {r c p : ℕ} {marks : ℕ → Bool} where
    begins : (qs : List ℕ) → Way y may r c p marks qs → Begins 0 (0 + section_count y) qs
    begins qs (last f e) = (omega arith, omega (arith, f.inside))
    begins qs (next f e h u w) = (omega arith, omega (arith, f.inside))

    -- what is found over section q, where the search from its far end is right
    tried : (further : ℕ → ℕ → ℕ → (ℕ → Bool) → Option (List ℕ)) (q : ℕ) → q < section_count y
        → (len y q < r → Smallest (Way y may (r - len y q) q (far y q p) (mark (far y q p) marks)) (further (r - len y q) q (far y q p) (mark (far y q p) marks)))
        → Smallest (λ rs. Way y may r c p marks (q ∷ rs)) (attempt further r c p marks q)
    tried further q l right = on_test (fits c p q) (λ t. enters (fits_T c p q l t)) (λ n. missing (λ rs w. clash (fits c p q) (T_fits (way_fits w)) n))
      where
        goes_on : Fits y may c p q → free_from y q p < r → T (is_free y q) × T (not (marks (far y q p)))
            → Smallest (λ rs. Way y may r c p marks (q ∷ rs)) (further (r - len y q) q (far y q p) (mark (far y q p) marks))
        goes_on f n v =
            let h : len y q < r = rw (free_whole y q p v.0) at n in
            same_lists (λ rs w. next f v.0 h v.1 w) (λ rs w. (way_onward n w).2) (right h)

        enters : Fits y may c p q → Smallest (λ rs. Way y may r c p marks (q ∷ rs)) (elim (leb r (free_from y q p)) [
          | true ↦ some []
          | false ↦ elim (passable p marks q) [ true ↦ further (r - len y q) q (far y q p) (mark (far y q p) marks) | false ↦ none ]
        ])
        enters f =
            on_test (leb r (free_from y q p)) (λ t. found (last f (leb→le r (free_from y q p) t)) (λ rs w. over))
            (λ t. let n = nleb→lt r (free_from y q p) t in
            on_test (passable p marks q) (λ u. goes_on f n (and_T (is_free y q) (not (marks (far y q p))) u))
            (λ u. missing (λ rs w. let v = way_onward n w in clash (passable p marks q) (T_and (is_free y q) (not (marks (far y q p))) v.0 v.1) u)))

  pub find_right : Positive y → (k r c p : ℕ) (marks : ℕ → Bool) → r < k → Smallest (Way y may r c p marks) (find_way k r c p marks)
  find_right pos zero r c p marks h = absurd (omega arith)
  find_right pos (suc k) r c p marks h =
      first_list_right (attempt (find_way k) r c p marks) 0 (section_count y) begins
      (λ q i. let l : q < section_count y = omega arith in
      tried (find_way k) q l
      (λ s. let d = pos q l in find_right pos k (r - len y q) q (far y q p) (mark (far y q p) marks) (omega arith)))

-- the first pull-out for (c, p, s), searched for to a depth of the length that it has to take; and whether there is one
abbrev pub pull_out_of : Plan → (ℕ → Bool) → ℕ → ℕ → ℕ → ℕ → Option (List ℕ)
pull_out_of y may_pull need c p s = find_way y (may_use may_pull c s) (need + 1) need c p (only p)

abbrev has_list : Option (List ℕ) → Bool
has_list none = false
has_list (some qs) = true

abbrev pub has_pull_out : Plan → (ℕ → Bool) → ℕ → ℕ → ℕ → ℕ → Bool
has_pull_out y may_pull need c p s = has_list (pull_out_of y may_pull need c p s)

module _ (y : Plan) (may_pull : ℕ → Bool) (need c p s : ℕ) (pos : Positive y) where
  searched : Smallest (Way y (may_use may_pull c s) need c p (only p)) (pull_out_of y may_pull need c p s)
  searched = find_right y (may_use may_pull c s) pos (need + 1) need c p (only p) (omega arith)

  pub pull_found : 0 < need → (qs : List ℕ) → pull_out_of y may_pull need c p s ≡ some qs → FirstPullOut y may_pull need c p s qs
  pull_found z qs e = go (rw e at searched)
    where
      go : Smallest (Way y (may_use may_pull c s) need c p (only p)) (some qs) → FirstPullOut y may_pull need c p s qs
      go (found w b) = first_pull z w b

  pub pull_missing : pull_out_of y may_pull need c p s ≡ none → NoPullOut y may_pull need c p s
  pull_missing e = go (rw e at searched)
    where
      go : Smallest (Way y (may_use may_pull c s) need c p (only p)) none → NoPullOut y may_pull need c p s
      go (missing n) = no_pull n

  pub pull_T : 0 < need → T (has_pull_out y may_pull need c p s) → (qs : List ℕ) × PullOut y may_pull need c p s qs
  pull_T z = go (pull_out_of y may_pull need c p s) refl
    where
      go : (o : Option (List ℕ)) → pull_out_of y may_pull need c p s ≡ o → T (has_list o) → (qs : List ℕ) × PullOut y may_pull need c p s qs
      go none e t = absurd t
      go (some qs) e t = (qs, (pull_found z qs e).pull_out)

  pub T_pull : (qs : List ℕ) → PullOut y may_pull need c p s qs → T (has_pull_out y may_pull need c p s)
  T_pull qs t = go (pull_out_of y may_pull need c p s) refl
    where
      go : (o : Option (List ℕ)) → pull_out_of y may_pull need c p s ≡ o → T (has_list o)
      go none e = pull_missing e qs t
      go (some rs) e = tt
