-- Ways: what a search for a pull-out tries, section by section. That they are the pull-outs is said in PullWays.antt.
-- A way marks the points that it enters, and no sections. It still uses no section twice: to come back to one is to enter it at
-- one of its ends, and both have marks (`no_return`).
-- Assumes nothing.
use mathlib.Core.Path.{◌≡◌, refl, sym, ◌∙◌}
use mathlib.Core.Logic.{◌≢◌, ◌⊎◌, inl, inr, ⊎_elim}
use mathlib.Core.Bool.{Bool, true, false, cond, not, ◌&&◌, ◌||◌}
use mathlib.Core.List.Memᴰ.{head as at_head}
use mathlib.Core.List.Memᴰ.{not-nil as not-in-nil}
use mathlib.Core.List.Memᴰ.{tail as in_tail}
use mathlib.Core.List.{List, [], ◌∷◌, Memᴰ}
use Prim.Native.Nat.{ℕ, ◌-◌, ◌≤◌, ◌<◌}
use native.Mathlib.Omega.{arith}
use lib.Dec.{T, eqb, eqb→eq, eqb_refl}
use Rattle.rules.specs.Plan.{Plan, section_count, end_A, end_B, len, free_A, free_B, is_free, touches, far, free_from, forbidden}
use Rattle.rules.specs.PullOut.{entries}
use Rattle.rules.proofs.Tests.{tests, clash, fails, or_T, T_or_left, T_or_right}

-- the sections that a pull-out for (c, p, s) may use
abbrev pub may_use : (ℕ → Bool) → ℕ → ℕ → ℕ → Bool
may_use may_pull c s q = may_pull q && not (eqb q c) && not (eqb q s)

-- the points that have marks: p alone, and p besides others
abbrev pub only : ℕ → ℕ → Bool
only p k = eqb k p

abbrev pub mark : ℕ → (ℕ → Bool) → ℕ → Bool
mark p marks k = eqb k p || marks k

module _ (y : Plan) (may : ℕ → Bool) where
  -- section q may be entered at the point p by a train that came there over section c
  pub record Fits (c p q : ℕ) : Type 0 where
    pub inside : q < section_count y
    pub touch : T (touches y q p)
    pub turn : T (not (forbidden y c q))
    pub other : q ≢ c
    pub usable : T (may q)

  -- the sections of the list take the length r of a train that came over section c to the point p, where it enters the first of
  -- them; p and the points entered before have marks, and the train enters no other point that has one
  pub data Way : (r c p : ℕ) (marks : ℕ → Bool) → List ℕ → Type 0 where
    last : {r c p q : ℕ} {marks : ℕ → Bool} → Fits c p q → r ≤ free_from y q p → Way r c p marks (q ∷ [])
    next : {r c p q : ℕ} {marks : ℕ → Bool} {qs : List ℕ} → Fits c p q → T (is_free y q) → len y q < r → T (not (marks (far y q p)))
        → Way (r - len y q) q (far y q p) (mark (far y q p) marks) qs → Way r c p marks (q ∷ qs)

-- the mark is put, the others stay, and there are no more
module _ (p : ℕ) (marks : ℕ → Bool) where
  pub mark_put : T (mark p marks p)
  mark_put = T_or_left (eqb p p) (marks p) (eqb_refl p)

  pub mark_stays : (k : ℕ) → T (marks k) → T (mark p marks k)
  mark_stays k = T_or_right (eqb k p) (marks k)

  pub mark_cases : (k : ℕ) → T (mark p marks k) → (k ≡ p) ⊎ T (marks k)
  mark_cases k t = ⊎_elim (λ e. inl (eqb→eq k p e)) inr (or_T (eqb k p) (marks k) t)

-- of the points at which the sections of a list are entered, the first alone has a mark
abbrev pub Fresh : Plan → ℕ → (ℕ → Bool) → List ℕ → Type 0
Fresh y p marks qs = (k : ℕ) → Memᴰ k (entries y p qs) → T (marks k) → k ≡ p

-- where the mark of p is new, none of the points marked before is entered
pub unentered : (y : Plan) (p : ℕ) (marks : ℕ → Bool) (qs : List ℕ) → T (not (marks p)) → Fresh y p (mark p marks) qs
    → (k : ℕ) → Memᴰ k (entries y p qs) → T (marks k) → ⊥
unentered y p marks qs u f k m t = clash (marks p) (rw (f k m (mark_stays p marks k t)) at t) u

-- a point that a section has for an end is its entry or its far end
pub two_ends : (y : Plan) (q p e : ℕ) → T (touches y q p) → T (touches y q e) → (e ≡ p) ⊎ (e ≡ far y q p)
two_ends y q p e t u = go (eqb a p) refl (or_T (eqb a p) (eqb b p) t) (or_T (eqb a e) (eqb b e) u)
  where
    a : ℕ
    a = end_A y q

    b : ℕ
    b = end_B y q

    go : (o : Bool) → eqb a p ≡ o → T (eqb a p) ⊎ T (eqb b p) → T (eqb a e) ⊎ T (eqb b e) → (e ≡ p) ⊎ (e ≡ cond o b a)
    go true h s (inl v) = inl (sym (eqb→eq a e v) ∙ eqb→eq a p (rw h tt))
    go true h s (inr v) = inr (sym (eqb→eq b e v))
    go false h (inl s) v = absurd (rw h at s)
    go false h (inr s) (inl v) = inr (sym (eqb→eq a e v))
    go false h (inr s) (inr v) = inl (sym (eqb→eq b e v) ∙ eqb→eq b p s)

-- the free length of a free section is its length, from either end
pub free_whole : (y : Plan) (q p : ℕ) → T (is_free y q) → free_from y q p ≡ len y q
free_whole y q p t = let h = simp tests at t in go (eqb (end_A y q) p) refl h.0 h.1
  where
    go : (o : Bool) → eqb (end_A y q) p ≡ o → free_A y q ≡ len y q → free_B y q ≡ len y q → free_from y q p ≡ len y q
    go true e a b = rw e a
    go false e a b = rw e b

-- what a way says of its first section, and what its steps say of the whole list
module _ {y : Plan} {may : ℕ → Bool} where
  pub way_fits : {r c p q : ℕ} {marks : ℕ → Bool} {qs : List ℕ} → Way y may r c p marks (q ∷ qs) → Fits y may c p q
  way_fits (last f e) = f
  way_fits (next f e h u w) = f

  -- beyond a section that is too short to be the last, it goes on
  pub way_onward : {r c p q : ℕ} {marks : ℕ → Bool} {qs : List ℕ} → free_from y q p < r → Way y may r c p marks (q ∷ qs)
      → T (is_free y q) × T (not (marks (far y q p))) × Way y may (r - len y q) q (far y q p) (mark (far y q p) marks) qs
  way_onward l (last f e) = absurd (omega arith)
  way_onward l (next f e h u w) = (e, u, w)

  pub way_usable : {r c p : ℕ} {marks : ℕ → Bool} {qs : List ℕ} → Way y may r c p marks qs → (k : ℕ) → Memᴰ k qs → T (may k)
  way_usable (last f e) k (at_head z) = rw z f.usable
  way_usable (last f e) k (in_tail m) = absurd (not-in-nil m)
  way_usable (next f e h u w) k (at_head z) = rw z f.usable
  way_usable (next f e h u w) k (in_tail m) = way_usable w k m

  pub way_fresh : {r c p : ℕ} {marks : ℕ → Bool} {qs : List ℕ} → Way y may r c p marks qs → Fresh y p marks qs
  way_fresh (last f e) k (at_head z) t = z
  way_fresh (last f e) k (in_tail m) t = absurd (not-in-nil m)
  way_fresh (next f e h u w) k (at_head z) t = z
  way_fresh (next {p} {q} {marks} {qs} f e h u w) k (in_tail m) t = absurd (unentered y (far y q p) marks qs u (way_fresh w) k m t)

  -- each section has one of the points entered for an end
  entry : {r c p : ℕ} {marks : ℕ → Bool} {qs : List ℕ} → Way y may r c p marks qs → (k : ℕ) → Memᴰ k qs
      → (e : ℕ) × Memᴰ e (entries y p qs) × T (touches y k e)
  entry (last {p} f e) k (at_head z) = (p, at_head refl, rw z f.touch)
  entry (last f e) k (in_tail m) = absurd (not-in-nil m)
  entry (next {p} f e h u w) k (at_head z) = (p, at_head refl, rw z f.touch)
  entry (next f e h u w) k (in_tail m) = let i = entry w k m in (i.0, in_tail i.1, i.2)

  -- so the section before a way is not used in it, where both its ends have marks
  pub no_return : {r c p : ℕ} {marks : ℕ → Bool} {qs : List ℕ} → ((e : ℕ) → T (touches y c e) → T (marks e)) → Way y may r c p marks qs
      → Memᴰ c qs → ⊥
  no_return g (last f e) (at_head z) = f.other (sym z)
  no_return g (last f e) (in_tail m) = not-in-nil m
  no_return g (next f e h u w) (at_head z) = f.other (sym z)
  no_return {c} g (next {p} {q} {marks} {qs} f e h u w) (in_tail m) =
      let i = entry w c m in
      unentered y (far y q p) marks qs u (way_fresh w) i.0 i.1 (g i.0 i.2)

  -- marks may be taken away
  pub fewer_marks : {r c p : ℕ} {marks more : ℕ → Bool} {qs : List ℕ} → ((k : ℕ) → T (marks k) → T (more k)) → Way y may r c p more qs
      → Way y may r c p marks qs
  fewer_marks g (last f e) = last f e
  fewer_marks {marks} g (next {p} {q} {marks = more} f e h u w) =
      next f e h (fails (marks (far y q p)) (λ t. clash (more (far y q p)) (g (far y q p) t) u)) (fewer_marks still w)
    where
      still : (k : ℕ) → T (mark (far y q p) marks k) → T (mark (far y q p) more k)
      still k t = ⊎_elim (λ i. rw i (mark_put (far y q p) more)) (λ o. mark_stays (far y q p) more k (g k o)) (mark_cases (far y q p) marks k t)
