-- The pull-outs for (c, p, s) are the ways that begin from section c at the point p with a mark there alone.
-- Assumes nothing.
use mathlib.Core.Path.{refl, sym}
use mathlib.Core.Logic.{◌≢◌, ⊎_elim}
use mathlib.Core.Bool.{Bool}
use mathlib.Core.List.Memᴰ
use mathlib.Core.List.Memᴰ.{head as at_head}
use mathlib.Core.List.Memᴰ.{not-nil as not-in-nil}
use mathlib.Core.List.Memᴰ.{tail as in_tail}
use mathlib.Core.List.{List, [], ◌∷◌, Memᴰ}
use Prim.Native.Nat.{ℕ, ◌-◌, ◌≤◌, ◌<◌}
use native.Mathlib.Omega.{arith}
use lib.Dec.{T, eqb→eq, eqb_refl}
use Rattle.rules.specs.Ranges.{nil, cons}
use Rattle.rules.specs.Plan.{Plan, len, is_free, touches, far, free_from}
use Rattle.rules.specs.Net.{NotAfter}
use Rattle.rules.specs.PullOut.{all_but_last, Chain, chain, chain_end, entries, Turns, turns, turns_end, PullOut, FirstPullOut, NoPullOut}
use Rattle.rules.proofs.Tests.{tests, fails}
use Rattle.rules.proofs.Ranges.{distinct_head, distinct_tail}
use Rattle.rules.proofs.Ways.{may_use, only, mark, Fits, Way, last, next, mark_put, mark_stays, mark_cases, Fresh, unentered, two_ends, way_usable, way_fresh, no_return}

-- what a pull-out says of its first section
pull_fits : {y : Plan} {may may_pull : ℕ → Bool} {r c p s q : ℕ} {qs : List ℕ} → PullOut y may_pull r c p s (q ∷ qs) → T (may q) → Fits y may c p q
pull_fits {y} {may} {c} {p} {q} {qs} t u = go t.chained t.allowed
  where
    go : Chain y p (q ∷ qs) → Turns y c (q ∷ qs) → Fits y may c p q
    go (chain l e k) (turns f g) = record { inside = l; touch = e; turn = f; other = λ z. t.not_c (at_head (sym z)); usable = u }

-- the rest of a pull-out is one, that begins from its first section
pull_rest : {y : Plan} {may_pull : ℕ → Bool} {r c p s q j : ℕ} {qs : List ℕ} → PullOut y may_pull r c p s (q ∷ j ∷ qs)
    → PullOut y may_pull (r - len y q) q (far y q p) s (j ∷ qs)
pull_rest {y} {c} {p} {q} {j} {qs} t =
    let a = t.short in
    let b = t.enough in
    record {
      one_or_more = omega arith;
      chained = chained t.chained;
      allowed = allowed t.allowed;
      free = λ k m. t.free k (in_tail m);
      not_c = distinct_head t.once;
      not_s = λ m. t.not_s (in_tail m);
      once = distinct_tail t.once;
      apart = distinct_tail t.apart;
      short = omega arith;
      enough = omega arith;
      usable = λ k m. t.usable k (in_tail m);
    }
  where
    chained : Chain y p (q ∷ j ∷ qs) → Chain y (far y q p) (j ∷ qs)
    chained (chain l u k) = k

    allowed : Turns y c (q ∷ j ∷ qs) → Turns y q (j ∷ qs)
    allowed (turns f k) = k

-- and such a rest makes a pull-out with that section before it
pull_more : {y : Plan} {may may_pull : ℕ → Bool} {r c p s q : ℕ} (qs : List ℕ) → Fits y may c p q → T (is_free y q) → len y q < r
    → (Memᴰ c (q ∷ qs) → ⊥) → (Memᴰ s (q ∷ qs) → ⊥) → ((k : ℕ) → Memᴰ k (q ∷ qs) → T (may_pull k))
    → (Memᴰ p (entries y (far y q p) qs) → ⊥) → PullOut y may_pull (r - len y q) q (far y q p) s qs → PullOut y may_pull r c p s (q ∷ qs)
pull_more [] f e h nc ns us np t = let z = t.one_or_more in absurd (omega arith)
pull_more {y} {q} (j ∷ qs) f e h nc ns us np t =
    let a = t.short in
    let b = t.enough in
    record {
      one_or_more = omega arith;
      chained = chain f.inside f.touch t.chained;
      allowed = turns f.turn t.allowed;
      free = free;
      not_c = nc;
      not_s = ns;
      once = cons t.not_c t.once;
      apart = cons np t.apart;
      short = omega arith;
      enough = omega arith;
      usable = us;
    }
  where
    free : (k : ℕ) → Memᴰ k (q ∷ all_but_last (j ∷ qs)) → T (is_free y k)
    free k (at_head z) = rw z e
    free k (in_tail m) = t.free k m

module _ {y : Plan} {may may_pull : ℕ → Bool} where
  -- a pull-out is a way, where its sections may be used and none of its points but the first has a mark
  clauses_way : {r c p s : ℕ} {marks : ℕ → Bool} (qs : List ℕ) → ((k : ℕ) → Memᴰ k qs → T (may k)) → Fresh y p marks qs
      → PullOut y may_pull r c p s qs → Way y may r c p marks qs
  clauses_way [] us g t = let z = t.one_or_more in absurd (omega arith)
  clauses_way {r} {p} (q ∷ []) us g t = let e : r ≤ free_from y q p = omega (arith, t.enough) in last (pull_fits t (us q (at_head refl))) e
  clauses_way {r = r} {p = p} {marks = marks} (q ∷ j ∷ qs) us g t =
      let h : len y q < r = omega (arith, t.short) in
      next (pull_fits t (us q (at_head refl))) (t.free q (at_head refl)) h (fails (marks (far y q p)) (beyond (far y q p) (at_head refl)))
      (clauses_way {r = r - len y q} {c = q} {p = far y q p} {marks = mark (far y q p) marks} (j ∷ qs) (λ k m. us k (in_tail m)) fresh (pull_rest t))
    where
      beyond : (k : ℕ) → Memᴰ k (entries y (far y q p) (j ∷ qs)) → T (marks k) → ⊥
      beyond k m o = distinct_head t.apart (Memᴰ.cast (sym (g k (in_tail m) o)) m)

      fresh : Fresh y (far y q p) (mark (far y q p) marks) (j ∷ qs)
      fresh k m o = ⊎_elim (λ i. i) (λ i. absurd (beyond k m i)) (mark_cases (far y q p) marks k o)

  -- a way is a pull-out, where p has a mark and none of the sections is c, s or one that may not be used
  way_clauses : {r c p s : ℕ} {marks : ℕ → Bool} {qs : List ℕ} → (Memᴰ c qs → ⊥) → (Memᴰ s qs → ⊥) → ((k : ℕ) → Memᴰ k qs → T (may_pull k))
      → T (marks p) → 0 < r → Way y may r c p marks qs → PullOut y may_pull r c p s qs
  way_clauses nc ns us mp z (last f e) = record {
    one_or_more = omega arith;
    chained = chain f.inside f.touch chain_end;
    allowed = turns f.turn turns_end;
    free = λ k m. absurd (not-in-nil m);
    not_c = nc;
    not_s = ns;
    once = cons not-in-nil nil;
    apart = cons not-in-nil nil;
    short = z;
    enough = omega arith;
    usable = us;
  }
  way_clauses nc ns us mp z (next {p} {q} {marks} {qs} f e h u w) =
      pull_more qs f e h nc ns us (λ m. unentered y (far y q p) marks qs u (way_fresh w) p m mp)
      (way_clauses (no_return both_marked w) (λ m. ns (in_tail m)) (λ k m. us k (in_tail m)) (mark_put (far y q p) marks) (omega arith) w)
    where
      both_marked : (k : ℕ) → T (touches y q k) → T (mark (far y q p) marks k)
      both_marked k t = ⊎_elim (λ i. mark_stays (far y q p) marks k (rw i mp)) (λ i. rw i (mark_put (far y q p) marks)) (two_ends y q p k f.touch t)

-- the two are the same; the way back asks that there is a length to take, which a pull-out says itself
module _ {y : Plan} {may_pull : ℕ → Bool} {need c p s : ℕ} where
  pub pull_way : {qs : List ℕ} → PullOut y may_pull need c p s qs → Way y (may_use may_pull c s) need c p (only p) qs
  pull_way {qs} t = clauses_way qs usable (λ k m. eqb→eq k p) t
    where
      usable : (k : ℕ) → Memᴰ k qs → T (may_use may_pull c s k)
      usable k m = simp tests ((t.usable k m, λ e. t.not_c (Memᴰ.cast (sym e) m)), λ e. t.not_s (Memᴰ.cast (sym e) m))

  pub way_pull : {qs : List ℕ} → 0 < need → Way y (may_use may_pull c s) need c p (only p) qs → PullOut y may_pull need c p s qs
  way_pull {qs} z w = way_clauses (λ m. (used c m).0.1 refl) (λ m. (used s m).1 refl) (λ k m. (used k m).0.0) (eqb_refl p) z w
    where
      used : (k : ℕ) → Memᴰ k qs → (T (may_pull k) × (k ≢ c)) × (k ≢ s)
      used k m = simp tests at (way_usable w k m)

  -- so the smallest way is the first pull-out, and without a way there is no pull-out
  pub first_pull : {qs : List ℕ} → 0 < need → Way y (may_use may_pull c s) need c p (only p) qs
      → ((rs : List ℕ) → Way y (may_use may_pull c s) need c p (only p) rs → NotAfter qs rs) → FirstPullOut y may_pull need c p s qs
  first_pull z w b = record { pull_out = way_pull z w; first = λ rs t. b rs (pull_way t) }

  pub no_pull : ((rs : List ℕ) → Way y (may_use may_pull c s) need c p (only p) rs → ⊥) → NoPullOut y may_pull need c p s
  no_pull n qs t = n qs (pull_way t)
