-- What `find` tells of a range of numbers from 0 on: the first at which a test holds.
-- Assumes nothing.
use Rattle.std.proofs.Common.{◌≡◌, ℕ, ◌≤◌, ◌<◌, Bool, true, false, List, Option, None, Some, length, get_or, refl, arith}
use denote.Ref.{Bor}
use denote.Param.Members.{Mut}
use Rattle.std.specs.declared.ops.Range.{Range}
use Rattle.std.specs.Iterator.{YieldsThen}
use Rattle.std.specs.List.{FoldsTo, range_with_len, AllWithin, HoldsAt}
use Rattle.std.specs.Fn.{Called, CalledAt}
use Rattle.std.specs.Option.{MatchOption}
use Rattle.std.specs.Prelude.{⊤}
use Rattle.std.proofs.iter.Yields.{nat_range_steps}
use Rattle.std.proofs.lemmas.Iterator.{first_from_Range, cases_from_any, YieldsList-from_range}
use Rattle.std.proofs.lemmas.List.FromFn.{length-range_with_len, get_or-range_with_len}
use Rattle.std.specs.Bool.{MatchBool}
use Rattle.rules.specs.Ranges.{some_of}
use Rattle.plan.proofs.Looking.{some_below, none_below}
use Rattle.plan.specs.Lent.{First}

pub first_from : {F : Type 0} {g : Mut F (Bor ℕ × Unit {0}) Bool} (s u : Range ℕ) (c : F) (r : Option ℕ) (f : ℕ → Bool) (n : ℕ)
    → (xs : List ℕ) × (j : F) × YieldsThen nat_range_steps s xs r u × FoldsTo (λ p x q. CalledAt g p x false q) c xs j × MatchOption r ⊤ (λ x. (h : F) × CalledAt g j x true h)
    → s.start ≡ 0 → s.end ≡ n → ((x : ℕ) (q : F) → CalledAt g c x true q → f x ≡ true) → ((x : ℕ) (q : F) → CalledAt g c x false q → (q ≡ c) × (f x ≡ false))
    → First f n r
first_from {F} {g} s u c r f n ran a b yes' no' = go r (first_from_Range {g = g} s u c r (λ k. f k ≡ true) (λ k. f k ≡ false) ran yes' no')
  where
    go : (r : Option ℕ)
        → MatchOption r ((k : ℕ) → s.start ≤ k → k < s.end → f k ≡ false) (λ i. (s.start ≤ i) × (i < s.end) × (f i ≡ true) × ((k : ℕ) → s.start ≤ k → k < i → f k ≡ false))
        → First f n r
    go None h = λ k l. h k (omega (arith, a)) (omega (arith, b))
    go (Some i) h = (omega (arith, h.1, b), h.2, λ k l. h.3 k (omega (arith, a)) l)

-- the same for `any`
pub any_from : {F : Type 0} {g : Mut F (ℕ × Unit {0}) Bool} (s u : Range ℕ) (c : F) (r : Bool) (f : ℕ → Bool) (n : ℕ)
    → (xs : List ℕ) × (o : Option ℕ) × (j : F) × YieldsThen nat_range_steps s xs o u × FoldsTo (λ p x q. Called g p (x, tt) false q) c xs j
    × MatchOption o (r ≡ false) (λ x. (r ≡ true) × ((h : F) × Called g j (x, tt) true h))
    → s.start ≡ 0 → s.end ≡ n → ((x : ℕ) (q : F) → Called g c (x, tt) true q → f x ≡ true) → ((x : ℕ) (q : F) → Called g c (x, tt) false q → (q ≡ c) × (f x ≡ false))
    → r ≡ some_of f 0 n
any_from {F} {g} s u c r f n ran a b yes' no' =
    go r (cases_from_any {g = g} u c r (λ k. f k ≡ true) (λ k. f k ≡ false) ran (YieldsList-from_range s.start s.end n refl (omega (arith, a, b))) yes' no')
  where
    entry : (k : ℕ) → k < n → get_or (range_with_len s.start n) k 0 ≡ k
    entry k l = omega (arith, a, get_or-range_with_len s.start n k 0 l)

    go : (r : Bool) → MatchBool r ((k : ℕ) × (k < length (range_with_len s.start n)) × HoldsAt (λ x. f x ≡ true) (range_with_len s.start n) k) (AllWithin (λ x. f x ≡ false) (range_with_len s.start n) 0 (length (range_with_len s.start n))) → r ≡ some_of f 0 n
    go true (k, l, h) = let m : k < n = omega (arith, length-range_with_len s.start n) in some_below f m (rw (entry k m) at (h 0))
    go false h = none_below f (λ k l. rw (entry k l) at (h k 0 (omega arith) (omega (arith, length-range_with_len s.start n))))
