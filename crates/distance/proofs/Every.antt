-- What `all` tells of a range of numbers from 0 on, where it answers true: that the test held at each.
-- Assumes nothing.
use Rattle.std.proofs.Common.{◌≡◌, ℕ, ◌<◌, Bool, true, false, List, Option, length, get_or, refl, arith}
use denote.Param.Members.{Mut}
use Rattle.std.specs.declared.ops.Range.{Range}
use Rattle.std.specs.Iterator.{YieldsThen}
use Rattle.std.specs.List.{FoldsTo, range_with_len, AllWithin, HoldsAt}
use Rattle.std.specs.Fn.{Called}
use Rattle.std.specs.Option.{MatchOption}
use Rattle.std.specs.Bool.{MatchBool}
use Rattle.std.specs.Prelude.{⊤}
use Rattle.std.proofs.iter.Yields.{nat_range_steps}
use Rattle.std.proofs.lemmas.Iterator.{cases_from_all, YieldsList-from_range}
use Rattle.std.proofs.lemmas.List.FromFn.{length-range_with_len, get_or-range_with_len}

pub all_from : {F : Type 0} {g : Mut F (ℕ × Unit {0}) Bool} (s u : Range ℕ) (c : F) (r : Bool) (P : ℕ → Type 0) (n : ℕ)
    → (xs : List ℕ) × (o : Option ℕ) × (j : F) × YieldsThen nat_range_steps s xs o u × FoldsTo (λ p x q. Called g p (x, tt) true q) c xs j
    × MatchOption o (r ≡ true) (λ x. (r ≡ false) × ((h : F) × Called g j (x, tt) false h))
    → s.start ≡ 0 → s.end ≡ n → ((x : ℕ) (q : F) → Called g c (x, tt) true q → (q ≡ c) × P x) → r ≡ true → (k : ℕ) → k < n → P k
all_from {F} {g} s u c r P n ran a b yes' e =
    go r e (cases_from_all {g = g} u c r P (λ k. ⊤) ran (YieldsList-from_range s.start s.end n refl (omega (arith, a, b))) yes' (λ x q k. tt))
  where
    go : (r : Bool) → r ≡ true → MatchBool r (AllWithin P (range_with_len s.start n) 0 (length (range_with_len s.start n))) ((k : ℕ) × (k < length (range_with_len s.start n)) × HoldsAt (λ x. ⊤) (range_with_len s.start n) k)
        → (k : ℕ) → k < n → P k
    go true e h k l =
        let entry : get_or (range_with_len s.start n) k 0 ≡ k = omega (arith, a, get_or-range_with_len s.start n k 0 l) in
        rw entry at (h k 0 (omega arith) (omega (arith, length-range_with_len s.start n)))
    go false e h k l = absurd (cc)
