-- A pull-out does not ask how many points the plan has, nor does a way.
-- Assumes nothing.
use mathlib.Core.Bool.{Bool}
use mathlib.Core.List.{List}
use Prim.Native.Nat.{ℕ}
use Rattle.rules.specs.Plan.{plan_of}
use Rattle.rules.specs.PullOut.{Chain, chain, chain_end, Turns, turns, turns_end, PullOut}
use Rattle.rules.proofs.Ways.{Fits, Way, last, next}
use Rattle.rules.proofs.PullSwap.{Barred}

module _ {ss ts : List ℕ} (v w : ℕ) where
  chain_points : {p : ℕ} {qs : List ℕ} → Chain (plan_of v ss ts) p qs → Chain (plan_of w ss ts) p qs
  chain_points chain_end = chain_end
  chain_points (chain l t k) = chain l t (chain_points k)

  turns_points : {c : ℕ} {qs : List ℕ} → Turns (plan_of v ss ts) c qs → Turns (plan_of w ss ts) c qs
  turns_points turns_end = turns_end
  turns_points (turns t k) = turns t (turns_points k)

  pub pull_points : {may_pull : ℕ → Bool} {need c p s : ℕ} {qs : List ℕ} → PullOut (plan_of v ss ts) may_pull need c p s qs
      → PullOut (plan_of w ss ts) may_pull need c p s qs
  pull_points t =
      record {
        one_or_more = t.one_or_more;
        chained = chain_points t.chained;
        allowed = turns_points t.allowed;
        free = t.free;
        not_c = t.not_c;
        not_s = t.not_s;
        once = t.once;
        apart = t.apart;
        short = t.short;
        enough = t.enough;
        usable = t.usable;
      }

  pub barred_points : {c p s : ℕ} → Barred (plan_of v ss ts) c p s → Barred (plan_of w ss ts) c p s
  barred_points b =
      record {
        c_inside = b.c_inside;
        s_inside = b.s_inside;
        differ = b.differ;
        c_touch = b.c_touch;
        s_touch = b.s_touch;
        turn = b.turn;
      }

  module _ {may : ℕ → Bool} where
    fits_points : {c p q : ℕ} → Fits (plan_of v ss ts) may c p q → Fits (plan_of w ss ts) may c p q
    fits_points f = record { inside = f.inside; touch = f.touch; turn = f.turn; other = f.other; usable = f.usable }

    pub way_points : {r c p : ℕ} {marks : ℕ → Bool} {qs : List ℕ} → Way (plan_of v ss ts) may r c p marks qs → Way (plan_of w ss ts) may r c p marks qs
    way_points (last f e) = last (fits_points f) e
    way_points (next f e l n k) = next (fits_points f) e l n (way_points k)
