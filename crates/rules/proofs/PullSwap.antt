-- The pull-outs for (c, p, s) are those for (s, p, c): one answer serves both directions of a turn (`pull_swap`).
-- Assumes nothing.
use mathlib.Core.Path.{◌≡◌, sym, ◌∙◌}
use mathlib.Core.Logic.{◌≢◌, ◌⊎◌, inl, inr, ◌↔◌}
use mathlib.Core.Bool.{Bool, not}
use mathlib.Core.List.Memᴰ.{head as at_head}
use mathlib.Core.List.{List, [], ◌∷◌, Memᴰ}
use Prim.Native.Nat.{ℕ, ◌<◌}
use lib.Dec.{T}
use Rattle.rules.specs.Plan.{Plan, section_count, touches, forbidden}
use Rattle.rules.specs.PullOut.{Chain, chain, Turns, turns, turns_end, PullOut, FirstPullOut, NoPullOut}
use Rattle.rules.proofs.Tests.{fails}
use Rattle.rules.proofs.Sound.{SoundPlan}
use Rattle.rules.proofs.TurnPoints.{turn_cases, turn_swap, turn_there, same_turn}

-- of two pairs of different numbers that are the same turn, the second members are the same where the first are
other_one : {a b s c q : ℕ} → s ≢ c → ((a ≡ c) × (b ≡ s)) ⊎ ((a ≡ s) × (b ≡ c)) → ((a ≡ s) × (b ≡ q)) ⊎ ((a ≡ q) × (b ≡ s)) → q ≡ c
other_one n (inl i) (inl j) = absurd (n (sym j.0 ∙ i.0))
other_one n (inl i) (inr j) = sym j.0 ∙ i.0
other_one n (inr i) (inl j) = sym j.1 ∙ i.1
other_one n (inr i) (inr j) = absurd (n (sym j.1 ∙ i.1))

-- the turn from c to s at p, forbidden
pub record Barred (y : Plan) (c p s : ℕ) : Type 0 where
  pub c_inside : c < section_count y
  pub s_inside : s < section_count y
  pub differ : s ≢ c
  pub c_touch : T (touches y c p)
  pub s_touch : T (touches y s p)
  pub turn : T (forbidden y c s)

pub barred_back : {y : Plan} {c p s : ℕ} → Barred y c p s → Barred y s p c
barred_back {y} {c} {p} {s} b =
    record {
      c_inside = b.s_inside;
      s_inside = b.c_inside;
      differ = λ e. b.differ (sym e);
      c_touch = b.s_touch;
      s_touch = b.c_touch;
      turn = turn_swap y c s b.turn;
    }

module _ {y : Plan} (sound : SoundPlan y) where
  -- the point has no turn but that one, so from s every section but c may be entered
  turn_free : {c p s q : ℕ} → Barred y c p s → q < section_count y → T (touches y q p) → q ≢ c → q ≢ s → T (not (forbidden y s q))
  turn_free {c} {p} {s} {q} b l u nc ns = fails (forbidden y s q) bad
    where
      bad : T (forbidden y s q) → ⊥
      bad f =
          let t = turn_there sound b.c_inside b.s_inside (λ e. b.differ (sym e)) b.c_touch b.s_touch b.turn in
          let v = turn_there sound b.s_inside l (λ e. ns (sym e)) b.s_touch u f in
          let z = same_turn sound t.0 v.0 t.1 v.1 (t.2 ∙ sym v.2) in
          nc (other_one b.differ (turn_cases y c s v.0 (rw z at t.3)) (turn_cases y s q v.0 v.3))

module _ {y : Plan} (sound : SoundPlan y) {may_pull : ℕ → Bool} {need : ℕ} where
  pub swapped : {c p s : ℕ} {qs : List ℕ} → Barred y c p s → PullOut y may_pull need c p s qs → PullOut y may_pull need s p c qs
  swapped {c} {p} {s} {qs} b t =
      record {
        one_or_more = t.one_or_more;
        chained = t.chained;
        allowed = allowed qs t.chained t.allowed t.not_c t.not_s;
        free = t.free;
        not_c = t.not_s;
        not_s = t.not_c;
        once = t.once;
        apart = t.apart;
        short = t.short;
        enough = t.enough;
        usable = t.usable;
      }
    where
      allowed : (qs : List ℕ) → Chain y p qs → Turns y c qs → (Memᴰ c qs → ⊥) → (Memᴰ s qs → ⊥) → Turns y s qs
      allowed [] k v nc ns = turns_end
      allowed (q ∷ qs) (chain l u k) (turns f v) nc ns = turns (turn_free sound b l u (λ e. nc (at_head (sym e))) (λ e. ns (at_head (sym e)))) v

  pub pull_swap : {c p s : ℕ} → Barred y c p s → (qs : List ℕ) → PullOut y may_pull need c p s qs ↔ PullOut y may_pull need s p c qs
  pull_swap b qs = (swapped b, swapped (barred_back b))

  -- so the first of them, and that there is none
  pub first_swap : {c p s : ℕ} {qs : List ℕ} → Barred y c p s → FirstPullOut y may_pull need c p s qs → FirstPullOut y may_pull need s p c qs
  first_swap b f = record { pull_out = swapped b f.pull_out; first = λ rs t. f.first rs (swapped (barred_back b) t) }

  pub none_swap : {c p s : ℕ} → Barred y c p s → NoPullOut y may_pull need c p s → NoPullOut y may_pull need s p c
  none_swap b n qs t = n qs (swapped (barred_back b) t)
