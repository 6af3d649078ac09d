-- Two nets with the same steps at the same costs, the same ends and the same room have the same walks (`same_walk`), and so the same
-- shortest walks, the same first of them and the same remaining distances (`same_first`, `same_remaining`, `same_none`).
-- Assumes nothing.
use mathlib.Core.Path.{◌≡◌, ◌∙◌}
use mathlib.Core.List.{List}
use Prim.Native.Nat.{ℕ}
use native.Mathlib.Omega.{arith}
use Rattle.rules.specs.Net.{Net, Walk, here, onward, distance, Shortest, FirstShortest, NoWalk, Remaining, no_walk, by_walk}

-- each step of the first is one of the second, at the same cost, and each of its ends too; the room is the same
pub record Within (M N : Net) : Type 0 where
  pub step : {a b : ℕ} → M.Step a b → N.Step a b
  pub cost : {a b : ℕ} → M.Step a b → M.cost a b ≡ N.cost a b
  pub ending : {a : ℕ} → M.Finish a → N.Finish a
  pub room : M.room ≡ N.room

-- so its walks are walks of the second, at the same distance
pub same_walk : {M N : Net} {a : ℕ} {bs : List ℕ} → Within M N → Walk M a bs → Walk N a bs × (distance M a bs ≡ distance N a bs)
same_walk W (here f) = (here (W.ending f), let r = W.room in omega arith)
same_walk W (onward s w) =
    let r = same_walk W w in
    let c = W.cost s in
    (onward (W.step s) r.0, omega (arith, r.1))

module _ {M N : Net} (to : Within M N) (back : Within N M) where
  pub same_shortest : {a : ℕ} {bs : List ℕ} → Shortest M a bs → Shortest N a bs
  same_shortest h =
      let w = same_walk to h.walk in
      record {
        walk = w.0;
        least = λ cs v. let u = same_walk back v in let l = h.least cs u.0 in omega (arith, w.1, u.1);
      }

-- each within the other: the two nets are alike
module _ {M N : Net} (to : Within M N) (back : Within N M) where
  pub same_first : {a : ℕ} {bs : List ℕ} → FirstShortest M a bs → FirstShortest N a bs
  same_first f = record { shortest = same_shortest to back f.shortest; first = λ cs h. f.first cs (same_shortest back to h) }

  pub same_none : {a : ℕ} → NoWalk M a → NoWalk N a
  same_none none bs w = none bs (same_walk back w).0

  pub same_remaining : {a v : ℕ} → Remaining M a v → Remaining N a v
  same_remaining (no_walk e m) = no_walk e (same_none m)
  same_remaining (by_walk bs s e) = by_walk bs (same_shortest to back s) (e ∙ (same_walk to s.walk).1)
