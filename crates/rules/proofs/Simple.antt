-- A shortest walk meets no arrival twice (`simple`), so over n arrivals it has fewer than n steps (`few_steps`), and its distance is
-- far below "none" (`far_below`).
-- Assumes nothing.
use mathlib.Core.List.{List, [], ◌∷◌, Memᴰ}
use Prim.Native.Nat.{ℕ, ◌+◌, ◌*◌, ◌≤◌, ◌<◌}
use native.Mathlib.Nat.{suc-mul, mul-le-mul}
use native.Mathlib.Omega.{arith}
use lib.ListN.{length}
use Rattle.rules.specs.Ranges.{Distinct, nil, cons}
use Rattle.rules.specs.Net.{no_distance, Net, Walk, here, onward, distance, Shortest}
use Rattle.rules.proofs.Pigeon.{pigeonhole}
use Rattle.rules.proofs.Walks.{Bounded, shortest_tail}

-- a walk from c that is shorter than d
record Shorter (N : Net) (c d : ℕ) : Type 0 where
  rest : List ℕ
  walk : Walk N c rest
  less : distance N c rest < d

module _ {N : Net} {n top : ℕ} (B : Bounded N n top) where
  -- from an arrival that a walk meets, a shorter walk leads on: what is left of it there
  shorter : {a c : ℕ} {bs : List ℕ} → Walk N a bs → Memᴰ c bs → Shorter N c (distance N a bs)
  shorter (here _) m = elim m [ ]
  shorter (onward {bs = bs} s w) (Memᴰ.head e) = let p = B.positive s in record { rest = bs; walk = rw e w; less = rw e (omega arith) }
  shorter (onward s w) (Memᴰ.tail m) = let l = shorter w m in record { rest = l.rest; walk = l.walk; less = let h = l.less in omega arith }

  -- so a shortest walk does not come back to its start
  no_return : {a : ℕ} {bs : List ℕ} → Shortest N a bs → Memᴰ a bs → ⊥
  no_return h m =
      let l = shorter h.walk m in
      let k = h.least l.rest l.walk in
      let g = l.less in
      omega arith

  -- nor, since what is left of it is shortest too, to any other arrival
  pub simple : {a : ℕ} (bs : List ℕ) → Shortest N a bs → Distinct (a ∷ bs)
  simple [] h = cons (no_return h) nil
  simple (b ∷ bs) h = cons (no_return h) (simple bs (shortest_tail h))

  inside : (k : ℕ) {a : ℕ} {bs : List ℕ} → a < n → Walk N a bs → Memᴰ k (a ∷ bs) → k < n
  inside k l w (Memᴰ.head e) = rw e l
  inside k l (here _) (Memᴰ.tail m) = elim m [ ]
  inside k l (onward s w) (Memᴰ.tail m) = inside k (B.to s) w m

  -- its arrivals with the start are different numbers below n
  pub few_steps : {a : ℕ} (bs : List ℕ) → a < n → Shortest N a bs → length bs < n
  few_steps bs l h = pigeonhole n (simple bs h) (λ k m. inside k l h.walk m)

  -- each step costs at most top
  pub at_most_steps : {a : ℕ} {bs : List ℕ} → Walk N a bs → distance N a bs ≤ length bs * top + N.room
  at_most_steps (here f) = omega arith
  at_most_steps (onward s w) = let h = at_most_steps w in let k = B.capped s in rw suc-mul (omega arith)

  -- with the bounds of document 01 a shortest walk's distance, and a first distance with it, is below "none"
  pub far_below : {a : ℕ} (bs : List ℕ) → n ≤ 2048 → top ≤ 220000 → N.room ≤ 200000 → a < n → Shortest N a bs
      → distance N a bs + 200000 < no_distance
  far_below bs ln lt lr l h =
      let s = few_steps bs l h in
      let m = at_most_steps h.walk in
      let p : length bs * top ≤ 2048 * 220000 = mul-le-mul {n₂ = 2048} {m₂ = 220000} (omega arith) lt in
      omega arith
