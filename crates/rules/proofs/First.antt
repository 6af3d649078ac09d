-- The order of lists is antisymmetric, total and transitive (`not_after_antisym`, `not_after_total`, `not_after_trans`), so there is one
-- first shortest walk at most (`first_unique`). Following the tight step of the smallest section gives it (`follow_first`), and where
-- there is a walk and tight steps can be picked, following gets to an end (`reach`).
-- Assumes nothing.
use mathlib.Core.Path.{◌≡◌, refl, sym, ◌∙◌}
use mathlib.Core.Logic.{◌⊎◌, inl, inr}
use mathlib.Core.List.{List, [], ◌∷◌, map, head-eq_of_cons-eq, tail-eq_of_cons-eq}
use Prim.Native.Nat.{ℕ, zero, suc, ◌+◌, ◌≤◌, ◌<◌}
use native.Mathlib.Nat.{eq-or-lt_of_le, lt_trans}
use native.Mathlib.Omega.{arith}
use native.Mathlib.Decide.{dec_lt}
use Rattle.rules.specs.Plan.{sec}
use Rattle.rules.specs.Net.{no_distance, Net, Walk, here, onward, distance, Shortest, NotAfter, over, lower, level, FirstShortest, Remaining, no_walk, by_walk, AtMost, above_all, within, KeepsRules}
use Rattle.rules.proofs.Walks.{Bounded, Tight, shortest_tail, lower_bound, matched_shortest, remaining_unique, remaining_finish}

-- two lists of which neither comes after the other are equal
pub not_after_antisym : {xs ys : List ℕ} → NotAfter xs ys → NotAfter ys xs → xs ≡ ys
not_after_antisym over over = refl
not_after_antisym (lower h) (lower k) = absurd (omega arith)
not_after_antisym (lower h) (level e q) = absurd (omega arith)
not_after_antisym (level e p) (lower k) = absurd (omega arith)
not_after_antisym (level e p) (level f q) = let r = not_after_antisym p q in cc

pub not_after_trans : {xs ys zs : List ℕ} → NotAfter xs ys → NotAfter ys zs → NotAfter xs zs
not_after_trans over q = over
not_after_trans (lower h) (lower k) = lower (lt_trans h k)
not_after_trans (lower h) (level f q) = lower (rw f at h)
not_after_trans (level e p) (lower k) = lower (rw (← e) at k)
not_after_trans (level e p) (level f q) = level (e ∙ f) (not_after_trans p q)

pub not_after_total : (xs ys : List ℕ) → NotAfter xs ys ⊎ NotAfter ys xs
not_after_total [] ys = inl over
not_after_total (x ∷ xs) [] = inr over
not_after_total (x ∷ xs) (y ∷ ys) = go (dec_lt x y) (dec_lt y x) (not_after_total xs ys)
  where
    rest : x ≡ y → NotAfter xs ys ⊎ NotAfter ys xs → NotAfter (x ∷ xs) (y ∷ ys) ⊎ NotAfter (y ∷ ys) (x ∷ xs)
    rest e (inl p) = inl (level e p)
    rest e (inr p) = inr (level (sym e) p)

    go : Dec (x < y) → Dec (y < x) → NotAfter xs ys ⊎ NotAfter ys xs → NotAfter (x ∷ xs) (y ∷ ys) ⊎ NotAfter (y ∷ ys) (x ∷ xs)
    go (yes h) d r = inl (lower h)
    go (no h) (yes d) r = inr (lower d)
    go (no h) (no d) r = rest (omega arith) r

-- no tight step from a goes over a smaller section than that of b
abbrev pub Smallest : Net → (ℕ → ℕ) → ℕ → ℕ → Type 0
Smallest N label a b = (c : ℕ) → N.Step a c → Tight N label a c → sec b ≤ sec c

-- bs follows, from a, the tight step of the smallest section, again and again, to an end
pub data Follow (N : Net) (label : ℕ → ℕ) : ℕ → List ℕ → Type 0 where
  stop : {a : ℕ} → N.Finish a → Follow N label a []
  go_on : {a b : ℕ} {bs : List ℕ} → N.Step a b → Tight N label a b → Smallest N label a b → Follow N label b bs → Follow N label a (b ∷ bs)

-- a tight step of the smallest section
pub record Pick (N : Net) (label : ℕ → ℕ) (a : ℕ) : Type 0 where
  pub to : ℕ
  pub step : N.Step a to
  pub tight : Tight N label a to
  pub smallest : Smallest N label a to

-- an end at a, or a tight step from there
pub data LeadsOn (N : Net) (label : ℕ → ℕ) (a : ℕ) : Type 0 where
  ends : N.Finish a → LeadsOn N label a
  steps : (b : ℕ) → N.Step a b → Tight N label a b → LeadsOn N label a

-- a step of a walk as long as the label is tight, and what is left is as long as the label after it
tight_step : {l c m d : ℕ} → AtMost l c m → m < no_distance → m ≤ d → l ≡ c + d → (l ≡ c + m) × (m ≡ d)
tight_step (above_all e) h k q = absurd (omega arith)
tight_step (within g e) h k q = (omega arith, omega arith)

module _ {N : Net} {n top : ℕ} (B : Bounded N n top) where
  -- a list of sections says which walk from a it is
  walk_of_sections : {a : ℕ} {bs cs : List ℕ} → Walk N a bs → Walk N a cs → map sec bs ≡ map sec cs → bs ≡ cs
  walk_of_sections (here f) (here g) e = refl
  walk_of_sections (here f) (onward s w) e = absurd (let z : ◌≡◌ {A = ℕ} 0 1 = cc in omega arith)
  walk_of_sections (onward s w) (here g) e = absurd (let z : ◌≡◌ {A = ℕ} 0 1 = cc in omega arith)
  walk_of_sections (onward s w) (onward t v) e =
      let k = B.same_step s t (head-eq_of_cons-eq e) in
      let r = walk_of_sections w (rw (← k) at v) (tail-eq_of_cons-eq e) in
      cc

  -- of two first shortest walks neither's sections come after the other's, so they have the same sections
  pub first_unique : {a : ℕ} {bs cs : List ℕ} → FirstShortest N a bs → FirstShortest N a cs → bs ≡ cs
  first_unique {bs = bs} {cs = cs} f g =
      walk_of_sections f.shortest.walk g.shortest.walk (not_after_antisym (f.first cs g.shortest) (g.first bs f.shortest))

module _ {N : Net} {n top : ℕ} (B : Bounded N n top) {label : ℕ → ℕ} (right : (a : ℕ) → a < n → Remaining N a (label a)) where
  -- where there is a walk, it ends here or a tight step leads on: the first step of a shortest walk is tight
  pub leads_on : (a : ℕ) → a < n → label a < no_distance → LeadsOn N label a
  leads_on a i h = go (right a i)
    where
      at : (bs : List ℕ) → Shortest N a bs → label a ≡ distance N a bs → Walk N a bs → LeadsOn N label a
      at [] s e (here f) = ends f
      at (b ∷ bs) s e (onward t w) =
          let d = remaining_unique (right b (B.to t)) (by_walk bs (shortest_tail s) refl) in
          steps b t (omega arith)

      go : Remaining N a (label a) → LeadsOn N label a
      go (no_walk e m) = absurd (omega arith)
      go (by_walk bs s e) = at bs s e s.walk

  module _ (pick : (a c : ℕ) → N.Step a c → Tight N label a c → Pick N label a) where
    -- where the label is a number, following gets to an end: by induction on a bound k of the label, which falls with each step
    pub reach : (k a : ℕ) → a < n → label a < k → label a < no_distance → (bs : List ℕ) × Follow N label a bs
    reach zero a i l h = absurd (omega arith)
    reach (suc k) a i l h = go (leads_on a i h) (λ b j m g. reach k b j m g)
      where
        onto : Pick N label a → ((b : ℕ) → b < n → label b < k → label b < no_distance → (bs : List ℕ) × Follow N label b bs)
            → (bs : List ℕ) × Follow N label a bs
        onto p below =
            let c = B.positive p.step in
            let t = p.tight in
            let q = below p.to (B.to p.step) (omega arith) (omega arith) in
            (p.to ∷ q.0, go_on p.step t p.smallest q.1)

        go : LeadsOn N label a → ((b : ℕ) → b < n → label b < k → label b < no_distance → (bs : List ℕ) × Follow N label b bs)
            → (bs : List ℕ) × Follow N label a bs
        go (ends f) below = ([], stop f)
        go (steps b s t) below = onto (pick a b s t) below

  module _ (small : N.room < no_distance) (keeps : (a : ℕ) → KeepsRules N label a) where
    -- what is followed is a walk as long as its start's label
    pub follow_walk : {a : ℕ} {bs : List ℕ} → Follow N label a bs → Walk N a bs × (label a ≡ distance N a bs)
    follow_walk {a} (stop f) = let e = remaining_finish (right a (B.ending f)) f in (here f, omega arith)
    follow_walk (go_on s t m k) = let h = follow_walk k in (onward s h.0, omega arith)

    -- step by step, another walk as long takes tight steps too, so its section is the same, and with it the step, or greater
    follow_not_after : {a : ℕ} {bs cs : List ℕ} → Follow N label a bs → Walk N a cs → label a ≡ distance N a cs → NotAfter (map sec bs) (map sec cs)
    follow_not_after (stop f) w e = over
    follow_not_after (go_on s t m k) (here g) e = let p = B.positive s in let q = follow_walk k in absurd (omega arith)
    follow_not_after (go_on {b = b} {bs = bs} s t m k) (onward {a = a} {b = c} {bs = cs} u v) e =
        let l = lower_bound small keeps v in
        let z = tight_step ((keeps a).at_step c u) l.0 l.1 (omega arith) in
        compare (eq-or-lt_of_le (m c u z.0)) z.1 (λ w q. follow_not_after k w q)
      where
        compare : (sec b ≡ sec c) ⊎ (sec b < sec c) → label c ≡ distance N c cs
            → (Walk N b cs → label b ≡ distance N b cs → NotAfter (map sec bs) (map sec cs)) → NotAfter (map sec (b ∷ bs)) (map sec (c ∷ cs))
        compare (inr h) q below = lower h
        compare (inl h) q below = let z = B.same_step s u h in level h (below (rw z v) (rw z q))

    -- no walk is shorter than its start's label, and one as long does not come before
    pub follow_first : {a : ℕ} {bs : List ℕ} → Follow N label a bs → FirstShortest N a bs
    follow_first {a} {bs} f =
        let w = follow_walk f in
        record {
          shortest = matched_shortest small keeps w.0 w.1;
          first = λ cs h. let l = h.least bs w.0 in let b = lower_bound small keeps h.walk in follow_not_after f h.walk (omega arith);
        }
