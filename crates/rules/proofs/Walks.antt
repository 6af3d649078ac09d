-- Walks over any net, and labels. Labels that break no rule are lower bounds of every walk (`lower_bound`), so a walk as long as its
-- start's label is shortest (`matched_shortest`), and where the start's label is "none" there is no walk (`none_no_walk`).
-- Remaining distances keep the rules (`remaining_keeps`) and are determined (`remaining_unique`). Labels that keep the rules and are
-- each attained, by a step or by a whole walk, are the remaining distances (`attained_remaining`, `walked_remaining`).
-- Assumes nothing.
use mathlib.Core.Path.{◌≡◌}
use mathlib.Core.List.{List, [], ◌∷◌}
use Prim.Native.Nat.{ℕ, zero, suc, ◌+◌, ◌≤◌, ◌<◌}
use native.Mathlib.Omega.{arith}
use Rattle.rules.specs.Plan.{sec}
use Rattle.rules.specs.Net.{no_distance, Net, Walk, here, onward, distance, Shortest, NoWalk, Remaining, no_walk, by_walk, AtMost, above_all, within, KeepsRules}

-- a net of n arrivals with costs from 1 to top
pub record Bounded (N : Net) (n top : ℕ) : Type 0 where
  -- each step costs something, so that going round never pays
  pub positive : {a b : ℕ} → N.Step a b → 1 ≤ N.cost a b
  -- and not more than top
  pub capped : {a b : ℕ} → N.Step a b → N.cost a b ≤ top
  -- steps lead from arrivals below n to arrivals below n, and a walk ends at one
  pub from : {a b : ℕ} → N.Step a b → a < n
  pub to : {a b : ℕ} → N.Step a b → b < n
  pub ending : {a : ℕ} → N.Finish a → a < n
  -- two steps from one arrival over the same section are the same step, so that a list of sections says which walk it is
  pub same_step : {a b c : ℕ} → N.Step a b → N.Step a c → sec b ≡ sec c → b ≡ c

-- rules kept at the arrivals below n are kept everywhere: no step and no end is elsewhere
pub keeps_everywhere : {N : Net} {n top : ℕ} {label : ℕ → ℕ} → Bounded N n top → ((a : ℕ) → a < n → KeepsRules N label a)
    → (a : ℕ) → KeepsRules N label a
keeps_everywhere B k a = record { at_finish = λ f. (k a (B.ending f)).at_finish f; at_step = λ b s. (k a (B.from s)).at_step b s }

-- the rest of a shortest walk is shortest
pub shortest_tail : {N : Net} {a b : ℕ} {bs : List ℕ} → Shortest N a (b ∷ bs) → Shortest N b bs
shortest_tail {N} {a} {b} {bs} h = go h.walk h.least
  where
    go : Walk N a (b ∷ bs) → ((cs : List ℕ) → Walk N a cs → distance N a (b ∷ bs) ≤ distance N a cs) → Shortest N b bs
    go (onward s w) least = record { walk = w; least = λ cs v. let l = least (b ∷ cs) (onward s v) in omega arith }

module _ {N : Net} {label : ℕ → ℕ} (small : N.room < no_distance) (keeps : (a : ℕ) → KeepsRules N label a) where
  -- by induction on the walk: at its end the label is at most the room; before a step it is at most the cost and the label after,
  -- which is a number and at most the length of what is left
  pub lower_bound : {a : ℕ} {bs : List ℕ} → Walk N a bs → (label a < no_distance) × (label a ≤ distance N a bs)
  lower_bound {a} (here f) = let h = (keeps a).at_finish f in omega arith
  lower_bound {a} (onward {b = b} {bs = bs} s w) = go ((keeps a).at_step b s) (lower_bound w)
    where
      go : {l m : ℕ} → AtMost l (N.cost a b) m → (m < no_distance) × (m ≤ distance N b bs) → (l < no_distance) × (l ≤ distance N a (b ∷ bs))
      go (above_all e) p = omega arith
      go (within h k) p = omega arith

  -- a walk as long as its start's label is shortest: no walk is shorter than the label
  pub matched_shortest : {a : ℕ} {bs : List ℕ} → Walk N a bs → label a ≡ distance N a bs → Shortest N a bs
  matched_shortest w e = record { walk = w; least = λ cs v. let b = lower_bound v in omega arith }

  -- where the label is "none" there is no walk: it would make the label a number
  pub none_no_walk : {a : ℕ} → label a ≡ no_distance → NoWalk N a
  none_no_walk e bs w = let b = lower_bound w in omega arith

-- an arrival has one remaining distance: of two shortest walks neither is longer
pub remaining_unique : {N : Net} {a u v : ℕ} → Remaining N a u → Remaining N a v → u ≡ v
remaining_unique (no_walk e m) (no_walk f n) = cc
remaining_unique (no_walk e m) (by_walk bs s f) = absurd (m bs s.walk)
remaining_unique (by_walk bs s e) (no_walk f n) = absurd (n bs s.walk)
remaining_unique (by_walk bs s e) (by_walk cs t f) =
    let h = s.least cs t.walk in
    let k = t.least bs s.walk in
    omega arith

-- where a walk may end, the remaining distance is the room
pub remaining_finish : {N : Net} {a v : ℕ} → Remaining N a v → N.Finish a → v ≡ N.room
remaining_finish (no_walk e m) f = absurd (m [] (here f))
remaining_finish (by_walk bs s e) f = let h = s.least [] (here f) in omega arith

-- remaining distances keep the rules, if no shortest walk is as long as "none"
module _ {N : Net} {n top : ℕ} (B : Bounded N n top) {label : ℕ → ℕ} (right : (a : ℕ) → a < n → Remaining N a (label a))
    (low : (a : ℕ) (bs : List ℕ) → a < n → Shortest N a bs → distance N a bs < no_distance) where
  pub remaining_keeps : (a : ℕ) → KeepsRules N label a
  remaining_keeps a = record {
    at_finish = λ f. let e = remaining_finish (right a (B.ending f)) f in omega arith;
    at_step = λ b s. go (right a (B.from s)) (right b (B.to s)) s;
  }
    where
      -- a step before a shortest walk is a walk
      go : {b u v : ℕ} → Remaining N a u → Remaining N b v → N.Step a b → AtMost u (N.cost a b) v
      go p (no_walk e m) s = above_all e
      go (no_walk e m) (by_walk bs k q) s = absurd (m _ (onward s k.walk))
      go (by_walk cs h e) (by_walk bs k q) s =
          let l = h.least (_ ∷ bs) (onward s k.walk) in
          let m = low _ _ (B.from s) h in
          within (omega arith) (omega arith)

-- a label that is "none" or the distance of some walk
pub data Walked (N : Net) (label : ℕ → ℕ) (a : ℕ) : Type 0 where
  no_label : label a ≡ no_distance → Walked N label a
  walked : (bs : List ℕ) → Walk N a bs → label a ≡ distance N a bs → Walked N label a

-- labels that keep the rules and are each "none" or the distance of some walk are the remaining distances
pub walked_remaining : {N : Net} {label : ℕ → ℕ} {a : ℕ} → N.room < no_distance → ((a : ℕ) → KeepsRules N label a) → Walked N label a
    → Remaining N a (label a)
walked_remaining small keeps (no_label e) = no_walk e (none_no_walk small keeps e)
walked_remaining small keeps (walked bs w e) = by_walk bs (matched_shortest small keeps w e) e

-- a step from a to b is tight: the label before it is its cost and the label after it
abbrev pub Tight : Net → (ℕ → ℕ) → ℕ → ℕ → Type 0
Tight N label a b = label a ≡ N.cost a b + label b

-- a label that is "none", or the room where a walk may end, or a number that a tight step gives
pub data Attained (N : Net) (label : ℕ → ℕ) (a : ℕ) : Type 0 where
  unreached : label a ≡ no_distance → Attained N label a
  at_end : N.Finish a → label a ≡ N.room → Attained N label a
  by_step : (b : ℕ) → N.Step a b → Tight N label a b → label a < no_distance → Attained N label a

module _ {N : Net} {n top : ℕ} (B : Bounded N n top) {label : ℕ → ℕ} (attained : (a : ℕ) → a < n → Attained N label a) where
  -- following the tight steps makes a walk, since the label falls with each; k bounds the label
  attained_walked : (k a : ℕ) → a < n → label a < k → Walked N label a
  attained_walked zero a i l = absurd (omega arith)
  attained_walked (suc k) a i l = go (attained a i) (λ b j m. attained_walked k b j m)
    where
      after : {b : ℕ} → N.Step a b → Tight N label a b → label a < no_distance → Walked N label b → Walked N label a
      after s e m (no_label q) = absurd (omega arith)
      after {b} s e m (walked bs w q) = walked (b ∷ bs) (onward s w) (omega arith)

      go : Attained N label a → ((b : ℕ) → b < n → label b < k → Walked N label b) → Walked N label a
      go (unreached e) below = no_label e
      go (at_end f e) below = walked [] (here f) (omega arith)
      go (by_step b s e m) below = let p = B.positive s in after s e m (below b (B.to s) (omega arith))

  -- labels that keep the rules and are each attained are the remaining distances, since each is "none" or the distance of a walk
  pub attained_remaining : N.room < no_distance → ((a : ℕ) → KeepsRules N label a) → (a : ℕ) → a < n → Remaining N a (label a)
  attained_remaining small keeps a i = walked_remaining small keeps (attained_walked (suc (label a)) a i (omega arith))
