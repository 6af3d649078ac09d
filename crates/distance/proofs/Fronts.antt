-- The front of a longer list of labels, for callers that lend it: what they lend (`blank_front`), and what comes back (`labels_joined`).
-- Assumes nothing.
use mathlib.Core.Path.{◌≡◌, sym, ◌∙◌}
use mathlib.Core.List.{List, ◌++◌}
use Prim.Native.Nat.{ℕ, ◌≤◌, ◌<◌}
use native.Mathlib.Omega.{arith}
use lib.ListN.{length, get_or, take, drop, replicate, get_or-replicate, take-append-drop, get_or-append}
use lib.Seq.{length-take-le}
use Rattle.rules.specs.Net.{no_distance, Net}
use Rattle.distance.specs.Answer.{Exact, Labels}
use Rattle.distance.specs.Labels.{Blank}

-- a read below n is a read of the first n
pub read_front : (l : List ℕ) (n a d : ℕ) → n ≤ length l → a < n → get_or (take n l) a d ≡ get_or l a d
read_front l n a d h i =
    sym (get_or-append (take n l) (drop n l) d a (omega (arith, length-take-le n l h))) ∙ rw (take-append-drop n l)

-- labels that were just made, all "none", and any front of them
pub blank_new : (m n : ℕ) → n ≤ m → Blank n (replicate m no_distance)
blank_new m n h = record { none = λ a i. get_or-replicate m a no_distance no_distance (omega arith) }

pub blank_front : {n : ℕ} {l : List ℕ} → n ≤ length l → Blank n l → Blank (length (take n l)) (take n l)
blank_front {n} {l} h b = record { none = λ a i. let k : a < n = omega (arith, length-take-le n l h) in read_front l n a no_distance h k ∙ b.none a k }

-- labels that come back stand before the rest of the list
pub labels_joined : {N : Net} {n : ℕ} {m : List ℕ} (rest : List ℕ) → Labels N n m → Exact N n (m ++ rest)
labels_joined {n = n} {m = m} rest L =
    record { right = λ a i. rw (get_or-append m rest no_distance a (omega (arith, L.long))) (L.exact.right a i) }
