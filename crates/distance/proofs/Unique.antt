-- The contracts determine the answers: the labels that are left (`labels_unique`), and the walk that is written, how many steps it has
-- and the list that is left (`written_unique`).
-- Assumes nothing.
use mathlib.Core.Path.{◌≡◌, ap, sym, ◌∙◌}
use mathlib.Core.List.{List}
use Prim.Native.Nat.{ℕ}
use native.Mathlib.Omega.{arith}
use lib.ListN.{length}
use lib.Seq.{ext_get_or}
use Rattle.rules.specs.declared.net.NetTable.{NetTable}
use Rattle.rules.specs.Net.{no_distance, Net}
use Rattle.rules.proofs.Walks.{remaining_unique}
use Rattle.rules.proofs.First.{first_unique}
use Rattle.distance.specs.Table.{table_net, Table}
use Rattle.distance.specs.Answer.{Labels, Written}
use Rattle.distance.proofs.TableNet.{bounded}

-- arrival by arrival the remaining distance is one number
pub labels_unique : {N : Net} {n : ℕ} {x y : List ℕ} → Labels N n x → Labels N n y → x ≡ y
labels_unique {N} {n} {x} {y} L M =
    ext_get_or no_distance x y (L.long ∙ sym M.long)
    (λ a i. remaining_unique (L.exact.right a (omega (arith, L.long))) (M.exact.right a (omega (arith, L.long))))

-- there is one first shortest walk
pub written_unique : {t : NetTable} {entry x y : List ℕ} {a u v m k : ℕ} → Table t → Written (table_net t) a u entry m x → Written (table_net t) a v entry k y
    → (m ≡ k) × (x ≡ y)
written_unique {m = m} {k = k} T p q =
    let e = first_unique (bounded T) p.first q.first in
    let l : m ≡ k = p.length_of ∙ ap (length {A = ℕ}) e ∙ sym q.length_of in
    (l, p.front ∙ rw (e, l) (sym q.front))
