-- What a reader finds: a field is whole where the file holds all of it, and cut short elsewhere.
-- Assumes nothing.
use Rattle.std.proofs.Common.{◌≡◌, ℕ, ◌≤◌, ◌<◌, List, length, Option, Some, None, true, false, refl}
use borrow.Author.Tests.{le-leb, lt-leb}
use lib.Dec.{leb}
use Rattle.rules.specs.YardFile.{tag, size, past}
use Rattle.yardfile.specs.declared.reader.Field.{Field}
use Rattle.yardfile.specs.Field.{field_at}

-- which of the two is chosen
not_above : {a b : ℕ} (f : Field) → b < a → ◌≡◌ {A = Option Field} None (elim (leb a b) [ true ↦ Some f | false ↦ None ])
not_above {a} {b} f h = rw (lt-leb a b h) refl

within : {a b : ℕ} {f g : Field} → f ≡ g → a ≤ b → ◌≡◌ {A = Option Field} (Some f) (elim (leb a b) [ true ↦ Some g | false ↦ None ])
within {a} {b} e h = rw (le-leb a b h, e) refl

pub cut_off : (s : List ℕ) (p : ℕ) → length s < past s p → None ≡ field_at s p
cut_off s p h = not_above (record { tag = tag s p; size = size s p }) h

pub found : (s : List ℕ) (p : ℕ) {n : ℕ} → n ≡ size s p → past s p ≤ length s → Some (record { tag = tag s p; size = n }) ≡ field_at s p
found s p e h = within (rw e refl) h
