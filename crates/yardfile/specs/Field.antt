-- The field that a reader finds.
-- Assumes nothing.
use Rattle.std.specs.Prelude.{true, false, Option, Some, None, List, ℕ, leb, length}
use Rattle.rules.specs.YardFile.{tag, size, past}
use Rattle.yardfile.specs.declared.reader.Field.{Field}

-- the field that begins at byte p: its tag and its length where the file holds all of it
abbrev pub field_at : List ℕ → ℕ → Option Field
field_at s p = elim (leb (past s p) (length s)) [ true ↦ Some (record { tag = tag s p; size = size s p }) | false ↦ None ]
