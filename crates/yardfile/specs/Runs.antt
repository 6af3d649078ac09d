-- Runs: fields of one tag that follow each other.
-- Assumes nothing.
use Rattle.std.specs.Prelude.{◌≡◌, List, [], ◌++◌, ℕ, zero, suc, ◌+◌, ◌≤◌, ◌<◌, length}
use Rattle.rules.specs.YardFile.{tag, size, past, layout, bytes_in, limit, numbers}
use Rattle.yardfile.specs.declared.run.Run.{Run}

-- a whole field of tag t, as long as its tag says, begins at byte p
pub record IsField (s : List ℕ) (t p : ℕ) : Type 0 where
  pub whole : past s p ≤ length s
  pub tagged : tag s p ≡ t
  pub sized : size s p ≡ bytes_in (layout t)

-- the byte after n fields of tag t from byte p on
abbrev pub after : ℕ → ℕ → ℕ → ℕ
after t zero p = p
after t (suc n) p = after t n (p + 3 + bytes_in (layout t))

-- n fields of tag t follow each other from byte p on
abbrev pub Follow : List ℕ → ℕ → ℕ → ℕ → Type 0
Follow s t zero p = Unit
Follow s t (suc n) p = IsField s t p × Follow s t n (p + 3 + bytes_in (layout t))

-- the numbers of n fields of tag t from byte p on
abbrev pub rows_of : List ℕ → ℕ → ℕ → ℕ → List ℕ
rows_of s t zero p = []
rows_of s t (suc n) p = numbers (layout t) s (p + 3) ++ rows_of s t n (p + 3 + bytes_in (layout t))

-- the run from byte p on: so many fields follow each other, and it ends at its limit or where no such field follows
pub record Ran (s : List ℕ) (t p : ℕ) (r : Run) : Type 0 where
  pub follow : Follow s t r.count p
  pub ends : r.end ≡ after t r.count p
  pub few : r.count ≤ limit t
  pub stops : r.count < limit t → IsField s t r.end → ⊥
