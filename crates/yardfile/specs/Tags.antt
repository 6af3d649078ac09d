-- The tags of the code as document 01's numbers.
-- Assumes nothing.
use Rattle.std.specs.Prelude.{ℕ}
use Rattle.yardfile.specs.declared.layout.Tag.{Tag}
use Rattle.yardfile.specs.declared.layout.Tag.TheVariants.{Points, Sections, Turns, Queries}

-- the number with which the fields of a tag begin
abbrev pub number_of_tag : Tag → ℕ
number_of_tag Points = 1
number_of_tag Sections = 2
number_of_tag Turns = 3
number_of_tag Queries = 4
