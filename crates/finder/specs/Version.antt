-- The library's version as one number.
-- Assumes nothing.
use Rattle.std.specs.Prelude.{ℕ}

-- 10,000 for the first figure of a version, 100 for the second, 1 for the third: 1.0.0
abbrev pub version : ℕ
version = 10000
